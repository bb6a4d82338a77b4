-- What is never read, and what a refused tick says, of any run and buffers. proofs/Promises.antt has a proof of each promise, under its name
-- in small letters with hyphens.
use Rattle.std.specs.Prelude.{◌≡◌, true, false, ◌*◌, eqb, length, take}
use Rattle.types.specs.declared.Event.{Event}
use Rattle.types.specs.declared.Event.TheVariants.{Tick}
use Rattle.types.specs.declared.Setup.{Setup}
use Rattle.types.specs.Quantities.{row_words}
use Rattle.model.specs.State.{State, check_of, accepted}
use Rattle.model.specs.Checks.{unsound, overdue}
use Rattle.model.specs.Opening.{opening}
use Rattle.model.specs.Events.{applied}

-- two states that are the same but for tally words beyond the views
pub record SameWithin (s s' : State) : Type 0 where
  pub run : s.run ≡ s'.run
  pub network : s.network ≡ s'.network
  pub form : s.form ≡ s'.form
  pub tally : take (row_words * s.run.plan.views) s.tally ≡ take (row_words * s.run.plan.views) s'.tally
  pub lengths : length s.tally ≡ length s'.tally

-- tally words beyond the views are never read: an event is answered alike, and what it leaves is the same but for them
abbrev pub BeyondUnread : Type 0
BeyondUnread =
    (e : Event) (s s' : State) → SameWithin s s'
    → ((applied e s).answer ≡ (applied e s').answer) × SameWithin (applied e s).state (applied e s').state

-- two states with "lent buffers as long", of one form
pub record AsLong (s s' : State) : Type 0 where
  pub form : s.form ≡ s'.form
  pub tally : length s.tally ≡ length s'.tally
  pub network : length s.network ≡ length s'.network

-- an opening reads nothing of the run and the buffers at hand but that
abbrev pub OpensWithin : Type 0
OpensWithin =
    (u : Setup) (s s' : State) → AsLong s s'
    → ((opening u s).answer ≡ (opening u s').answer)
    × (accepted (opening u s).answer ≡ true → SameWithin (opening u s).state (opening u s').state)

-- a single tick of a sound run is refused as overdue exactly where a message is overdue
abbrev pub RefusedAsOverdue : Type 0
RefusedAsOverdue = (s : State) → unsound s ≡ false → eqb (check_of (applied (Tick 1) s).answer) 16 ≡ overdue s
