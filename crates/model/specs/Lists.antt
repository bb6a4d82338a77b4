-- "Demand 3, word by word": what a whole list of events leaves, and what it did since settling.
use Rattle.std.specs.Prelude.{◌≡◌, Bool, true, false, ◌&&◌, ◌||◌, cond, List, [], ◌∷◌, ℕ, ◌+◌, eqb}
use Rattle.types.specs.declared.Message.{Message}
use Rattle.types.specs.declared.Message.TheVariants.{View, Vote, Vc, Qc}
use Rattle.types.specs.declared.Event.{Event}
use Rattle.types.specs.declared.Event.TheVariants.{Deliver, Sign, Show, Settle, Tick}
use Rattle.types.specs.declared.Run.{Run}
use Rattle.types.specs.Quantities.{lead}
use Rattle.types.specs.Messages.{vote_stage}
use Rattle.model.specs.State.{State, is_correct, ticks_of, accepted}
use Rattle.model.specs.Moves.{forms}
use Rattle.model.specs.Checks.{too_far_ahead}
use Rattle.model.specs.Events.{applied}

-- "Each event gets them as the one before left them, a refused one having changed nothing."
unfoldable pub after : State → List Event → State
after s [] = s
after s (e ∷ es) = after (applied e s).state es

-- "The clock condition: check 8's sentence holds of no correct clock."
abbrev pub ClockCondition : Run → Type 0
ClockCondition r = too_far_ahead r.plan r.faulty r.clocks ≡ false

-- ---- "The network settles with the accepted (settle)."

abbrev pub settles : Event → State → Bool
settles (Deliver m) s = false
settles (Sign m) s = false
settles (Show m) s = false
settles Settle s = accepted (applied Settle s).answer
settles (Tick m) s = false

-- the state that the accepted settle left, and the events after it
pub data Since : Type 0 where
  never : Since
  since : State → List Event → Since

unfoldable pub since_settling : State → List Event → Since
since_settling s [] = never
since_settling s (e ∷ es) = let s' = (applied e s).state in cond (settles e s) (since s' es) (since_settling s' es)

abbrev pub has_settled : Since → Bool
has_settled never = false
has_settled (since s es) = true

-- ---- "Ticks accepted since then, by some event, are the single ticks that the tick events after that (settle) did, up to and with this
-- event; a refused one did none."

unfoldable pub ticks_done : State → List Event → ℕ
ticks_done s [] = 0
ticks_done s (e ∷ es) = let a = applied e s in ticks_of a.answer + ticks_done a.state es

abbrev pub ticks_since : Since → ℕ
ticks_since never = 0
ticks_since (since s es) = ticks_done s es

-- ---- "A quorum certificate for w is formed since settling if rule 5 forms it in an event that stands after that (settle) in the list"

-- rule 5 forms it when the message reaches a correct leader
abbrev pub forms_quorum : Run → List ℕ → Message → ℕ → Bool
forms_quorum r t (View v p) w = false
forms_quorum r t (Vote v p) w = eqb v w && is_correct r (lead r.plan w) && forms vote_stage r t w p
forms_quorum r t (Vc v p) w = false
forms_quorum r t (Qc v p) w = false

-- the vote is delivered, or signed by a faulty processor, and the event is accepted
unfoldable pub formed_in : Event → State → ℕ → Bool
formed_in (Deliver m) s w = accepted (applied (Deliver m) s).answer && forms_quorum s.run s.tally m w
formed_in (Sign m) s w = accepted (applied (Sign m) s).answer && forms_quorum s.run s.tally m w
formed_in (Show m) s w = false
formed_in Settle s w = false
formed_in (Tick m) s w = false

unfoldable pub formed_during : State → List Event → ℕ → Bool
formed_during s [] w = false
formed_during s (e ∷ es) w = formed_in e s w || formed_during (applied e s).state es w

abbrev pub formed_since : Since → ℕ → Bool
formed_since never w = false
formed_since (since s es) w = formed_during s es w
