-- Demand 3 of what the code hands back: start with what `open` leaves, feed any list of events to `apply`, each getting what the last one
-- left, or many at once to `apply_events`. proofs/Demands.antt has a proof of each promise, under its name in small letters with hyphens (`demand-three-of-code`).
use Rattle.std.specs.Prelude.{◌≡◌, false, ◌≢◌, List, [], ◌∷◌, ℕ, zero, suc, ◌<◌, T, length, take}
use Rattle.types.specs.declared.Event.{Event}
use Rattle.types.specs.declared.Setup.{Setup}
use Rattle.model.specs.State.{State, After, check_of, ticks_of, accepted}
use Rattle.model.specs.Checks.{too_far_ahead}
use Rattle.model.specs.Lists.{after, since_settling, ticks_since}
use Rattle.liveness.specs.Promises.{settling_bound, Certified, Same}
use Rattle.words.specs.Batches.{events_of}
use Rattle.simulator.specs.Clauses.{Opens, Applies, AppliesAll}

-- the list es fed to `apply` from s on: hs is what the calls handed back, one for each event, as their contract says
abbrev pub Fed : State → List Event → List After → Type 0
Fed s [] [] = Unit {0}
Fed s [] (h ∷ hs) = ⊥
Fed s (e ∷ es) [] = ⊥
Fed s (e ∷ es) (h ∷ hs) = Applies e s h × Fed h.state es hs

-- what was handed back last, of the first i calls; without one, s
abbrev pub handed : State → List After → ℕ → State
handed s hs zero = s
handed s [] (suc i) = s
handed s (h ∷ hs) (suc i) = handed h.state hs i

-- Demand 3's sentences of what was handed back after the events es, s being what `open` left of the setup u and of what was at hand before:
-- the clock condition of the setup's plan and faulty set; the certificate; and that plan, faulty set and lengths are still the opening's.
pub record Demanded (u : Setup) (before s : State) (es : List Event) (last : State) : Type 0 where
  pub clocks : too_far_ahead u.plan u.faulty last.run.clocks ≡ false
  pub certified : settling_bound u < ticks_since (since_settling s es) → Certified u s es last.run
  pub same : Same u before last

-- Whatever was at hand before: if `open` hands back o and accepts, then after every number of the events fed to `apply` they hold.
abbrev pub DemandThreeOfCode : Type 0
DemandThreeOfCode =
    (u : Setup) (before : State) (o : After) → Opens u before o → T (accepted o.answer)
    → (es : List Event) (hs : List After) → Fed o.state es hs → (i : ℕ) → Demanded u before o.state (take i es) (handed o.state hs i)

-- No event fed after them is refused by check 9.
abbrev pub NeverUnsound : Type 0
NeverUnsound =
    (u : Setup) (before : State) (o : After) → Opens u before o → T (accepted o.answer)
    → (es : List Event) (hs : List After) → Fed o.state es hs → (i : ℕ) (e : Event) (h : After) → Applies e (handed o.state hs i) h
    → check_of h.answer ≢ 9

-- What is handed back is what the definitions leave, whatever is handed in: so ticks and certificates since settling, which are defined by the
-- events and what they leave, are those of the answers and states handed back.
abbrev pub HandedIsAfter : Type 0
HandedIsAfter = (s : State) (es : List Event) (hs : List After) → Fed s es hs → (i : ℕ) → handed s hs i ≡ after s (take i es)

-- Every list can be fed.
abbrev pub EveryListFed : Type 0
EveryListFed = (s : State) (es : List Event) → (hs : List After) × Fed s es hs

-- the words that a batch leaves, hs being what its events handed back one by one: each event's become its form, the check that refused it or ended
-- its ticks, the ticks done and the messages held; words behind the last four stay
unfoldable pub answers_in : List ℕ → List After → List ℕ
answers_in [] hs = []
answers_in (a ∷ []) hs = a ∷ []
answers_in (a ∷ b ∷ []) hs = a ∷ b ∷ []
answers_in (a ∷ b ∷ c ∷ []) hs = a ∷ b ∷ c ∷ []
answers_in (a ∷ b ∷ c ∷ d ∷ ws) [] = a ∷ b ∷ c ∷ d ∷ ws
answers_in (a ∷ b ∷ c ∷ d ∷ ws) (h ∷ hs) = a ∷ check_of h.answer ∷ ticks_of h.answer ∷ h.state.run.held ∷ answers_in ws hs

-- A batch leaves and answers what `apply` hands back of its events one by one, whatever the run and the buffers hold: so what is promised of calls
-- of `apply` holds of batches.
abbrev pub BatchIsFed : Type 0
BatchIsFed =
    (ws : List ℕ) (s s' : State) (ws' : List ℕ) → AppliesAll ws s s' ws' → (hs : List After) → Fed s (events_of ws) hs
    → (s' ≡ handed s hs (length hs)) × (ws' ≡ answers_in ws hs)
