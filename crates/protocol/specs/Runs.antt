-- The states, the small transitions as one relation, runs of them, and what a run does to time. Assumes nothing.
use Rattle.std.specs.Prelude.{◌≡◌, refl, Bool, ℕ, ◌+◌}
use Rattle.std.proofs.Common.{◌∙◌, arith}
use Rattle.protocol.specs.Params.{Params}
use Rattle.protocol.specs.State.{Processors, Tally, Flight}
use Rattle.protocol.specs.Moves.{Hear, Enter, Pass, Tick, clocked}

-- processors, tally, flight, time, settling time, settled
pub data St : Type 1 where
  st : Processors → Tally → Flight → ℕ → ℕ → Bool → St

-- the transitions that neither settle nor open
pub data Step (π : Params) : St → St → Type 1 where
  hears : {P : Processors} {L L' : Tally} {F F' : Flight} {now S : ℕ} {b : Bool} (q : Bool) (v p : ℕ) → Hear π P L L' F F' now q v p
      → Step π (st P L F now S b) (st P L' F' now S b)
  enters : {P P' : Processors} {L : Tally} {F F' : Flight} {now S : ℕ} {b : Bool} (p w : ℕ) → Enter π P P' L F F' now p w
      → Step π (st P L F now S b) (st P' L F' now S b)
  passes : {P : Processors} {L : Tally} {F F' : Flight} {now S : ℕ} {b : Bool} → Pass P F F'
      → Step π (st P L F now S b) (st P L F' now S b)
  ticks_on : {P : Processors} {L : Tally} {F : Flight} {now S : ℕ} {b : Bool} (c : ℕ → ℕ) → Tick π P c F now S b
      → Step π (st P L F now S b) (st (clocked P c) L F (now + 1) S b)

pub data Steps (π : Params) : St → St → Type 1 where
  none : {s : St} → Steps π s s
  more : {s s' s'' : St} → Steps π s s' → Step π s' s'' → Steps π s s''

pub steps-trans : {π : Params} {s s' s'' : St} → Steps π s s' → Steps π s' s'' → Steps π s s''
steps-trans r none = r
steps-trans r (more r' x) = more (steps-trans r r') x

abbrev pub time_told : St → ℕ
time_told (st P L F now S b) = now

abbrev pub settling_of : St → ℕ
settling_of (st P L F now S b) = S

abbrev pub settled_of : St → Bool
settled_of (st P L F now S b) = b

abbrev pub view_of : St → ℕ → ℕ
view_of (st P L F now S b) = P.view

abbrev pub clock_told : St → ℕ → ℕ
clock_told (st P L F now S b) = P.clock

-- the ticks of a step: one for a tick, none for all else
unfoldable pub step_ticks : (π : Params) {s s' : St} → Step π s s' → ℕ
step_ticks π (hears q v p h) = 0
step_ticks π (enters p w h) = 0
step_ticks π (passes h) = 0
step_ticks π (ticks_on c h) = 1

-- the ticks of a run
unfoldable pub ticks_in : (π : Params) {s s' : St} → Steps π s s' → ℕ
ticks_in π none = 0
ticks_in π (more r x) = ticks_in π r + step_ticks π x

pub ticks-trans : (π : Params) {s s' s'' : St} (r : Steps π s s') (r' : Steps π s' s'') → ticks_in π (steps-trans r r') ≡ ticks_in π r + ticks_in π r'
unfolding ticks_in steps-trans
ticks-trans π r none = omega arith
ticks-trans π r (more r' x) = omega (arith, ticks-trans π r r')

-- a tick takes one unit of time, nothing else takes any, and the settling time stays
step_kept : (π : Params) {s s' : St} (x : Step π s s') → (time_told s' ≡ time_told s + step_ticks π x) × (settling_of s' ≡ settling_of s)
unfolding step_ticks
step_kept π (hears q v p h) = (omega arith, refl)
step_kept π (enters p w h) = (omega arith, refl)
step_kept π (passes h) = (omega arith, refl)
step_kept π (ticks_on c h) = (omega arith, refl)

pub steps-kept : (π : Params) {s s' : St} (r : Steps π s s') → (time_told s' ≡ time_told s + ticks_in π r) × (settling_of s' ≡ settling_of s)
unfolding ticks_in
steps-kept π none = (omega arith, refl)
steps-kept π (more r x) = let y = step_kept π x in let z = steps-kept π r in (omega arith, y.1 ∙ z.1)

-- a run does not settle
step-flag : (π : Params) {s s' : St} → Step π s s' → settled_of s' ≡ settled_of s
step-flag π (hears q v p h) = refl
step-flag π (enters p w h) = refl
step-flag π (passes h) = refl
step-flag π (ticks_on c h) = refl

pub steps-flag : (π : Params) {s s' : St} → Steps π s s' → settled_of s' ≡ settled_of s
steps-flag π none = refl
steps-flag π (more r x) = step-flag π x ∙ steps-flag π r
