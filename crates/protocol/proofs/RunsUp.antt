-- A run takes no correct view and no correct clock back. Assumes nothing.
use Rattle.std.specs.Prelude.{ℕ, ◌+◌, ◌≤◌, T}
use Rattle.std.proofs.Common.{arith}
use Rattle.protocol.specs.Params.{Params}
use Rattle.protocol.specs.Runs.{St, Step, hears, enters, passes, ticks_on, Steps, none, more, view_of, clock_told, step_ticks, ticks_in}
use Rattle.protocol.proofs.EnterKeeps.{view_up, clock_up}

-- no correct processor goes back to an earlier view
step-view-up : (π : Params) {s s' : St} → Step π s s' → (p : ℕ) → T (π.correct p) → view_of s p ≤ view_of s' p
step-view-up π (hears q v r h) p c = omega arith
step-view-up π (enters r w h) p c = view_up h p
step-view-up π (passes h) p c = omega arith
step-view-up π (ticks_on k h) p c = omega arith

pub steps-view-up : (π : Params) {s s' : St} → Steps π s s' → (p : ℕ) → T (π.correct p) → view_of s p ≤ view_of s' p
steps-view-up π none p c = omega arith
steps-view-up π (more r x) p c = omega (arith, steps-view-up π r p c, step-view-up π x p c)

-- every correct clock advances with every tick
step-clock-up : (π : Params) {s s' : St} (x : Step π s s') (p : ℕ) → T (π.correct p) → clock_told s p + step_ticks π x ≤ clock_told s' p
unfolding step_ticks
step-clock-up π (hears q v r h) p c = omega arith
step-clock-up π (enters r w h) p c = omega (arith, clock_up h p)
step-clock-up π (passes h) p c = omega arith
step-clock-up π (ticks_on k h) p c = omega (arith, h.clock_up p c)

pub steps-clock-up : (π : Params) {s s' : St} (r : Steps π s s') (p : ℕ) → T (π.correct p) → clock_told s p + ticks_in π r ≤ clock_told s' p
unfolding ticks_in
steps-clock-up π none p c = omega arith
steps-clock-up π (more r x) p c = omega (arith, steps-clock-up π r p c, step-clock-up π x p c)
