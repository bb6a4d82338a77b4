-- What the limits and check 9 leave to rely on. Assumes nothing.
pub use Rattle.checks.proofs.Nine.{room_of}
use mathlib.Core.Path.{◌≡◌}
use mathlib.Core.Bool.{Bool, true, false, ◌||◌}
use Prim.Native.Nat.{ℕ, ◌/◌, ◌≤◌, ◌<◌}
use native.Mathlib.Omega.{arith}
use native.Mathlib.Nat.{mod-lt}
use lib.Dec.{T, ltb}
use lib.ListN.{length}
use Rattle.liveness.proofs.Opens.{planned-within}
use Rattle.base.specs.Tests.{fails, T_true, T_false}
use Rattle.types.specs.declared.Plan.{Plan}
use Rattle.types.specs.declared.Run.{Run}
use Rattle.types.specs.Quantities.{per_leader, lead, end_time}
use Rattle.model.specs.State.{State, clock_of, view_of, is_correct}
use Rattle.model.specs.Checks.{plan_outside, faulty_outside, buffers_outside, clock_outside, at_end, unsound}
use Rattle.liveness.proofs.Judging.{neither, not-leb}
use Rattle.base.specs.Count.{count-some}
use Rattle.liveness.proofs.Link.{Planned, correct_count, third}
use Rattle.liveness.proofs.Soundness.{SoundRun, sound-of, sound-time}
use Rattle.base.specs.Choice.{or-neither}
use Rattle.model.specs.Processors.{processor_unsound}
use Rattle.pacemaker.specs.Limits.{Within, time_most}
use Rattle.pacemaker.proofs.LimitLaws.{within, time-small}
use Rattle.simulator.specs.Inner.{Fit, Whole, seat}

-- no clock time that a run can reach is large
pub end-most : (plan : Plan) → Within plan → end_time plan ≤ time_most
end-most plan l = time-small plan l plan.views (omega arith)

pub planned-of : (plan : Plan) (faulty : ℕ) → plan_outside plan ≡ false → faulty_outside plan faulty ≡ false → Planned plan faulty
planned-of p m e f = planned-within p m (fails (plan_outside p) e) (fails (faulty_outside p m) f)

-- check 9 passed
module _ (s : State) (sound : unsound s ≡ false) where
  pub sound-run : SoundRun s
  sound-run = sound-of s (fails (unsound s) sound)

  abbrev to_faulty : Bool
  to_faulty = plan_outside s.run.plan || faulty_outside s.run.plan s.run.faulty

  limits-parts : (T to_faulty → ⊥) × (T (buffers_outside s) → ⊥)
  limits-parts = neither to_faulty (buffers_outside s) sound-run.limits

  pub fit_of : Fit s.run
  fit_of =
      let p : Plan = s.run.plan in
      let f = neither (plan_outside p) (faulty_outside p s.run.faulty) limits-parts.0 in
      record {
        plan = T_false (plan_outside p) f.0;
        faulty = T_false (faulty_outside p s.run.faulty) f.1;
        clocks = λ q c. T_false (clock_outside p (clock_of s.run q) (view_of s.run q)) (sound-run.clocks q (rw c tt));
      }

  pub time_told : s.run.time < end_time s.run.plan
  time_told = not-leb _ _ (sound-time s (fails (unsound s) sound))

-- a correct clock of a fit run is below the end
pub clock-below : (plan : Plan) (clock view : ℕ) → clock_outside plan clock view ≡ false → clock < end_time plan
clock-below plan clock view e =
    let a = neither (at_end plan clock || ltb clock _) _ (fails (clock_outside plan clock view) e) in
    not-leb _ _ (neither (at_end plan clock) _ a.0).0

-- a correct processor of a fit run passes the pacemaker's own check 9
pub seat-sound : (r : Run) (p : ℕ) → Fit r → is_correct r p ≡ true → processor_unsound r.plan (seat r p) ≡ false
seat-sound r p fit c = or-neither (plan_outside r.plan) (clock_outside r.plan (clock_of r p) (view_of r p)) fit.plan (fit.clocks p c)

-- some processor is correct
pub some-correct : (r : Run) → Fit r → (q : ℕ) × (is_correct r q ≡ true)
some-correct r fit =
    let ok = planned-of r.plan r.faulty fit.plan fit.faulty in
    let x = count-some r.plan.n (is_correct r) (omega (arith, correct_count r.plan r.faulty ok, ok.faulty_few, third r.plan r.faulty ok)) in
    (x.0, T_true (is_correct r x.0) x.2)

-- where there are processors the leader is one of them
pub lead_low : (plan : Plan) (w : ℕ) → 0 < plan.n → lead plan w < plan.n
lead_low plan w l = mod-lt (w / per_leader plan) l

-- tables of 64 entries have one for each processor
pub whole_of : (r : Run) → Fit r → length r.clocks ≡ 64 → length r.views ≡ 64 → Whole r
whole_of r fit c v = let most = (within r.plan fit.plan).n_at_most in record { clocks = omega (arith, most, c); views = omega (arith, most, v) }
