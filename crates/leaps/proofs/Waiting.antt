-- How many ticks find no message late. Assumes nothing.
use Rattle.std.proofs.Common.{◌≡◌, ℕ, ◌+◌, ◌<◌, ◌≤◌, Bool, true, false, List, refl, ⊎_elim, arith}
use Rattle.base.specs.Tests.{T_true, le?}
use Rattle.base.specs.Scan.{some}
use Rattle.base.specs.ScanLaws.{some-start, some-on, some-here, some-by, some-gives}
use Rattle.types.specs.declared.Run.{Run}
use Rattle.types.specs.declared.Form.TheVariants.{Packed}
use Rattle.model.specs.State.{State, state_of, held_at}
use Rattle.model.specs.Checks.{overdue, late_at}
use Rattle.leaps.specs.Leaps.{WaitsFor, WaitsForAll, Waits}

-- one that passed is enough later too
some-still : (f : ℕ → Bool) (k : ℕ) → some f k ≡ true → some f (k + 1) ≡ true
some-still f k e = let r = some-gives f k (rw e tt) in T_true (some f (k + 1)) (some-by f (k + 1) r.0 (omega (arith, r.1)) r.2)

-- ---- all messages

module _ (gst delta time : ℕ) (ws : List ℕ) (most : ℕ) where
  pub waits_start : WaitsForAll gst delta time ws 0 most most
  waits_start = record { few = omega arith; quiet = λ j l. some-start _; ends = λ z l. absurd (omega arith) }

  pub waits-more : (k w r : ℕ) → WaitsForAll gst delta time ws k most w → WaitsFor gst delta time (held_at Packed ws k).sent w r → WaitsForAll gst delta time ws (k + 1) most r
  waits-more k w r x y = record {
    few = omega (arith, x.few, y.few);
    quiet = λ j l. some-on (late_at gst delta (time + j) Packed ws) k (x.quiet j (omega (arith, y.few))) (y.quiet j l);
    ends = λ z l. ⊎_elim
        (λ (e : w ≤ 0). some-still (late_at gst delta time Packed ws) k (x.ends (omega arith) l))
        (λ (e : 0 < w). some-here (late_at gst delta time Packed ws) (k + 1) k (omega arith) (y.ends z e))
        (le? w 0);
  }

pub waits-settled : (run : Run) (t ws : List ℕ) (most r : ℕ) → run.settled ≡ true
    → WaitsForAll run.gst run.plan.delta run.time ws run.held most r → Waits (state_of run t ws) most r
unfolding overdue
waits-settled run t ws most r e x = record {
  few = x.few;
  quiet = λ j l. rw e (x.quiet j l);
  ends = λ z l. rw e (x.ends z l);
}

pub waits-unsettled : (s : State) (most : ℕ) → s.run.settled ≡ false → Waits s most most
unfolding overdue
waits-unsettled s most e = record { few = omega arith; quiet = λ j l. rw e refl; ends = λ z l. absurd (omega arith) }
