use Rattle.std.proofs.lemmas.Result.{err_from_is_err_and}
use Rattle.simulator.proofs.Fitness.{whole_of}
use Rattle.simulator.proofs.Striding.{advance-late, advance-once, advance_leap, advanced-by}
use Rattle.simulator.specs.Strides.{Advances}
use Rattle.simulator.proofs.ticks.advance.Goals.{then-quiet-gt0, else-quiet-gt0+in_ok-tick_once}
use Rattle.leaps.proofs.Leaping.{waits-now}
use Rattle.leaps.specs.Leaps.{Waits}
use Rattle.model.specs.State.{State, state_of}
use Rattle.std.proofs.Common.{rules}
use native.Mathlib.Omega.{arith}
use Prim.Native.Nat.{ℕ, ◌-◌, ◌≤◌}
use mathlib.Core.Path.{refl, subst}
use Rattle.simulator.proofs.ticks.advance.Goals as goal

pub returns-then-waiting-eq0 : goal.returns-then-waiting-eq0
returns-then-waiting-eq0 c =
    let s : State = state_of c.args.run.now c.args.tally.now c.args.network.now in
    (advance-late s c.requires.0 c.args.most 0 (subst (λ (w : ℕ). Waits s c.args.most w) c.if-waiting-eq0.true (c.wait-waiting.ensures c.args.tally.now)) c.requires.1, omega arith)

pub tick_once-requires : goal.tick_once-requires
tick_once-requires c =
    let s : State = state_of c.args.run.now c.args.tally.now c.args.network.now in
    (c.requires.0.fit, whole_of c.args.run.now c.requires.0.fit (search rules) (search rules), c.requires.0.room, omega (arith, c.requires.0.time), waits-now s c.args.most _ (c.wait-waiting.ensures c.args.tally.now) (omega (arith, c.if-waiting-eq0.false)))

pub returns-in_err-tick_once : goal.returns-in_err-tick_once
returns-in_err-tick_once c =
    let s : State = state_of c.args.run.now c.args.tally.now c.args.network.now in
    let p = err_from_is_err_and c.from_residual.result c.from_residual.ensures.1 in
    let t = rw c.in_err-tick_once.was at c.tick_once.ensures in
    rw (p.1, p.2) (advance-once s c.requires.0 c.args.most c.requires.1 _ 0 _ t.0 (λ z. absurd (omega (arith, z, t.1))), t.1)

went-on : (c : goal.Joined-quiet-gt0) → (c.args.run.now.time ≤ c.if-quiet-gt0.run.time)
    × Advances (state_of c.args.run.now c.args.tally.now c.args.network.now) c.args.most (state_of c.if-quiet-gt0.run c.if-quiet-gt0.tally c.if-quiet-gt0.network) (c.if-quiet-gt0.run.time - c.args.run.now.time) 0
went-on c =
    let s : State = state_of c.args.run.now c.args.tally.now c.args.network.now in
    elim c.if-quiet-gt0.branch [
      | then-quiet-gt0 w ↦
          rw (w.run-is, w.tally-is, w.network-is) (advanced-by s _ c.args.most c.rest-quiet.result (advance_leap s c.requires.0 c.args.most _ (c.wait-waiting.ensures c.args.tally.now) (whole_of s.run c.requires.0.fit (search rules) (search rules)) _ (c.rest-quiet.ensures s.run refl refl refl refl) w.if-quiet-gt0.true _ w.leap.ensures))
      | else-quiet-gt0+in_ok-tick_once w ↦
          let t = rw w.in_ok-tick_once.was at w.tick_once.ensures in
          rw (w.run-is, w.tally-is, w.network-is) (advanced-by s _ c.args.most 1 (advance-once s c.requires.0 c.args.most c.requires.1 _ 1 0 t.0 (λ z. refl)))
    ]

pub overflow_sub-result : goal.overflow_sub-result
overflow_sub-result c = (went-on c).0

pub returns : goal.returns
returns c = ((went-on c).1, tt)
