use mathlib.Core.Path.{◌≡◌, refl, subst}
use Prim.Native.Nat.{ℕ}
use native.Mathlib.Omega.{arith}
use Rattle.simulator.proofs.Starting.{starts_below, starts_more, starts-all}
use Rattle.simulator.proofs.opening.blank.Goals as goal

pub loop-i-preserved : goal.loop-i-preserved
loop-i-preserved c = starts_more c.args.setup c.loop-i.i c.loop-i.clock-items c.start_clock.result (omega arith) c.loop-i.invariant c.start_clock.ensures

pub returns : goal.returns
returns c = let e : c.loop-i.i ≡ 64 = omega arith in rw (c.none.ensures, starts-all c.args.setup c.loop-i.clock-items (subst (λ (k : ℕ). starts_below c.args.setup k c.loop-i.clock-items) e c.loop-i.invariant)) refl
