use mathlib.Core.Path.{◌∙◌}
use native.Mathlib.Omega.{arith}
use Rattle.checks.proofs.Tail.{found-more}
use Rattle.checks.proofs.rest_not_zero.Goals as goal

pub loop-i-preserved : goal.loop-i-preserved
loop-i-preserved c = found-more c.loop-i.seen c.loop-i.i c.args.network.now (omega arith) ∙ c.loop-i.invariant
