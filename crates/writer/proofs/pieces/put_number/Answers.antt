use Rattle.std.proofs.Common.{arith}
use Rattle.writer.proofs.Digits.{digited-none, digited-more}
use Rattle.writer.proofs.pieces.put_number.Goals as goal

pub loop-i-init : goal.loop-i-init
loop-i-init c = digited-none _ _ _ _ c.ranges.n.fits (omega (arith, c.width.ensures.0))

pub loop-i-preserved : goal.loop-i-preserved
loop-i-preserved c = digited-more _ _ _ _ _ _ c.requires c.loop-i.invariant c.loop-i-test.true
