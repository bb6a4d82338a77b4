use Rattle.std.proofs.Common.{arith}
use Rattle.lines.proofs.Decimals.{length_most}
use Rattle.writer.proofs.Digits.{counted-more, counted-all}
use Rattle.writer.proofs.pieces.width.Goals as goal

pub overflow_add-digits : goal.overflow_add-digits
overflow_add-digits c = omega (arith, length_most c.args.n, c.loop-rest.invariant.0)

pub loop-rest-preserved : goal.loop-rest-preserved
loop-rest-preserved c = counted-more _ _ _ c.loop-rest.invariant c.loop-rest-test.true

pub returns : goal.returns
returns c = counted-all _ _ _ c.loop-rest.invariant c.loop-rest-test.false
