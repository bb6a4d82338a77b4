use Rattle.std.proofs.Common.{arith}
use Rattle.lines.proofs.Newlines.{before-most, none_here, first-here}
use Rattle.lines.proofs.before_newline.Goals as goal

pub returns-then-bytes-i-eq10 : goal.returns-then-bytes-i-eq10
returns-then-bytes-i-eq10 c = first-here _ _ c.loop-i.invariant c.loop-i-test.true c.if-bytes-i-eq10.true

pub loop-i-preserved : goal.loop-i-preserved
loop-i-preserved c = none_here _ _ c.loop-i.invariant c.loop-i-test.true c.if-bytes-i-eq10.false

pub returns : goal.returns
returns c = omega (arith, before-most c.args.bytes.now)
