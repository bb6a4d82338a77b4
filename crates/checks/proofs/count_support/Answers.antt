use Rattle.model.specs.Checks.{support_at}
use Rattle.base.specs.Count.{bit, bit_le, count-start, count-on, count-le}
use native.Mathlib.Omega.{arith}
use mathlib.Core.Path.{sym, ap}
use Rattle.checks.proofs.count_support.Goals as goal

pub loop-q-init : goal.loop-q-init
loop-q-init c = sym (count-start (support_at c.args.within.plan c.args.faulty c.args.clocks.now c.args.c))

pub overflow_add-k : goal.overflow_add-k
overflow_add-k c = omega (arith, bit_le c.supports.result, count-le c.loop-q.q (support_at c.args.within.plan c.args.faulty c.args.clocks.now c.args.c))

pub loop-q-preserved : goal.loop-q-preserved
loop-q-preserved c = omega (arith, ap bit c.supports.ensures, count-on c.loop-q.q (support_at c.args.within.plan c.args.faulty c.args.clocks.now c.args.c))
