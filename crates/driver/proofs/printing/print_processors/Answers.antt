use Rattle.driver.proofs.Texts.{told-all, processor-told}
use native.Mathlib.Omega.{arith}
use Rattle.driver.proofs.printing.print_processors.Goals as goal

pub loop-p-preserved : goal.loop-p-preserved
loop-p-preserved c = processor-told c.args.run.now c.loop-p.invariant {most = 64} (omega arith) c.requires c.print_processor-at.ensures c.print_processor-at.auto.out

pub returns : goal.returns
returns c = told-all _ _ 64 _ _ _ (c.loop-p.auto.p-end, c.loop-p.invariant) c.loop-p-test.false
