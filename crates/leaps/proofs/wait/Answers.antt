use Rattle.leaps.proofs.Waiting.{waits-settled, waits-unsettled}
use Rattle.model.specs.State.{state_of}
use Rattle.leaps.proofs.wait.Goals as goal

pub returns-then-run : goal.returns-then-run
returns-then-run c = λ t. waits-settled c.args.run.now t c.args.network.now c.args.most _ c.if-run.true c.wait_for_all.ensures

pub returns-else-run : goal.returns-else-run
returns-else-run c = λ t. waits-unsettled (state_of c.args.run.now t c.args.network.now) c.args.most c.if-run.false
