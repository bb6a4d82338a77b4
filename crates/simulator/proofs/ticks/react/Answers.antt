use Rattle.simulator.proofs.Reactions.{reacts-sent, reacts_refused}
use Rattle.simulator.proofs.ticks.react.Goals as goal

pub returns-in-Ok : goal.returns-in-Ok
returns-in-Ok c = reacts-sent c.args.plan c.args.processor c.args.input c.requires.0 c.requires.1 c.requires.2 _ _ (rw c.in-Ok.is at c.step-o.ensures)

pub returns-in-Err : goal.returns-in-Err
returns-in-Err c = reacts_refused c.args.plan c.args.processor c.args.input c.requires.0 c.requires.1 c.requires.2 _ _ (rw c.in-Err.is at c.step-o.ensures)
