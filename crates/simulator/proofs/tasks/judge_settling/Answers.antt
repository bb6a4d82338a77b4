use Rattle.simulator.proofs.Happening.{settle-again, settle-first}
use Rattle.model.specs.Events.{now_settled}
use Rattle.model.specs.State.{state_of}
use Rattle.simulator.proofs.tasks.judge_settling.Goals as goal

pub returns-then-run : goal.returns-then-run
returns-then-run c = λ t ws a. settle-again (state_of c.args.run.now t ws) a.1 c.if-run.true

pub returns : goal.returns
unfolding now_settled
returns c = λ t ws a. settle-first (state_of c.args.run.now t ws) a.1 c.if-run.false
