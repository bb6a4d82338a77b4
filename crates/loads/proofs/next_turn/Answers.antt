use Rattle.std.proofs.Common.{sym, ◌∙◌}
use Rattle.loads.proofs.Choosing.{turn-settles, turn-steps}
use Rattle.loads.specs.Loads.{point_of}
use Rattle.model.specs.State.{state_of}
use Rattle.loads.proofs.next_turn.Goals as goal

pub returns-then-settle_due : goal.returns-then-settle_due
returns-then-settle_due c = λ t. turn-settles c.args.settle (point_of (state_of c.args.run.now t c.args.network.now) c.args.seed c.args.next) (sym c.settle_due.ensures ∙ c.if-settle_due.true)

pub returns-else-settle_due : goal.returns-else-settle_due
returns-else-settle_due c = λ t. c.step.ensures t c.args.next ∙ turn-steps c.args.settle (point_of (state_of c.args.run.now t c.args.network.now) c.args.seed c.args.next) (sym c.settle_due.ensures ∙ c.if-settle_due.false)
