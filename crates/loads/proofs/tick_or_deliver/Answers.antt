use Rattle.std.proofs.Common.{◌∙◌, sym, refl, arith}
use Rattle.loads.proofs.Choosing.{tick-overdue, tick-none, tick-unsettled}
use Rattle.model.specs.State.{state_of}
use Rattle.loads.proofs.tick_or_deliver.Goals as goal

pub returns-in-Some : goal.returns-in-Some
returns-in-Some c = λ t. c.substitute.ensures ∙ tick-overdue (state_of c.args.run.now t c.args.network.now) _ (sym c.in-Some.ensures.0) c.if-run.true c.in-Some.ensures.1

pub returns-in_default : goal.returns-in_default
returns-in_default c = λ t. tick-none (state_of c.args.run.now t c.args.network.now) _ refl (omega (arith, c.in_default.ensures))

pub returns-else-run : goal.returns-else-run
returns-else-run c = λ t. tick-unsettled (state_of c.args.run.now t c.args.network.now) c.if-run.false
