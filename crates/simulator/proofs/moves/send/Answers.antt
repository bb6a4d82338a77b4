use Rattle.simulator.proofs.Posting.{sends-yes, sends-no}
use Rattle.types.specs.Quantities.{correct}
use mathlib.Core.Path.{sym, ap, ◌∙◌}
use Rattle.types.proofs.PlanWords.{addressee-fits}
use Rattle.simulator.proofs.moves.send.Goals as goal

pub returns-then-correct : goal.returns-then-correct
returns-then-correct c = sends-yes c.args.plan c.args.faulty c.args.message _ _ _ _ (ap (correct c.args.plan c.args.faulty) (sym (c.addressee.ensures ∙ addressee-fits c.args.plan c.args.message c.requires.0)) ∙ sym c.correct.ensures ∙ c.if-correct.true) c.requires.1 c.requires.2 c.append.ensures

pub returns-else-correct : goal.returns-else-correct
returns-else-correct c = sends-no c.args.plan c.args.faulty c.args.message _ _ _ (ap (correct c.args.plan c.args.faulty) (sym (c.addressee.ensures ∙ addressee-fits c.args.plan c.args.message c.requires.0)) ∙ sym c.correct.ensures ∙ c.if-correct.false)
