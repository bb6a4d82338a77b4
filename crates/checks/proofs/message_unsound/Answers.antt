use Rattle.checks.proofs.Held.{kind-unsound, held-unsound}
use mathlib.Core.Path.{sym, ◌∙◌}
use Rattle.checks.proofs.message_unsound.Goals as goal

pub returns-in-Some : goal.returns-in-Some
returns-in-Some c = held-unsound c.args.form c.args.within.plan c.args.faulty c.args.time c.args.network.now c.args.i c.in-Some.message c.sent.result _ (sym c.decode-stored.ensures ∙ c.in-Some.is) c.sent.ensures c.held_unsound.ensures

pub returns-in-None : goal.returns-in-None
returns-in-None c = sym (kind-unsound c.args.form c.args.within.plan c.args.faulty c.args.time c.args.network.now c.args.i c.requires (sym c.decode-stored.ensures ∙ c.in-None.is))
