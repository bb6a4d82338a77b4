use Rattle.std.proofs.Common.{◌∙◌, ℕ, Bool, refl, arith, rules}
use Rattle.std.proofs.lemmas.Iterator.{YieldsList-from_range}
use Rattle.std.proofs.lemmas.Iterator.Search.{any_from_yields_List}
use Rattle.model.specs.Checks.{message_unsound}
use Rattle.checks.specs.Scans.{flying}
use Rattle.checks.proofs.Ranges.{any-some}
use Rattle.checks.proofs.messages_unsound.Goals as goal

pub returns : goal.returns
returns c =
    let f : ℕ → Bool = message_unsound (flying c.args.form c.args.within.plan c.args.faulty c.args.time c.args.network.now) in
    any_from_yields_List f _ _ _ c.any.ensures.ran (YieldsList-from_range 0 c.args.held c.args.held refl (omega arith)) (λ x b q k. search rules) ∙ any-some f c.args.held
