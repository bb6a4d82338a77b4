use Rattle.std.proofs.Common.{◌∙◌, ℕ, Bool, refl, arith, rules}
use Rattle.std.proofs.lemmas.Iterator.{YieldsList-from_range}
use Rattle.std.proofs.lemmas.Iterator.Search.{any_from_yields_List}
use Rattle.model.specs.Checks.{outside_at}
use Rattle.checks.proofs.Ranges.{any-some}
use Rattle.checks.proofs.clocks_unsound.Goals as goal

pub returns : goal.returns
returns c =
    let f : ℕ → Bool = outside_at c.args.run.now.plan c.args.run.now.faulty c.args.run.now.clocks c.args.run.now.views in
    any_from_yields_List f _ _ _ c.any.ensures.ran (YieldsList-from_range 0 c.args.run.now.plan.n c.args.run.now.plan.n refl (omega arith)) (λ x b q k. search rules) ∙ any-some f c.args.run.now.plan.n
