use Rattle.std.proofs.Common.{◌∙◌, ℕ, Bool, refl, arith, rules}
use Rattle.std.proofs.lemmas.Iterator.{YieldsList-from_range}
use Rattle.std.proofs.lemmas.Iterator.Search.{any_from_yields_List}
use Rattle.model.specs.Checks.{high_at, start_too_high}
use Rattle.checks.proofs.Ranges.{any-some}
use Rattle.checks.proofs.start_too_high.Goals as goal

pub returns : goal.returns
unfolding start_too_high
returns c =
    let f : ℕ → Bool = high_at c.args.within.plan c.args.faulty c.args.clocks.now in
    any_from_yields_List f _ _ _ c.any.ensures.ran (YieldsList-from_range 0 c.args.within.plan.n c.args.within.plan.n refl (omega arith)) (λ x b q k. search rules) ∙ any-some f c.args.within.plan.n
