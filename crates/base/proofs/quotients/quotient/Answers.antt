use Rattle.std.proofs.Common.{refl, ap, ◌∙◌, ℕ, ◌*◌, ◌/◌}
use Rattle.base.specs.Factors.{factor_unit, factor-tells}
use Rattle.base.proofs.quotients.quotient.Goals as goal

pub returns-then-by_factor : goal.returns-then-by_factor
returns-then-by_factor c = ap (λ (x : ℕ). c.args.a * x / factor_unit) c.factor.ensures ∙ factor-tells _ _ (c.if-by_factor.ensures refl)
