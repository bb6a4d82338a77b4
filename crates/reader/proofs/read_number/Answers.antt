use Rattle.reader.proofs.BytesLaws.{class-here}
use Rattle.reader.proofs.ScanLaws.{number-none, number-padded, number-zero, number-other}
use Rattle.reader.specs.declared.Class.TheVariants.{Digit}
use native.Mathlib.Omega.{arith}
use mathlib.Core.Path.{sym, ◌∙◌}
use Rattle.reader.proofs.read_number.Goals as goal

pub returns-in_default : goal.returns-in_default
returns-in_default c = number-none _ _ (λ d e. c.in_default.not-Digit d (c.class_at.ensures ∙ e))

pub overflow_add-at : goal.overflow_add-at
overflow_add-at c = omega (arith, c.well_formed, (class-here _ _ (Digit _) (sym c.in-Digit.ensures) tt).inside)

pub overflow_add-result : goal.overflow_add-result
overflow_add-result c = omega (arith, c.well_formed, (class-here _ _ (Digit _) (sym c.in-Digit.ensures) tt).inside)

pub overflow_add-at-else-d-eq0 : goal.overflow_add-at-else-d-eq0
overflow_add-at-else-d-eq0 c = omega (arith, c.well_formed, (class-here _ _ (Digit _) (sym c.in-Digit.ensures) tt).inside)

pub returns-in-Digit-class_at : goal.returns-in-Digit-class_at
returns-in-Digit-class_at c = number-padded _ _ _ _ (sym c.in-Digit.ensures) c.if-d-eq0.true (sym c.in-Digit-class_at.ensures)

pub returns-in_default-class_at : goal.returns-in_default-class_at
returns-in_default-class_at c = number-zero _ _ _ (sym c.in-Digit.ensures) c.if-d-eq0.true (λ d e. c.in_default-class_at.not-Digit d (c.class_at-then-d-eq0.ensures ∙ e))

pub returns-else-d-eq0 : goal.returns-else-d-eq0
returns-else-d-eq0 c = number-other _ _ _ _ (sym c.in-Digit.ensures) c.if-d-eq0.false c.further_digits.ensures
