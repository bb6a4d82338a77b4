use native.Mathlib.Omega.{arith}
use mathlib.Core.Path.{sym, ◌∙◌}
use Rattle.reader.proofs.ScanLaws.{spelling-more, spelling-large, spelling-end}
use Rattle.reader.proofs.BytesLaws.{class-inside, digit-few}
use Rattle.reader.proofs.further_digits.Goals as goal

pub returns-in_default : goal.returns-in_default
returns-in_default c = spelling-end _ _ _ _ _ c.loop-i.invariant (λ d e. c.in_default.not-Digit d (c.classify.ensures ∙ sym (class-inside _ _ c.loop-i-test.true) ∙ e))

pub most_before-requires : goal.most_before-requires
most_before-requires c = digit-few _ _ _ c.classify.ensures c.in-Digit.is

pub returns-then-most_before-value : goal.returns-then-most_before-value
returns-then-most_before-value c = spelling-large _ _ _ _ _ _ c.loop-i.invariant (class-inside _ _ c.loop-i-test.true ∙ sym c.in-Digit.ensures) (omega (arith, c.most_before.ensures, c.if-most_before-value.true))

pub loop-i-preserved : goal.loop-i-preserved
loop-i-preserved c = spelling-more _ _ _ _ _ _ c.loop-i.invariant (class-inside _ _ c.loop-i-test.true ∙ sym c.in-Digit.ensures) (omega (arith, c.most_before.ensures, c.if-most_before-value.false))
