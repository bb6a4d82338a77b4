use Rattle.reader.proofs.BytesLaws.{class-here}
use Rattle.reader.proofs.ScanLaws.{after-byte, mark-away}
use Rattle.reader.specs.declared.Class.TheVariants.{Mark}
use native.Mathlib.Omega.{arith}
use mathlib.Core.Path.{◌≡◌, sym, ◌∙◌}
use Rattle.reader.proofs.after_mark.Goals as goal

pub returns-in_default : goal.returns-in_default
returns-in_default c = mark-away _ _ _ c.requires (λ e. c.in_default.not-Mark _ (c.class_at.ensures ∙ e))

pub overflow_add-result : goal.overflow_add-result
overflow_add-result c = omega (arith, c.well_formed, (class-here _ _ (Mark _) (sym c.in-Mark.ensures) tt).inside)

pub returns-then-here-mark : goal.returns-then-here-mark
returns-then-here-mark c = let h = class-here _ _ (Mark _) (sym c.in-Mark.ensures) tt in after-byte _ _ _ h.inside (h.byte.0 ∙ c.if-here-mark.true)

pub returns-else-here-mark : goal.returns-else-here-mark
returns-else-here-mark c = mark-away _ _ _ c.requires (λ e. let q : Mark c.in-Mark.here ≡ Mark c.args.mark = c.in-Mark.ensures ∙ e in c.if-here-mark.false cc)
