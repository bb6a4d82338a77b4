use Rattle.reader.proofs.SeveralLaws.{several-more, several-stopped}
use native.Mathlib.Omega.{arith}
use mathlib.Core.Path.{sym, refl, ◌∙◌}
use Rattle.std.proofs.lemmas.List.{set-get_or}
use Rattle.reader.proofs.read_several.Goals as goal

pub loop-count-preserved : goal.loop-count-preserved
loop-count-preserved c = several-more _ _ _ _ _ _ c.loop-count.invariant (omega (arith, c.loop-count.invariant.whole, c.loop-count-test.true)) _ _ (sym c.in-Some.ensures)

pub returns-in_default : goal.returns-in_default
returns-in_default c = rw (set-get_or c.loop-count.numbers c.loop-count.count 0) (several-stopped _ _ _ _ _ _ c.loop-count.invariant (omega (arith, c.loop-count-test.true)) (sym c.next_number.ensures ∙ c.in_default.is) _ refl)
