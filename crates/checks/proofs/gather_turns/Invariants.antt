use mathlib.Core.Path.{◌≡◌}
use mathlib.Core.Bool.{◌||◌}
use mathlib.Core.List.{[], ◌∷◌}
use Prim.Native.Nat.{◌+◌, ◌*◌}
use lib.ListN.{drop}
use Rattle.model.specs.Checks.{some_non_zero}
use Rattle.checks.specs.Scans.{turn_words}
use Rattle.checks.proofs.gather_turns.Given as goal

abbrev pub invariant-loop-left : goal.invariant-loop-left
invariant-loop-left l = (l.i + turn_words * l.left ≡ l.from + turn_words * l.turns) × ((some_non_zero (l.a ∷ l.b ∷ l.c ∷ l.d ∷ l.e ∷ l.f ∷ l.g ∷ l.h ∷ []) || some_non_zero (drop l.i l.network)) ≡ some_non_zero (drop l.from l.network))

abbrev pub decreases-loop-left : goal.decreases-loop-left
decreases-loop-left l = l.left
