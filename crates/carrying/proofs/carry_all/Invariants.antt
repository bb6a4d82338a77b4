use Rattle.carrying.specs.Carries.{carried_first}
use mathlib.Core.Path.{◌≡◌}
use Rattle.carrying.proofs.carry_all.Given as goal

abbrev pub invariant-loop-i : goal.invariant-loop-i
invariant-loop-i l = l.target ≡ carried_first l.from l.to l.network l.initial.target l.i
