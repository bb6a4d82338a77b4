use Rattle.model.specs.Checks.{support_at}
use Rattle.base.specs.Count.{count}
use mathlib.Core.Path.{◌≡◌}
use Rattle.checks.proofs.count_support.Given as goal

abbrev pub invariant-loop-q : goal.invariant-loop-q
invariant-loop-q l = l.k ≡ count l.q (support_at l.within.plan l.faulty l.clocks l.c)
