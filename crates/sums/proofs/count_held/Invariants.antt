use Rattle.std.proofs.Common.{◌≡◌}
use Rattle.sums.specs.Held.{counts_held}
use Rattle.sums.proofs.count_held.Given as goal

abbrev pub invariant-loop-i : goal.invariant-loop-i
invariant-loop-i l = l.counts ≡ counts_held l.network l.i
