use mathlib.Core.Path.{◌≡◌}
use Rattle.checks.specs.Scans.{non_zero_from}
use Rattle.checks.proofs.rest_not_zero.Given as goal

abbrev pub invariant-loop-i : goal.invariant-loop-i
invariant-loop-i l = non_zero_from l.seen l.i l.network ≡ non_zero_from l.before l.from l.network
