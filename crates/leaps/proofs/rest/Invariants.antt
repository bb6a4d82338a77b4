use Rattle.leaps.specs.Leaps.{rest_below}
use Rattle.leaps.proofs.Resting.{of_tables}
use Rattle.std.proofs.Common.{◌≡◌}
use Rattle.leaps.proofs.rest.Given as goal

abbrev pub invariant-loop-q : goal.invariant-loop-q
invariant-loop-q l = l.quiet ≡ rest_below (of_tables l.plan l.faulty l.clocks l.views) l.most l.q
