use Rattle.simulator.proofs.Starting.{starts_below}
use Rattle.simulator.proofs.opening.blank.Given as goal

abbrev pub invariant-loop-i : goal.invariant-loop-i
invariant-loop-i l = starts_below l.setup l.i l.clock-items
