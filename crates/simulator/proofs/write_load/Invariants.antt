use Rattle.loads.proofs.Going.{Going}
use Rattle.loads.proofs.Turns.{weight}
use Rattle.loads.specs.Loads.{point_of, further_load}
use Rattle.model.specs.State.{state_of}
use lib.ListN.{length}
use Rattle.simulator.proofs.write_load.Given as goal

abbrev pub invariant-loop-next : goal.invariant-loop-next
invariant-loop-next l = Going l.steps l.settle (further_load l.steps l.settle (point_of (state_of l.initial.run l.initial.tally l.initial.network) l.initial.last l.initial.next) (length l.initial.out)) l.initial.out
    (point_of (state_of l.run l.tally l.network) l.last l.next) l.at l.out

abbrev pub decreases-loop-next : goal.decreases-loop-next
decreases-loop-next l = weight l.steps l.settle (point_of (state_of l.run l.tally l.network) l.last l.next)
