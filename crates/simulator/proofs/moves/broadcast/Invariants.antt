use Rattle.simulator.specs.Inner.{Posts}
use Rattle.model.specs.Moves.{to_correct, to_each}
use Rattle.simulator.proofs.moves.broadcast.Given as goal

abbrev pub invariant-loop-q : goal.invariant-loop-q
invariant-loop-q l = Posts (to_correct l.plan l.faulty (to_each l.stage l.w l.q)) l.held l.time l.initial.network l.h l.network
