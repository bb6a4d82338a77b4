use Rattle.printout.specs.Printout.{standing_of}
use lib.ListN.{length}
use Prim.Native.Nat.{◌-◌}
use Rattle.driver.proofs.Going.{Going}
use Rattle.driver.proofs.turns.answer_turns.Given as goal

abbrev pub invariant-loop-left : goal.invariant-loop-left
invariant-loop-left l = Going (standing_of l.initial.session l.initial.tally l.initial.network) l.fn.late l.bytes l.initial.out l.tally l.network l.out l.session l.left.late l.left.used l.left.printed

abbrev pub decreases-loop-left : goal.decreases-loop-left
decreases-loop-left l = length l.bytes - l.left.used
