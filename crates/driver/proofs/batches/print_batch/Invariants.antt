use Rattle.driver.proofs.Texts.{Told}
use Rattle.driver.specs.Batches.{printed_up_to}
use Rattle.driver.proofs.batches.print_batch.Given as goal

abbrev pub invariant-loop-i : goal.invariant-loop-i
invariant-loop-i l = Told (printed_up_to l.opened l.batch) l.initial.out l.i l.at l.out
