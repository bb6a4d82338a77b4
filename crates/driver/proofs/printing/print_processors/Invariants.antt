use Rattle.driver.proofs.Texts.{Told}
use Rattle.printout.specs.Printout.{processor_lines}
use Rattle.driver.proofs.printing.print_processors.Given as goal

abbrev pub invariant-loop-p : goal.invariant-loop-p
invariant-loop-p l = Told (processor_lines l.run) l.initial.out l.p l.at l.out
