use Rattle.reader.proofs.ScanLaws.{Spelling}
use Rattle.reader.proofs.further_digits.Given as goal

abbrev pub invariant-loop-i : goal.invariant-loop-i
invariant-loop-i l = Spelling l.s l.at l.v l.value l.i
