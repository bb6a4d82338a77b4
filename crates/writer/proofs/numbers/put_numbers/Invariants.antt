use Rattle.writer.proofs.Spacing.{Listed}
use Rattle.writer.proofs.numbers.put_numbers.Given as goal

abbrev pub invariant-loop-n : goal.invariant-loop-n
invariant-loop-n l = Listed l.initial.out l.at l.numbers l.out l.end l.n-index
