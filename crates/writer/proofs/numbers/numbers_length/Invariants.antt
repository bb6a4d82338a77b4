use Rattle.writer.proofs.Spacing.{Measured}
use Rattle.writer.proofs.numbers.numbers_length.Given as goal

abbrev pub invariant-loop-n : goal.invariant-loop-n
invariant-loop-n l = Measured l.numbers l.bytes l.n-index
