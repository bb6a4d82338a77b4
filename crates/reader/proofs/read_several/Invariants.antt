use Rattle.reader.proofs.SeveralLaws.{SoFar}
use lib.ListN.{length}
use Rattle.reader.proofs.read_several.Given as goal

abbrev pub invariant-loop-count : goal.invariant-loop-count
invariant-loop-count l = SoFar l.s l.at (length l.initial.numbers) l.numbers l.end l.count
