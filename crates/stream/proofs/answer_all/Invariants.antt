use Rattle.std.specs.Prelude.{◌≡◌, ◌-◌, length}
use Rattle.printout.specs.Printout.{standing_of}
use Rattle.transfer.specs.Moves.{Grows}
use Rattle.stream.proofs.Threading.{Going}
use Rattle.stream.proofs.answer_all.Given as goal

abbrev pub invariant-loop-used : goal.invariant-loop-used
invariant-loop-used g l =
    Going (standing_of l.initial.state l.initial.tally l.initial.network) l.late l.bytes l.tally l.network l.state l.passed l.used
    × (length l.tally ≡ length l.initial.tally) × (length l.network ≡ length l.initial.network) × (length l.out ≡ length l.initial.out)
    × Grows (g.W.Write.contents l.initial.to) (g.W.Write.contents l.to)

abbrev pub decreases-loop-used : goal.decreases-loop-used
decreases-loop-used g l = length l.bytes - l.used
