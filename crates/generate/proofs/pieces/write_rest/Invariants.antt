use Rattle.std.specs.Prelude.{◌≡◌, ◌-◌, ◌^◌, ◌<◌, length}
use Rattle.loads.specs.Loads.{Load}
use Rattle.transfer.specs.Moves.{Grows}
use Rattle.generate.specs.Pieces.{Leaves, PiecesLead}
use Rattle.generate.proofs.pieces.write_rest.Given as goal

abbrev pub invariant-loop-last : goal.invariant-loop-last
invariant-loop-last g l =
    ((first : Load) → Leaves first l.initial.tally l.initial.network l.initial.last
    → PiecesLead l.steps l.settle (length l.initial.out) first l.tally l.network l.last)
    × (length l.tally ≡ length l.initial.tally) × (length l.network ≡ length l.initial.network) × (length l.out ≡ length l.initial.out)
    × (l.last.step < 2 ^ 64)
    × Grows (g.W.Write.contents l.initial.to) (g.W.Write.contents l.to)

abbrev pub decreases-loop-last : goal.decreases-loop-last
decreases-loop-last g l = 2 ^ 64 - l.last.step
