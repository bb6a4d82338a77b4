use Rattle.std.specs.Prelude.{◌≡◌, length}
use Rattle.transfer.specs.Moves.{Grows, Shrinks}
use Rattle.stream.specs.Threads.{Reaches}
use Rattle.stream.proofs.answer_input.Given as goal

abbrev pub invariant-loop : goal.invariant-loop
invariant-loop g l =
    Reaches l.tally l.network l.window (record { session = l.session; late = l.late; bytes = l.unused })
    × (length l.tally ≡ length l.initial.tally) × (length l.network ≡ length l.initial.network) × (length l.window ≡ length l.initial.window)
    × (length l.out ≡ length l.initial.out)
    × Shrinks (g.R.Read.remaining l.initial.from) (g.R.Read.remaining l.from)
    × Grows (g.W.Write.contents l.initial.to) (g.W.Write.contents l.to)
