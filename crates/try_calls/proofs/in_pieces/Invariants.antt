use Rattle.std.specs.Prelude.{◌≡◌, ◌+◌, ◌-◌, ◌≤◌, length}
use Rattle.try_calls.proofs.in_pieces.Given as goal

abbrev pub invariant-loop-served : goal.invariant-loop-served
invariant-loop-served g l = (l.at ≤ l.end) × (l.end ≤ length l.input) × (length l.tally ≡ length l.initial.tally) × (length l.network ≡ length l.initial.network)

abbrev pub decreases-loop-served : goal.decreases-loop-served
decreases-loop-served g l = (length l.input - l.at) + (length l.input - l.end)
