use Rattle.std.specs.Prelude.{◌-◌, ◌≤◌, length}
use Rattle.try_calls.proofs.line_by_line.Given as goal

abbrev pub invariant-loop-tally : goal.invariant-loop-tally
invariant-loop-tally g l = l.at ≤ length l.input

abbrev pub decreases-loop-tally : goal.decreases-loop-tally
decreases-loop-tally g l = length l.input - l.at
