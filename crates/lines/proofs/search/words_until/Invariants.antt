use mathlib.Core.Path.{◌≡◌}
use Prim.Native.Nat.{◌-◌, ◌*◌, ◌/◌, ◌≤◌}
use Rattle.lines.specs.Splitting.{before_newline}
use Rattle.lines.specs.Search.{word_bytes}
use Rattle.lines.proofs.search.words_until.Given as goal

abbrev pub invariant-loop-i : goal.invariant-loop-i
invariant-loop-i l = (l.i ≤ before_newline l.bytes) × (l.i ≤ l.end) × (l.i ≡ l.i / word_bytes * word_bytes)

abbrev pub decreases-loop-i : goal.decreases-loop-i
decreases-loop-i l = l.end - l.i
