use Prim.Native.Nat.{◌≤◌}
use Rattle.lines.specs.Splitting.{before_newline}
use Rattle.lines.proofs.before_newline.Given as goal

abbrev pub invariant-loop-i : goal.invariant-loop-i
invariant-loop-i l = l.i ≤ before_newline l.bytes
