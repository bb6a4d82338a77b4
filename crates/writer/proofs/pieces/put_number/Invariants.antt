use Rattle.std.proofs.Common.{◌-◌}
use Rattle.writer.proofs.Digits.{Digited}
use Rattle.writer.proofs.pieces.put_number.Given as goal

abbrev pub invariant-loop-i : goal.invariant-loop-i
invariant-loop-i l = Digited l.initial.out l.at l.n l.out (l.i - l.at) l.rest
