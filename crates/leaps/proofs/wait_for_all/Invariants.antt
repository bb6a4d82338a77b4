use Rattle.leaps.specs.Leaps.{WaitsForAll}
use Rattle.leaps.proofs.wait_for_all.Given as goal

abbrev pub invariant-loop-i : goal.invariant-loop-i
invariant-loop-i l = WaitsForAll l.gst l.delta l.time l.network l.i l.most l.wait
