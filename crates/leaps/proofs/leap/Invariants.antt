use Rattle.leaps.specs.Leaps.{clocks_by, more_word}
use Rattle.model.specs.State.{with_clocks}
use Rattle.std.proofs.Common.{◌≡◌}
use Rattle.leaps.proofs.leap.Given as goal

abbrev pub invariant-loop-q : goal.invariant-loop-q
invariant-loop-q l = l.run ≡ with_clocks (clocks_by (more_word l.count) l.plan l.faulty l.initial.run.clocks l.q) l.initial.run
