use Rattle.simulator.specs.Strides.{Strides}
use Rattle.model.specs.State.{state_of}
use Prim.Native.Nat.{◌-◌, ◌≤◌}
use Rattle.simulator.proofs.ticks.run_ticks.Given as goal

abbrev pub invariant-loop-count : goal.invariant-loop-count
invariant-loop-count l = (l.count ≤ l.m) × Strides (state_of l.initial.run l.initial.tally l.initial.network) (state_of l.run l.tally l.network) l.count

abbrev pub decreases-loop-count : goal.decreases-loop-count
decreases-loop-count l = l.m - l.count
