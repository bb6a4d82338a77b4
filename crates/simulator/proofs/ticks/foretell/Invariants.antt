use mathlib.Core.Path.{◌≡◌}
use mathlib.Core.List.{List}
use Prim.Native.Nat.{ℕ, ◌*◌, ◌≤◌}
use lib.ListN.{length}
use Rattle.model.specs.State.{state_of}
use Rattle.simulator.specs.Inner.{arrived_below}
use Rattle.simulator.proofs.ticks.foretell.Given as goal

abbrev pub invariant-loop-q : goal.invariant-loop-q
invariant-loop-q l = ((t ws : List ℕ) → l.sent ≡ length (arrived_below (state_of l.run t ws) l.q).sent) × (l.sent ≤ 2 * l.q)
