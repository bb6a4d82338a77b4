use Rattle.simulator.specs.Inner.{Posts, arrived_below}
use Rattle.model.specs.Moves.{clocks_on}
use Rattle.model.specs.State.{state_of, with_clocks, with_views}
use mathlib.Core.Path.{◌≡◌}
use Rattle.simulator.proofs.ticks.arrive_all.Given as goal

abbrev pub invariant-loop-q : goal.invariant-loop-q
invariant-loop-q l =
    (l.run ≡ with_views (arrived_below (state_of l.initial.run l.initial.tally l.initial.network) l.q).views (with_clocks (clocks_on l.initial.run l.q) l.initial.run))
    × (l.tally ≡ (arrived_below (state_of l.initial.run l.initial.tally l.initial.network) l.q).tally)
    × Posts (arrived_below (state_of l.initial.run l.initial.tally l.initial.network) l.q).sent l.before l.time l.initial.network l.held l.network
