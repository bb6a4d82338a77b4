use mathlib.Core.Path.{◌≡◌}
use Rattle.simulator.specs.Opening.{entered_first}
use Rattle.simulator.specs.Inner.{Posts}
use Rattle.simulator.proofs.opening.enter_all.Given as goal

abbrev pub invariant-loop-q : goal.invariant-loop-q
invariant-loop-q l = (l.tally ≡ (entered_first l.setup l.initial.tally l.q).tally) × Posts (entered_first l.setup l.initial.tally l.q).sent 0 0 l.initial.network l.held l.network
