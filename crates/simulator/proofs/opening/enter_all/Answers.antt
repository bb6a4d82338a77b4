use mathlib.Core.Path.{refl}
use native.Mathlib.Omega.{arith}
use Rattle.model.specs.Moves.{entries}
use Rattle.simulator.proofs.Posting.{posts-none}
use Rattle.simulator.proofs.Starting.{first-packs, tally-turn, first_fits, posts-turn}
use Rattle.simulator.proofs.opening.enter_all.Goals as goal

pub loop-q-init : goal.loop-q-init
unfolding entries
loop-q-init c = (refl, posts-none _ _ _)

pub enter-held-requires : goal.enter-held-requires
enter-held-requires c = (c.requires.0, omega (arith, c.requires.1), rw c.first_sends-sends.ensures (first_fits c.args.setup c.args.tally.now _ _ _ _ (omega arith) c.requires.2 c.loop-q.invariant.1), rw c.first_sends-sends.ensures (first-packs _ _ _ (omega (arith, c.requires.1))))

pub loop-q-preserved : goal.loop-q-preserved
loop-q-preserved c = (tally-turn c.args.setup c.args.tally.now _ _ _ c.loop-q.invariant.0 (rw c.first_sends-sends.ensures at c.enter-held.ensures.1), posts-turn c.args.setup c.args.tally.now _ _ _ _ (omega arith) c.requires.2 c.loop-q.invariant.1 _ _ (rw c.first_sends-sends.ensures at c.enter-held.ensures.0))
