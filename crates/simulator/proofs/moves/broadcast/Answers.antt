use Rattle.simulator.proofs.Packing.{certificate-packs}
use Rattle.simulator.proofs.Posting.{posts-none, each_fits, each_turn}
use Rattle.model.specs.Moves.{to_correct, to_each}
use native.Mathlib.Omega.{arith}
use Rattle.simulator.proofs.moves.broadcast.Goals as goal

pub loop-q-init : goal.loop-q-init
unfolding to_each to_correct
loop-q-init c = posts-none _ _ _

pub send-h-requires : goal.send-h-requires
send-h-requires c = (c.requires.0, rw c.certificate_of.ensures (each_fits c.args.plan c.args.faulty c.args.stage c.args.w _ _ _ _ c.requires.1 _ _ _ c.loop-q.invariant (omega arith)), rw c.certificate_of.ensures (certificate-packs c.args.plan c.args.faulty c.args.stage c.args.w c.loop-q.q c.requires.3 (omega (arith, c.requires.2))))

pub loop-q-preserved : goal.loop-q-preserved
loop-q-preserved c = each_turn c.args.plan c.args.faulty c.args.stage c.args.w _ _ _ _ c.requires.1 _ _ _ c.loop-q.invariant (omega arith) _ _ (rw c.certificate_of.ensures at c.send-h.ensures)
