use native.Mathlib.Omega.{arith}
use Rattle.simulator.specs.Inner.{moved_change}
use Rattle.simulator.proofs.Deciding.{made_by}
use Rattle.simulator.proofs.events.move_on.Goals as goal

pub returns : goal.returns
returns c = made_by c.args.run.now c.args.tally.now c.args.network.now (moved_change c.args.run.now c.args.tally.now c.args.p c.args.x) _ _ _ _ c.enter-held.ensures.0 c.enter-held.ensures.1
    (c.note_entry-traffic.ensures c.args.run.now.plan c.args.run.now.faulty (omega (arith, c.enter-held.ensures.0.number)))
