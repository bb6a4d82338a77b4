use Prim.Native.Nat.{◌-◌}
use mathlib.Core.Path.{sym, ◌∙◌}
use native.Mathlib.Omega.{arith}
use Rattle.model.specs.Moves.{heard_change}
use Rattle.simulator.proofs.Deciding.{made_by}
use Rattle.simulator.proofs.Counting.{formed-counted}
use Rattle.simulator.proofs.events.listen.Goals as goal

pub returns : goal.returns
returns c =
    rw (sym c.stage-stage.ensures, sym c.view-w.ensures, sym c.processor.ensures)
    (made_by c.args.run.now c.args.tally.now c.args.network.now (heard_change c.stage-stage.result c.args.run.now c.args.tally.now c.view-w.result c.processor.result c.args.formed) _ _ _ _ c.hear-held.ensures.0 c.hear-held.ensures.1
    (c.note_formed-traffic.ensures ∙ formed-counted c.args.run.now.plan c.args.run.now.faulty c.stage-stage.result c.view-w.result c.args.formed (c.hear-held.result - c.args.run.now.held) (omega (arith, c.hear-held.ensures.0.number)) c.args.run.now.traffic))
