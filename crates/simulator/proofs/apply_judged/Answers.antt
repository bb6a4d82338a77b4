use Rattle.checks.proofs.Nine.{plan-of}
use Rattle.model.specs.State.{State, state_of}
use Rattle.simulator.proofs.apply_judged.Goals as goal

pub judge-requires : goal.judge-requires
judge-requires c =
    let s : State = state_of c.args.run.now c.args.tally.now c.args.network.now in
    plan-of s c.args.broken c.requires
