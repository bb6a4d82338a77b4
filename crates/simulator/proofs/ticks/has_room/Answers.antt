use mathlib.Core.Path.{sym, ◌∙◌}
use Prim.Native.Nat.{◌+◌, ◌≤◌}
use native.Mathlib.Omega.{arith}
use lib.ListN.{length}
use borrow.Author.Tests.{le-leb}
use Rattle.model.specs.State.{State, state_of}
use Rattle.model.specs.Moves.{advanced, arrival}
use Rattle.pacemaker.proofs.LimitLaws.{within}
use Rattle.simulator.specs.Inner.{arrived_below}
use Rattle.simulator.proofs.Entries.{sent_few}
use Rattle.simulator.proofs.ticks.has_room.Goals as goal

pub returns-then-run-room : goal.returns-then-run-room
returns-then-run-room c = λ t ws.
    let s : State = state_of c.args.run.now t ws in
    let fits : c.args.run.now.held + length (arrived_below s s.run.plan.n).sent ≤ c.args.room =
    omega (arith, c.if-run-room.true, sent_few (arrival (advanced s).run) (advanced s).run t s.run.plan.n, (within s.run.plan c.requires.0.fit.plan).n_at_most) in
    le-leb _ _ c.if-run-room.true ∙ sym (le-leb _ _ fits)
