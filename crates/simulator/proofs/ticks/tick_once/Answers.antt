use borrow.Author.Tests.{leb-true, leb-false}
use mathlib.Core.Path.{◌≡◌, refl, sym, ◌∙◌}
use mathlib.Core.Bool.{false}
use Prim.Native.Nat.{◌+◌, ◌≤◌, ◌<◌}
use native.Mathlib.Omega.{arith}
use lib.ListN.{length}
use Rattle.model.specs.State.{State, state_of, room_in}
use Rattle.base.specs.Scan.{some}
use Rattle.simulator.specs.Inner.{arrived_below, ends_at}
use Rattle.simulator.proofs.Once.{once-ends, once-full, once-done}
use Rattle.simulator.proofs.TickKeeps.{went-ticked}
use Rattle.simulator.proofs.ticks.tick_once.Goals as goal

pub returns-then-some_ends : goal.returns-then-some_ends
returns-then-some_ends c =
    let s : State = state_of c.args.run.now c.args.tally.now c.args.network.now in
    (once-ends s c.requires.1.clocks c.requires.4 (sym c.some_ends.ensures ∙ c.if-some_ends.true), omega arith)

pub returns-then-not-has_room : goal.returns-then-not-has_room
returns-then-not-has_room c =
    let s : State = state_of c.args.run.now c.args.tally.now c.args.network.now in
    let full : c.capacity-room.result < s.run.held + length (arrived_below s s.run.plan.n).sent = leb-false _ _ (sym (c.has_room.ensures s.tally s.network) ∙ c.if-not-has_room.true) in
    (once-full s c.requires.1.clocks c.requires.4 (sym c.some_ends.ensures ∙ c.if-some_ends.false) _ refl (rw c.capacity-room.ensures at full), omega arith)

pub arrive_all-requires : goal.arrive_all-requires
arrive_all-requires c =
    let s : State = state_of c.args.run.now c.args.tally.now c.args.network.now in
    let fits : s.run.held + length (arrived_below s s.run.plan.n).sent ≤ c.capacity-room.result = leb-true _ _ (sym (c.has_room.ensures s.tally s.network) ∙ c.if-not-has_room.false) in
    record {
      fit = c.requires.0;
      whole = c.requires.1;
      goes_on = sym c.some_ends.ensures ∙ c.if-some_ends.false;
      room = omega (arith, c.capacity-room.ensures, fits);
      time = c.requires.3;
    }

pub returns : goal.returns
returns c =
    let s : State = state_of c.args.run.now c.args.tally.now c.args.network.now in
    let on : some (ends_at s.run) s.run.plan.n ≡ false = sym c.some_ends.ensures ∙ c.if-some_ends.false in
    let fits : s.run.held + length (arrived_below s s.run.plan.n).sent ≤ c.capacity-room.result = leb-true _ _ (sym (c.has_room.ensures s.tally s.network) ∙ c.if-not-has_room.false) in
    let room : s.run.held + length (arrived_below s s.run.plan.n).sent ≤ room_in s = omega (arith, c.capacity-room.ensures, fits) in
    (once-done s c.requires.1.clocks c.requires.4 on _ refl room _ c.arrive_all.ensures (went-ticked s c.requires.1.clocks c.requires.1.views c.requires.0 on room), tt)
