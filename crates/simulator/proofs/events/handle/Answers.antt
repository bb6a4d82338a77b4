use Rattle.simulator.proofs.Happening.{finish-ends, finish-full, finish-done, handled-decides, handled-full}
use Rattle.simulator.proofs.Deciding.{named_small, named-place}
use Rattle.simulator.proofs.Delivery.{room-left}
use Rattle.simulator.proofs.Fitness.{fit_of, room_of}
use Rattle.pacemaker.proofs.LimitLaws.{within}
use Rattle.model.specs.Moves.{made, handling}
use Rattle.model.specs.State.{State, state_of, with_held, with_traffic, capacity, refused, done}
use Rattle.types.specs.declared.Form.TheVariants.{Packed}
use borrow.Author.Tests.{ltb-false}
use native.Mathlib.Omega.{arith}
use mathlib.Core.Path.{refl, sym, ap, ◌∙◌}
use Prim.Native.Nat.{ℕ, ◌+◌, ◌≤◌}
use lib.ListN.{length}
use Rattle.simulator.specs.Inner.{Decides, sent_for, change_by, leaving}
use Rattle.std.specs.Prelude.{Ok, Err}
use Rattle.simulator.proofs.events.handle.Goals as goal

pub decide-requires : goal.decide-requires
decide-requires c =
    let s : State = state_of c.args.run.now c.args.tally.now c.args.network.now in
    (fit_of s c.requires.sound, c.requires.named, c.requires.reaches)

pub overfills-requires : goal.overfills-requires
overfills-requires c =
    let s : State = state_of c.args.run.now c.args.tally.now c.args.network.now in
    let f = fit_of s c.requires.sound in
    let l = (room-left s.run s.tally s.network c.args.message c.args.place (room_of s c.requires.sound)).1 in
    (f.plan, f.faulty, omega (arith, c.held_without-held.ensures, c.capacity-room.ensures, room_of s c.requires.sound, l), omega (arith, c.capacity-room.ensures, c.well_formed))

pub returns-in-Err : goal.returns-in-Err
returns-in-Err c =
    let s : State = state_of c.args.run.now c.args.tally.now c.args.network.now in
    let s' : State = leaving s c.args.message c.args.place in
    let d = handled-decides s.run s.tally s.network c.args.message c.args.place (Err c.in-Err.check) (rw c.in-Err.is at c.decide.ensures) in
    ap (refused s) d.1 ∙ finish-ends s s' (handling s'.run s.tally c.args.message) d.0

pub returns-then-overfills : goal.returns-then-overfills
returns-then-overfills c =
    let s : State = state_of c.args.run.now c.args.tally.now c.args.network.now in
    let s' : State = leaving s c.args.message c.args.place in
    let decided : Decides s.run s.tally c.args.message (Ok c.in-Ok.x) = rw c.in-Ok.is at c.decide.ensures in
    let d = handled-decides s.run s.tally s.network c.args.message c.args.place (Ok c.in-Ok.x) decided in
    let f = handled-full s.run s.tally s.network c.args.message c.args.place (room_of s c.requires.sound) c.in-Ok.x decided _ c.capacity-room.ensures _ c.held_without-held.ensures in
    finish-full s s' (handling s'.run s.tally c.args.message) d.0 (sym f ∙ sym c.overfills.ensures ∙ c.if-overfills.true)

pub perform-requires : goal.perform-requires
perform-requires c =
    let s : State = state_of c.args.run.now c.args.tally.now c.args.network.now in
    let f = fit_of s c.requires.sound in
    let k : ℕ = c.held_without-held.result + length (sent_for s.run.plan s.run.faulty c.args.message c.in-Ok.x) in
    let d : Decides s.run s.tally c.args.message (Ok c.in-Ok.x) = rw c.in-Ok.is at c.decide.ensures in
    let fits : k ≤ c.capacity-room.result = ltb-false c.capacity-room.result k (sym c.overfills.ensures ∙ c.if-overfills.false) in
    let as-much = ap (capacity Packed) c.remove.ensures ∙ (room-left s.run s.tally s.network c.args.message c.args.place (room_of s c.requires.sound)).0 in (
      omega (arith, (within s.run.plan f.plan).n_at_least),
      named-place s.run.plan c.args.message c.args.message 64 f.plan refl c.requires.named refl,
      omega (arith, c.capacity-room.ensures, fits, as-much),
      (within s.run.plan f.plan).n_at_most,
      (let v = named_small s.run.plan c.args.message c.args.message f.plan refl c.requires.named in omega arith),
      d.2,
    )

pub returns : goal.returns
returns c =
    let s : State = state_of c.args.run.now c.args.tally.now c.args.network.now in
    let s' : State = leaving s c.args.message c.args.place in
    let decided : Decides s.run s.tally c.args.message (Ok c.in-Ok.x) = rw c.in-Ok.is at c.decide.ensures in
    let d = handled-decides s.run s.tally s.network c.args.message c.args.place (Ok c.in-Ok.x) decided in
    let f = handled-full s.run s.tally s.network c.args.message c.args.place (room_of s c.requires.sound) c.in-Ok.x decided _ c.capacity-room.ensures _ c.held_without-held.ensures in
    let c' = handling s'.run s.tally c.args.message in
    let e = c.perform.ensures
    ∙ (λ i. made (state_of (with_traffic (c.note_delivery-traffic.ensures i) (with_held (c.held_without-held.ensures i) s.run)) s.tally (c.remove.ensures i))
    (change_by (with_traffic (c.note_delivery-traffic.ensures i) (with_held (c.held_without-held.ensures i) s.run)) s.tally c.args.message c.in-Ok.x))
    ∙ ap (made s') d.1 in
    ap done e ∙ finish-done s s' c' d.0 (sym f ∙ sym c.overfills.ensures ∙ c.if-overfills.false)
