-- What check 9 asks of a run but for clocks and time, as messages in flight and not as words: made changes and messages that leave keep it.
-- Assumes nothing.
use mathlib.Core.Path.{sym, ap, subst}
use mathlib.Core.Bool.{Bool, not, ◌||◌}
use mathlib.Core.Logic.{⊎_elim}
use mathlib.Core.List.{List, ◌++◌}
use Prim.Native.Nat.{ℕ, ◌≤◌, ◌<◌}
use native.Mathlib.Omega.{arith}
use lib.Dec.{T, ltb, leb→le, ltb→lt, T_not}
use lib.ListN.{length}
use Rattle.base.specs.Members.{Elem, elem-cases}
use Rattle.base.specs.Tests.{not-not}
use Rattle.types.specs.declared.Plan.{Plan}
use Rattle.types.specs.declared.Message.{Message}
use Rattle.types.specs.declared.Run.{Run}
use Rattle.types.specs.Messages.{kind_least, kind_most, IsKind, addressee}
use Rattle.types.proofs.MessageLaws.{kind-of-message}
use Rattle.model.specs.State.{State, clock_of, view_of, is_correct, Held, held_in, room_in}
use Rattle.model.specs.FormLaws.{words-of-room}
use Rattle.model.specs.Moves.{Change, made}
use Rattle.model.specs.Checks.{no_processor, no_view, plan_outside, faulty_outside, buffers_outside, limits_broken, kind_outside, held_unsound, message_unsound, settling_unsound, place_of, not_held, overfull}
use Rattle.model.specs.Events.{without}
use Rattle.liveness.proofs.Flight.{Sent, Named, sent_as, numbers, stamped, Found, found_in, rest, rest_in}
use Rattle.liveness.proofs.Sending.{in-stamped}
use Rattle.liveness.proofs.Judging.{neither, nor, not-ltb, not-leb}
use Rattle.liveness.proofs.Link.{Planned, Wire, wire-read, wire-posted, length-posted, wire-removed, length_without, wire-found}
use Rattle.liveness.proofs.Wires.{wire-fits, wire-tail}
use Rattle.liveness.proofs.Tracks.{limits_for}
use Rattle.liveness.proofs.Opens.{planned-within}
use Rattle.liveness.proofs.Soundness.{SoundRun, InsideRun, not_outside}
use Rattle.liveness.proofs.Laying.{seen}
use Rattle.liveness.proofs.Addressing.{Addressed, Sends}

-- ---- a message that check 9 takes

-- it was sent by now, too
abbrev pub Fine : Run → Sent → Type 0
Fine r x = Addressed r.plan r.faulty x.message × (x.time ≤ r.time)

-- which is what it asks of the numbers held
pub record Taken (r : Run) (h : Held) : Type 0 where
  pub kind : IsKind h.kind
  pub view : h.view < r.plan.views
  pub processor : h.processor < r.plan.n
  pub reaches : T (is_correct r (addressee r.plan h.kind h.view h.processor))
  pub past : h.sent ≤ r.time

module _ (r : Run) (h : Held) where
  -- its tests, as far as each goes
  abbrev to_view : Bool
  to_view = kind_outside h.kind || no_view r.plan h.view

  abbrev to_processor : Bool
  to_processor = to_view || no_processor r.plan h.processor

  abbrev reached : Bool
  reached = is_correct r (addressee r.plan h.kind h.view h.processor)

  abbrev to_reach : Bool
  to_reach = to_processor || not reached

  of-taken : Taken r h → T (held_unsound r.plan r.faulty r.time h) → ⊥
  of-taken x =
      nor to_reach (ltb r.time h.sent) (nor to_processor (not reached) (nor to_view (no_processor r.plan h.processor)
      (nor (kind_outside h.kind) (no_view r.plan h.view) (nor (ltb h.kind kind_least) (ltb kind_most h.kind)
      (λ t. let g : h.kind < kind_least = ltb→lt _ _ t in omega (arith, x.kind.0))
      (λ t. let g : kind_most < h.kind = ltb→lt _ _ t in omega (arith, x.kind.1)))
      (λ t. let g : r.plan.views ≤ h.view = leb→le _ _ t in omega (arith, x.view)))
      (λ t. let g : r.plan.n ≤ h.processor = leb→le _ _ t in omega (arith, x.processor)))
      (λ t. T_not reached t x.reaches))
      (λ t. let g : r.time < h.sent = ltb→lt _ _ t in omega (arith, x.past))

  taken_of : (T (held_unsound r.plan r.faulty r.time h) → ⊥) → Taken r h
  taken_of sound =
      let a = neither to_reach (ltb r.time h.sent) sound in
      let b = neither to_processor (not reached) a.0 in
      let c = neither to_view (no_processor r.plan h.processor) b.0 in
      let d = neither (kind_outside h.kind) (no_view r.plan h.view) c.0 in
      let k = neither (ltb h.kind kind_least) (ltb kind_most h.kind) d.0 in
      record {
        kind = (not-ltb _ _ k.0, not-ltb _ _ k.1);
        view = not-leb _ _ d.1;
        processor = not-leb _ _ c.1;
        reaches = not-not reached b.1;
        past = not-ltb _ _ a.1;
      }

pub held-taken : (s : State) → SoundRun s → (i : ℕ) → i < s.run.held → Taken s.run (held_in s i)
unfolding message_unsound
held-taken s x i l = taken_of s.run (held_in s i) (x.messages i l)

fine-taken : (r : Run) (x : Sent) → Fine r x → Taken r (numbers x)
fine-taken r x f =
    record { kind = kind-of-message x.message; view = f.0.view_low; processor = f.0.processor_low; reaches = f.0.for_correct; past = f.1 }

taken_fine : (r : Run) (x : Sent) → Taken r (numbers x) → Fine r x
taken_fine r x t = (record { view_low = t.view; processor_low = t.processor; for_correct = t.reaches }, t.past)

-- ---- all that it asks but for clocks and time

pub record Lasts (s : State) : Type 0 where
  pub limits : T (limits_broken s) → ⊥
  pub messages : List Sent
  pub wire : Wire s.form s.network s.run.held messages
  pub fine : (x : Sent) → Elem x messages → Fine s.run x
  pub settling : T (settling_unsound s) → ⊥

pub lasts-of : (s : State) → SoundRun s → Lasts s
lasts-of s x =
    let room : s.run.held ≤ room_in s = not-ltb _ _ x.room in
    let y = seen (Fine s.run) s.form s.run.held s.network (words-of-room s.form s.run.held (length s.network) room)
    (λ i l. (held-taken s x i l).kind) (λ i z l e. taken_fine s.run z (subst (Taken s.run) e (held-taken s x i l))) x.tail in
    record { limits = x.limits; messages = y.messages; wire = y.wire; fine = y.each; settling = x.settling }

pub lasts-planned : (s : State) → Lasts s → Planned s.run.plan s.run.faulty
lasts-planned s x =
    let plan : Plan = s.run.plan in
    let l = neither (plan_outside plan || faulty_outside plan s.run.faulty) (buffers_outside s) x.limits in
    let f = neither (plan_outside plan) (faulty_outside plan s.run.faulty) l.0 in
    planned-within plan s.run.faulty f.0 f.1

pub lasts-named : (s : State) (x : Lasts s) → Named x.messages
lasts-named s x y i = omega (arith, (lasts-planned s x).n_at_most, (x.fine y i).0.processor_low)

-- with the clocks it is check 9 but for the time
pub sound-lasts : (s : State) → Lasts s → InsideRun s.run → SoundRun s
unfolding message_unsound
sound-lasts s x inside = record {
  limits = x.limits;
  clocks = λ p c. not_outside s.run.plan (clock_of s.run p) (view_of s.run p) (inside p c);
  room = wire-fits x.wire;
  messages = λ i l.
      let a = wire-read x.wire (lasts-named s x) i l in
      of-taken s.run (held_in s i) (subst (Taken s.run) (sym a.is) (fine-taken s.run a.sent (x.fine a.sent a.within)));
  settling = x.settling;
  tail = wire-tail x.wire;
}

-- ---- a change that is made

pub made-lasts : (s : State) (c : Change) → Lasts s → Sends s.run s.tally c → (T (overfull s c) → ⊥) → Lasts (made s c)
unfolding made
made-lasts s c x y fits = record {
  limits = λ t. x.limits (subst T (λ i. limits_for s.form s.run.plan s.run.faulty (y.tally i)
      (length-posted x.wire s.run.time c.sent fits i)) t);
  messages = x.messages ++ stamped s.run.time c.sent;
  wire = wire-posted x.wire s.run.time c.sent fits;
  fine = λ z i. ⊎_elim (λ j. x.fine z j)
      (λ j. let n = in-stamped z.message z.time s.run.time c.sent j in (y.addressed z.message n.1, omega (arith, n.0)))
      (elem-cases z x.messages (stamped s.run.time c.sent) i);
  settling = x.settling;
}

-- ---- a message that leaves

module _ (s : State) (x : Lasts s) (m : Message) (is_held_lem : T (not_held s m) → ⊥) where
  found : Found x.messages m (place_of s m)
  found = wire-found s x.wire (lasts-named s x) m is_held_lem

  pub held-addressed : Addressed s.run.plan s.run.faulty m
  held-addressed = (x.fine (sent_as m found.time) (found_in found)).0

  pub without-lasts : Lasts (without s m)
  unfolding without
  without-lasts = record {
    limits = λ t. x.limits (subst T (ap (limits_for s.form s.run.plan s.run.faulty (length s.tally)) (length_without x.wire found)) t);
    messages = rest found;
    wire = wire-removed x.wire found;
    fine = λ z i. x.fine z (rest_in found z i);
    settling = x.settling;
  }
