-- What a load chooses on a sound run: the delivery of a message held, a tick where none is overdue, or settling; each has a line. Assumes nothing.
use Rattle.std.proofs.Common.{◌≡◌, ℕ, ◌%◌, ◌<◌, false, not, T, eqb, ltb, sym, refl, ap, subst, mod-lt, arith, ltb→lt, T_not, Some}
use Rattle.base.specs.Scan.{some, first}
use Rattle.base.specs.ScanLaws.{first_some}
use Rattle.base.specs.Tests.{T-right, T_false, by_cond}
use Rattle.types.specs.declared.Message.{Message}
use Rattle.types.specs.declared.Event.{Event}
use Rattle.types.specs.declared.Event.TheVariants.{Deliver, Settle, Tick}
use Rattle.model.specs.State.{State, Held, room_in}
use Rattle.model.specs.Checks.{held_is, is_at, time_unsound, overdue_at, overdue}
use Rattle.buffers.specs.Kinds.{stored}
use Rattle.buffers.proofs.Storing.{held-stored}
use Rattle.liveness.proofs.Flight.{held-itself}
use Rattle.liveness.proofs.Judging.{not-ltb}
use Rattle.liveness.proofs.Link.{wire-read}
use Rattle.liveness.proofs.Soundness.{SoundRun}
use Rattle.liveness.proofs.Addressing.{Addressed}
use Rattle.liveness.proofs.Lasting.{Lasts, lasts-of, lasts-planned, lasts-named}
use Rattle.lines.specs.Forms.{event_form, EventLine}
use Rattle.loads.specs.declared.Turn.{Turn}
use Rattle.loads.specs.Draws.{next_seed, draw}
use Rattle.loads.specs.Loads.{Point, delivery_of, delivery, refused_overdue, ticking, delivers, chosen, step_turn, settle_due, settle_turn, turn}

-- ---- of a sound run

module _ (s : State) (sound : SoundRun s) where
  lasts : Lasts s
  lasts = lasts-of s sound

  -- what stands at a place within the messages held is a message, which names a view and a processor that there are
  pub record Holding (i : ℕ) : Type 0 where
    pub message : Message
    pub is_stored : stored s.form s.network i ≡ Some message
    pub shows : T (is_at s.form s.network message i)
    pub addressed : Addressed s.run.plan s.run.faulty message

  pub held : (i : ℕ) → i < s.run.held → Holding i
  held i l =
      let x = lasts in
      let a = wire-read x.wire (lasts-named s x) i l in
      let m : Message = a.sent.message in
      let fits : i < room_in s = omega (arith, not-ltb (room_in s) s.run.held sound.room) in
      record {
        message = m;
        is_stored = held-stored s.form s.network i m a.sent.time fits a.is;
        shows = subst (λ (h : Held). T (held_is m h)) (sym a.is) (held-itself a.sent.time m);
        addressed = (x.fine a.sent a.within).0;
      }

  pub held_delivery : (i : ℕ) (l : i < s.run.held) → delivery s i ≡ Deliver (held i l).message
  held_delivery i l = ap delivery_of (held i l).is_stored

  message_line : (m : Message) → Addressed s.run.plan s.run.faulty m → EventLine (event_form (Deliver m)) (Deliver m)
  message_line m a =
      let ok = lasts-planned s lasts in
      let v = ok.views_at_most in
      let n = ok.n_at_most in
      record { formed = refl; below = (omega (arith, a.view_low), (omega (arith, a.processor_low), tt)); bytes = refl }

-- what holds of the delivery of each message held, and of a tick where none is overdue, holds of what is chosen
pub by-chosen : (Q : Event → Type 0) (x : Point) → ((i : ℕ) → i < x.state.run.held → Q (delivery x.state i)) → (refused_overdue x.state ≡ false → Q (Tick 1)) → Q (chosen x)
unfolding chosen ticking overdue
by-chosen Q x at tick =
    let s : State = x.state in
    let d : ℕ = draw (next_seed (next_seed x.seed)) in
    by_cond Q (delivers x) (delivery s (d % s.run.held)) (ticking s)
    (λ t. let l : 0 < s.run.held = ltb→lt _ _ (T-right (ltb (draw (next_seed x.seed) % 4) 2) (ltb 0 s.run.held) t) in at (d % s.run.held) (mod-lt d l))
    (λ t. by_cond Q (refused_overdue s) (delivery s (first (overdue_at s) s.run.held)) (Tick 1)
    (λ o. at (first (overdue_at s) s.run.held) (first_some (overdue_at s) s.run.held
    (T-right s.run.settled (some (overdue_at s) s.run.held) (T-right (not (time_unsound s)) (overdue s) o))))
    (λ o. tick (T_false (refused_overdue s) o)))

-- and with settling, of what a load does next
pub by_turn : (Q : Event → Type 0) (settle : ℕ) (x : Point) → ((i : ℕ) → i < x.state.run.held → Q (delivery x.state i)) → (refused_overdue x.state ≡ false → Q (Tick 1))
    → ((T x.state.run.settled → ⊥) → Q Settle) → Q (turn settle x).event
unfolding turn
by_turn Q settle x at tick due = by_cond (λ (k : Turn). Q k.event) (settle_due settle x) (settle_turn x) (step_turn x)
    (λ t. due (T_not x.state.run.settled (T-right (eqb x.step settle) (not x.state.run.settled) t))) (λ t. by-chosen Q x at tick)

pub turn-line : (settle : ℕ) (x : Point) → SoundRun x.state → EventLine (event_form (turn settle x).event) (turn settle x).event
turn-line settle x sound = by_turn (λ (e : Event). EventLine (event_form e) e) settle x
    (λ i l. subst (λ (e : Event). EventLine (event_form e) e) (sym (held_delivery x.state sound i l))
    (message_line x.state sound (held x.state sound i l).message (held x.state sound i l).addressed))
    (λ o. record { formed = refl; below = (omega arith, tt); bytes = refl })
    (λ u. record { formed = refl; below = tt; bytes = refl })
