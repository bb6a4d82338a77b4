-- A single tick is the protocol's tick and the entries by clock that follow it. Assumes nothing.
use mathlib.Core.Path.{◌≡◌, refl, sym, ap, ◌∙◌, subst}
use mathlib.Core.Bool.{◌&&◌}
use mathlib.Core.Logic.{inl, ⊎_elim}
use mathlib.Core.List.{List, [], ◌∷◌, ◌++◌, append_assoc, append-nil}
use Prim.Native.Nat.{ℕ, zero, suc, ◌+◌, ◌/◌, ◌%◌, ◌≤◌, ◌<◌, max}
use native.Mathlib.Omega.{arith}
use native.Mathlib.Nat.{lt_of_mul-lt-mul_right}
use lib.Dec.{T, eqb, le→leb}
use Rattle.base.specs.Tests.{T-right, T_and, le?, by_cond}
use Rattle.base.specs.ScanLaws.{some-by}
use Rattle.protocol.specs.Params as proto
use Rattle.protocol.specs.Params.{Params}
use Rattle.protocol.specs.State.{Processors}
use Rattle.protocol.specs.Moves.{Reason, by_own_clock, Tick, clocked}
use Rattle.protocol.specs.Runs.{st, Steps, none, more, enters, ticks_on}
use Rattle.types.specs.declared.Plan.{Plan}
use Rattle.types.specs.declared.Message.{Message}
use Rattle.types.specs.declared.Run.{Run}
use Rattle.types.specs.Quantities.{initial, clock_time}
use Rattle.model.specs.State.{State, clock_of, view_of, is_correct, held_at, held_in}
use Rattle.model.specs.Moves.{Change, changed, still, also, Entry, stay, into, by_clock, entering, taking, entries, advanced, arrival, arrivals, made}
use Rattle.model.specs.Checks.{overdue_at, overdue, reaches_end, overfull}
use Rattle.liveness.proofs.Flight.{sent_as, Sent, In, stamped, stands_at}
use Rattle.liveness.proofs.Link.{Planned, params, correct_below, to-initial, flight, Wire, wire-posted, length-posted, Books, not-ended}
use Rattle.liveness.proofs.Enters.{entrants, enter-books, sent_to, entered}
use Rattle.liveness.proofs.TickLaws.{length-clocks}
use Rattle.liveness.proofs.Soundness.{InsideRun}
use Rattle.liveness.proofs.Clocks.{Arrived, arrived, stands, in_row, up as advanced-up}
use Rattle.liveness.proofs.Tracks.{Tracked, tracked_inside, tracked_state, Leads, arrives}

stamped-append : (now : ℕ) (a b : List Message) → stamped now (a ++ b) ≡ stamped now a ++ stamped now b
stamped-append now [] b = refl
stamped-append now (m ∷ a) b = ap (λ (l : List Sent). sent_as m now ∷ l) (stamped-append now a b)

-- nothing in flight is overdue
pub timely : (s : State) (xs : List Sent) → Wire s.form s.network s.run.held xs → (T (overdue s) → ⊥) → T s.run.settled
    → (m : Message) (t : ℕ) → In m t xs → s.run.time < max t s.run.gst + s.run.plan.delta
unfolding overdue
timely s xs wire no' z m t i =
    let r = stands_at s.form (sent_as m t) xs wire.spare i in
    let e : (held_in s r.0).sent ≡ t = ap (λ (l : List ℕ). (held_at s.form l r.0).sent) wire.words ∙ r.2 in
    ⊎_elim
    (λ (l : max t s.run.gst + s.run.plan.delta ≤ s.run.time).
    absurd (no' (T_and s.run.settled _ z (some-by (overdue_at s) s.run.held r.0 (omega (arith, r.1, wire.number))
    (let g : max (held_in s r.0).sent s.run.gst + s.run.plan.delta ≤ s.run.time = rw e l in le→leb _ _ g)))))
    (λ l. l)
    (le? (max t s.run.gst + s.run.plan.delta) s.run.time)

module _ (s : State) (ok : Planned s.run.plan s.run.faulty) (x : Tracked s.run.plan s.run.faulty ok s)
    (on-time : T (overdue s) → ⊥) (not_end : T (reaches_end (advanced s).run (arrivals (advanced s))) → ⊥) where
  abbrev plan : Plan
  plan = s.run.plan

  abbrev faulty : ℕ
  faulty = s.run.faulty

  abbrev π : Params
  π = params plan faulty ok

  abbrev now : ℕ
  now = s.run.time + 1

  -- the run with time and clocks advanced
  abbrev a : Run
  a = (advanced s).run

  abbrev inside : InsideRun s.run
  inside = tracked_inside plan faulty ok s x

  -- clocks and views when the processors below k have moved
  abbrev Moved : ℕ → Change → Type 0
  Moved k c = Arrived s ok x.books.clocks_long x.books.views_long inside not_end k c

  moved : (k : ℕ) → Moved k (entries (arrival a) a s.tally k)
  moved = arrived s ok x.books.clocks_long x.books.views_long inside not_end

  up : (q : ℕ) → T (is_correct s.run q) → clock_of a q ≡ clock_of s.run q + 1
  up = advanced-up s ok x.books.clocks_long x.books.views_long inside not_end

  passed : Tick π x.processors (λ p. clock_of a p) (flight x.messages) s.run.time s.run.gst s.run.settled
  unfolding proto.next proto.row
  passed = record {
    ready = λ p c. rw (x.books.clock p, x.books.view p) (x.ready p c);
    signature_timely = λ z d w p t i. timely s x.messages x.wire on-time z _ t i;
    certificate_timely = λ z d w p t i. timely s x.messages x.wire on-time z _ t i;
    clock_up = λ p c. up p c ∙ ap (λ (y : ℕ). y + 1) (sym (x.books.clock p));
  }

  -- the protocol's state after entries that made the change c
  record Mid (c : Change) : Type 1 where
    P : Processors
    messages : List Sent
    messages_are : messages ≡ x.messages ++ stamped now c.sent
    books : Books plan c.clocks c.views c.tally P x.tally
    way : Steps π (tracked_state plan faulty ok s x) (st P x.tally (flight messages) now s.run.gst s.run.settled)

  mid_first : Mid (still a s.tally)
  mid_first = record {
    P = clocked x.processors (λ p. clock_of a p);
    messages = x.messages;
    messages_are = sym (append-nil x.messages);
    books = record {
      clocks_long = rw (length-clocks s.run plan.n) x.books.clocks_long;
      views_long = x.books.views_long;
      rows = x.books.rows;
      clock = λ p. refl;
      view = x.books.view;
      entered = x.books.entered;
      heard = x.books.heard;
      formed = x.books.formed;
      sets_below = x.books.sets_below;
    };
    way = more none (ticks_on (λ p. clock_of a p) passed);
  }

  -- processor k moves
  module _ (k : ℕ) (c : Change) (v : Moved k c) (m : Mid c) where
    abbrev r : Run
    r = changed a c

    abbrev w : ℕ
    w = clock_of a k / plan.gamma

    module _ (ck : T (is_correct a k)) (standing : T (eqb (clock_of a k % plan.gamma) 0 && initial plan w)) where
      at_time : clock_of a k ≡ clock_time plan w
      at_time = stands s ok x.books.clocks_long x.books.views_long inside not_end k c v ck standing

      low : w < plan.views
      low = in_row s ok x.books.clocks_long x.books.views_long inside not_end k c v ck standing

      above : view_of s.run k < w
      above = lt_of_mul-lt-mul_right plan.gamma (omega (arith, at_time, up k ck, (inside k ck).low))

      why : Reason π m.P x.tally k w
      why = by_own_clock (to-initial plan faulty ok w (T-right (eqb (clock_of a k % plan.gamma) 0) _ standing))
          (omega (arith, m.books.view k, v.view_kept k (omega arith), above)) (m.books.clock k ∙ v.clock_kept k (omega arith) ∙ at_time)

      abbrev sent_now : List Message
      sent_now = sent_to r c.tally ok m.books k w ck low now m.messages m.messages (λ m' t i. i) (λ m' t i. inl i) why

      goes : Mid (also c (entering r c.tally k w))
      unfolding entering
      goes = record {
        P = entrants r c.tally ok m.books k w ck low;
        messages = m.messages ++ stamped now sent_now;
        messages_are =
            ap (λ (l : List Sent). l ++ stamped now sent_now) m.messages_are ∙ append_assoc x.messages (stamped now c.sent) (stamped now sent_now)
            ∙ ap (λ (l : List Sent). x.messages ++ l) (sym (stamped-append now c.sent sent_now));
        books = enter-books r c.tally ok m.books k w ck low;
        way = more m.way (enters k w (entered r c.tally ok m.books k w ck low now m.messages m.messages (λ m' t i. i) (λ m' t i. inl i) why));
      }

    waits : Mid (also c (still r c.tally))
    waits = record {
      P = m.P;
      messages = m.messages;
      messages_are = m.messages_are ∙ ap (λ (l : List Message). x.messages ++ stamped now l) (sym (append-nil c.sent));
      books = m.books;
      way = m.way;
    }

    mid_more : Mid (also c (taking r c.tally k (arrival a k)))
    unfolding taking
    mid_more = by_cond (λ (e : Entry). Mid (also c (taking r c.tally k e))) (is_correct a k) (by_clock plan (clock_of a k)) stay
        (λ ck. by_cond (λ (e : Entry). Mid (also c (taking r c.tally k e))) (eqb (clock_of a k % plan.gamma) 0 && initial plan w) (into w) stay
        (λ t. goes ck t) (λ t. waits))
        (λ nc. waits)

  mid_all : (k : ℕ) → Mid (entries (arrival a) a s.tally k)
  unfolding entries
  mid_all zero = mid_first
  mid_all (suc k) = mid_more k (entries (arrival a) a s.tally k) (moved k) (mid_all k)

  -- the whole tick
  pub tick_leads : (T (overfull (advanced s) (arrivals (advanced s))) → ⊥) → Leads plan faulty ok s x (made (advanced s) (arrivals (advanced s)))
  unfolding arrivals made
  tick_leads fits =
      let m = mid_all plan.n in
      let c = arrivals (advanced s) in
      arrives plan faulty ok x (made (advanced s) c) refl refl refl (x.messages ++ stamped now c.sent) m.P x.tally
      (wire-posted x.wire now c.sent fits) m.books
      (subst (λ (l : List Sent). Steps π (tracked_state plan faulty ok s x) (st m.P x.tally (flight l) now s.run.gst s.run.settled))
      m.messages_are m.way)
      (λ q cq. ((moved plan.n).moved q cq (correct_below plan faulty q cq)).ready) (not-ended (advanced s).run c not_end)
      (moved plan.n).sends.tally (length-posted x.wire now c.sent fits)
