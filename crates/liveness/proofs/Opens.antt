-- What an accepted opening leaves is a state of the protocol in which the base invariant holds. Assumes nothing.
use mathlib.Core.Path.{◌≡◌, refl, sym, ap, ◌∙◌, subst}
use mathlib.Core.Bool.{Bool, false, not, ◌&&◌, ◌||◌, cond}
use mathlib.Core.List.{[]}
use Prim.Native.Nat.{ℕ, ◌+◌, ◌*◌, ◌/◌, ◌^◌, ◌≤◌, ◌<◌}
use native.Mathlib.Omega.{arith}
use native.Mathlib.Nat.{mul-le-mul_right}
use lib.Dec.{T, eqb, leb, ltb, eqb→eq, leb→le, le→leb, ltb→lt}
use lib.ListN.{length, get_or, replicate, length-replicate}
use Rattle.base.specs.Tests.{T-left, T-right, T_and, T_true, T_false, T-iff, not-not, eq→eqb}
use Rattle.base.specs.Count.{count, count-mono}
use Rattle.base.specs.ScanLaws.{some-by, length-listed, get_or-listed}
use Rattle.base.specs.Sets.{member, size}
use Rattle.protocol.specs.Params as proto
use Rattle.protocol.specs.Params.{Params}
use Rattle.protocol.specs.State.{Processors, Tally, nearby}
use Rattle.protocol.specs.Opening.{Open}
use Rattle.protocol.proofs.Opening.{open-holds}
use Rattle.types.specs.declared.Plan.{Plan}
use Rattle.types.specs.declared.Run.{Run}
use Rattle.types.specs.declared.Setup.{Setup}
use Rattle.types.specs.Quantities.{n_least, n_most, delta_least, delta_most, gamma_least, gamma_most, views_least, views_most, width, table_clocks, row_words, per_leader, per_leader_least, per_leader_most, tolerated, turn_start, start_limit, correct}
use Rattle.types.proofs.PlanLaws.{next-least, next-of-zero}
use Rattle.model.specs.State.{State, After, capacity, accepted, refused, done, entered_word, heard_word, marks_word, mark_bit, word}
use Rattle.model.specs.FormLaws.{room-of-words}
use Rattle.model.specs.Moves.{Change, entries, certificate, made}
use Rattle.model.specs.Checks.{supporting, start_too_high, too_far_ahead, n_outside, delays_outside, per_leader_outside, views_outside, faulty_outside, plan_outside, lengths_outside}
use Rattle.model.specs.Opening.{blank_run, blank, first_entry, opened, opening_checks, opening}
use Rattle.liveness.proofs.TallyLaws.{heard-low}
use Rattle.liveness.proofs.Forms.{least-twice}
use Rattle.liveness.proofs.Flight.{stamped}
use Rattle.liveness.proofs.Sending.{signature, signature_is, apart, in-stamped, stamped-in}
use Rattle.liveness.proofs.Link.{Planned, params, correct_below, flight, Wire, wire-posted, length-posted, Books}
use Rattle.liveness.proofs.FirstEntries.{zeros, blank_tally, views-positive, Mid, mid_all}
use Rattle.liveness.proofs.Tracks.{Tracked}
use Rattle.liveness.proofs.Judging.{Passes, by-judged, neither, nor, not-ltb, not-leb, Lengths, lengths-within}

-- what is within the limits of checks 2 to 5
pub planned-within : (p : Plan) (faulty : ℕ) → (T (plan_outside p) → ⊥) → (T (faulty_outside p faulty) → ⊥) → Planned p faulty
planned-within p faulty inside few =
    let v = neither (n_outside p || delays_outside p) (views_outside p) inside in
    let d = neither (n_outside p) (delays_outside p) v.0 in
    let a = neither (ltb p.n n_least) (ltb n_most p.n) d.0 in
    let b = neither (ltb p.delta delta_least || ltb delta_most p.delta || ltb p.gamma (gamma_least p)) (ltb gamma_most p.gamma) d.1 in
    let b' = neither (ltb p.delta delta_least || ltb delta_most p.delta) (ltb p.gamma (gamma_least p)) b.0 in
    let b'' = neither (ltb p.delta delta_least) (ltb delta_most p.delta) b'.0 in
    let w = neither (per_leader_outside p || ltb p.views views_least || ltb views_most p.views) (not (turn_start p p.views)) v.1 in
    let w' = neither (per_leader_outside p || ltb p.views views_least) (ltb views_most p.views) w.0 in
    let k = neither (per_leader_outside p) (ltb p.views views_least) w'.0 in
    let k' = neither (ltb (per_leader p) per_leader_least) (ltb per_leader_most (per_leader p)) k.0 in
    let f = neither (leb (2 ^ p.n) faulty) (ltb (tolerated p) (size faulty)) few in
    record {
      n_at_least = not-ltb p.n n_least a.0;
      n_at_most = not-ltb n_most p.n a.1;
      delta_at_least = not-ltb p.delta delta_least b''.0;
      gamma_at_least = not-ltb p.gamma (gamma_least p) b'.1;
      gamma_at_most = not-ltb gamma_most p.gamma b.1;
      per_leader_at_least = not-ltb (per_leader p) per_leader_least k'.0;
      views_at_least = not-ltb p.views views_least k.1;
      views_at_most = not-ltb views_most p.views w'.1;
      views_multiple = not-not (turn_start p p.views) w.1;
      faulty_below = not-leb (2 ^ p.n) faulty f.0;
      faulty_few = not-ltb (tolerated p) (size faulty) f.1;
    }

-- checks 2 to 5 let pass only such a plan
pub planned : (u : Setup) (s : State) → Passes (opening_checks u s) → Planned u.plan u.faulty
planned u s c = planned-within u.plan u.faulty (nor (n_outside u.plan || delays_outside u.plan) (views_outside u.plan)
    (nor (n_outside u.plan) (delays_outside u.plan) c.0 c.1.0) c.1.1.0) c.1.1.1.0

module _ (u : Setup) (s : State) (c : Passes (opening_checks u s)) where
  abbrev plan : Plan
  plan = u.plan

  abbrev faulty : ℕ
  faulty = u.faulty

  abbrev pub ok : Planned u.plan u.faulty
  ok = planned u s c

  abbrev π : Params
  π = params plan faulty ok

  abbrev r : Run
  r = blank_run u

  lengths : Lengths s.form plan (length s.tally) (length s.network)
  lengths = lengths-within s.form plan (length s.tally) (length s.network) c.1.1.1.1.0

  pub tally-long : row_words * plan.views ≤ length s.tally
  tally-long = lengths.rows

  -- ---- all have entered

  abbrev all : Change
  all = entries (first_entry u) r (blank_tally u s.tally ok tally-long) plan.n

  m : Mid u s.tally ok tally-long plan.n all
  m = mid_all u s.tally ok tally-long plan.n

  abbrev P : Processors
  P = record { clock = λ q. get_or all.clocks q 0; view = λ q. get_or all.views q 0; entered = λ w q. eqb w 0 && correct plan faulty q }

  abbrev L : Tally
  L = record { heard = λ q w p. false; formed = λ q w. false }

  no_member : (w j q : ℕ) → w < plan.views → 0 < j → j < 4 → false ≡ member (word all.tally w j) q
  no_member w j q l g h = sym (T_false (member (word all.tally w j) q) (λ t. omega (arith, (m.member_is w j q l h t).1)))

  books : Books plan all.clocks all.views all.tally P L
  books = record {
    clocks_long = rw (m.clocks_same, length-listed (λ p. cond (correct plan faulty p) (get_or u.clocks p 0) 0) table_clocks) ok.n_at_most;
    views_long = rw (m.views_same, length-replicate {A = ℕ} table_clocks 0) ok.n_at_most;
    rows = rw m.tally_length tally-long;
    clock = λ p. refl;
    view = λ p. refl;
    entered = λ w p l. T-iff (eqb w 0 && correct plan faulty p) (member (word all.tally w entered_word) p)
        (λ t. let cp = T-right (eqb w 0) _ t in let e : w ≡ 0 = eqb→eq w 0 (T-left (eqb w 0) _ t) in rw e (m.member_of p (correct_below plan faulty p cp) cp))
        (λ t. let y = m.member_is w entered_word p l (omega arith) t in T_and (eqb w 0) _ (eq→eqb w 0 y.0) y.2);
    heard = λ q w p l. no_member w (heard_word q) p l (heard-low q).0 (omega (arith, heard-low q));
    formed = λ q w l. no_member w marks_word (mark_bit q) l (omega arith) (omega arith);
    sets_below = λ w j l h. m.sets_below w j l (omega arith);
  }

  -- the clock of a correct processor is its start clock
  start-clock : (p : ℕ) → T (correct plan faulty p) → get_or all.clocks p 0 ≡ get_or u.clocks p 0
  start-clock p cp = rw m.clocks_same (get_or-listed (λ q. cond (correct plan faulty q) (get_or u.clocks q 0) 0) table_clocks p
      (omega (arith, correct_below plan faulty p cp, ok.n_at_most))
      ∙ ap (λ (x : Bool). cond x (get_or u.clocks p 0) 0) (T_true (correct plan faulty p) cp))

  starts-low : (p : ℕ) → T (correct plan faulty p) → get_or all.clocks p 0 < start_limit plan
  unfolding start_too_high
  starts-low p cp = rw (start-clock p cp) (not-leb _ _ (λ t. c.1.1.1.1.1.0
      (some-by (λ q. correct plan faulty q && leb (start_limit plan) (get_or u.clocks q 0)) plan.n p (correct_below plan faulty p cp)
      (T_and (correct plan faulty p) _ cp t))))

  starts-near : (p : ℕ) → T (correct plan faulty p) → tolerated plan < count plan.n (nearby π P (P.clock p))
  unfolding too_far_ahead
  starts-near p cp =
      let g : tolerated plan + 1 ≤ supporting plan faulty u.clocks (get_or u.clocks p 0) = not-ltb _ _ (λ t. c.1.1.1.1.1.1.0
      (some-by (λ q. correct plan faulty q && ltb (supporting plan faulty u.clocks (get_or u.clocks q 0)) (tolerated plan + 1)) plan.n p
      (correct_below plan faulty p cp) (T_and (correct plan faulty p) _ cp t))) in
      omega (
        arith,
        count-mono plan.n (λ q. correct plan faulty q && leb (get_or u.clocks p 0) (get_or u.clocks q 0 + plan.gamma)) (nearby π P (P.clock p))
            (λ q l t. let cq = T-left (correct plan faulty q) _ t in
            let h : get_or u.clocks p 0 ≤ get_or u.clocks q 0 + plan.gamma = leb→le _ _ (T-right (correct plan faulty q) _ t) in
            let h' : P.clock p ≤ P.clock q + plan.gamma = rw (start-clock p cp, start-clock q cq) h in
            T_and (correct plan faulty q) _ cq (le→leb _ _ h')),
      )

  is_open : Open π P L (flight (stamped 0 all.sent))
  unfolding proto.lead proto.row
  is_open = record {
    view_zero = λ p cp. rw m.views_same (zeros p);
    start = starts-low;
    near = starts-near;
    entered_zero = λ p cp. cp;
    entered_is = λ w p t. (eqb→eq w 0 (T-left (eqb w 0) _ t), T-right (eqb w 0) _ t);
    none_heard = λ q w p t. t;
    none_formed = λ q w t. t;
    signature_is = λ q w p t i.
        let a = in-stamped (signature q w p) t 0 all.sent i in
        let y = m.sent_is (signature q w p) a.1 in
        let e = signature_is q y.0 w 0 p y.1 y.2 in
        (e.1, a.0, rw e.2 y.3, y.4);
    no_certificate = λ q w p t i.
        let a = in-stamped (certificate q w p) t 0 all.sent i in
        let y = m.sent_is (certificate q w p) a.1 in
        apart y.0 q 0 w y.1 p (sym y.2);
    sent = λ q cl p cp. stamped-in (signature q 0 p) 0 all.sent (m.sent_of q p (correct_below plan faulty p cp) cp cl);
  }

  -- the network holds them: two messages at most of each processor
  pub room : T (ltb (capacity s.form (replicate (length s.network) 0)) (0 + length all.sent)) → ⊥
  room t =
      let g : capacity s.form (replicate (length s.network) 0) < 0 + length all.sent = ltb→lt _ _ t in
      let l : 2 * plan.n ≤ length (replicate {A = ℕ} (length s.network) 0) / width s.form = room-of-words s.form (2 * plan.n) _
      (omega (arith, least-twice s.form plan, lengths.least, length-replicate {A = ℕ} (length s.network) 0)) in
      omega (arith, m.sent_few)

  pub first-wire : Wire s.form (replicate (length s.network) 0) 0 []
  first-wire = record { spare = length s.network; words = refl; number = refl }

  pub opened-lengths : (length (opened u s).tally ≡ length s.tally) × (length (opened u s).network ≡ length s.network)
  unfolding opened blank made
  opened-lengths = (m.tally_length, length-posted first-wire 0 all.sent room ∙ length-replicate {A = ℕ} (length s.network) 0)

  pub opened-tracked : Tracked plan faulty ok (opened u s)
  unfolding opened blank made proto.next proto.row
  opened-tracked = record {
    plan_is = refl;
    faulty_is = refl;
    messages = stamped 0 all.sent;
    processors = P;
    tally = L;
    wire = wire-posted first-wire 0 all.sent room;
    books = books;
    holds = open-holds is_open;
    ready = λ p cp. rw (m.views_same, zeros p) (rw (next-of-zero plan) (starts-low p cp));
    below = λ p cp. omega (arith, starts-low p cp, mul-le-mul_right plan.gamma limit-reached);
    early = λ p cp. omega arith;
    unsettled = λ t. refl;
    limits = T_false _ (nor (n_outside plan || delays_outside plan || views_outside plan || faulty_outside plan faulty) _
        (nor (n_outside plan || delays_outside plan || views_outside plan) (faulty_outside plan faulty)
        (nor (n_outside plan || delays_outside plan) (views_outside plan) (nor (n_outside plan) (delays_outside plan) c.0 c.1.0) c.1.1.0)
        c.1.1.1.0)
        (λ t. c.1.1.1.1.0 (subst T (λ i. lengths_outside s.form plan (opened-lengths.0 i) (opened-lengths.1 i)) t)));
  }
    where
      limit-reached : per_leader plan ≤ plan.views
      limit-reached = omega (
        arith,
        next-least plan 0 plan.views (T_true (turn_start plan plan.views) ok.views_multiple) (views-positive u s.tally ok tally-long),
        next-of-zero plan,
      )

-- an accepted opening has passed its checks and done this
pub opening-done : (u : Setup) (s : State) → T (accepted (opening u s).answer) → Passes (opening_checks u s) × (opening u s ≡ done (opened u s))
unfolding opening
opening-done u s = by-judged (λ (a : After). T (accepted a.answer) → Passes (opening_checks u s) × (a ≡ done (opened u s)))
    (refused s) (opening_checks u s) (done (opened u s)) (λ r t. absurd t) (λ c t. (c, refl))
