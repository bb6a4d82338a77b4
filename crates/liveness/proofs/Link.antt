-- What ties a run and its lent buffers to a state of the protocol: the network's words to the messages in flight, and clocks, views and
-- tally to processors and tally. Assumes nothing.
use mathlib.Core.Path.{◌≡◌, refl, sym, ap, ◌∙◌, subst}
use mathlib.Core.Bool.{Bool, true, false, not, ◌&&◌}
use mathlib.Core.Logic.{⊎_elim}
use mathlib.Core.List.{List, ◌∷◌, ◌++◌}
use Prim.Native.Nat.{ℕ, ◌+◌, ◌-◌, ◌*◌, ◌%◌, ◌^◌, ◌≤◌, ◌<◌}
use native.Mathlib.Omega.{arith}
use lib.Dec.{T, leb, ltb, eqb→eq, le→leb, ltb→lt, lt→ltb}
use lib.ListN.{length, get_or, length-append}
use Rattle.base.specs.Tests.{T-left, T_and, T_true, le?, eq→eqb}
use Rattle.base.specs.Count.{count, count-ext, count-both}
use Rattle.base.specs.ScanLaws.{some-by, first-at}
use Rattle.base.specs.Sets.{member, size}
use Rattle.base.specs.SetLaws.{size-count}
use Rattle.protocol.specs.Params as proto
use Rattle.protocol.specs.Params.{Params}
use Rattle.protocol.specs.State.{Processors, Tally, Flight, Starts}
use Rattle.types.specs.declared.Plan.{Plan}
use Rattle.types.specs.declared.Message.{Message}
use Rattle.types.specs.declared.Form.{Form}
use Rattle.types.specs.declared.Run.{Run}
use Rattle.types.specs.Quantities.{delta_least, gamma_least, gamma_most, n_least, n_most, views_least, views_most, row_words, width, tolerated, per_leader, per_leader_least, turn_start, lead, initial, next_initial, clock_time, end_time, correct}
use Rattle.types.proofs.PlanLaws.{per-leader-positive, gamma_twice, turn-roomy}
use Rattle.model.specs.State.{State, is_correct, entered_word, heard_word, marks_word, mark_bit, word, posted, removed, capacity}
use Rattle.model.specs.FormLaws.{words-of-room}
use Rattle.model.specs.Moves.{Change, certificate}
use Rattle.model.specs.Checks.{is_at, place_of, not_held, reaches_end}
use Rattle.liveness.proofs.Flight.{sent_as, Sent, In, Named, laid, stamped, length-laid, length-stamped, posted-laid, removed-laid, Read, read_at, Found, found_at, rest, length_removed}
use Rattle.liveness.proofs.Sending.{signature, At}
use Rattle.liveness.proofs.Judging.{place_inside}

-- ---- the plan as the protocol's parameters

-- a plan and a set of faulty processors within the limits of checks 2 to 5
pub record Planned (plan : Plan) (faulty : ℕ) : Type 0 where
  pub n_at_least : n_least ≤ plan.n
  pub n_at_most : plan.n ≤ n_most
  pub delta_at_least : delta_least ≤ plan.delta
  pub gamma_at_least : gamma_least plan ≤ plan.gamma
  pub gamma_at_most : plan.gamma ≤ gamma_most
  pub per_leader_at_least : per_leader_least ≤ per_leader plan
  pub views_at_least : views_least ≤ plan.views
  pub views_at_most : plan.views ≤ views_most
  pub views_multiple : T (turn_start plan plan.views)
  pub faulty_below : faulty < 2 ^ plan.n
  pub faulty_few : size faulty ≤ tolerated plan

module _ (plan : Plan) (faulty : ℕ) where
  pub correct_below : (p : ℕ) → T (correct plan faulty p) → p < plan.n
  correct_below p c = ltb→lt p plan.n (T-left (ltb p plan.n) _ c)

  pub correct_count : Planned plan faulty → size faulty + count plan.n (correct plan faulty) ≡ plan.n
  correct_count ok =
      let e : count plan.n (correct plan faulty) ≡ count plan.n (λ p. not (member faulty p)) =
      count-ext plan.n (correct plan faulty) (λ p. not (member faulty p))
      (λ p l. ap (λ (b : Bool). b && not (member faulty p)) (T_true (ltb p plan.n) (lt→ltb p plan.n l))) in
      omega (arith, size-count plan.n faulty ok.faulty_below, count-both plan.n (member faulty))

  pub third : Planned plan faulty → 3 * tolerated plan + 1 ≤ plan.n
  third ok = omega (arith, ok.n_at_least)

  pub gamma_positive : Planned plan faulty → 0 < plan.gamma
  gamma_positive ok = omega (arith, ok.delta_at_least, gamma_twice plan ok.gamma_at_least)

  abbrev pub params : Planned plan faulty → Params
  params ok = record {
    n = plan.n;
    t = tolerated plan;
    f = size faulty;
    k = per_leader plan;
    gamma = plan.gamma;
    delta = plan.delta;
    correct = correct plan faulty;
    correct_below = correct_below;
    correct_count = correct_count ok;
    few_faulty = ok.faulty_few;
    enough = third ok;
    delta_positive = ok.delta_at_least;
    k_positive = per-leader-positive plan ok.per_leader_at_least;
    gamma_positive = gamma_positive ok;
    roomy = turn-roomy plan ok.delta_at_least ok.per_leader_at_least ok.gamma_at_least;
  }

  -- the leader, the initial views and the stages are the protocol's
  module _ (ok : Planned plan faulty) where
    pub lead_is : (w : ℕ) → proto.lead (params ok) w ≡ lead plan w
    unfolding proto.lead proto.row
    lead_is w = refl

    pub to-initial : (w : ℕ) → T (initial plan w) → proto.Initial (params ok) w
    unfolding proto.Initial
    to-initial w t = eqb→eq (w % per_leader plan) 0 t

    pub from-initial : (w : ℕ) → proto.Initial (params ok) w → T (initial plan w)
    unfolding proto.Initial
    from-initial w e = eq→eqb (w % per_leader plan) 0 e

    pub to-starts : (q : Bool) (w : ℕ) → At plan q w → Starts (params ok) q w
    to-starts false w t = to-initial w t
    to-starts true w t = tt

    pub from-starts : (q : Bool) (w : ℕ) → Starts (params ok) q w → At plan q w
    from-starts false w t = from-initial w t
    from-starts true w t = tt

-- ---- the network's words

abbrev pub flight : List Sent → Flight
flight xs = record { signature = λ q w p s. In (signature q w p) s xs; certificate = λ q w p s. In (certificate q w p) s xs }

-- the words are those of the messages in flight, with zeros beyond
pub record Wire (form : Form) (ws : List ℕ) (held : ℕ) (xs : List Sent) : Type 0 where
  pub spare : ℕ
  pub words : ws ≡ laid form xs spare
  pub number : held ≡ length xs

module _ {form : Form} {ws : List ℕ} {held : ℕ} {xs : List Sent} (wire : Wire form ws held xs) where
  pub wire-length : length ws ≡ width form * held + wire.spare
  wire-length = ap length wire.words ∙ length-laid form xs wire.spare ∙ omega (arith, ap (λ (x : ℕ). width form * x) wire.number)

  -- what is read at a place within the messages held is one in flight
  pub wire-read : Named xs → (i : ℕ) → i < held → Read form ws i xs
  wire-read named i l = subst (λ (u : List ℕ). Read form u i xs) (sym wire.words) (read_at form xs wire.spare i named (omega (arith, wire.number)))

  -- and is found there, if it is m
  pub wire-found-at : Named xs → (m : Message) (i : ℕ) → i < held → T (is_at form ws m i) → Found xs m i
  wire-found-at named m i l t = found_at form xs wire.spare m i named (omega (arith, wire.number))
      (subst (λ (u : List ℕ). T (is_at form u m i)) wire.words t)

  module _ (now : ℕ) (ms : List Message) (fits : T (ltb (capacity form ws) (held + length ms)) → ⊥) where
    wire-room : width form * length ms ≤ wire.spare
    wire-room = ⊎_elim (λ (l : held + length ms ≤ capacity form ws). omega (arith, wire-length, words-of-room form (held + length ms) (length ws) l))
        (λ (l : capacity form ws < held + length ms). absurd (fits (lt→ltb _ _ l))) (le? (held + length ms) (capacity form ws))

    pub wire-posted : Wire form (posted form ws held now ms) (held + length ms) (xs ++ stamped now ms)
    wire-posted = record {
      spare = wire.spare - width form * length ms;
      words =
          let e : wire.spare ≡ width form * length ms + (wire.spare - width form * length ms) = omega (arith, wire-room) in
          rw (wire.words, wire.number) (ap (λ (z : ℕ). posted form (laid form xs z) (length xs) now ms) e
          ∙ posted-laid form xs (wire.spare - width form * length ms) now ms);
      number = omega (arith, wire.number, length-append xs (stamped now ms), length-stamped now ms);
    }

    pub length-posted : length (posted form ws held now ms) ≡ length ws
    unfolding wire-posted
    length-posted =
        ap length wire-posted.words ∙ length-laid form (xs ++ stamped now ms) wire-posted.spare
        ∙ omega (arith, ap (λ (x : ℕ). width form * x) (sym wire-posted.number), wire-length, wire-room)

  module _ {m : Message} {i : ℕ} (found : Found xs m i) where
    pub wire-removed : Wire form (removed form ws held i) (held - 1) (rest found)
    wire-removed = record {
      spare = width form + wire.spare;
      words =
          rw (wire.words, wire.number, found.split, ← found.place)
          (removed-laid form found.ahead found.behind (sent_as m found.time) wire.spare);
      number = omega (
        arith,
        wire.number,
        ap length found.split,
        length-append found.ahead
            (sent_as m found.time ∷ found.behind),
        length-append found.ahead found.behind,
      );
    }

    pub length_without : length (removed form ws held i) ≡ length ws
    length_without = length_removed form ws held i
        (omega (arith, wire.number, found.place, ap length found.split, length-append found.ahead (sent_as m found.time ∷ found.behind)))
        (omega (arith, wire-length))

-- a held message is found in flight
pub wire-found : (s : State) {xs : List Sent} → Wire s.form s.network s.run.held xs → Named xs → (m : Message) → (T (not_held s m) → ⊥)
    → Found xs m (place_of s m)
wire-found s wire named m is_held_lem =
    let inside : place_of s m < s.run.held = place_inside s m is_held_lem in
    wire-found-at wire named m (place_of s m) inside (first-at (is_at s.form s.network m) s.run.held inside)

-- ---- clocks, views and tally

-- the buffers are long enough, and what they hold is what the processors and leaders of the protocol have, for every view below the limit
pub record Books (plan : Plan) (clocks views t : List ℕ) (P : Processors) (L : Tally) : Type 0 where
  pub clocks_long : plan.n ≤ length clocks
  pub views_long : plan.n ≤ length views
  pub rows : row_words * plan.views ≤ length t
  pub clock : (p : ℕ) → P.clock p ≡ get_or clocks p 0
  pub view : (p : ℕ) → P.view p ≡ get_or views p 0
  pub entered : (w p : ℕ) → w < plan.views → P.entered w p ≡ member (word t w entered_word) p
  pub heard : (q : Bool) (w p : ℕ) → w < plan.views → L.heard q w p ≡ member (word t w (heard_word q)) p
  pub formed : (q : Bool) (w : ℕ) → w < plan.views → L.formed q w ≡ member (word t w marks_word) (mark_bit q)
  pub sets_below : (w j : ℕ) → w < plan.views → j < marks_word → word t w j < 2 ^ plan.n

-- no correct clock stands at an initial view that is not entered, or at the end
abbrev pub Ready : Plan → ℕ → List ℕ → List ℕ → Type 0
Ready plan faulty clocks views = (p : ℕ) → T (correct plan faulty p) → get_or clocks p 0 < clock_time plan (next_initial plan (get_or views p 0))

abbrev pub Below : Plan → ℕ → List ℕ → Type 0
Below plan faulty clocks = (p : ℕ) → T (correct plan faulty p) → get_or clocks p 0 < end_time plan

-- check 17 passed
pub not-ended : (r : Run) (c : Change) → (T (reaches_end r c) → ⊥) → Below r.plan r.faulty c.clocks
unfolding reaches_end
not-ended r c no' p i = ⊎_elim
    (λ (l : end_time r.plan ≤ get_or c.clocks p 0).
    absurd (no' (some-by (λ q. is_correct r q && leb (end_time r.plan) (get_or c.clocks q 0)) r.plan.n p (correct_below r.plan r.faulty p i)
    (T_and (is_correct r p) _ i (le→leb _ _ l)))))
    (λ l. l)
    (le? (end_time r.plan) (get_or c.clocks p 0))
