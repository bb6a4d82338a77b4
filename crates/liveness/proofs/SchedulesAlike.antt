-- One schedule, openings among it, on two networks that hold the same messages is answered alike, where both can hold it; on an unsound run each
-- line up to the next opening is refused alike. Assumes nothing.
use mathlib.Core.Path.{◌≡◌, refl, sym, ap, ◌∙◌, subst}
use mathlib.Core.Bool.{Bool, true, false, ◌||◌, cond}
use mathlib.Core.Logic.{◌⊎◌, inl, inr, ⊎_elim}
use mathlib.Core.List.{List, [], ◌∷◌}
use Prim.Native.Nat.{ℕ, ◌*◌, ◌≤◌, ◌<◌}
use native.Mathlib.Omega.{arith}
use lib.Dec.{T, eqb, ltb, le→leb, lt→ltb}
use lib.ListN.{length, replicate, length-replicate}
use Rattle.base.specs.Tests.{T_and, T_true, le?, eq→eqb}
use Rattle.types.specs.declared.Form.{Form}
use Rattle.types.specs.declared.Run.{Run}
use Rattle.types.specs.declared.Setup.{Setup}
use Rattle.types.specs.Quantities.{row_words}
use Rattle.types.specs.Messages.{lacks_form}
use Rattle.model.specs.State.{State, After, held_in, check_of, accepted, refused, done}
use Rattle.model.specs.Moves.{entries}
use Rattle.model.specs.Checks.{Check, plan_outside, faulty_outside, buffers_outside, network_outside, n_outside, delays_outside, views_outside, lengths_outside, start_too_high, too_far_ahead, unsound}
use Rattle.model.specs.Opening.{blank, first_entry, opened, opening_checks, opening}
use Rattle.model.specs.Events.{applied}
use Rattle.liveness.specs.Carrying.{Line, opens, happens, line_after, line_answers, after_lines, refused_for_network, CanHold, HeldAlike, AnsweredAlike, AlikeFromOpening}
use Rattle.liveness.proofs.Judging.{Passes, by-judged-two, neither, network-within}
use Rattle.liveness.proofs.Addressing.{entries-names}
use Rattle.liveness.proofs.Opens.{planned, room, first-wire}
use Rattle.liveness.proofs.Soundness.{sound-of}
use Rattle.liveness.proofs.Lasting.{Lasts, lasts-of, lasts-named}
use Rattle.liveness.proofs.Wires.{same-flight}
use Rattle.liveness.proofs.Level.{other, Level, level-alike}
use Rattle.liveness.proofs.EventsAlike.{LevelAfter, Unless, by-check, refused-same, making-same, event-same, refused-unsound}

-- ---- openings

-- the same tally beside another run and network
abbrev beside : State → Run → Form → List ℕ → State
beside a run f ws = record { run = run; tally = a.tally; network = ws; form = f }

module _ (u : Setup) (a : State) (run : Run) (f : Form) (ws : List ℕ) (p : Passes (opening_checks u a))
    (q : Passes (opening_checks u (beside a run f ws))) where
  blank-level : Level (blank u a) f (replicate (length ws) 0)
  unfolding blank
  blank-level = record {
    messages = [];
    here = first-wire u a p;
    there = first-wire u (beside a run f ws) q;
    named = λ x i. absurd i;
    long_here = ap (network_outside a.form u.plan) (length-replicate {A = ℕ} (length a.network) 0)
        ∙ network-within a.form u.plan (length a.tally) (length a.network) p.1.1.1.1.0;
    long_there = ap (network_outside f u.plan) (length-replicate {A = ℕ} (length ws) 0)
        ∙ network-within f u.plan (length a.tally) (length ws) q.1.1.1.1.0;
  }

  opened-same : LevelAfter (done (opened u a)) (done (opened u (beside a run f ws)))
  unfolding opened blank
  opened-same =
      let b : State = blank u a in
      making-same blank-level (planned u a p).n_at_most 0 (entries (first_entry u) b.run b.tally u.plan.n)
      (entries-names (first_entry u) b.run b.tally u.plan.n u.plan.n (omega arith)) (room u a p) (room u (beside a run f ws) q)

-- refused for the network's sake
abbrev Short : Setup → State → ℕ → Type 0
Short u a r = (r ≡ 6) × (row_words * u.plan.views ≤ length a.tally)

-- both are refused alike, or both leave a run just opened, and those are level
opening-either : (u : Setup) (a : State) (run : Run) (f : Form) (ws : List ℕ) (Rel : After → After → Type 0)
    → ((r : ℕ) → Rel (refused a r) (refused (beside a run f ws) r))
    → (LevelAfter (done (opened u a)) (done (opened u (beside a run f ws))) → Rel (done (opened u a)) (done (opened u (beside a run f ws))))
    → Unless Rel (Short u a) (opening u a) (opening u (beside a run f ws))
unfolding opening
opening-either u a run f ws Rel refusals level =
    by-judged-two (Unless Rel (Short u a)) (refused a) (refused b) before _ _ (λ r _ _. refusals r)
    (λ c. by-check Rel (Short u a) a b refusals 6 (lengths_outside a.form u.plan t (length a.network))
    (lengths_outside f u.plan t (length ws)) _ _ six
    (λ p q. by-judged-two (Unless Rel (Short u a)) (refused a) (refused b) behind _ _ (λ r _ _. refusals r)
    (λ d _ _. level (opened-same u a run f ws (c.0, (c.1.0, (c.1.1.0, (c.1.1.1.0, (p, d))))) (c.0, (c.1.0, (c.1.1.0, (c.1.1.1.0, (q, d)))))))))
  where
    b : State
    b = beside a run f ws

    t : ℕ
    t = length a.tally

    before : List Check
    before = (2, n_outside u.plan) ∷ (3, delays_outside u.plan) ∷ (4, views_outside u.plan) ∷ (5, faulty_outside u.plan u.faulty) ∷ []

    behind : List Check
    behind = (7, start_too_high u.plan u.faulty u.clocks) ∷ (8, too_far_ahead u.plan u.faulty u.clocks) ∷ []

    six : (lengths_outside a.form u.plan t (length a.network) ≡ lengths_outside f u.plan t (length ws)) ⊎ Short u a 6
    six = ⊎_elim (λ (h : row_words * u.plan.views ≤ t). inr (refl, h))
        (λ (h : t < row_words * u.plan.views). inl (let e : ltb t (row_words * u.plan.views) ≡ true = T_true _ (lt→ltb _ _ h) in rw e refl))
        (le? (row_words * u.plan.views) t)

-- ---- schedules

abbrev Alike : State → State → List Line → Type 0
Alike a b ls = (line_answers a ls ≡ line_answers b ls) × HeldAlike (after_lines a ls) (after_lines b ls)

not_short : (u : Setup) (a : State) → (T (refused_for_network (opens u) a) → ⊥) → Short u a (check_of (opening u a).answer) → ⊥
not_short u a x s = x (T_and (eqb (check_of (opening u a).answer) 6) _ (eq→eqb _ _ s.0) (le→leb _ _ s.1))

line_same : {a : State} {f : Form} {ws : List ℕ} (l : Level a f ws) (t : Line) → (T (refused_for_network t a) → ⊥) → (T (refused_for_network t (other a f ws)) → ⊥)
    → LevelAfter (line_after t a) (line_after t (other a f ws))
line_same {a} {f} {ws} l (opens u) x y =
    opening-either u a a.run f ws LevelAfter (refused-same l) (λ z. z) (not_short u a x) (not_short u (other a f ws) y)
line_same l (happens e) x y = event-same l e (λ s. x (eq→eqb _ _ s)) (λ s. y (eq→eqb _ _ s))

schedule-alike : (ls : List Line) {a : State} {f : Form} {ws : List ℕ} → Level a f ws → CanHold a ls → CanHold (other a f ws) ls
    → Alike a (other a f ws) ls
unfolding line_answers after_lines CanHold
schedule-alike [] l x y = (refl, level-alike l)
schedule-alike (t ∷ ls) {a} {f} {ws} l x y =
    let z = line_same l t x.0 y.0 in
    let r : Alike (line_after t a).state (line_after t (other a f ws)).state ls =
    subst (λ (s : State). CanHold s ls → Alike (line_after t a).state s ls) (sym z.state) (schedule-alike ls z.level x.1) y.1 in
    (λ i. z.answer i ∷ r.0 i, r.1)

-- the answers are the same, and so are those to the lines that follow
abbrev GoesOn : List Line → After → After → Type 0
GoesOn ls x y = CanHold x.state ls → CanHold y.state ls → (x.answer ≡ y.answer) × Alike x.state y.state ls

level-goes : (ls : List Line) {x y : After} → LevelAfter x y → GoesOn ls x y
level-goes ls {x} {y} z h k =
    (z.answer, subst (λ (s : State). CanHold s ls → Alike x.state s ls) (sym z.state) (schedule-alike ls z.level h) k)

-- after one line
line-then : (t : Line) (ls : List Line) (a b : State) → CanHold a (t ∷ ls) → CanHold b (t ∷ ls) → GoesOn ls (line_after t a) (line_after t b)
    → Alike a b (t ∷ ls)
unfolding line_answers after_lines CanHold
line-then t ls a b x y go = let r = go x.1 y.1 in (λ i. r.0 i ∷ r.1.0 i, r.1.1)

first-held : (t : Line) (ls : List Line) (a : State) → CanHold a (t ∷ ls) → T (refused_for_network t a) → ⊥
unfolding CanHold
first-held t ls a x = x.0

-- ---- from sound runs that hold the same

module _ (a : State) (sound : unsound a ≡ false) where
  pub sound-lasting : Lasts a
  sound-lasting = lasts-of a (sound-of a (λ t. subst T sound t))

  pub sound-long : network_outside a.form a.run.plan (length a.network) ≡ false
  sound-long = network-within a.form a.run.plan (length a.tally) (length a.network)
      (neither (plan_outside a.run.plan || faulty_outside a.run.plan a.run.faulty) (buffers_outside a) sound-lasting.limits).1

sound-level : (a : State) (f : Form) (ws : List ℕ) → unsound a ≡ false → unsound (other a f ws) ≡ false
    → ((i : ℕ) → i < a.run.held → held_in a i ≡ held_in (other a f ws) i) → Level a f ws
sound-level a f ws x y same =
    let b : State = other a f ws in
    let u : Lasts a = sound-lasting a x in
    let v : Lasts b = sound-lasting b y in
    record {
      messages = u.messages;
      here = u.wire;
      there = rw (same-flight u.wire v.wire (lasts-named a u) (lasts-named b v) same) v.wire;
      named = lasts-named a u;
      long_here = sound-long a x;
      long_there = sound-long b y;
    }

-- ---- from unsound runs

-- until one is opened, each line is refused alike and changes nothing
unsound-alike : (ls : List Line) (a : State) (f : Form) (ws : List ℕ) → unsound a ≡ true → unsound (other a f ws) ≡ true → HeldAlike a (other a f ws)
    → CanHold a ls → CanHold (other a f ws) ls → Alike a (other a f ws) ls
unfolding line_answers after_lines
unsound-alike [] a f ws x y same h k = (refl, same)
unsound-alike (happens e ∷ ls) a f ws x y same h k = line-then (happens e) ls a b h k
    (subst (λ (w : After). GoesOn ls w (applied e b)) (sym (refused-unsound e a x))
    (subst (λ (w : After). GoesOn ls (refused a r) w) (sym (refused-unsound e b y)) (λ h' k'. (refl, unsound-alike ls a f ws x y same h' k'))))
  where
    b : State
    b = other a f ws

    r : ℕ
    r = cond (lacks_form e) 1 9
unsound-alike (opens u ∷ ls) a f ws x y same h k = line-then (opens u) ls a (other a f ws) h k
    (opening-either u a a.run f ws (GoesOn ls) (λ r h' k'. (refl, unsound-alike ls a f ws x y same h' k')) (level-goes ls)
    (not_short u a (first-held (opens u) ls a h)) (not_short u (other a f ws) (first-held (opens u) ls (other a f ws) k)))

pub answered-alike : AnsweredAlike
answered-alike a b sound same ls = subst (λ (s : State). CanHold a ls → CanHold s ls → Alike a s ls) is (go (unsound a) refl)
  where
    is : other a b.form b.network ≡ b
    is = λ i. record { run = same.run i; tally = same.tally i; network = b.network; form = b.form }

    go : (v : Bool) → unsound a ≡ v → CanHold a ls → CanHold (other a b.form b.network) ls → Alike a (other a b.form b.network) ls
    go false e = schedule-alike ls (sound-level a b.form b.network e (ap unsound is ∙ sym sound ∙ e) (λ i l. same.held i l))
    go true e = unsound-alike ls a b.form b.network e (ap unsound is ∙ sym sound ∙ e)
        (record { run = refl; tally = refl; held = λ i l. same.held i l })

-- ---- from an opening

pub alike-from-opening : AlikeFromOpening
alike-from-opening a b e u x ls = subst (λ (s : State). CanHold a (opens u ∷ ls) → CanHold s (opens u ∷ ls) → Alike a s (opens u ∷ ls)) is
    (λ h k. line-then (opens u) ls a at-hand h k
    (opening-either u a b.run b.form b.network (λ v w. T (accepted v.answer) → GoesOn ls v w) (λ r t. absurd t) (λ z t. level-goes ls z)
    (not_short u a (first-held (opens u) ls a h)) (not_short u at-hand (first-held (opens u) ls at-hand k)) x))
  where
    at-hand : State
    at-hand = beside a b.run b.form b.network

    is : at-hand ≡ b
    is = λ i. record { run = b.run; tally = e i; network = b.network; form = b.form }
