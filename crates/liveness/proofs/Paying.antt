-- Every move pays for the messages that it posts: as many more are due for each view, and each names a view that there is. Assumes nothing.
use mathlib.Core.Path.{◌≡◌, refl, sym, ◌∙◌, subst}
use mathlib.Core.Bool.{Bool, true, false, not, ◌&&◌, ◌||◌}
use mathlib.Core.Logic.{⊎_elim}
use mathlib.Core.List.{List, [], ◌++◌}
use Prim.Native.Nat.{ℕ, zero, suc, ◌+◌, ◌*◌, ◌≤◌, ◌<◌}
use native.Mathlib.Omega.{arith}
use lib.Dec.{T, eqb, leb, T_not}
use lib.ListN.{length, get_or}
use lib.Seq.{set_out}
use Rattle.base.specs.Members.{Elem, elem-cases}
use Rattle.base.specs.Tests.{T-left, T-right, or_left, or_right, le?, eq?, eq→eqb}
use Rattle.base.specs.Sets.{member, insert, size}
use Rattle.base.specs.SetLaws.{member-insert}
use Rattle.types.specs.declared.Plan.{Plan}
use Rattle.types.specs.declared.Message.{Message}
use Rattle.types.specs.declared.Run.{Run}
use Rattle.types.specs.Quantities.{row_words, lead}
use Rattle.types.specs.Messages.{view_in}
use Rattle.model.specs.State.{view_of, entered_word, heard_word, marks_word, mark_bit, slot, word, added}
use Rattle.model.specs.Moves.{Change, changed, Entry, stay, into, entering, taking, entries, needed, ripe, forms, heard_tally, formed_messages, hearing}
use Rattle.model.specs.Traffic.{of_view}
use Rattle.liveness.proofs.TallyLaws.{length-added, added-same, added-other, added-only}
use Rattle.liveness.proofs.Bits.{entries-keeps}
use Rattle.liveness.proofs.Addressing.{entering-sends, hearing_sends}
use Rattle.liveness.proofs.Dues.{view-append, entry-once, certificate-once, Progress, due, Grows, grows-on, due-grows, entry-due, forming-due}

-- ---- the progress that a tally keeps

abbrev pub progress_of : List ℕ → Progress
progress_of t = record { entered = λ w p. member (word t w entered_word) p; formed = λ stage w. member (word t w marks_word) (mark_bit stage) }

-- a bit that was set stays set when one is added, whatever the length
added-old : (t : List ℕ) (w j p u i q : ℕ) → T (member (word t u i) q) → T (member (word (added t w j p) u i) q)
added-old t w j p u i q x = ⊎_elim here (λ ne. rw (added-other t w j p u i ne) x) (eq? (slot u i) (slot w j))
  where
    here : slot u i ≡ slot w j → T (member (word (added t w j p) u i) q)
    here e = subst (λ (z : ℕ). T (member (get_or (added t w j p) z 0) q)) (sym e) (⊎_elim
        (λ (l : suc (slot w j) ≤ length t). rw (added-same t w j p l, member-insert (word t w j) p q)
        (or_left (member (word t w j) q) (eqb q p) (subst (λ (z : ℕ). T (member (get_or t z 0) q)) e x)))
        (λ (l : length t < suc (slot w j)). rw (set_out t (slot w j) (insert (word t w j) p) (omega arith))
        (subst (λ (z : ℕ). T (member (get_or t z 0) q)) e x))
        (le? (suc (slot w j)) (length t)))

added-now : (t : List ℕ) (w j p : ℕ) → slot w j < length t → T (member (word (added t w j p) w j) p)
added-now t w j p long = rw (added-same t w j p long, member-insert (word t w j) p p) (or_right (member (word t w j) p) (eqb p p) (eq→eqb p p refl))

added-grows : (t : List ℕ) (w j p : ℕ) → Grows (progress_of t) (progress_of (added t w j p))
added-grows t w j p = record {
  entered = λ u q. added-old t w j p u entered_word q;
  formed = λ stage u. added-old t w j p u marks_word (mark_bit stage);
}

-- ---- what is posted is paid for

-- from the tally t to the tally t', the messages being posted
pub record Paid (plan : Plan) (t t' : List ℕ) (ms : List Message) : Type 0 where
  pub pays : (stage : Bool) (w : ℕ) → of_view stage w ms + due plan.n (progress_of t) stage w ≤ due plan.n (progress_of t') stage w
  pub low : (m : Message) → Elem m ms → view_in m < plan.views

module _ (plan : Plan) where
  pub paid-none : (t : List ℕ) → Paid plan t t []
  paid-none t = record { pays = λ stage w. omega arith; low = λ m i. absurd i }

  -- one after the other
  pub paid-on : (t t' t'' : List ℕ) (ms ms' : List Message) → Paid plan t t' ms → Paid plan t' t'' ms' → Paid plan t t'' (ms ++ ms')
  paid-on t t' t'' ms ms' x y = record {
    pays = λ stage w. omega (arith, x.pays stage w, y.pays stage w, view-append stage w ms ms');
    low = λ m i. ⊎_elim (λ j. x.low m j) (λ j. y.low m j) (elem-cases m ms ms' i);
  }

  -- and the more so if nothing is posted
  pub paid-less : (t t' : List ℕ) (ms : List Message) → Paid plan t t' ms → Paid plan t t' []
  paid-less t t' ms x = record { pays = λ stage w. omega (arith, x.pays stage w); low = λ m i. absurd i }

abbrev pub Pays : Run → List ℕ → Change → Type 0
Pays r t c = Paid r.plan t c.tally c.sent

-- the tally has a row for every view
abbrev pub Rows : Plan → List ℕ → Type 0
Rows plan t = row_words * plan.views ≤ length t

-- ---- entering

-- who enters a view has not entered it, and there is that view
abbrev pub Fresh : Plan → List ℕ → ℕ → Entry → Type 0
Fresh plan t p stay = Unit {0}
Fresh plan t p (into u) = (u < plan.views) × (T ((progress_of t).entered u p) → ⊥)

pub taking-pays : (r : Run) (t : List ℕ) (p : ℕ) (e : Entry) → p < r.plan.n → Rows r.plan t → Fresh r.plan t p e → Pays r t (taking r t p e)
unfolding taking entering
taking-pays r t p stay p-low rows f = paid-none r.plan t
taking-pays r t p (into u) p-low rows f = record {
  pays = λ stage w. omega (
    arith,
    entry-once r.plan r.faulty p u stage w,
    entry-due r.plan.n (progress_of t) (progress_of (added t u entered_word p)) (added-grows t u entered_word p) p u p-low f.1
        (added-now t u entered_word p (omega (arith, rows, f.0))) stage w,
  );
  low = λ m i. ((entering-sends r t p u p-low f.0).addressed m i).view_low;
}

-- nobody else enters
taking-only : (r : Run) (t : List ℕ) (k : ℕ) (e : Entry) (p u : ℕ) → k < p
    → T ((progress_of (taking r t k e).tally).entered u p) → T ((progress_of t).entered u p)
unfolding taking entering
taking-only r t k stay p u l x = x
taking-only r t k (into v) p u l x = ⊎_elim (λ y. y) (λ y. absurd (omega (arith, y.1))) (added-only t v entered_word k u entered_word p x)

module _ (e : ℕ → Entry) (r : Run) (t : List ℕ) where
  entries-only : (k p u : ℕ) → k ≤ p → T ((progress_of (entries e r t k).tally).entered u p) → T ((progress_of t).entered u p)
  unfolding entries
  entries-only zero p u l x = x
  entries-only (suc k) p u l x = let c = entries e r t k in entries-only k p u (omega arith) (taking-only (changed r c) c.tally k (e k) p u l x)

  -- one processor after the other: who enters had not entered at the start, and nobody else enters for it
  pub entries-pays : Rows r.plan t → ((p : ℕ) → Fresh r.plan t p (e p)) → (k : ℕ) → k ≤ r.plan.n → Pays r t (entries e r t k)
  unfolding entries
  entries-pays rows f zero l = paid-none r.plan t
  entries-pays rows f (suc k) l =
      let c = entries e r t k in
      let d = taking (changed r c) c.tally k (e k) in
      paid-on r.plan t c.tally d.tally c.sent d.sent (entries-pays rows f k (omega arith))
      (taking-pays (changed r c) c.tally k (e k) (omega arith) (rw same_length rows) (still-fresh (e k) (f k)))
    where
      same_length : length (entries e r t k).tally ≡ length t
      same_length = entries-keeps (λ (t' : List ℕ). length t' ≡ length t) (λ t' w j p x. length-added t' w j p ∙ x) e r t k refl

      still-fresh : (d : Entry) → Fresh r.plan t k d → Fresh r.plan (entries e r t k).tally k d
      still-fresh stay x = tt
      still-fresh (into u) x = (x.0, λ y. x.1 (entries-only k k u (omega arith) y))

-- ---- hearing

-- a certificate is formed once
heard-pays : (stage : Bool) (r : Run) (t : List ℕ) (v p : ℕ) (b : Bool) → v < r.plan.views → Rows r.plan t
    → (T b → T ((progress_of t).formed stage v) → ⊥) → (q : Bool) (w : ℕ)
    → of_view q w (formed_messages r.plan r.faulty stage v b) + due r.plan.n (progress_of t) q w
    ≤ due r.plan.n (progress_of (heard_tally t stage v p b)) q w
heard-pays stage r t v p false low rows fresh q w =
    omega (arith, due-grows r.plan.n (progress_of t) (progress_of (added t v (heard_word stage) p)) (added-grows t v (heard_word stage) p) q w)
heard-pays stage r t v p true low rows fresh q w =
    let heard : List ℕ = added t v (heard_word stage) p in
    let marked : List ℕ = added heard v marks_word (mark_bit stage) in
    omega (
      arith,
      certificate-once r.plan r.faulty stage v r.plan.n q w,
      forming-due r.plan.n (progress_of t) (progress_of marked)
          (grows-on (progress_of t) (progress_of heard) (progress_of marked) (added-grows t v (heard_word stage) p)
          (added-grows heard v marks_word (mark_bit stage)))
          stage v (fresh tt) (added-now heard v marks_word (mark_bit stage) (omega (arith, rows, low, length-added t v (heard_word stage) p))) q w,
    )

pub hearing-pays : (stage : Bool) (r : Run) (t : List ℕ) (v p : ℕ) → v < r.plan.views → Rows r.plan t → Pays r t (hearing stage r t v p)
unfolding hearing ripe
hearing-pays stage r t v p low rows = record {
  pays = heard-pays stage r t v p (forms stage r t v p) low rows (λ f. T_not formed-before
      (T-right enough (not formed-before) (T-left (enough && not formed-before) (stage || leb (view_of r (lead r.plan v)) v) f)));
  low = λ m i. ((hearing_sends r t stage v p low).addressed m i).view_low;
}
  where
    formed-before : Bool
    formed-before = member (word t v marks_word) (mark_bit stage)

    enough : Bool
    enough = leb (needed stage r.plan) (size (insert (word t v (heard_word stage)) p))
