-- How many ticks bring no clock to an initial view: what the words give, and that no clock of a steady run arrives. Assumes nothing.
use Rattle.std.proofs.Common.{◌≡◌, List, ℕ, zero, suc, ◌+◌, ◌-◌, ◌<◌, ◌≤◌, min, Bool, true, false, cond, ◌||◌, ltb, leb, sym, refl, ap, ◌∙◌, ⊎_elim, add-one, arith, ltb-false, le-ltb, leb-false}
use borrow.Author.Tests.{lt-leb}
use Rattle.base.specs.Tests.{le?}
use Rattle.base.specs.Choice.{cond_yes, or-neither, or_parts}
use Rattle.types.specs.declared.Plan.{Plan}
use Rattle.types.specs.declared.Run.{Run}
use Rattle.types.specs.Quantities.{next_initial, clock_time, end_time}
use Rattle.types.specs.Traffic.{no_traffic}
use Rattle.types.specs.PlanFunctions.{next_initial_word, clock_time_word}
use Rattle.model.specs.State.{clock_of, view_of, is_correct}
use Rattle.model.specs.Checks.{clock_outside, at_end}
use Rattle.liveness.proofs.Answers.{no-yes}
use Rattle.liveness.proofs.Link.{correct_below}
use Rattle.pacemaker.specs.Limits.{Within}
use Rattle.pacemaker.proofs.LimitLaws.{next-within, next_word, next-before-end, time-word, past-views}
use Rattle.leaps.specs.Leaps.{Steady, rest_for, rest_below, seated, rest, Rests}

-- ---- a clock inside its view's slots

-- the three bounds of check 9 on a clock
pub clock-inside : (plan : Plan) (clock view : ℕ) → clock < end_time plan → clock_time plan view ≤ clock → clock < clock_time plan (next_initial plan view)
    → clock_outside plan clock view ≡ false
clock-inside plan clock view a b c = or-neither (at_end plan clock || ltb clock (clock_time plan view)) _
    (or-neither (at_end plan clock) _ (lt-leb _ _ a) (le-ltb _ _ b)) (lt-leb _ _ c)

module _ (plan : Plan) (ok : Within plan) (clock view : ℕ) (inside : clock_outside plan clock view ≡ false) where
  view_low : view < plan.views
  view_low = ⊎_elim (λ (l : plan.views ≤ view). no-yes (sym (past-views plan clock view l) ∙ inside)) (λ (l : view < plan.views). l) (le? plan.views view)

  -- where the next initial view's clock time is, in words
  pub next-time : (next time : ℕ) → next ≡ next_initial_word plan view → time ≡ clock_time_word plan next → time ≡ clock_time plan (next_initial plan view)
  next-time next time e f =
      let n : next ≡ next_initial plan view = e ∙ next_word plan ok view view_low in
      f ∙ ap (clock_time_word plan) n ∙ time-word plan ok (next_initial plan view) (next-within plan ok view view_low)

  pub next_small : clock_time plan (next_initial plan view) ≤ end_time plan
  next_small = next-before-end plan ok view view_low

  pub before-next : clock < clock_time plan (next_initial plan view)
  before-next = leb-false _ _ (or_parts (at_end plan clock || ltb clock (clock_time plan view)) (leb (clock_time plan (next_initial plan view)) clock) inside).1

  pub from_view : clock_time plan view ≤ clock
  from_view = ltb-false _ _ (or_parts (at_end plan clock) (ltb clock (clock_time plan view))
      (or_parts (at_end plan clock || ltb clock (clock_time plan view)) (leb (clock_time plan (next_initial plan view)) clock) inside).0).1

-- ---- one processor after another

few-for : (b : Bool) (x most : ℕ) → cond b (min x most) most ≤ most
few-for true x most = omega arith
few-for false x most = omega arith

module _ (r : Run) (most : ℕ) where
  -- one processor more, as the loop asks it
  pub rest_more : (q w x : ℕ) → w ≡ rest_below r most q → x ≡ rest_for r.plan r.faulty q (clock_of r q) (view_of r q) w → x ≡ rest_below r most (q + 1)
  unfolding rest_below
  rest_more q w x e f = rw add-one (f ∙ ap (rest_for r.plan r.faulty q (clock_of r q) (view_of r q)) e)

  -- more processors let no more ticks pass
  below-falls : (k n : ℕ) → k ≤ n → rest_below r most n ≤ rest_below r most k
  unfolding rest_below
  below-falls k zero l = let e : k ≡ 0 = omega arith in rw e (omega arith)
  below-falls k (suc n) l = ⊎_elim
      (λ (b : k ≤ n). omega (
        arith,
        below-falls k n b,
        few-for (is_correct r n) (clock_time_word r.plan (next_initial_word r.plan (view_of r n)) - 1 - clock_of r n) (rest_below r most n),
      ))
      (λ (b : n < k). let e : k ≡ suc n = omega arith in rw e (omega arith))
      (le? k n)

  all-few : (k : ℕ) → rest_below r most k ≤ most
  unfolding rest_below
  all-few k = below-falls 0 k (omega arith)

  -- so where none is left, none is at the end
  pub rest-none : (q n : ℕ) → q ≤ n → 0 ≡ rest_below r most q → 0 ≡ rest_below r most n
  rest-none q n l e = omega (arith, below-falls q n l)

-- ---- tables of any lengths

-- a run that has them, all that is not asked being 0
abbrev pub of_tables : Plan → ℕ → List ℕ → List ℕ → Run
of_tables plan faulty clocks views =
    record { plan = plan; faulty = faulty; time = 0; settled = false; gst = 0; held = 0; clocks = clocks; views = views; traffic = no_traffic }

own-tables : (r : Run) (most k : ℕ) → rest_below (of_tables r.plan r.faulty r.clocks r.views) most k ≡ rest_below r most k
unfolding rest_below
own-tables r most zero = refl
own-tables r most (suc k) = ap (rest_for r.plan r.faulty k (clock_of r k) (view_of r k)) (own-tables r most k)

-- every run that has them rests as long
pub rest-tables : (plan : Plan) (faulty : ℕ) (clocks views : List ℕ) (most : ℕ) (r : Run) → r.plan ≡ plan → r.faulty ≡ faulty → r.clocks ≡ clocks → r.views ≡ views
    → rest (of_tables plan faulty clocks views) most ≡ rest r most
rest-tables plan faulty clocks views most r p f c v = sym (λ i. rest (of_tables (p i) (f i) (c i) (v i)) most) ∙ own-tables r most (seated r)

-- ---- a steady run

module _ (r : Run) (steady : Steady r) (most : ℕ) where
  -- one of its correct clocks, with the next initial view's clock time as document 01 has it
  at_one : (p : ℕ) → is_correct r p ≡ true
      → min (clock_time r.plan (next_initial r.plan (view_of r p)) - 1 - clock_of r p) (rest_below r most p) ≡ rest_below r most (suc p)
  unfolding rest_below
  at_one p c = cond_yes (is_correct r p) _ _ (rest_below r most p) c (ap (λ (t : ℕ). min (t - 1 - clock_of r p) (rest_below r most p))
      (sym (next-time r.plan steady.plan (clock_of r p) (view_of r p) (steady.inside p c) _ _ refl refl)))

  below-rests : (k p : ℕ) → p < k → is_correct r p ≡ true → clock_of r p + rest_below r most k < clock_time r.plan (next_initial r.plan (view_of r p))
  below-rests k p l c =
      omega (
        arith,
        at_one p c,
        below-falls r most (suc p) k l,
        before-next r.plan steady.plan (clock_of r p) (view_of r p) (steady.inside p c),
      )

  pub rest-rests : Rests r most (rest r most)
  rest-rests =
      let n : seated r ≡ r.plan.n = omega (arith, steady.clocks, steady.views) in
      record {
        few = all-few r most (seated r);
        quiet = λ p c. below-rests (seated r) p (omega (arith, n, correct_below r.plan r.faulty p (rw c tt))) c;
      }
