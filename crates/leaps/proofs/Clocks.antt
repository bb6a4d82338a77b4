-- Clocks that go on: one processor after another, one tick more, and in words. Assumes nothing.
use Rattle.std.proofs.Common.{◌≡◌, ℕ, zero, suc, ◌+◌, ◌^◌, ◌<◌, ◌≤◌, min, Bool, true, false, cond, T, ◌⊎◌, List, length, get_or, set, sym, refl, ap, ◌∙◌, subst, ap₂, inl, inr, ⊎_elim, add-zero, add-one, arith, length-set, get_or-set_other, get_or-set_same, ext_get_or}
use lib.Seq.{set-get_or}
use Rattle.base.specs.Tests.{le?, by_cond}
use Rattle.types.specs.declared.Plan.{Plan}
use Rattle.types.specs.declared.Run.{Run}
use Rattle.types.specs.Quantities.{n_most, correct}
use Rattle.model.specs.State.{with_time, with_clocks, clock_of, is_correct}
use Rattle.model.specs.Moves.{clocks_on}
use Rattle.leaps.specs.Leaps.{clocks_by, more, more_word, leapt, leapt_word, Fits}

module _ (plan : Plan) (faulty : ℕ) (clocks : List ℕ) (f : ℕ → ℕ) where
  abbrev by : ℕ → List ℕ
  by k = clocks_by f plan faulty clocks k

  pub length-by : (k : ℕ) → length (by k) ≡ length clocks
  unfolding clocks_by
  length-by zero = refl
  length-by (suc k) = by_cond (λ (l : List ℕ). length l ≡ length clocks) (correct plan faulty k) (set (by k) k (f (get_or clocks k 0))) (by k)
      (λ t. length-set (by k) k (f (get_or clocks k 0)) ∙ length-by k) (λ t. length-by k)

  -- one that is not reached yet, or faulty
  by-stays : (k q : ℕ) → (q < k → correct plan faulty q ≡ false) → get_or (by k) q 0 ≡ get_or clocks q 0
  unfolding clocks_by
  by-stays zero q h = refl
  by-stays (suc k) q h = by_cond (λ (l : List ℕ). get_or l q 0 ≡ get_or clocks q 0) (correct plan faulty k) (set (by k) k (f (get_or clocks k 0))) (by k)
      (λ t. get_or-set_other (by k) k q (f (get_or clocks k 0)) 0 (λ (e : q ≡ k). subst T (ap (correct plan faulty) (sym e) ∙ h (omega arith)) t)
      ∙ by-stays k q (λ l. h (omega arith)))
      (λ t. by-stays k q (λ l. h (omega arith)))

  pub by-goes : (k q : ℕ) → k ≤ length clocks → q < k → correct plan faulty q ≡ true → get_or (by k) q 0 ≡ f (get_or clocks q 0)
  unfolding clocks_by
  by-goes zero q long l c = absurd (omega arith)
  by-goes (suc k) q long l c = ⊎_elim
      (λ (b : suc q ≤ k). by_cond (λ (x : List ℕ). get_or x q 0 ≡ f (get_or clocks q 0)) (correct plan faulty k) (set (by k) k (f (get_or clocks k 0))) (by k)
      (λ t. get_or-set_other (by k) k q (f (get_or clocks k 0)) 0 (omega arith) ∙ by-goes k q (omega arith) b c)
      (λ t. by-goes k q (omega arith) b c))
      (λ (b : k < suc q). let e : q ≡ k = omega arith in
      rw e (by_cond (λ (x : List ℕ). get_or x k 0 ≡ f (get_or clocks k 0)) (correct plan faulty k) (set (by k) k (f (get_or clocks k 0))) (by k)
      (λ t. get_or-set_same (by k) k (f (get_or clocks k 0)) 0 (omega (arith, length-by k)))
      (λ t. absurd (t (rw (ap (correct plan faulty) (sym e) ∙ c) tt)))))
      (le? (suc q) k)

  -- one processor more, as the loop writes it
  pub by-more : (q x : ℕ) → x ≡ cond (correct plan faulty q) (f (get_or (by q) q 0)) (get_or (by q) q 0) → set (by q) q x ≡ by (q + 1)
  unfolding clocks_by
  by-more q x e = rw (add-one, e) (go (correct plan faulty q))
    where
      here : get_or (by q) q 0 ≡ get_or clocks q 0
      here = by-stays q q (λ l. absurd (omega arith))

      go : (b : Bool) → set (by q) q (cond b (f (get_or (by q) q 0)) (get_or (by q) q 0)) ≡ cond b (set (by q) q (f (get_or clocks q 0))) (by q)
      go true = ap (λ (y : ℕ). set (by q) q (f y)) here
      go false = set-get_or (by q) q 0

  -- the same by another rule
  by-same : (g : ℕ → ℕ) → ((p : ℕ) → correct plan faulty p ≡ true → f (get_or clocks p 0) ≡ g (get_or clocks p 0)) → (k : ℕ) → by k ≡ clocks_by g plan faulty clocks k
  unfolding clocks_by
  by-same g h zero = refl
  by-same g h (suc k) = go (correct plan faulty k) refl (by-same g h k)
    where
      go : (b : Bool) → correct plan faulty k ≡ b → by k ≡ clocks_by g plan faulty clocks k
          → cond b (set (by k) k (f (get_or clocks k 0))) (by k) ≡ cond b (set (clocks_by g plan faulty clocks k) k (g (get_or clocks k 0))) (clocks_by g plan faulty clocks k)
      go true c e = ap₂ (λ (l : List ℕ) (x : ℕ). set l k x) e (h k c)
      go false c e = e

-- one tick is a leap of one
pub on-by : (r : Run) (k : ℕ) → clocks_on r k ≡ clocks_by (more 1) r.plan r.faulty r.clocks k
unfolding clocks_on clocks_by
on-by r zero = refl
on-by r (suc k) = ap (λ (l : List ℕ). cond (is_correct r k) (set l k (clock_of r k + 1)) l) (on-by r k)

-- a leap, and one tick more
module _ (plan : Plan) (faulty : ℕ) (clocks : List ℕ) (d n : ℕ) (long : n ≤ length clocks) where
  abbrev gone : List ℕ
  gone = clocks_by (more d) plan faulty clocks n

  pub by-then : clocks_by (more 1) plan faulty gone n ≡ clocks_by (more (suc d)) plan faulty clocks n
  by-then = ext_get_or 0 _ _ (length-by plan faulty gone (more 1) n ∙ length-by plan faulty clocks (more d) n ∙ sym (length-by plan faulty clocks (more (suc d)) n))
      (λ q l. each q)
    where
      each : (q : ℕ) → get_or (clocks_by (more 1) plan faulty gone n) q 0 ≡ get_or (clocks_by (more (suc d)) plan faulty clocks n) q 0
      each q = go (correct plan faulty q) refl (le? (suc q) n)
        where
          unmoved : (q < n → correct plan faulty q ≡ false) → get_or (clocks_by (more 1) plan faulty gone n) q 0 ≡ get_or (clocks_by (more (suc d)) plan faulty clocks n) q 0
          unmoved h = by-stays plan faulty gone (more 1) n q h ∙ by-stays plan faulty clocks (more d) n q h ∙ sym (by-stays plan faulty clocks (more (suc d)) n q h)

          go : (b : Bool) → correct plan faulty q ≡ b → (suc q ≤ n) ⊎ (n < suc q)
              → get_or (clocks_by (more 1) plan faulty gone n) q 0 ≡ get_or (clocks_by (more (suc d)) plan faulty clocks n) q 0
          go true c (inl l) = omega (
            arith,
            by-goes plan faulty gone (more 1) n q (omega (arith, length-by plan faulty clocks (more d) n)) l c,
            by-goes plan faulty clocks (more d) n q long l c,
            by-goes plan faulty clocks (more (suc d)) n q long l c,
          )
          go true c (inr l) = unmoved (λ h. absurd (omega arith))
          go false c w = unmoved (λ h. c)

-- no tick at all
pub by-none : (plan : Plan) (faulty : ℕ) (clocks : List ℕ) (k : ℕ) → clocks_by (more 0) plan faulty clocks k ≡ clocks
unfolding clocks_by
by-none plan faulty clocks zero = refl
by-none plan faulty clocks (suc k) = by_cond (λ (l : List ℕ). l ≡ clocks) (correct plan faulty k)
    (set (clocks_by (more 0) plan faulty clocks k) k (get_or clocks k 0 + 0)) (clocks_by (more 0) plan faulty clocks k)
    (λ t. ap₂ (λ (l : List ℕ) (x : ℕ). set l k x) (by-none plan faulty clocks k) (add-zero (get_or clocks k 0)) ∙ set-get_or clocks k 0)
    (λ t. by-none plan faulty clocks k)

-- ---- in words

word_fits : (d x : ℕ) → x + d < 2 ^ 64 → more_word d x ≡ more d x
word_fits d x l = omega arith

pub leap-exact : (r : Run) (d : ℕ) → Fits r d → leapt_word r d ≡ leapt r d
leap-exact r d fits =
    let n : min r.plan.n n_most ≡ r.plan.n = omega (arith, fits.processors) in
    ap₂ (λ (t : ℕ) (c : List ℕ). with_time t (with_clocks c r))
    (word_fits d r.time fits.time)
    (by-same r.plan r.faulty r.clocks (more_word d) (more d) (λ p c. word_fits d (clock_of r p) (fits.clocks p c)) (min r.plan.n n_most)
    ∙ ap (clocks_by (more d) r.plan r.faulty r.clocks) n)
