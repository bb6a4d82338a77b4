-- What scans of the numbers below k say of each of them. Assumes nothing.
use Rattle.std.specs.Prelude.{◌≡◌, refl, Bool, true, false, ◌||◌, cond, ◌⊎◌, [], ◌∷◌, ◌++◌, ℕ, zero, suc, ◌+◌, ◌≤◌, ◌<◌, T, ltb, length, get_or}
use Rattle.std.proofs.Common.{sym, subst, ◌∙◌, inl, inr, arith, add-one, ltb→lt, lt-ltb, le-ltb, length-append}
use Rattle.std.proofs.Math.ListN.{get_or-append}
use Rattle.std.proofs.lemmas.List.{get_or_at}
use Rattle.base.specs.Tests.{or_left, or_right, or_cases, T_true, T_false, le?, by_cond}
use Rattle.base.specs.Choice.{or-first, or-second, or-neither}
use Rattle.base.specs.Scan.{some, first, listed}

-- one that passes is enough
pub some-by : (f : ℕ → Bool) (k i : ℕ) → i < k → T (f i) → T (some f k)
unfolding some
some-by f zero i l t = absurd (omega arith)
some-by f (suc k) i l t = go (some-by f k i) (le? (suc i) k)
  where
    go : (i < k → T (f i) → T (some f k)) → (i < k) ⊎ (k < suc i) → T (some f k || f k)
    go ih (inl h) = or_left (some f k) (f k) (ih h t)
    go ih (inr h) = let e : i ≡ k = omega arith in or_right (some f k) (f k) (rw e at t)

pub some-gives : (f : ℕ → Bool) (k : ℕ) → T (some f k) → (i : ℕ) × (i < k) × T (f i)
unfolding some
some-gives f zero t = absurd t
some-gives f (suc k) t = go (some-gives f k) (or_cases (some f k) (f k) t)
  where
    go : (T (some f k) → (i : ℕ) × (i < k) × T (f i)) → T (some f k) ⊎ T (f k) → (i : ℕ) × (i < suc k) × T (f i)
    go ih (inl h) = let r = ih h in (r.0, omega (arith, r.1), r.2)
    go ih (inr h) = (k, omega arith, h)

-- none passes
pub some-none : (f : ℕ → Bool) (k : ℕ) → ((i : ℕ) → i < k → T (f i) → ⊥) → some f k ≡ false
some-none f k h = T_false (some f k) (λ t. let r = some-gives f k t in h r.0 r.1 r.2)

-- the same, as a loop over the numbers asks it: before the first; none so far and not here; here; none at the end
pub some-start : (f : ℕ → Bool) → some f 0 ≡ false
unfolding some
some-start f = refl

pub some-on : (f : ℕ → Bool) (k : ℕ) → some f k ≡ false → f k ≡ false → some f (k + 1) ≡ false
unfolding some
some-on f k e h = rw (add-one, e, h)

pub some-here : (f : ℕ → Bool) (k i : ℕ) → i < k → f i ≡ true → some f k ≡ true
some-here f k i l e = T_true (some f k) (some-by f k i l (rw e tt))

pub some_below : (f : ℕ → Bool) (k i : ℕ) → some f i ≡ false → k ≤ i → some f k ≡ false
some_below f k i e l = some-none f k (λ j h t. rw e at (some-by f i j (omega arith) t))

-- none passes, so this one does not
pub some-not : (f : ℕ → Bool) (k i : ℕ) → some f k ≡ false → i < k → f i ≡ false
some-not f k i e l = T_false (f i) (λ t. rw e at (some-by f k i l t))

pub some-ext : (f g : ℕ → Bool) (k : ℕ) → ((i : ℕ) → i < k → f i ≡ g i) → some f k ≡ some g k
unfolding some
some-ext f g zero h = refl
some-ext f g (suc k) h = rw (some-ext f g k (λ i l. h i (omega arith)), h k (omega arith)) refl

pub first-ext : (f g : ℕ → Bool) (k : ℕ) → ((i : ℕ) → i < k → f i ≡ g i) → first f k ≡ first g k
unfolding first
first-ext f g zero h = refl
first-ext f g (suc k) h = rw (first-ext f g k (λ i l. h i (omega arith)), h k (omega arith)) refl

pub first-at : (f : ℕ → Bool) (k : ℕ) → first f k < k → T (f (first f k))
unfolding first
first-at f zero h = absurd (omega arith)
first-at f (suc k) h =
    by_cond (λ (x : ℕ). x < suc k → T (f x)) (ltb (first f k) k) (first f k) (cond (f k) k (suc k))
    (λ t l. first-at f k (ltb→lt _ _ t))
    (λ t. by_cond (λ (x : ℕ). x < suc k → T (f x)) (f k) k (suc k) (λ u l. u) (λ u l. absurd (omega arith))) h

pub first-le : (f : ℕ → Bool) (k : ℕ) → first f k ≤ k
unfolding first
first-le f zero = omega arith
first-le f (suc k) =
    by_cond (λ (x : ℕ). x ≤ suc k) (ltb (first f k) k) (first f k) (cond (f k) k (suc k))
    (λ t. omega (arith, first-le f k))
    (λ t. by_cond (λ (x : ℕ). x ≤ suc k) (f k) k (suc k) (λ u. omega arith) (λ u. omega arith))

-- one passes exactly where the first is found
pub some_first : (f : ℕ → Bool) (k : ℕ) → some f k ≡ ltb (first f k) k
unfolding some first
some_first f zero = refl
some_first f (suc k) =
    let ih : some f k ≡ ltb (first f k) k = some_first f k in
    by_cond (λ (x : ℕ). (some f k || f k) ≡ ltb x (suc k)) (ltb (first f k) k) (first f k) (cond (f k) k (suc k))
    (λ t. let l : first f k < suc k = omega (arith, ltb→lt (first f k) k t) in or-first (some f k) (f k) (ih ∙ T_true _ t) ∙ sym (lt-ltb _ _ l))
    (λ n. by_cond (λ (x : ℕ). (some f k || f k) ≡ ltb x (suc k)) (f k) k (suc k)
    (λ t. or-second (some f k) (f k) (T_true _ t) ∙ sym (lt-ltb k (suc k) (omega arith)))
    (λ m. or-neither (some f k) (f k) (ih ∙ T_false _ n) (T_false _ m) ∙ sym (le-ltb (suc k) (suc k) (omega arith))))

-- one that passes is found
pub first_some : (f : ℕ → Bool) (k : ℕ) → T (some f k) → first f k < k
first_some f k t = ltb→lt _ _ (subst T (some_first f k) t)

pub length-listed : (f : ℕ → ℕ) (k : ℕ) → length (listed f k) ≡ k
unfolding listed
length-listed f zero = refl
length-listed f (suc k) = omega (arith, length-append (listed f k) (f k ∷ []), length-listed f k)

pub get_or-listed : (f : ℕ → ℕ) (k i : ℕ) → i < k → get_or (listed f k) i 0 ≡ f i
unfolding listed
get_or-listed f zero i l = absurd (omega arith)
get_or-listed f (suc k) i l = go (get_or-listed f k i) (le? (suc i) k)
  where
    go : (i < k → get_or (listed f k) i 0 ≡ f i) → (i < k) ⊎ (k < suc i) → get_or (listed f k ++ (f k ∷ [])) i 0 ≡ f i
    go ih (inl h) = get_or-append (listed f k) (f k ∷ []) 0 i (omega (arith, length-listed f k)) ∙ ih h
    go ih (inr h) = let e : i ≡ k = omega arith in rw e (get_or_at (listed f k) (f k) [] 0 k (length-listed f k))
