-- The target view: of f + 1 initial views in a row one has a correct leader. Assumes nothing.
use Rattle.std.specs.Prelude.{◌≡◌, ◌⊎◌, Bool}
use Rattle.std.proofs.Common.{ap, ◌∙◌, inl, inr, mod-eq_of_lt}
use Rattle.std.proofs.Math.Logic.{⊎_elim}
use Prim.Native.Nat.{ℕ, zero, suc, ◌+◌, ◌*◌, ◌/◌, ◌%◌, ◌≤◌, ◌<◌}
use native.Mathlib.Omega.{arith}
use Rattle.std.proofs.Math.Nat.{add-mod_right, mul-mod_right, mul-div_right, mul-le-mul_right, mul-pos, div-add-mod', mod-lt}
use Rattle.std.proofs.Math.Dec.{T}
use Rattle.base.specs.Tests.{passes?, le?}
use Rattle.base.specs.Count.{bit, bit_le, count, count-ext, count-some, count_low}
use Rattle.protocol.specs.Params.{Params, row, lead, Initial}
use Rattle.protocol.proofs.Quorum.{some-correct}
use Rattle.protocol.specs.Timed.{Target}

-- a part of the numbers below x misses no more members than it misses numbers
count-part : (x m : ℕ) (A : ℕ → Bool) → m ≤ x → count x A + m ≤ count m A + x
unfolding count
count-part zero m A h = let e : m ≡ 0 = omega arith in rw e (omega arith)
count-part (suc x) m A h = go (count-part x m A) (le? m x)
  where
    go : (m ≤ x → count x A + m ≤ count m A + x) → (m ≤ x) ⊎ (x < m) → count (suc x) A + m ≤ count m A + suc x
    go part (inl l) = omega (arith, part l, bit_le (A x))
    go part (inr l) = let e : m ≡ suc x = omega arith in rw e (omega arith)

-- a set below n has as many members when it is turned around
count_turn : (n a : ℕ) (A : ℕ → Bool) → count n (λ j. A ((a + j) % n)) ≡ count n A
unfolding count
count_turn n zero A =
    count-ext n (λ j. A ((zero + j) % n)) A (λ j l. ap A (ap (λ (x : ℕ). x % n) (omega arith) ∙ mod-eq_of_lt l))
count_turn n (suc a) A =
    let B : ℕ → Bool = λ j. A ((a + j) % n) in
    let e : count n (λ j. A ((suc a + j) % n)) ≡ count n (λ j. B (suc j)) =
    count-ext n (λ j. A ((suc a + j) % n)) (λ j. B (suc j)) (λ j l. ap (λ (x : ℕ). A (x % n)) (omega arith)) in
    let r : B n ≡ B 0 = ap A (add-mod_right a n ∙ ap (λ (x : ℕ). x % n) (omega arith)) in
    omega (arith, count_low n B, ap bit r, count_turn n a A)

module _ (π : Params) where
  open π use {n, f, k, gamma, correct, correct_below, correct_count, few_faulty, enough, k_positive, gamma_positive}

  -- among f + 1 processors in a row one is correct
  some-leader : (a : ℕ) → (j : ℕ) × (j < f + 1) × T (correct ((a + j) % n))
  some-leader a =
      count-some (f + 1) (λ j. correct ((a + j) % n))
      (omega (arith, count-part n (f + 1) (λ j. correct ((a + j) % n)) (omega (arith, few_faulty, enough)), count_turn n a correct, correct_count))

  -- a correct processor whose clock is at least that of each correct one below m
  Highest : (ℕ → ℕ) → ℕ → Type 0
  Highest clock m = (p : ℕ) × T (correct p) × ((r : ℕ) → r < m → T (correct r) → clock r ≤ clock p)

  highest : (clock : ℕ → ℕ) (p : ℕ) → T (correct p) → (m : ℕ) → Highest clock m
  unfolding Highest
  highest clock p c zero = (p, c, λ r l d. absurd (omega arith))
  highest clock p c (suc m) = go (highest clock p c m)
    where
      one_more : (s : ℕ) → (T (correct m) → clock m ≤ clock s) → ((r : ℕ) → r < m → T (correct r) → clock r ≤ clock s)
          → (r : ℕ) → r < suc m → T (correct r) → clock r ≤ clock s
      one_more s top below r l d =
          ⊎_elim (λ (x : r < m). below r x d) (λ (x : m < suc r). let e : r ≡ m = omega arith in rw e (top (rw e at d))) (le? (suc r) m)

      go : Highest clock m → Highest clock (suc m)
      go (s, d, below) = ⊎_elim (λ (l : clock m ≤ clock s). (s, d, one_more s (λ y. l) below))
          (λ (l : clock s < clock m). ⊎_elim
          (λ (y : T (correct m)). (m, y, one_more m (λ y'. omega arith) (λ r x e. omega (arith, below r x e))))
          (λ faulty. (s, d, one_more s (λ y. absurd (faulty y)) below)) (passes? (correct m)))
          (le? (clock m) (clock s))

  -- who has the largest correct clock
  pub max-clock : (clock : ℕ → ℕ) → (p : ℕ) × T (correct p) × ((r : ℕ) → T (correct r) → clock r ≤ clock p)
  unfolding Highest
  max-clock clock =
      let some = some-correct π correct (omega (arith, correct_count, few_faulty, enough)) in
      let x = highest clock some.0 some.1 n in
      (x.0, x.1, λ r c. x.2 r (correct_below r c) c)

  -- the target above the time M
  pub target : (M star : ℕ) → T (correct star) → (v : ℕ) × Target π M star v × (M < v * gamma)
  unfolding Initial lead row
  target M star c =
      let r : ℕ = M / (k * gamma) in
      let j = some-leader (r + 1) in
      let x : ℕ = r + 1 + j.0 in
      let e : k * x / k ≡ x = mul-div_right x k_positive in
      let positive : 0 < k * gamma = mul-pos k_positive gamma_positive in
      let parts : r * (k * gamma) + M % (k * gamma) ≡ M = div-add-mod' M (k * gamma) in
      let rest : M % (k * gamma) < k * gamma = mod-lt M positive in
      let up : j.0 * (k * gamma) ≤ f * (k * gamma) = mul-le-mul_right (k * gamma) (omega (arith, j.1)) in (
        k * x,
        record { initial = mul-mod_right k x; led = rw e j.2; star_correct = c; close = omega arith },
        omega arith,
      )
