-- How many numbers below m pass a test. Assumes nothing.
use Rattle.std.specs.Prelude.{◌≡◌, refl, Bool, true, false, not, ◌&&◌, ℕ, zero, suc, ◌+◌, ◌≤◌, ◌<◌, T}
use Rattle.std.proofs.Common.{ap, arith, lt_irrefl, add-one}

abbrev pub bit : Bool → ℕ
bit true = 1
bit false = 0

unfoldable pub count : ℕ → (ℕ → Bool) → ℕ
count zero A = 0
count (suc m) A = bit (A m) + count m A

pub bit_le : (b : Bool) → bit b ≤ 1
bit_le true = omega arith
bit_le false = omega arith

pub bit-mono : (a b : Bool) → (T a → T b) → bit a ≤ bit b
bit-mono true true h = omega arith
bit-mono true false h = absurd (h tt)
bit-mono false true h = omega arith
bit-mono false false h = omega arith

pub count-mono : (m : ℕ) (A B : ℕ → Bool) → ((p : ℕ) → p < m → T (A p) → T (B p)) → count m A ≤ count m B
unfolding count
count-mono zero A B h = omega arith
count-mono (suc m) A B h =
    let i : count m A ≤ count m B = count-mono m A B (λ p q. h p (omega arith)) in
    let j : bit (A m) ≤ bit (B m) = bit-mono (A m) (B m) (h m (omega arith)) in
    omega arith

pub count-ext : (m : ℕ) (A B : ℕ → Bool) → ((j : ℕ) → j < m → A j ≡ B j) → count m A ≡ count m B
unfolding count
count-ext zero A B h = refl
count-ext (suc m) A B h =
    let i : count m A ≡ count m B = count-ext m A B (λ j l. h j (omega arith)) in
    omega (arith, ap bit (h m (omega arith)))

bit-meet : (a b : Bool) → bit a + bit b ≤ bit (a && b) + 1
bit-meet true true = omega arith
bit-meet true false = omega arith
bit-meet false true = omega arith
bit-meet false false = omega arith

-- two sets below m meet in at least what their sizes are over m
pub count-meet : (m : ℕ) (A B : ℕ → Bool) → count m A + count m B ≤ count m (λ p. A p && B p) + m
unfolding count
count-meet zero A B = omega arith
count-meet (suc m) A B =
    let i : count m A + count m B ≤ count m (λ p. A p && B p) + m = count-meet m A B in
    let j : bit (A m) + bit (B m) ≤ bit (A m && B m) + 1 = bit-meet (A m) (B m) in
    omega arith

-- a set that is not empty has a member
pub count-some : (m : ℕ) (A : ℕ → Bool) → 0 < count m A → (p : ℕ) × (p < m) × T (A p)
unfolding count
count-some zero A h = absurd (lt_irrefl 0 h)
count-some (suc m) A h = go (A m) refl (count-some m A)
  where
    go : (b : Bool) → A m ≡ b → (0 < count m A → (p : ℕ) × (p < m) × T (A p)) → (p : ℕ) × (p < suc m) × T (A p)
    go true e ih = (m, omega arith, rw e tt)
    go false e ih = let r = ih (let b0 : bit (A m) ≡ 0 = ap bit e in omega arith) in (r.0, omega (arith, r.1), r.2)

-- a set and the rest
pub count-both : (m : ℕ) (A : ℕ → Bool) → count m A + count m (λ p. not (A p)) ≡ m
unfolding count
count-both zero A = refl
count-both (suc m) A = omega (arith, count-both m A, one (A m))
  where
    one : (b : Bool) → bit b + bit (not b) ≡ 1
    one true = refl
    one false = refl

-- the lowest number first
pub count_low : (m : ℕ) (A : ℕ → Bool) → count (suc m) A ≡ bit (A 0) + count m (λ p. A (suc p))
unfolding count
count_low zero A = refl
count_low (suc m) A = let ih = count_low m A in omega arith

-- as a loop over the numbers asks it: before the first, and one further
pub count-start : (A : ℕ → Bool) → count 0 A ≡ 0
unfolding count
count-start A = refl

pub count-on : (m : ℕ) (A : ℕ → Bool) → count (m + 1) A ≡ count m A + bit (A m)
unfolding count
count-on m A = rw add-one (omega arith)

pub count-le : (m : ℕ) (A : ℕ → Bool) → count m A ≤ m
count-le m A = omega (arith, count-both m A)
