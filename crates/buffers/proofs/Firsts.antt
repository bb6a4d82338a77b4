-- The first number that passes, found by trying them in turn. Assumes nothing.
use mathlib.Core.Path.{◌≡◌, refl}
use mathlib.Core.Bool.{Bool, true, false}
use Prim.Native.Nat.{ℕ, zero, suc, ◌+◌, ◌-◌, ◌≤◌, ◌<◌}
use native.Mathlib.Omega.{arith}
use native.Mathlib.Numerals.{add-one}
use lib.Dec.{ltb}
use borrow.Author.Tests.{lt-ltb, le-ltb}
use Rattle.base.specs.Scan.{first}

pub first-none : (f : ℕ → Bool) → first f 0 ≡ 0
unfolding first
first-none f = refl

same-no : (k : ℕ) → ltb k k ≡ false
same-no k = let l : k ≤ k = omega arith in le-ltb k k l

pub first_more : (f : ℕ → Bool) (k : ℕ) → first f k ≡ k → f k ≡ false → first f (k + 1) ≡ k + 1
unfolding first
first_more f k e h = rw (add-one, e, same-no, h)

here : (f : ℕ → Bool) (k : ℕ) → first f k ≡ k → f k ≡ true → first f (suc k) ≡ k
unfolding first
here f k e h = rw (e, same-no, h)

further : (f : ℕ → Bool) (i j : ℕ) → first f i ≡ i → f i ≡ true → first f (j + suc i) ≡ i
unfolding first
further f i zero e h = let z : 0 + suc i ≡ suc i = omega arith in rw z (here f i e h)
further f i (suc j) e h =
    let z : suc j + suc i ≡ suc (j + suc i) = omega arith in
    let l : i < j + suc i = omega arith in
    let q : first f (j + suc i) ≡ i = further f i j e h in
    rw (z, q, lt-ltb i (j + suc i) l)

pub first-yes : (f : ℕ → Bool) (k i : ℕ) → first f i ≡ i → f i ≡ true → i < k → first f k ≡ i
first-yes f k i e h l = let z : k ≡ (k - suc i) + suc i = omega arith in rw z (further f i (k - suc i) e h)
