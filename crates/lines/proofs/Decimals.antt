-- The laws of a number's digits. Assumes nothing.
use mathlib.Core.Path.{◌≡◌, sym, ap}
use mathlib.Core.Bool.{Bool, true, false, cond}
use Prim.Native.Nat.{ℕ, zero, suc, ◌+◌, ◌/◌, ◌%◌, ◌^◌, ◌≤◌, ◌<◌}
use native.Mathlib.Nat.{pow-suc, div-lt_iff_lt-mul, zero-lt-suc}
use native.Mathlib.Omega.{arith}
use mathlib.Core.List.{List, [], ◌∷◌, ◌++◌}
use lib.ListN.{length, length-append}
use lib.Dec.{ltb}
use borrow.Author.Tests.{lt-ltb, le-ltb}
use Rattle.lines.specs.Decimal.{digit, digits_in, decimal, field_limit}

-- room for more digits than a number has changes nothing
digits_more : (k n : ℕ) → n < 10 ^ suc k → digits_in (suc k) n ≡ digits_in k n
digits_more zero n h = rw (lt-ltb n 10 h)
digits_more (suc k) n h =
    let b : n / 10 < 10 ^ suc k = (div-lt_iff_lt-mul (zero-lt-suc 9)).1 (rw (pow-suc 10 (suc k)) at h) in
    ap (λ (l : List ℕ). cond (ltb n 10) (digit n ∷ []) (l ++ (digit (n % 10) ∷ []))) (digits_more k (n / 10) b)

pub decimal-small : (n : ℕ) → n < 10 → decimal n ≡ digit n ∷ []
unfolding decimal
decimal-small n h = rw (lt-ltb n 10 h)

pub decimal-large : (n : ℕ) → n < field_limit → 10 ≤ n → decimal n ≡ decimal (n / 10) ++ (digit (n % 10) ∷ [])
unfolding decimal
decimal-large n h l =
    let b : n / 10 < 10 ^ 19 = omega arith in
    rw (le-ltb n 10 l) (ap (λ (w : List ℕ). w ++ (digit (n % 10) ∷ [])) (sym (digits_more 18 (n / 10) b)))

pub length-small : (n : ℕ) → n < 10 → length (decimal n) ≡ 1
length-small n h = rw (decimal-small n h)

pub length-large : (n : ℕ) → n < field_limit → 10 ≤ n → length (decimal n) ≡ length (decimal (n / 10)) + 1
length-large n h l = rw (decimal-large n h l) (length-append (decimal (n / 10)) (digit (n % 10) ∷ []))

in-most : (k n : ℕ) → length (digits_in k n) ≤ suc k
in-most zero n = omega arith
in-most (suc k) n = go (ltb n 10) (in-most k (n / 10))
  where
    go : (t : Bool) → length (digits_in k (n / 10)) ≤ suc k → length (cond t (digit n ∷ []) (digits_in k (n / 10) ++ (digit (n % 10) ∷ []))) ≤ suc (suc k)
    go true h = omega arith
    go false h = rw length-append (omega arith)

pub length_most : (n : ℕ) → length (decimal n) ≤ 20
unfolding decimal
length_most n = in-most 19 n
