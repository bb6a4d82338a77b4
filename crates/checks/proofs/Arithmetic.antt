-- What of check 5 follows by arithmetic. Assumes nothing.
use mathlib.Core.Path.{◌≡◌, sym, ◌∙◌}
use mathlib.Core.Logic.{⊎_elim}
use mathlib.Core.Bool.{false, not}
use Prim.Native.Nat.{ℕ, ◌*◌, ◌/◌, ◌^◌, ◌≤◌, ◌<◌}
use native.Mathlib.Omega.{arith}
use native.Mathlib.Nat.{div-eq_of_lt, le-div_iff_mul-le}
use lib.Dec.{eqb, leb}
use lib.Pow.{pow_mono, pow_pos}
use borrow.Author.Tests.{le-leb, lt-leb, eq-eqb, ne_eqb}
use Rattle.base.specs.Tests.{le?}
use Rattle.base.specs.Choice.{not_yes, not-no}

-- a set has no number at 64 or above
pub beyond-none : (n s : ℕ) → 64 ≤ n → s < 2 ^ 64 → leb (2 ^ n) s ≡ false
beyond-none n s l h = let b : s < 2 ^ n = omega (arith, pow_mono l) in lt-leb (2 ^ n) s b

-- a number at n or above, by what is left without the first n bits
pub beyond-shift : (n s : ℕ) → not (eqb (s / 2 ^ n) 0) ≡ leb (2 ^ n) s
beyond-shift n s = ⊎_elim
    (λ (l : 2 ^ n ≤ s). let m : 1 * 2 ^ n ≤ s = omega arith in
    let d : 1 ≤ s / 2 ^ n = (le-div_iff_mul-le (pow_pos n)).1 m in
    not-no _ (ne_eqb (s / 2 ^ n) 0 (λ e. absurd (omega arith))) ∙ sym (le-leb (2 ^ n) s l))
    (λ (l : s < 2 ^ n). not_yes _ (eq-eqb (s / 2 ^ n) 0 (div-eq_of_lt l)) ∙ sym (lt-leb (2 ^ n) s l))
    (le? (2 ^ n) s)
