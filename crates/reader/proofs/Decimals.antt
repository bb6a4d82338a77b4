-- A text that is read as a number is its decimal, and its decimal is read as it. Assumes nothing.
use mathlib.Core.Path.{◌≡◌, refl, sym, ap, ◌∙◌, subst}
use Prim.Native.Nat.{ℕ, ◌+◌, ◌<◌}
use native.Mathlib.Nat.{le_of_eq}
use native.Mathlib.Omega.{arith}
use mathlib.Core.Bool.{cond}
use mathlib.Core.List.{List, [], ◌++◌, append-nil}
use lib.ListN.{length, drop_of_length-le}
use lib.Dec.{eqb, eqb→eq}
use borrow.Author.Tests.{eq-eqb}
use Rattle.base.specs.Tests.{by_cond}
use Rattle.lines.specs.Decimal.{decimal, field_limit}
use Rattle.std.specs.Prelude.{Option, Some, None}
use Rattle.reader.specs.Scan.{on_number, number_at}
use Rattle.reader.specs.Decimals.{decimal_of, ReadsDecimal}
use Rattle.reader.proofs.Numbers.{number-back, Counted, number-only}

-- the text is the decimal of the number that it is read as
abbrev DecimalRead : List ℕ → Option ℕ → Type 0
DecimalRead s (Some n) = (n < field_limit) × (s ≡ decimal n)
DecimalRead s None = Unit {0}

decimal-only : (s : List ℕ) → DecimalRead s (decimal_of s)
unfolding decimal_of
decimal-only s = go (number_at s 0) (number-only s 0)
  where
    go : (x : Option (ℕ × ℕ)) → Counted s 0 x → DecimalRead s (on_number x (λ n k. cond (eqb k (length s)) (Some n) None) None)
    go (Some (n, k)) c =
        by_cond (DecimalRead s) (eqb k (length s)) (Some n) None
        (λ q. (c.0, c.1 ∙ ap (λ (r : List ℕ). decimal n ++ r) (drop_of_length-le s (le_of_eq (sym (eqb→eq k (length s) q)))) ∙ append-nil (decimal n)))
        (λ _. tt)
    go None c = tt

decimal-back : (s : List ℕ) (n : ℕ) → n < field_limit → s ≡ decimal n → decimal_of s ≡ Some n
unfolding decimal_of
decimal-back s n h e =
    let k : 0 + length (decimal n) ≡ length s = omega (arith, ap length e) in
    rw (number-back s [] 0 n h refl (e ∙ sym (append-nil (decimal n))), eq-eqb (0 + length (decimal n)) (length s) k)

decimal-reads : (s : List ℕ) → ReadsDecimal s (decimal_of s)
decimal-reads s = record { number = λ n q. subst (DecimalRead s) q (decimal-only s); number_form = decimal-back s }

-- what it is read as, and what that owes
pub decimal-told : (s : List ℕ) (r : Option ℕ) → r ≡ decimal_of s → (r ≡ decimal_of s) × ReadsDecimal s r
decimal-told s r e = (e, subst (ReadsDecimal s) (sym e) (decimal-reads s))
