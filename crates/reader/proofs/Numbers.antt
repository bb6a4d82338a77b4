-- Numbers: a number that is read stands there as it is written, and one that is written is read. Assumes nothing.
use mathlib.Core.Path.{◌≡◌, refl, sym, ap, ap₂, ◌∙◌}
use mathlib.Core.Logic.{⊎_elim}
use mathlib.Core.Bool.{cond}
use Prim.Native.Nat.{ℕ, zero, suc, ◌+◌, ◌-◌, ◌*◌, ◌/◌, ◌%◌, ◌^◌, ◌≤◌, ◌<◌}
use native.Mathlib.Nat.{pow-suc, div-lt_iff_lt-mul, zero-lt-suc}
use native.Mathlib.Omega.{arith}
use mathlib.Core.List.{List, [], ◌∷◌, ◌++◌, append-nil, append_assoc}
use lib.ListN.{length, drop}
use lib.Seq.{drop-drop}
use lib.Dec.{eqb, ltb, ltb→lt, eqb→eq}
use borrow.Author.Tests.{lt-ltb, ne_eqb}
use Rattle.base.specs.Members.{Every, every_append}
use Rattle.base.specs.Tests.{le?, eq?, by_cond, eq→eqb}
use Rattle.lines.specs.Decimal.{digit, decimal, field_limit}
use Rattle.lines.proofs.Decimals.{decimal-small, decimal-large}
use Rattle.std.specs.Prelude.{Option, Some, None}
use Rattle.reader.specs.Bytes.{is_digit, digit_run, spelled}
use Rattle.reader.specs.Scan.{fitting, numeral, number_at}
use Rattle.reader.proofs.BytesLaws.{IsDigit, digit-is, is_digit_lem}
use Rattle.reader.proofs.ScanLaws.{spelled-least}

-- ---- digits

abbrev Digits : List ℕ → Type 0
Digits l = Every IsDigit l

-- ---- runs

run-digits : (l : List ℕ) → Digits (digit_run l)
run-digits [] = tt
run-digits (b ∷ l) = by_cond Digits (is_digit b) (b ∷ digit_run l) [] (λ t. (digit-is b t, run-digits l)) (λ _. tt)

run-split : (l : List ℕ) → digit_run l ++ drop (length (digit_run l)) l ≡ l
run-split [] = refl
run-split (b ∷ l) =
    by_cond (λ (r : List ℕ). r ++ drop (length r) (b ∷ l) ≡ b ∷ l) (is_digit b) (b ∷ digit_run l) [] (λ _. ap (λ (r : List ℕ). b ∷ r) (run-split l)) (λ _. refl)

run-all : (a r : List ℕ) → Digits a → digit_run r ≡ [] → digit_run (a ++ r) ≡ a
run-all [] r h q = q
run-all (b ∷ a) r h q = rw (is_digit_lem b h.0) (ap (λ (l : List ℕ). b ∷ l) (run-all a r h.1 q))

-- ---- what digits spell

spelled-append : (v : ℕ) (a b : List ℕ) → spelled v (a ++ b) ≡ spelled (spelled v a) b
spelled-append v [] b = refl
spelled-append v (x ∷ a) b = spelled-append (v * 10 + (x - digit 0)) a b

-- digits behind those of a number that is not 0
digits-further : (v : ℕ) (l : List ℕ) → 0 < v → Digits l → spelled v l < field_limit → decimal (spelled v l) ≡ decimal v ++ l
digits-further v [] p d h = sym (append-nil (decimal v))
digits-further v (b ∷ l) p d h =
    let i : IsDigit b = d.0 in
    let w : ℕ = v * 10 + (b - digit 0) in
    let m : w < field_limit = omega (arith, spelled-least w l) in
    let g : 10 ≤ w = omega arith in
    let q : w / 10 ≡ v = omega arith in
    let r : digit (w % 10) ≡ b = omega arith in
    digits-further w l (omega arith) d.1 h
    ∙ ap (λ (x : List ℕ). x ++ l) (decimal-large w m g ∙ ap₂ (λ (x y : ℕ). decimal x ++ (y ∷ [])) q r)
    ∙ append_assoc (decimal v) (b ∷ []) l

-- ---- a number that is written is read

-- what is known of every number below 2^64 if it is known of those of one digit, and of the others from their tenth part
by-tenths : (P : ℕ → Type 0) → ((n : ℕ) → n < 10 → P n) → ((n : ℕ) → n < field_limit → 10 ≤ n → P (n / 10) → P n) → (k n : ℕ) → n < 10 ^ suc k → n < field_limit → P n
by-tenths P one more zero n h m = one n h
by-tenths P one more (suc k) n h m =
    let b : n / 10 < 10 ^ suc k = (div-lt_iff_lt-mul (zero-lt-suc 9)).1 (rw (pow-suc 10 (suc k)) at h) in
    ⊎_elim (λ (g : 10 ≤ n). more n m g (by-tenths P one more k (n / 10) b (omega arith))) (λ (g : n < 10). one n g) (le? 10 n)

-- its first digit and the others
record Shown (n : ℕ) : Type 0 where
  first : ℕ
  others : List ℕ
  shown : decimal n ≡ first ∷ others
  digits : Digits (first ∷ others)
  value : spelled 0 (first ∷ others) ≡ n
  no_zero : 0 < n → first ≡ digit 0 → ⊥

shown-one : (n : ℕ) → n < 10 → Shown n
shown-one n h = record {
  first = digit n;
  others = [];
  shown = decimal-small n h;
  digits = (record { least = omega arith; most = omega arith }, tt);
  value = omega arith;
  no_zero = λ (p : 0 < n) (e : digit n ≡ digit 0). omega arith;
}

shown-more : (n : ℕ) → n < field_limit → 10 ≤ n → Shown (n / 10) → Shown n
shown-more n h g x =
    let last : List ℕ = digit (n % 10) ∷ [] in
    let all : List ℕ = x.first ∷ x.others in
    record {
      first = x.first;
      others = x.others ++ last;
      shown = decimal-large n h g ∙ ap (λ (l : List ℕ). l ++ last) x.shown;
      digits = every_append IsDigit all last x.digits (record { least = omega arith; most = omega arith }, tt);
      value = spelled-append 0 all last ∙ rw x.value (omega arith);
      no_zero = λ (p : 0 < n). x.no_zero (omega arith);
    }

shown_of : (n : ℕ) → n < field_limit → Shown n
shown_of n h = by-tenths Shown shown-one shown-more 19 n (omega arith) h

numeral-shown : (n k : ℕ) → n < field_limit → (x : Shown n) → numeral (x.first ∷ x.others) k ≡ Some (n, k)
numeral-shown n k h x = ⊎_elim nothing something (eq? n 0)
  where
    something : (n ≡ 0 → ⊥) → numeral (x.first ∷ x.others) k ≡ Some (n, k)
    something z = rw (ne_eqb _ _ (x.no_zero (omega arith)), x.value, lt-ltb n field_limit h)

    nothing : n ≡ 0 → numeral (x.first ∷ x.others) k ≡ Some (n, k)
    nothing z =
        let e : x.first ∷ x.others ≡ digit 0 ∷ [] = sym x.shown ∙ ap decimal z ∙ decimal-small 0 (omega arith) in
        ap (λ (l : List ℕ). numeral l k) e ∙ ap (λ (m : ℕ). Some (m, k)) (sym z)

-- the digits and then none are read as the number
pub number-back : (s r : List ℕ) (at n : ℕ) → n < field_limit → digit_run r ≡ [] → drop at s ≡ decimal n ++ r → number_at s at ≡ Some (n, at + length (decimal n))
unfolding number_at
number-back s r at n h q e =
    let x : Shown n = shown_of n h in
    let d : digit_run (drop at s) ≡ decimal n = rw (e, x.shown) (run-all (x.first ∷ x.others) r x.digits q) in
    rw (d, x.shown) (numeral-shown n _ h x)

-- ---- a number that is read is written

-- what is read at a place as a number: its digits stand there
abbrev pub Counted : List ℕ → ℕ → Option (ℕ × ℕ) → Type 0
Counted s at (Some (n, k)) = (n < field_limit) × (drop at s ≡ decimal n ++ drop k s)
Counted s at None = Unit {0}

empty : (l : List ℕ) → length l ≡ 0 → l ≡ []
empty [] h = refl
empty (b ∷ l) h = absurd (omega arith)

-- the digits that a number is spelled with, if it is not 0
digits-lead : (b : ℕ) (l : List ℕ) → (b ≡ digit 0 → ⊥) → Digits (b ∷ l) → spelled 0 (b ∷ l) < field_limit → b ∷ l ≡ decimal (spelled 0 (b ∷ l))
digits-lead b l z d h =
    let v : ℕ = 0 * 10 + (b - digit 0) in
    let i : IsDigit b = d.0 in
    let e : digit v ≡ b = omega arith in
    sym (digits-further v l (omega arith) d.1 h ∙ ap (λ (x : List ℕ). x ++ l) (decimal-small v (omega arith) ∙ ap (λ (x : ℕ). x ∷ []) e))

numeral-only : (s l : List ℕ) (at : ℕ) → Digits l → drop at s ≡ l ++ drop (at + length l) s → Counted s at (numeral l (at + length l))
numeral-only s [] at d e = tt
numeral-only s (b ∷ l) at d e =
    by_cond (Counted s at) (eqb b (digit 0)) (cond (eqb (length l) 0) (Some (0, k)) None) (fitting n k)
    (λ z. by_cond (Counted s at) (eqb (length l) 0) (Some (0, k)) None
    (λ y. (omega arith, stands 0 (ap₂ (λ (x : ℕ) (w : List ℕ). x ∷ w) (eqb→eq b (digit 0) z) (empty l (eqb→eq (length l) 0 y)) ∙ sym (decimal-small 0 (omega arith)))))
    (λ _. tt))
    (λ z. by_cond (Counted s at) (ltb n field_limit) (Some (n, k)) None
    (λ y. let h : n < field_limit = ltb→lt n field_limit y in (h, stands n (digits-lead b l (λ (q : b ≡ digit 0). z (eq→eqb b (digit 0) q)) d h)))
    (λ _. tt))
  where
    k : ℕ
    k = at + length (b ∷ l)

    n : ℕ
    n = spelled 0 (b ∷ l)

    stands : (m : ℕ) → b ∷ l ≡ decimal m → drop at s ≡ decimal m ++ drop k s
    stands m q = e ∙ ap (λ (x : List ℕ). x ++ drop k s) q

pub number-only : (s : List ℕ) (at : ℕ) → Counted s at (number_at s at)
unfolding number_at
number-only s at =
    let l : List ℕ = digit_run (drop at s) in
    numeral-only s l at (run-digits (drop at s)) (sym (run-split (drop at s)) ∙ ap (λ (x : List ℕ). l ++ x) (drop-drop (length l) at s))
