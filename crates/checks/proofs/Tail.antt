-- The words beyond the last message, looked at one by one or eight by eight. Assumes nothing.
use mathlib.Core.Path.{◌≡◌, refl, sym, ap, ap₂, ◌∙◌}
use mathlib.Core.Bool.{Bool, true, false, not, ◌||◌}
use Rattle.std.proofs.Math.Bool.{or_assoc}
use mathlib.Core.List.{List, [], ◌∷◌, ◌++◌}
use Prim.Native.Nat.{ℕ, zero, suc, ◌+◌, ◌≤◌, ◌<◌}
use native.Mathlib.Omega.{arith}
use native.Mathlib.Numerals.{add-one}
use lib.Bits.{bit_or, or_add_and, and_le_l, and_le_r, or_zero_l}
use lib.Dec.{eqb}
use lib.ListN.{length, get_or, drop}
use borrow.Author.Tests.{ne_eqb}
use Rattle.base.specs.Choice.{or-first, or-second, not-no}
use Rattle.model.specs.Checks.{some_non_zero}
use Rattle.checks.specs.Scans.{non_zero_from}

-- a union is 0 where both parts are
union-zero : (a b : ℕ) → bit_or a b ≡ 0 → (a ≡ 0) × (b ≡ 0)
union-zero a b e =
    (omega (arith, or_add_and a b, and_le_r a b), omega (arith, or_add_and a b, and_le_l a b))

union-of : (a b : ℕ) → not (eqb (bit_or a b) 0) ≡ (not (eqb a 0) || not (eqb b 0))
union-of zero b = ap (λ (x : ℕ). not (eqb x 0)) (or_zero_l b)
union-of (suc a) b =
    not-no _ (ne_eqb (bit_or (suc a) b) 0 (λ e. absurd (omega (arith, (union-zero (suc a) b e).0))))
    ∙ sym (or-first _ (not (eqb b 0)) (not-no _ (ne_eqb (suc a) 0 (λ e. absurd (omega arith)))))

or_nothing : (a b : Bool) → b ≡ false → (a || b) ≡ a
or_nothing true b e = refl
or_nothing false b e = e

next : (i : ℕ) (ws : List ℕ) → i < length ws → some_non_zero (drop i ws) ≡ (not (eqb (get_or ws i 0) 0) || some_non_zero (drop (suc i) ws))
next i [] l = absurd (omega arith)
next zero (x ∷ xs) l = refl
next (suc i) (x ∷ xs) l = next i xs (omega arith)

-- word i is gathered
pub found-more : (seen i : ℕ) (ws : List ℕ) → i < length ws → non_zero_from (bit_or seen (get_or ws i 0)) (i + 1) ws ≡ non_zero_from seen i ws
found-more seen i ws l =
    ap (λ (k : ℕ). non_zero_from (bit_or seen (get_or ws i 0)) k ws) (add-one i)
    ∙ ap (λ (b : Bool). b || some_non_zero (drop (suc i) ws)) (union-of seen (get_or ws i 0))
    ∙ or_assoc (not (eqb seen 0)) (not (eqb (get_or ws i 0) 0)) (some_non_zero (drop (suc i) ws))
    ∙ ap (λ (b : Bool). not (eqb seen 0) || b) (sym (next i ws l))

or-mixed : (a b c d : Bool) → ((a || b) || (c || d)) ≡ ((a || c) || (b || d))
or-mixed true b c d = refl
or-mixed false b true d = or-second b true refl
or-mixed false b false d = refl

-- word i and the k behind it
abbrev pub turn : ℕ → List ℕ → ℕ → List ℕ
turn i ws zero = get_or ws i 0 ∷ []
turn i ws (suc k) = turn i ws k ++ get_or ws (i + suc k) 0 ∷ []

-- some words, each united with its like
abbrev pub merged : List ℕ → List ℕ → List ℕ
merged (x ∷ xs) (y ∷ ys) = bit_or x y ∷ merged xs ys
merged (x ∷ xs) [] = []
merged [] ys = []

some-append : (xs ys : List ℕ) → some_non_zero (xs ++ ys) ≡ (some_non_zero xs || some_non_zero ys)
some-append [] ys = refl
some-append (x ∷ xs) ys = ap (λ (b : Bool). not (eqb x 0) || b) (some-append xs ys) ∙ sym (or_assoc (not (eqb x 0)) (some_non_zero xs) (some_non_zero ys))

some-merged : (xs ys : List ℕ) → length xs ≡ length ys → some_non_zero (merged xs ys) ≡ (some_non_zero xs || some_non_zero ys)
some-merged [] [] e = refl
some-merged [] (y ∷ ys) e = absurd (omega arith)
some-merged (x ∷ xs) [] e = absurd (omega arith)
some-merged (x ∷ xs) (y ∷ ys) e =
    ap₂ (λ (a b : Bool). a || b) (union-of x y) (some-merged xs ys (omega arith))
    ∙ or-mixed (not (eqb x 0)) (not (eqb y 0)) (some_non_zero xs) (some_non_zero ys)

-- a word, with what is found behind it
next-found : (i : ℕ) (ws : List ℕ) → i < length ws → ((not (eqb (get_or ws i 0) 0) || false) || some_non_zero (drop (suc i) ws)) ≡ some_non_zero (drop i ws)
next-found i ws l = or_assoc (not (eqb (get_or ws i 0) 0)) false (some_non_zero (drop (suc i) ws)) ∙ sym (next i ws l)

turn-found : (i : ℕ) (ws : List ℕ) (k : ℕ) → i + k < length ws → (some_non_zero (turn i ws k) || some_non_zero (drop (i + suc k) ws)) ≡ some_non_zero (drop i ws)
turn-found i ws zero l = ap (λ (j : ℕ). some_non_zero (turn i ws zero) || some_non_zero (drop j ws)) (add-one i) ∙ next-found i ws (omega arith)
turn-found i ws (suc k) l =
    let e : i + suc (suc k) ≡ suc (i + suc k) = omega arith in
    let w : List ℕ = get_or ws (i + suc k) 0 ∷ [] in
    ap₂ (λ (b : Bool) (j : ℕ). b || some_non_zero (drop j ws)) (some-append (turn i ws k) w) e
    ∙ or_assoc (some_non_zero (turn i ws k)) (some_non_zero w) (some_non_zero (drop (suc (i + suc k)) ws))
    ∙ ap (λ (b : Bool). some_non_zero (turn i ws k) || b) (next-found (i + suc k) ws l)
    ∙ turn-found i ws k (omega arith)

-- each word of a turn is united with its like of the turns before
pub found_turn : (xs : List ℕ) (i : ℕ) (ws : List ℕ) (k : ℕ) → length xs ≡ length (turn i ws k) → i + k < length ws → (some_non_zero (merged xs (turn i ws k)) || some_non_zero (drop (i + suc k) ws)) ≡ (some_non_zero xs || some_non_zero (drop i ws))
found_turn xs i ws k e l =
    ap (λ (b : Bool). b || some_non_zero (drop (i + suc k) ws)) (some-merged xs (turn i ws k) e)
    ∙ or_assoc (some_non_zero xs) (some_non_zero (turn i ws k)) (some_non_zero (drop (i + suc k) ws))
    ∙ ap (λ (b : Bool). some_non_zero xs || b) (turn-found i ws k l)

-- all words of a list united
abbrev pub united : ℕ → List ℕ → ℕ
united x [] = x
united x (y ∷ ys) = united (bit_or x y) ys

pub found-united : (x : ℕ) (ys : List ℕ) → not (eqb (united x ys) 0) ≡ some_non_zero (x ∷ ys)
found-united x [] = sym (or_nothing (not (eqb x 0)) false refl)
found-united x (y ∷ ys) = found-united (bit_or x y) ys ∙ ap (λ (b : Bool). b || some_non_zero ys) (union-of x y) ∙ or_assoc (not (eqb x 0)) (not (eqb y 0)) (some_non_zero ys)

pub none : (i : ℕ) (ws : List ℕ) → length ws ≤ i → some_non_zero (drop i ws) ≡ false
none zero [] l = refl
none (suc i) [] l = refl
none zero (x ∷ xs) l = absurd (omega arith)
none (suc i) (x ∷ xs) l = none i xs (omega arith)

-- none is left
pub found_all : (seen i : ℕ) (ws : List ℕ) → length ws ≤ i → not (eqb seen 0) ≡ non_zero_from seen i ws
found_all seen i ws l = sym (or_nothing (not (eqb seen 0)) (some_non_zero (drop i ws)) (none i ws l))
