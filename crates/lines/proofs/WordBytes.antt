-- Words among the bytes at hand: a word made of eight bytes has these bytes, and several words together have a newline where one of them has. Assumes nothing.
use mathlib.Core.Path.{◌≡◌, refl, sym, ap, ◌∙◌}
use mathlib.Core.Bool.{Bool, true, false, not, ◌||◌}
use mathlib.Core.List.{List, [], ◌∷◌, ◌++◌}
use Prim.Native.Nat.{ℕ, zero, suc, ◌+◌, ◌/◌, ◌%◌, ◌^◌, ◌≤◌, ◌<◌}
use native.Mathlib.Omega.{arith}
use Rattle.std.proofs.Common.{length-take-le, length-drop, pow-suc, w64}
use Rattle.std.specs.Int.{bytes_low_first, to_le_bytes, from_le_bytes}
use Rattle.std.proofs.Math.Nat.{div-div-eq-div-mul}
use Rattle.std.proofs.lemmas.Nat.{le_bytes_8}
use Rattle.std.proofs.lemmas.List.{get_or-drop}
use lib.Dec.{eqb}
use lib.Bits.{bit_or, or_add_and, and_le_l, and_le_r}
use lib.ListN.{length, get_or, take, drop}
use lib.Seq.{drop-cons, drop-drop, take-add}
use borrow.Author.Tests.{eqb-true, eqb-false, eq-eqb, ne_eqb}
use Rattle.lines.specs.Forms.{newline}
use Rattle.lines.specs.Search.{word_bytes, bytes_in, some_newline}
use Rattle.lines.specs.Inner.{newline_bits}
use Rattle.lines.proofs.WordTest.{bits-some}

-- ---- a word made of bytes

small-part : (k : ℕ) (s : List ℕ) (j : ℕ) → ((i : ℕ) → get_or s i 0 < 256) → get_or (take k s) j 0 < 256
small-part zero s j h = omega arith
small-part (suc k) [] j h = omega arith
small-part (suc k) (b ∷ s) zero h = h 0
small-part (suc k) (b ∷ s) (suc j) h = small-part k s j (λ i. h (suc i))

-- k bytes of s, from place i + j on
row : List ℕ → ℕ → ℕ → ℕ → List ℕ
row s i j zero = []
row s i j (suc k) = get_or s (i + j) 0 ∷ row s i (suc j) k

row-taken : (s : List ℕ) (i j k : ℕ) → i + j + k ≤ length s → row s i j k ≡ take k (drop (i + j) s)
unfolding row
row-taken s i j zero h = refl
row-taken s i j (suc k) h =
    let n : i + suc j ≡ suc (i + j) = omega arith in
    ap (λ (z : List ℕ). get_or s (i + j) 0 ∷ z) (row-taken s i (suc j) k (omega arith) ∙ ap (λ (z : ℕ). take k (drop z s)) n)
    ∙ ap (take (suc k)) (sym (drop-cons s (i + j) 0 (omega arith)))

low-first : (i k n : ℕ) → bytes_in k (n / 256 ^ suc i) ≡ bytes_low_first (suc i) k n
unfolding bytes_in
low-first i zero n = refl
low-first i (suc k) n =
    let e : n / 256 ^ suc i / 256 ≡ n / 256 ^ suc (suc i) = div-div-eq-div-mul n (256 ^ suc i) 256 ∙ ap (λ (z : ℕ). n / z) (omega (arith, pow-suc 256 (suc i))) in
    ap (λ (z : List ℕ). n / 256 ^ suc i % 256 ∷ z) (ap (bytes_in k) e ∙ low-first (suc i) k n)

word-written : (n : ℕ) → bytes_in word_bytes n ≡ to_le_bytes w64 n
unfolding bytes_in
word-written n = ap (λ (z : List ℕ). n % 256 ∷ z) (low-first 0 7 n)

-- the eight bytes of s from place i on
pub word-bytes : (s : List ℕ) (i n : ℕ) → i + word_bytes ≤ length s → ((j : ℕ) → get_or s j 0 < 256)
    → n ≡ from_le_bytes w64
    (get_or s i 0 ∷ get_or s (i + 1) 0 ∷ get_or s (i + 2) 0 ∷ get_or s (i + 3) 0 ∷ get_or s (i + 4) 0 ∷ get_or s (i + 5) 0 ∷ get_or s (i + 6) 0 ∷ get_or s (i + 7) 0 ∷ [])
    → bytes_in word_bytes n ≡ take word_bytes (drop i s)
unfolding row
word-bytes s i n h small is =
    let t : List ℕ = take word_bytes (drop i s) in
    let z : i + 0 ≡ i = omega arith in
    let q : row s i 0 word_bytes ≡ take word_bytes (drop (i + 0) s) = row-taken s i 0 word_bytes (omega arith) in
    let r = rw z at q in
    let l : length t ≡ word_bytes = length-take-le word_bytes (drop i s) (omega (arith, length-drop i s)) in
    let b : (j : ℕ) → get_or t j 0 < 256 = λ j. small-part word_bytes (drop i s) j (λ k. rw (get_or-drop i s k 0) (small (i + k))) in
    word-written n ∙ le_bytes_8 t n l b (is ∙ ap (from_le_bytes w64) r)

-- ---- several words

or_some : (a b : ℕ) → not (eqb (bit_or a b) 0) ≡ (not (eqb a 0) || not (eqb b 0))
or_some a b = go (eqb a 0) (eqb b 0) refl refl
  where
    sum : bit_or a b ≤ 0 → (a ≡ 0) × (b ≡ 0)
    sum h = (omega (arith, or_add_and a b, and_le_l a b, and_le_r a b), omega (arith, or_add_and a b, and_le_l a b, and_le_r a b))

    go : (t u : Bool) → eqb a 0 ≡ t → eqb b 0 ≡ u → not (eqb (bit_or a b) 0) ≡ (not t || not u)
    go true true p q =
        let x : a ≡ 0 = eqb-true a 0 p in
        let y : b ≡ 0 = eqb-true b 0 q in
        let e : bit_or a b ≡ 0 = omega (arith, or_add_and a b) in ap not (eq-eqb _ _ e)
    go false u p q = ap not (ne_eqb (bit_or a b) 0 (λ z. eqb-false a 0 p (sum (omega arith)).0))
    go true false p q = ap not (ne_eqb (bit_or a b) 0 (λ z. eqb-false b 0 q (sum (omega arith)).1))

some-join : (s t : List ℕ) → some_newline (s ++ t) ≡ (some_newline s || some_newline t)
unfolding some_newline
some-join [] t = refl
some-join (b ∷ s) t = go (eqb b newline) (some-join s t)
  where
    go : (x : Bool) → some_newline (s ++ t) ≡ (some_newline s || some_newline t) → (x || some_newline (s ++ t)) ≡ ((x || some_newline s) || some_newline t)
    go true h = refl
    go false h = h

-- the number m tells whether one of the k bytes of s from place i on is a newline
abbrev pub TellsNewline : List ℕ → ℕ → ℕ → ℕ → Type 0
TellsNewline s i k m = not (eqb m 0) ≡ some_newline (take k (drop i s))

pub word-tells : (s : List ℕ) (i w m : ℕ) → bytes_in word_bytes w ≡ take word_bytes (drop i s) → m ≡ newline_bits (bytes_in word_bytes w) → TellsNewline s i word_bytes m
word-tells s i w m e q = ap (λ (z : ℕ). not (eqb z 0)) q ∙ bits-some (bytes_in word_bytes w) ∙ ap some_newline e

pub both-tell : (s : List ℕ) (i j k m n : ℕ) → TellsNewline s i j m → TellsNewline s (i + j) k n → TellsNewline s i (j + k) (bit_or m n)
both-tell s i j k m n p q =
    or_some m n
    ∙ ap (λ (z : Bool). z || not (eqb n 0)) p
    ∙ ap (λ (z : Bool). some_newline (take j (drop i s)) || z) (q ∙ ap (λ (z : List ℕ). some_newline (take k z)) (sym (drop-drop j i s)))
    ∙ sym (some-join (take j (drop i s)) (take k (drop j (drop i s))))
    ∙ ap some_newline (sym (take-add j k (drop i s)))
