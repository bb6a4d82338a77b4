-- The test of a word is the tests of its bytes side by side. Assumes nothing.
use mathlib.Core.Path.{◌≡◌, refl, sym, ap, ◌∙◌}
use mathlib.Core.Logic.{◌≢◌}
use mathlib.Core.Bool.{Bool, true, false, not, ◌||◌, cond}
use mathlib.Core.List.{List, [], ◌∷◌}
use Prim.Native.Nat.{ℕ, zero, suc, ◌+◌, ◌-◌, ◌*◌, ◌/◌, ◌%◌, ◌^◌, ◌≤◌, ◌<◌}
use native.Mathlib.Omega.{arith}
use lib.Dec.{eqb, eqb→eq}
use lib.Bits.{bit_and, bit_or, bit_xor, and_block, or_block, xor_block, or_lt, xor_lt, and_le_r, shifted_even, shifted_half}
use lib.Count.{count_trailing_zeros, trailing_of_zero}
use lib.Pow.{split}
use borrow.Author.Tests.{eqb-true, eqb-false, eq-eqb, ne_eqb}
use Rattle.base.specs.Scan.{some}
use Rattle.base.specs.ScanLaws.{some-not}
use Rattle.base.specs.Tests.{fails, not-not}
use Rattle.lines.specs.Forms.{newline}
use Rattle.lines.specs.Splitting.{before_newline}
use Rattle.lines.specs.Search.{word_bytes, bytes_in, some_newline}
use Rattle.lines.specs.Inner.{newline_bits}

-- a byte k times
abbrev pub each : ℕ → ℕ → ℕ
each b zero = 0
each b (suc k) = each b k * 256 + b

-- what is computed of a word, n being newlines in all of its bytes and low the bits of each but the highest
abbrev pub marked : ℕ → ℕ → ℕ → ℕ
marked n low w = bit_or (bit_or (bit_and (bit_xor w n) low + low) (bit_xor w n)) low

-- ---- one byte: it lacks the highest bit where it is a newline, and no other

abbrev bit_of : ℕ → ℕ
bit_of b = cond (eqb b newline) 128 0

wrong : ℕ → Bool
wrong b = not (eqb (marked newline 127 b + bit_of b) 255)

table : some wrong 256 ≡ false
unfolding some wrong
table = refl

byte-marked : (b : ℕ) → b < 256 → marked newline 127 b + bit_of b ≡ 255
unfolding wrong
byte-marked b l = eqb→eq _ _ (not-not (eqb (marked newline 127 b + bit_of b) 255) (fails (wrong b) (some-not wrong 256 b table l)))

-- ---- all of them

low_sum : (b : ℕ) → bit_and b 127 + 127 < 256
low_sum b = omega (arith, and_le_r b 127)

-- nothing is carried from the lowest byte
lowest-marked : (n low w b : ℕ) → b < 256 → marked (n * 256 + newline) (low * 256 + 127) (w * 256 + b) ≡ marked n low w * 256 + marked newline 127 b
lowest-marked n low w b l =
    let x : ℕ = bit_xor w n in
    let y : ℕ = bit_xor b newline in
    let yl : y < 256 = xor_lt 8 b newline l (omega arith) in
    let xor : bit_xor (w * 256 + b) (n * 256 + newline) ≡ x * 256 + y = xor_block 8 w n b newline l (omega arith) in
    let and : bit_and (x * 256 + y) (low * 256 + 127) ≡ bit_and x low * 256 + bit_and y 127 = and_block 8 x low y 127 yl (omega arith) in
    let sum : bit_and x low * 256 + bit_and y 127 + (low * 256 + 127) ≡ (bit_and x low + low) * 256 + (bit_and y 127 + 127) = omega arith in
    let or : bit_or ((bit_and x low + low) * 256 + (bit_and y 127 + 127)) (x * 256 + y) ≡ bit_or (bit_and x low + low) x * 256 + bit_or (bit_and y 127 + 127) y =
    or_block 8 (bit_and x low + low) x (bit_and y 127 + 127) y (low_sum y) yl
    in
    ap (λ (z : ℕ). bit_or (bit_or (bit_and z (low * 256 + 127) + (low * 256 + 127)) z) (low * 256 + 127)) xor
    ∙ ap (λ (z : ℕ). bit_or (bit_or (z + (low * 256 + 127)) (x * 256 + y)) (low * 256 + 127)) and
    ∙ ap (λ (z : ℕ). bit_or (bit_or z (x * 256 + y)) (low * 256 + 127)) sum
    ∙ ap (λ (z : ℕ). bit_or z (low * 256 + 127)) or
    ∙ or_block 8 (bit_or (bit_and x low + low) x) low (bit_or (bit_and y 127 + 127) y) 127 (or_lt 8 (bit_and y 127 + 127) y (low_sum y) yl) (omega arith)

all-marked : (k w : ℕ) → w ≤ each 255 k → marked (each newline k) (each 127 k) w + newline_bits (bytes_in k w) ≡ each 255 k
unfolding bytes_in newline_bits
all-marked zero w l = let e : w ≡ 0 = omega arith in ap (λ (z : ℕ). marked 0 0 z + 0) e
all-marked (suc k) w l =
    let b : w % 256 < 256 = omega arith in
    let h : w / 256 ≤ each 255 k = omega arith in
    let m : ℕ = marked (each newline k) (each 127 k) (w / 256) in
    let n : ℕ = newline_bits (bytes_in k (w / 256)) in
    let s : m * 256 + marked newline 127 (w % 256) + (n * 256 + bit_of (w % 256)) ≡ each 255 k * 256 + 255 =
    omega (arith, byte-marked (w % 256) b, all-marked k (w / 256) h)
    in
    ap (λ (z : ℕ). marked (each newline (suc k)) (each 127 (suc k)) z + (n * 256 + bit_of (w % 256))) (sym (split w 8))
    ∙ ap (λ (z : ℕ). z + (n * 256 + bit_of (w % 256))) (lowest-marked (each newline k) (each 127 k) (w / 256) (w % 256) b)
    ∙ s

-- of a word: this is left of all ones
pub word-bits : (w : ℕ) → w ≤ each 255 word_bytes → each 255 word_bytes - marked (each newline word_bytes) (each 127 word_bytes) w ≡ newline_bits (bytes_in word_bytes w)
word-bits w l = omega (arith, all-marked word_bytes w l)

-- ---- what the bits say

pub bits-some : (s : List ℕ) → not (eqb (newline_bits s) 0) ≡ some_newline s
unfolding newline_bits some_newline
bits-some [] = refl
bits-some (b ∷ s) = go (eqb b newline) (eqb (newline_bits s) 0) refl (bits-some s)
  where
    go : (t d : Bool) → eqb (newline_bits s) 0 ≡ d → not d ≡ some_newline s → not (eqb (newline_bits s * 256 + cond t 128 0) 0) ≡ (t || some_newline s)
    go true d q h = let n : newline_bits s * 256 + 128 ≢ 0 = λ z. omega arith in ap not (ne_eqb _ _ n)
    go false true q h = let e : newline_bits s * 256 + 0 ≡ 0 = omega (arith, eqb-true (newline_bits s) 0 q) in ap not (eq-eqb _ _ e) ∙ h
    go false false q h = let n : newline_bits s * 256 + 0 ≢ 0 = λ z. eqb-false (newline_bits s) 0 q (omega arith) in ap not (ne_eqb _ _ n) ∙ h

-- ---- the first of them

-- j more than k: by the clauses of a sum, which the native one lacks
abbrev up : ℕ → ℕ → ℕ
up zero k = k
up (suc j) k = suc (up j k)

-- j zeros below
shift : (j k m : ℕ) → count_trailing_zeros (up j k) (m * 2 ^ j) ≡ up j (count_trailing_zeros k m)
unfolding count_trailing_zeros
shift zero k m = let e : m * 1 ≡ m = omega arith in ap (count_trailing_zeros k) e
shift (suc j) k m = rw (shifted_even m j, shifted_half m j) (ap suc (shift j k m))

-- no zero below an odd number's lowest bit
odd : (k m : ℕ) → count_trailing_zeros (suc k) (m * 2 + 1) ≡ 0
unfolding count_trailing_zeros
odd k m = let e : (m * 2 + 1) % 2 ≡ 1 = omega arith in rw e refl

-- how many bits the bytes of a list have
abbrev pub bits_of : List ℕ → ℕ
bits_of [] = 0
bits_of (b ∷ s) = up 8 (bits_of s)

pub bits-first : (s : List ℕ) → count_trailing_zeros (bits_of s) (newline_bits s) / 8 ≡ before_newline s
unfolding newline_bits before_newline
bits-first [] = ap (λ (z : ℕ). z / 8) (trailing_of_zero 0)
bits-first (b ∷ s) = go (eqb b newline) (bits-first s)
  where
    go : (t : Bool) → count_trailing_zeros (bits_of s) (newline_bits s) / 8 ≡ before_newline s
        → count_trailing_zeros (up 8 (bits_of s)) (newline_bits s * 256 + cond t 128 0) / 8 ≡ cond t 0 (suc (before_newline s))
    go true h =
        let e : newline_bits s * 256 + 128 ≡ (newline_bits s * 2 + 1) * 2 ^ 7 = omega arith in
        ap (λ (z : ℕ). count_trailing_zeros (up 8 (bits_of s)) z / 8) e
        ∙ ap (λ (z : ℕ). z / 8) (shift 7 (suc (bits_of s)) (newline_bits s * 2 + 1) ∙ ap (up 7) (odd (bits_of s) (newline_bits s)))
    go false h =
        let e : newline_bits s * 256 + 0 ≡ newline_bits s * 2 ^ 8 = omega arith in
        let d : up 8 (count_trailing_zeros (bits_of s) (newline_bits s)) / 8 ≡ suc (before_newline s) = omega (arith, h) in
        ap (λ (z : ℕ). count_trailing_zeros (up 8 (bits_of s)) z / 8) e ∙ ap (λ (z : ℕ). z / 8) (shift 8 (bits_of s) (newline_bits s)) ∙ d
