-- Reading at a place of a line: a word, a number, numbers in a series.
use Rattle.std.specs.Prelude.{ℕ, zero, suc, ◌+◌, ◌≤◌, ◌≡◌, Bool, true, false, ◌&&◌, cond, List, [], ◌∷◌, Option, Some, None, length, take, drop, eqb, ltb}
use Rattle.lines.specs.Decimal.{digit, field_limit}
use Rattle.lines.specs.Forms.{one_blank}
use Rattle.reader.specs.declared.Several.{Several}
use Rattle.reader.specs.Bytes.{digit_run, spelled}

-- ---- a word

-- whether s starts with w
abbrev pub starts : List ℕ → List ℕ → Bool
starts s [] = true
starts [] (c ∷ w) = false
starts (b ∷ s) (c ∷ w) = eqb b c && starts s w

-- the place after w, if w stands at the place and the line reaches so far
unfoldable pub after_word : List ℕ → ℕ → List ℕ → Option ℕ
after_word s at w = cond (ltb (length s) at) None (cond (starts (drop at s) w) (Some (at + length w)) None)

-- ---- a number

abbrev pub fitting : ℕ → ℕ → Option (ℕ × ℕ)
fitting v k = cond (ltb v field_limit) (Some (v, k)) None

-- what digits say that end before place k: "decimal without leading zeros, below 2^64"
abbrev pub numeral : List ℕ → ℕ → Option (ℕ × ℕ)
numeral [] k = None
numeral (b ∷ l) k = cond (eqb b (digit 0)) (cond (eqb (length l) 0) (Some (0, k)) None) (fitting (spelled 0 (b ∷ l)) k)

-- the number at a place, and the place after it
unfoldable pub number_at : List ℕ → ℕ → Option (ℕ × ℕ)
number_at s at = numeral (digit_run (drop at s)) (at + length (digit_run (drop at s)))

abbrev pub on_after : {A : Type 0} → Option ℕ → (ℕ → A) → A → A
on_after (Some k) f z = f k
on_after None f z = z

abbrev pub on_number : {A : Type 0} → Option (ℕ × ℕ) → (ℕ → ℕ → A) → A → A
on_number (Some (n, k)) f z = f n k
on_number None f z = z

-- a blank and a number
unfoldable pub next_number_at : List ℕ → ℕ → Option (ℕ × ℕ)
next_number_at s at = on_after (after_word s at one_blank) (number_at s) None

-- ---- numbers in a series

-- the numbers, and the place after them
pub record Series : Type 0 where
  pub numbers : List ℕ
  pub end : ℕ

abbrev pub ending : ℕ → Series
ending at = record { numbers = []; end = at }

abbrev pub following : ℕ → Series → Series
following n x = record { numbers = n ∷ x.numbers; end = x.end }

-- as many as stand at the place, each behind a blank, but j at most
abbrev pub series_at : ℕ → List ℕ → ℕ → Series
series_at zero s at = ending at
series_at (suc j) s at = on_number (next_number_at s at) (λ n k. following n (series_at j s k)) (ending at)

-- that they were read into the words lent, as many at most as these are
pub record ReadsSeveral (s : List ℕ) (at : ℕ) (lent : List ℕ) (r : Several) (after : List ℕ) : Type 0 where
  pub read : series_at (length lent) s at ≡ record { numbers = take r.count after; end = r.end }
  pub within : r.count ≤ length lent
  pub whole : length after ≡ length lent
