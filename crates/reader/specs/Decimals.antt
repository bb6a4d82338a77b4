-- A whole text that is one number, and what reading it owes.
use Rattle.std.specs.Prelude.{ℕ, ◌<◌, ◌≡◌, cond, List, length, eqb, None, Option, Some}
use Rattle.lines.specs.Decimal.{decimal, field_limit}
use Rattle.reader.specs.Scan.{on_number, number_at}

-- the number at the start, if the text ends behind it
unfoldable pub decimal_of : List ℕ → Option ℕ
decimal_of s = on_number (number_at s 0) (λ n k. cond (eqb k (length s)) (Some n) None) None

-- that the text s is read as r: a number exactly where the text is its decimal, "without leading zeros, below 2^64"
pub record ReadsDecimal (s : List ℕ) (r : Option ℕ) : Type 0 where
  pub number : (n : ℕ) → r ≡ Some n → (n < field_limit) × (s ≡ decimal n)
  pub number_form : (n : ℕ) → n < field_limit → s ≡ decimal n → r ≡ Some n
