-- "Fields are decimal without leading zeros, below 2^64".
use Rattle.std.specs.Prelude.{ℕ, zero, suc, ◌+◌, ◌/◌, ◌%◌, ◌^◌, cond, List, [], ◌∷◌, ◌++◌, ltb}

-- the byte of a digit
abbrev pub digit : ℕ → ℕ
digit d = 48 + d

-- the digits of a number that has at most k + 1 of them: below 10 one, else those of its tenth part and then the last
abbrev pub digits_in : ℕ → ℕ → List ℕ
digits_in zero n = digit n ∷ []
digits_in (suc k) n = cond (ltb n 10) (digit n ∷ []) (digits_in k (n / 10) ++ (digit (n % 10) ∷ []))

-- "below 2^64": such a number has at most twenty
abbrev pub field_limit : ℕ
field_limit = 2 ^ 64

unfoldable pub decimal : ℕ → List ℕ
decimal n = digits_in 19 n
