-- Bytes classed by digit range, bracket and blank; runs of digits.
use Rattle.std.specs.Prelude.{ℕ, ◌+◌, ◌-◌, ◌*◌, Bool, ◌&&◌, ◌||◌, cond, List, [], ◌∷◌, length, get_or, eqb, leb, ltb}
use Rattle.lines.specs.Decimal.{digit}
use Rattle.lines.specs.Forms.{open_byte, close_byte, blank_byte}
use Rattle.reader.specs.declared.Class.{Class}
use Rattle.reader.specs.declared.Class.TheVariants.{Digit, Mark, Other}

abbrev pub is_digit : ℕ → Bool
is_digit b = leb (digit 0) b && leb b (digit 9)

-- a bracket or a blank
abbrev pub is_mark : ℕ → Bool
is_mark b = eqb b open_byte || (eqb b close_byte || eqb b blank_byte)

unfoldable pub class_of : ℕ → Class
class_of b = cond (is_digit b) (Digit (b - digit 0)) (cond (is_mark b) (Mark b) Other)

-- and beyond the end none of these
unfoldable pub class_at : List ℕ → ℕ → Class
class_at s i = cond (ltb i (length s)) (class_of (get_or s i 0)) Other

-- the digits at the start of s
abbrev pub digit_run : List ℕ → List ℕ
digit_run [] = []
digit_run (b ∷ s) = cond (is_digit b) (b ∷ digit_run s) []

-- the number that digits spell after a number that stands before them
abbrev pub spelled : ℕ → List ℕ → ℕ
spelled v [] = v
spelled v (b ∷ s) = spelled (v * 10 + (b - digit 0)) s
