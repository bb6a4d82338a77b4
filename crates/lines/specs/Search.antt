-- "Look for the newline a word of eight bytes at a time": when a word is reported.
use Rattle.std.specs.Prelude.{ℕ, zero, suc, ◌/◌, ◌%◌, Bool, false, ◌||◌, List, [], ◌∷◌, eqb}
use Rattle.lines.specs.Forms.{newline}

-- "a word of eight bytes"
abbrev pub word_bytes : ℕ
word_bytes = 8

-- the k lowest bytes of a word, the lowest first: as they stand among the bytes at hand
unfoldable pub bytes_in : ℕ → ℕ → List ℕ
bytes_in zero w = []
bytes_in (suc k) w = w % 256 ∷ bytes_in k (w / 256)

-- "one of its bytes is a newline"
unfoldable pub some_newline : List ℕ → Bool
some_newline [] = false
some_newline (b ∷ s) = eqb b newline || some_newline s

-- "A word is reported exactly when one of its bytes is a newline."
unfoldable pub reported : ℕ → Bool
reported w = some_newline (bytes_in word_bytes w)
