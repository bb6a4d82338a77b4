-- What functions inside the crate owe.
use Rattle.std.specs.Prelude.{ℕ, ◌+◌, ◌*◌, cond, List, [], ◌∷◌, eqb}
use Rattle.lines.specs.Forms.{newline}
use Rattle.lines.specs.Search.{word_bytes}

-- the bytes of four words, which the code looks at together
abbrev pub block_bytes : ℕ
block_bytes = 4 * word_bytes

-- the highest bit of each byte that is a newline, the bytes being those of a word
unfoldable pub newline_bits : List ℕ → ℕ
newline_bits [] = 0
newline_bits (b ∷ s) = newline_bits s * 256 + cond (eqb b newline) 128 0
