-- "a line is at most 4,800 bytes and then one newline": where lines end.
use Rattle.std.specs.Prelude.{ℕ, suc, cond, List, [], ◌∷◌, ◌++◌, length, eqb, leb, ltb}
use Rattle.lines.specs.declared.Next.{Next}
use Rattle.lines.specs.declared.Next.TheVariants.{Line, Long, Unfinished, Endless}
use Rattle.lines.specs.Forms.{newline}
use Rattle.lines.specs.Clauses.{Reading, no_form}

abbrev pub line_most : ℕ
line_most = 4800

-- the bytes before the first newline; all of them where there is none
unfoldable pub before_newline : List ℕ → ℕ
before_newline [] = 0
before_newline (b ∷ s) = cond (eqb b newline) 0 (suc (before_newline s))

-- the next line within the bytes at hand
unfoldable pub next_line : List ℕ → Next
next_line s =
    cond (ltb (before_newline s) (length s))
    (cond (leb (before_newline s) line_most) (Line (before_newline s)) (Long (before_newline s)))
    (cond (leb (length s) line_most) Unfinished Endless)

-- ---- a whole input

-- the bytes before a newline, or "bytes left after the last newline"
pub data Cut : Type 0 where
  ended : List ℕ → Cut
  left : Cut

-- the last line, of the bytes since the last newline
abbrev pub remainder : List ℕ → List Cut
remainder [] = []
remainder (b ∷ s) = left ∷ []

-- the lines of s, the first of which starts with the bytes of `start`
abbrev pub lines_after : List ℕ → List ℕ → List Cut
lines_after start [] = remainder start
lines_after start (b ∷ s) = cond (eqb b newline) (ended start ∷ lines_after [] s) (lines_after (start ++ (b ∷ [])) s)

unfoldable pub input_lines : List ℕ → List Cut
input_lines s = lines_after [] s

-- what such a line is read as, f being what its bytes are: "bytes left after the last newline count as a line that fails check 1", and so does a
-- line of more than 4,800
abbrev pub cut_read : (List ℕ → Reading) → Cut → Reading
cut_read f (ended s) = cond (leb (length s) line_most) (f s) no_form
cut_read f left = no_form
