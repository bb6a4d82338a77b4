-- Runs carried over, computed on the library's words. Each row, its right side taken from document 02's sentences, shuts out the wrong answer, order
-- or word that its comment is about. Assumes nothing.
use Rattle.std.specs.Prelude.{◌≡◌, refl, List, [], ◌∷◌, ◌++◌, ℕ, length, take, replicate, set}
use Rattle.types.specs.declared.Form.TheVariants.{Wide, Packed}
use Rattle.model.specs.Carrying.{CarriedOver}
use Rattle.model.specs.Rows.{definitions, Row, agreeing}
use Rattle.fever.specs.Layout.{setup_in, run_in, settled_word}
use Rattle.fever.specs.Clauses.{Lent, lent_of, opening_words}
use Rattle.fever.specs.Carrying.{carrying_words}
use Rattle.fever.specs.Examples.{opened_words}

-- the answer, and the target's words
abbrev answers_with : CarriedOver → ℕ → List ℕ → Row
answers_with c r ws = ((c.check ∷ []) ∷ c.target ∷ [], (r ∷ []) ∷ ws ∷ [])

-- what it answers to a target of so many words, none of them 0, which it leaves
abbrev keeps : CarriedOver → ℕ → ℕ → Row
keeps c r k = answers_with c r (replicate k 7)

-- the messages of the opening, in four words each: view message and vote of each of four processors
abbrev wide_words : List ℕ
wide_words =
    (1 ∷ 0 ∷ 0 ∷ 0 ∷ 2 ∷ 0 ∷ 0 ∷ 0 ∷ 1 ∷ 0 ∷ 1 ∷ 0 ∷ 2 ∷ 0 ∷ 1 ∷ 0 ∷ [])
    ++ (1 ∷ 0 ∷ 2 ∷ 0 ∷ 2 ∷ 0 ∷ 2 ∷ 0 ∷ 1 ∷ 0 ∷ 3 ∷ 0 ∷ 2 ∷ 0 ∷ 3 ∷ 0 ∷ [])

abbrev packed_words : List ℕ
packed_words = 0 ∷ 0 ∷ 64 ∷ 0 ∷ 1 ∷ 0 ∷ 65 ∷ 0 ∷ 2 ∷ 0 ∷ 66 ∷ 0 ∷ 3 ∷ 0 ∷ 67 ∷ 0 ∷ []

abbrev wide : Lent
wide = lent_of opened_words.run opened_words.tally wide_words

-- its settled word is 2
abbrev unsorted : Lent → Lent
unsorted x = lent_of (set x.run settled_word 2) x.tally x.network

-- a word less than a run has
abbrev short : Lent → Lent
short x = lent_of (take 146 x.run) x.tally x.network

pub carrying_rows : List Row
carrying_rows =
    -- `fever_unpack` and `fever_pack`: the rest of the target is 0
    answers_with (carrying_words Packed Wide opened_words (replicate 33 7)) 0 (wide_words ++ (0 ∷ []))
    ∷ answers_with (carrying_words Wide Packed wide (replicate 19 7)) 0 (packed_words ++ (0 ∷ 0 ∷ 0 ∷ []))
    -- the shortest targets, and one word less
    ∷ answers_with (carrying_words Wide Packed wide (replicate 16 7)) 0 packed_words
    ∷ keeps (carrying_words Wide Packed wide (replicate 15 7)) 6 15
    ∷ keeps (carrying_words Packed Wide opened_words (replicate 31 7)) 6 31
    -- the network of the other form: judged by its own, each is unsound
    ∷ keeps (carrying_words Packed Wide wide (replicate 64 7)) 9 64
    ∷ keeps (carrying_words Wide Packed opened_words (replicate 64 7)) 9 64
    -- a settled word of no run: 9, and 6 before it
    ∷ keeps (carrying_words Wide Packed (unsorted wide) (replicate 16 7)) 9 16
    ∷ keeps (carrying_words Wide Packed (unsorted wide) (replicate 15 7)) 6 15
    -- too few words of a run, before all else
    ∷ keeps (carrying_words Wide Packed (short wide) (replicate 16 7)) 1 16
    ∷ keeps (carrying_words Wide Packed (short (unsorted wide)) (replicate 15 7)) 1 15
    ∷ []

pub carrying-rows-hold : agreeing 0 carrying_rows ≡ length carrying_rows
unfolding carrying_rows carrying_words opening_words setup_in run_in definitions
carrying-rows-hold = refl
