-- A set of processors as one 64-bit number, bit p for processor p ("Signers are kept as a 64-bit set and counted as its ones").
use Rattle.std.specs.Prelude.{Bool, cond, ℕ, ◌/◌, ◌%◌, ◌^◌, eqb, ltb}
use Rattle.std.specs.Int.Bits.{bit_or}
use Rattle.std.specs.Int.Count.{ones}

unfoldable pub member : ℕ → ℕ → Bool
member s p = eqb (s / 2 ^ p % 2) 1

abbrev pub insert : ℕ → ℕ → ℕ
insert s p = bit_or s (2 ^ p)

-- the same on numbers of 64 bits: one that no set can hold is left out
abbrev pub insert_word : ℕ → ℕ → ℕ
insert_word s p = cond (ltb p 64) (insert s p) s

abbrev pub size : ℕ → ℕ
size s = ones s
