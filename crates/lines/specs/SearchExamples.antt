-- Which words are reported. Assumes nothing.
use Rattle.std.specs.Prelude.{◌≡◌, refl, Bool, true, false, List, [], ◌∷◌, map, ℕ, replicate}
use Rattle.lines.specs.Search.{word_bytes, bytes_in, some_newline, reported}

-- the lowest byte first
pub word_rows : List (List ℕ)
word_rows = bytes_in word_bytes 0x0807_0605_0403_0201 ∷ bytes_in word_bytes 0xff00_0000_0000_000a ∷ bytes_in word_bytes 256 ∷ []

pub word_rows-hold : word_rows ≡ ((1 ∷ 2 ∷ 3 ∷ 4 ∷ 5 ∷ 6 ∷ 7 ∷ 8 ∷ []) ∷ (10 ∷ 0 ∷ 0 ∷ 0 ∷ 0 ∷ 0 ∷ 0 ∷ 255 ∷ []) ∷ (0 ∷ 1 ∷ 0 ∷ 0 ∷ 0 ∷ 0 ∷ 0 ∷ 0 ∷ []) ∷ [])
unfolding word_rows bytes_in
word_rows-hold = refl

-- a newline at each place, and nowhere else; beside one that only looks like it, on either side; in all places
pub reported_rows : List Bool
reported_rows =
    map
    reported
    (0x000a
    ∷ 0x0a00
    ∷ 0x000a_0000
    ∷ 0x0a00_0000
    ∷ 0x000a_0000_0000
    ∷ 0x0a00_0000_0000
    ∷ 0x000a_0000_0000_0000
    ∷ 0x0a00_0000_0000_0000
    ∷ 0x8a8a_8a8a_8a8a_8a0a
    ∷ 0x0a8a_8a8a_8a8a_8a8a
    ∷ 0x0b0b_0b0b_0b0a_0b0b
    ∷ 0xffff_ff0a_ffff_ffff
    ∷ 0x0a0a_0a0a_0a0a_0a0a
    ∷ [])

pub reported_rows-hold : reported_rows ≡ replicate 13 true
unfolding reported_rows reported bytes_in some_newline
reported_rows-hold = refl

-- none: one bit away in each of the eight; with the highest bit, one more, one less, and a carriage return in all; across two bytes; all zeros; all ones; only behind the eighth
pub unreported_rows : List Bool
unreported_rows =
    map
    reported
    (0x8a4a_2a1a_020e_080b
    ∷ 0x8a8a_8a8a_8a8a_8a8a
    ∷ 0x0b0b_0b0b_0b0b_0b0b
    ∷ 0x0909_0909_0909_0909
    ∷ 0x0d0d_0d0d_0d0d_0d0d
    ∷ 0x00a0_00a0_00a0_00a0
    ∷ 0
    ∷ 0xffff_ffff_ffff_ffff
    ∷ 0x0a_0000_0000_0000_0000
    ∷ [])

pub unreported_rows-hold : unreported_rows ≡ replicate 9 false
unfolding unreported_rows reported bytes_in some_newline
unreported_rows-hold = refl
