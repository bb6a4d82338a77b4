-- The generator of numbers that a load is made with.
use Rattle.std.specs.Prelude.{ℕ, ◌+◌, ◌*◌, ◌/◌, ◌%◌, ◌^◌}

-- "The generator takes s × 6364136223846793005 + 1442695040888963407, wrapping at 2^64 (Knuth's MMIX constants)"
abbrev pub next_seed : ℕ → ℕ
next_seed s = (s * 6364136223846793005 + 1442695040888963407) % 2 ^ 64

-- "and its draw is the new s divided by 2^32, rounded down": of s, once it is the new one
abbrev pub draw : ℕ → ℕ
draw s = s / 2 ^ 32
