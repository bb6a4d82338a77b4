-- What the plan's functions answer: document 01's number wherever it fits 64 bits, and a named one elsewhere.
use Rattle.std.specs.Prelude.{cond, ℕ, ◌-◌, ◌^◌, ◌≤◌, ◌<◌, eqb, leb, ltb}
use Rattle.types.specs.declared.Plan.{Plan}
use Rattle.types.specs.declared.Message.{Message}
use Rattle.types.specs.Quantities.{per_leader, per_leader_most, lead, next_initial, clock_time}
use Rattle.types.specs.Messages.{kind_of, view_in, processor_in, last_signature_kind}

-- of no processors none leads: 0
abbrev pub lead_word : Plan → ℕ → ℕ
lead_word p w = cond (eqb p.n 0) 0 (lead p w)

-- whom a message is for, with that leader
abbrev pub addressee_word : Plan → Message → ℕ
addressee_word p m = cond (leb (kind_of m) last_signature_kind) (lead_word p (view_in m)) (processor_in m)

-- a number of 2^64 or more is the largest number
abbrev pub next_initial_word : Plan → ℕ → ℕ
next_initial_word p w = cond (ltb (next_initial p w) (2 ^ 64)) (next_initial p w) (2 ^ 64 - 1)

abbrev pub clock_time_word : Plan → ℕ → ℕ
clock_time_word p w = cond (ltb (clock_time p w) (2 ^ 64)) (clock_time p w) (2 ^ 64 - 1)

-- when a clock comes to the first initial view above w
abbrev pub arrival_time : Plan → ℕ → ℕ
arrival_time p w = clock_time_word p (next_initial_word p w)

-- numbers for which that fits
abbrev pub Small : Plan → ℕ → Type 0
Small p w = (w < 8192) × (per_leader p ≤ per_leader_most) × (p.gamma < 2 ^ 32)
