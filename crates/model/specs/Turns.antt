-- Computed vectors of "Views per leader": the checks, leaders, initial views, moves and sound runs of turns that are not of three views. Each row,
-- its right side taken from document 02's sentences and document 01's rules, shuts out the wrong number or order that its comment is about.
-- Assumes nothing.
use Rattle.std.specs.Prelude.{◌≡◌, refl, false, cond, List, [], ◌∷◌, map, ℕ, length, replicate}
use Rattle.base.specs.Scan.{listed}
use Rattle.types.specs.declared.Plan.{Plan}
use Rattle.types.specs.declared.Message.TheVariants.{View, Vote, Vc, Qc}
use Rattle.types.specs.declared.Event.TheVariants.{Deliver, Sign, Show, Settle, Tick}
use Rattle.types.specs.declared.Input.TheVariants as input
use Rattle.types.specs.declared.Answer.{Answer}
use Rattle.types.specs.declared.Answer.TheVariants.{Done, Refused}
use Rattle.types.specs.Quantities.{lead, initial, next_initial}
use Rattle.model.specs.Opening.{opening}
use Rattle.model.specs.Lists.{after}
use Rattle.model.specs.Rows.{definitions, plan_with, zeroes, setup_of, lent, buffers, handed_in, Row, agreeing, words, schedule, full_schedule, handed_row, refused_opening, move_by}

-- four processors and Δ=2: turns of two views with Γ=8, and turns of five with Γ=4, two of each
abbrev two : Plan
two = plan_with 4 2 8 4 2

abbrev five : Plan
five = plan_with 4 2 4 10 5

-- ---- checks 3, 4 and 7

-- an opening, with these start clocks or all of them 0
abbrev starts_as : Plan → List ℕ → Answer → Row
starts_as plan clocks a = schedule buffers (setup_of plan 0 clocks) [] (a ∷ [])

abbrev opens_as : Plan → Answer → Row
opens_as plan a = starts_as plan zeroes a

pub openings_by_turn : List Row
openings_by_turn =
    -- "Check 3 wants Γ at least 4Δ for k=2"
    opens_as two (Done 0 8)
    ∷ opens_as (plan_with 4 2 7 4 2) (Refused 3)
    ∷ opens_as (plan_with 4 1000 4000 4 2) (Done 0 8)
    ∷ opens_as (plan_with 4 1000 3999 4 2) (Refused 3)
    -- 2Δ and 3Δ are too few, and 3 is before 4
    ∷ opens_as (plan_with 4 2 4 4 2) (Refused 3)
    ∷ opens_as (plan_with 4 2 6 5 2) (Refused 3)
    -- up to 10,000
    ∷ opens_as (plan_with 4 1000 10000 4 2) (Done 0 8)
    ∷ opens_as (plan_with 4 1000 10001 4 2) (Refused 3)
    -- "2Δ otherwise"
    ∷ opens_as (plan_with 4 2 4 6 3) (Done 0 8)
    ∷ opens_as (plan_with 4 2 3 6 3) (Refused 3)
    ∷ opens_as (plan_with 4 2 4 8 4) (Done 0 8)
    ∷ opens_as (plan_with 4 2 3 8 4) (Refused 3)
    ∷ opens_as five (Done 0 8)
    ∷ opens_as (plan_with 4 2 3 10 5) (Refused 3)
    ∷ opens_as (plan_with 4 2 4 12 6) (Done 0 8)
    ∷ opens_as (plan_with 4 2 3 12 6) (Refused 3)
    ∷ opens_as (plan_with 4 2 4 14 7) (Done 0 8)
    ∷ opens_as (plan_with 4 2 3 14 7) (Refused 3)
    ∷ opens_as (plan_with 4 2 4 8 8) (Done 0 8)
    ∷ opens_as (plan_with 4 2 3 8 8) (Refused 3)
    -- "k, the views per leader, 2 to 8 (check 4)": 9 and 1, of which V is a multiple, 0 and the largest number
    ∷ opens_as (plan_with 4 2 4 9 9) (Refused 4)
    ∷ opens_as (plan_with 4 2 4 6 1) (Refused 4)
    ∷ opens_as (plan_with 4 2 4 6 0) (Refused 4)
    ∷ opens_as (plan_with 4 2 4 6 18446744073709551615) (Refused 4)
    -- these ask 2Δ and not 4Δ: 4 with 3Δ
    ∷ opens_as (plan_with 4 2 6 9 9) (Refused 4)
    ∷ opens_as (plan_with 4 2 6 6 1) (Refused 4)
    ∷ opens_as (plan_with 4 2 6 6 0) (Refused 4)
    -- 3 with less
    ∷ opens_as (plan_with 4 2 3 9 9) (Refused 3)
    ∷ opens_as (plan_with 4 2 3 6 1) (Refused 3)
    ∷ opens_as (plan_with 4 2 3 6 0) (Refused 3)
    -- "the multiple in check 4 follow[s] k": a multiple of 3 alone, and one of k alone
    ∷ opens_as (plan_with 4 2 4 6 4) (Refused 4)
    ∷ opens_as (plan_with 4 2 8 3 2) (Refused 4)
    ∷ opens_as (plan_with 4 2 4 9 8) (Refused 4)
    ∷ opens_as (plan_with 4 2 4 7 7) (Done 0 8)
    -- V from 3 still
    ∷ opens_as (plan_with 4 2 8 2 2) (Refused 4)
    -- to 6,000, the largest multiples of 5, 7 and 8 passing
    ∷ opens_as (plan_with 4 2 4 6000 5) (Refused 6)
    ∷ opens_as (plan_with 4 2 4 5999 7) (Refused 6)
    ∷ opens_as (plan_with 4 2 4 6000 8) (Refused 6)
    ∷ opens_as (plan_with 4 2 4 6000 7) (Refused 4)
    ∷ opens_as (plan_with 4 2 4 6006 7) (Refused 4)
    -- "the limit on start clocks (kΓ)": below 3Γ for two views
    ∷ starts_as two (replicate 4 15) (Done 0 8)
    ∷ starts_as two (replicate 4 16) (Refused 7)
    ∷ starts_as two (replicate 4 23) (Refused 7)
    ∷ starts_as two (0 ∷ 0 ∷ 0 ∷ 16 ∷ []) (Refused 7)
    ∷ starts_as two (0 ∷ 0 ∷ 0 ∷ 15 ∷ []) (Refused 8)
    -- above it for five and eight
    ∷ starts_as five (replicate 4 16) (Done 0 8)
    ∷ starts_as five (replicate 4 19) (Done 0 8)
    ∷ starts_as five (replicate 4 20) (Refused 7)
    ∷ starts_as five (0 ∷ 0 ∷ 0 ∷ 19 ∷ []) (Refused 8)
    ∷ starts_as (plan_with 4 2 4 8 8) (replicate 4 31) (Done 0 8)
    ∷ starts_as (plan_with 4 2 4 8 8) (replicate 4 32) (Refused 7)
    -- a refused opening leaves the run's k, like the rest of it
    ∷ refused_opening (opening (setup_of two 0 zeroes) (lent 16 16)).state (setup_of (plan_with 4 2 8 9 9) 0 zeroes) 4
    ∷ []

-- ---- "Leader, initial view .. follow k"

abbrev initial_below : ℕ → Plan → List ℕ
initial_below m plan = listed (λ w. cond (initial plan w) 1 0) m

pub leaders_by_turn : List Row
leaders_by_turn =
    -- each leads k views in turn, and after the last the first again
    words (listed (lead two) 10) (0 ∷ 0 ∷ 1 ∷ 1 ∷ 2 ∷ 2 ∷ 3 ∷ 3 ∷ 0 ∷ 0 ∷ [])
    ∷ words (map (lead five) (0 ∷ 4 ∷ 5 ∷ 9 ∷ 10 ∷ 14 ∷ 15 ∷ 19 ∷ 20 ∷ 5999 ∷ [])) (0 ∷ 0 ∷ 1 ∷ 1 ∷ 2 ∷ 2 ∷ 3 ∷ 3 ∷ 0 ∷ 3 ∷ [])
    ∷ words (map (lead (plan_with 4 2 4 6000 8)) (0 ∷ 7 ∷ 8 ∷ 15 ∷ 16 ∷ 31 ∷ 32 ∷ 5999 ∷ [])) (0 ∷ 0 ∷ 1 ∷ 1 ∷ 2 ∷ 3 ∷ 0 ∷ 1 ∷ [])
    -- of seven processors
    ∷ words (map (lead (plan_with 7 2 8 6000 2)) (0 ∷ 1 ∷ 2 ∷ 7 ∷ 8 ∷ 12 ∷ 13 ∷ 14 ∷ 5999 ∷ [])) (0 ∷ 0 ∷ 1 ∷ 3 ∷ 4 ∷ 6 ∷ 6 ∷ 0 ∷ 3 ∷ [])
    ∷ words (map (lead (plan_with 7 2 4 6000 5)) (4 ∷ 5 ∷ 20 ∷ 29 ∷ 34 ∷ 35 ∷ 5999 ∷ [])) (0 ∷ 1 ∷ 4 ∷ 5 ∷ 6 ∷ 0 ∷ 2 ∷ [])
    ∷ words (map (lead (plan_with 7 2 4 6000 8)) (7 ∷ 8 ∷ 39 ∷ 40 ∷ 55 ∷ 56 ∷ 5999 ∷ [])) (0 ∷ 1 ∷ 4 ∷ 5 ∷ 6 ∷ 0 ∷ 0 ∷ [])
    -- with as many views as each has, one leader in all
    ∷ words (listed (lead (plan_with 4 2 4 8 8)) 8) (replicate 8 0)
    -- the first view of each turn is initial
    ∷ words (initial_below 9 two) (1 ∷ 0 ∷ 1 ∷ 0 ∷ 1 ∷ 0 ∷ 1 ∷ 0 ∷ 1 ∷ [])
    ∷ words (initial_below 11 five) (1 ∷ 0 ∷ 0 ∷ 0 ∷ 0 ∷ 1 ∷ 0 ∷ 0 ∷ 0 ∷ 0 ∷ 1 ∷ [])
    ∷ words (initial_below 9 (plan_with 4 2 4 16 8)) (1 ∷ 0 ∷ 0 ∷ 0 ∷ 0 ∷ 0 ∷ 0 ∷ 0 ∷ 1 ∷ [])
    -- and the next one is that of the next turn
    ∷ words (listed (next_initial two) 6) (2 ∷ 2 ∷ 4 ∷ 4 ∷ 6 ∷ 6 ∷ [])
    ∷ words (map (next_initial five) (0 ∷ 2 ∷ 3 ∷ 4 ∷ 5 ∷ 9 ∷ 10 ∷ [])) (5 ∷ 5 ∷ 5 ∷ 5 ∷ 10 ∷ 10 ∷ 15 ∷ [])
    ∷ words (map (next_initial (plan_with 4 2 4 16 8)) (0 ∷ 3 ∷ 7 ∷ 8 ∷ 15 ∷ 16 ∷ [])) (8 ∷ 8 ∷ 8 ∷ 16 ∷ 16 ∷ 24 ∷ [])
    ∷ []

-- ---- rules 1 to 5, and check 11

pub moves_by_turn : List Row
moves_by_turn =
    -- "a tick that brings the clock to wΓ, w initial, enters w": view 2 at 2Γ; and 3Γ, in the same turn, enters none
    full_schedule buffers (setup_of two 0 (replicate 4 15)) (Tick 1 ∷ Tick 8 ∷ []) (Done 0 8 ∷ Done 1 16 ∷ Done 8 16 ∷ [])
    ((0 ∷ 2 ∷ 24 ∷ []) ∷ (1 ∷ 2 ∷ 24 ∷ []) ∷ (2 ∷ 2 ∷ 24 ∷ []) ∷ (3 ∷ 2 ∷ 24 ∷ []) ∷ [])
    -- from the opening on
    ∷ full_schedule buffers (setup_of two 0 zeroes) (Tick 15 ∷ Tick 1 ∷ []) (Done 0 8 ∷ Done 15 8 ∷ Done 1 16 ∷ [])
    ((0 ∷ 2 ∷ 16 ∷ []) ∷ (1 ∷ 2 ∷ 16 ∷ []) ∷ (2 ∷ 2 ∷ 16 ∷ []) ∷ (3 ∷ 2 ∷ 16 ∷ []) ∷ [])
    -- five views: none at 3Γ, view 5 at 5Γ
    ∷ full_schedule buffers (setup_of five 0 (replicate 4 11)) (Tick 1 ∷ []) (Done 0 8 ∷ Done 1 8 ∷ [])
    ((0 ∷ 0 ∷ 12 ∷ []) ∷ (1 ∷ 0 ∷ 12 ∷ []) ∷ (2 ∷ 0 ∷ 12 ∷ []) ∷ (3 ∷ 0 ∷ 12 ∷ []) ∷ [])
    ∷ full_schedule buffers (setup_of five 0 (replicate 4 19)) (Tick 1 ∷ []) (Done 0 8 ∷ Done 1 16 ∷ [])
    ((0 ∷ 5 ∷ 20 ∷ []) ∷ (1 ∷ 5 ∷ 20 ∷ []) ∷ (2 ∷ 5 ∷ 20 ∷ []) ∷ (3 ∷ 5 ∷ 20 ∷ []) ∷ [])
    -- view message and vote are for leader 1: posted with processor 0 faulty, and not with processor 1 faulty
    ∷ words (after (opening (setup_of two 1 (replicate 4 15)) (lent 16 16)).state (Tick 1 ∷ [])).network
    (1025 ∷ 1 ∷ 1089 ∷ 1 ∷ 1026 ∷ 1 ∷ 1090 ∷ 1 ∷ 1027 ∷ 1 ∷ 1091 ∷ 1 ∷ replicate 4 0)
    ∷ schedule buffers (setup_of two 2 (15 ∷ 0 ∷ 15 ∷ 15 ∷ [])) (Tick 1 ∷ []) (Done 0 6 ∷ Done 1 6 ∷ [])
    -- the leader forms the certificates; those of a faulty one exist by the processors that entered
    ∷ schedule buffers (setup_of two 0 (replicate 4 15))
    (Tick 1 ∷ Deliver (View 2 0) ∷ Deliver (View 2 3) ∷ Deliver (Vote 2 0) ∷ Deliver (Vote 2 1) ∷ Deliver (Vote 2 2) ∷ [])
    (Done 0 8 ∷ Done 1 16 ∷ Done 0 15 ∷ Done 0 18 ∷ Done 0 17 ∷ Done 0 16 ∷ Done 0 19 ∷ [])
    ∷ schedule buffers (setup_of two 2 (15 ∷ 0 ∷ 15 ∷ 15 ∷ [])) (Show (Vc 2 0) ∷ Tick 1 ∷ Show (Qc 2 0) ∷ []) (Done 0 6 ∷ Refused 14 ∷ Done 1 6 ∷ Done 0 6 ∷ [])
    -- 11 for view 3 of turns of two, and not for view 2
    ∷ schedule buffers (setup_of two 8 zeroes)
    (Deliver (View 3 0) ∷ Sign (View 3 3) ∷ Show (Vc 3 0) ∷ Deliver (View 2 0) ∷ Sign (View 2 3) ∷ Show (Vc 2 0) ∷ [])
    (Done 0 6 ∷ Refused 11 ∷ Refused 11 ∷ Refused 11 ∷ Refused 13 ∷ Done 0 6 ∷ Refused 14 ∷ [])
    -- nor for view 5 of turns of five
    ∷ schedule buffers (setup_of five 8 zeroes) (Deliver (View 3 0) ∷ Sign (View 6 3) ∷ Show (Vc 9 0) ∷ Sign (View 5 3) ∷ Show (Vc 5 0) ∷ [])
    (Done 0 6 ∷ Refused 11 ∷ Refused 11 ∷ Refused 11 ∷ Done 0 6 ∷ Refused 14 ∷ [])
    ∷ []

-- ---- check 9

-- a run handed in whose last processor has this view and clock, the others being at 0
abbrev last_at : Plan → ℕ → ℕ → Answer → Row
last_at plan view clock a =
    handed_row (handed_in plan 0 0 false 0 0 (0 ∷ 0 ∷ 0 ∷ clock ∷ []) (0 ∷ 0 ∷ 0 ∷ view ∷ []) (replicate 40 0) []) (Settle ∷ []) (a ∷ [])

-- one whose processors are all at 0
abbrev rests_as : Plan → Answer → Row
rests_as plan a = last_at plan 0 0 a

pub sound_by_turn : List Row
sound_by_turn =
    -- "or not below that of the next initial view", which is 2 for views 0 and 1 of turns of two
    last_at two 0 15 (Done 0 0)
    ∷ last_at two 0 16 (Refused 9)
    ∷ last_at two 1 15 (Done 0 0)
    ∷ last_at two 1 16 (Refused 9)
    -- and 4 for view 2
    ∷ last_at two 2 24 (Done 0 0)
    ∷ last_at two 2 31 (Done 0 0)
    -- 5 for the first views of turns of five
    ∷ last_at five 0 12 (Done 0 0)
    ∷ last_at five 0 19 (Done 0 0)
    ∷ last_at five 0 20 (Refused 9)
    ∷ last_at five 4 19 (Done 0 0)
    ∷ last_at five 4 20 (Refused 9)
    ∷ last_at five 5 39 (Done 0 0)
    -- "addressed to a faulty cabinet": view 2 of turns of two is led by processor 1
    ∷ handed_row (handed_in two 2 0 false 0 1 zeroes zeroes [] (1090 ∷ 0 ∷ [])) (Settle ∷ []) (Refused 9 ∷ [])
    ∷ handed_row (handed_in two 1 0 false 0 1 zeroes zeroes [] (1090 ∷ 0 ∷ [])) (Settle ∷ []) (Done 0 1 ∷ [])
    -- "a limit of 2 to 6 broken": k
    ∷ rests_as (plan_with 4 2 4 8 8) (Done 0 0)
    ∷ rests_as (plan_with 4 2 4 9 9) (Refused 9)
    ∷ rests_as (plan_with 4 2 4 6 1) (Refused 9)
    ∷ rests_as (plan_with 4 2 4 6 0) (Refused 9)
    -- the slot
    ∷ rests_as two (Done 0 0)
    ∷ rests_as (plan_with 4 2 7 4 2) (Refused 9)
    -- the multiple
    ∷ rests_as (plan_with 4 2 4 6 4) (Refused 9)
    ∷ []

-- ---- one processor by itself

pub processor_by_turn : List Row
processor_by_turn =
    -- a tick to 2Γ in turns of two, and one to 3Γ
    move_by two 2 0 15 input.Tick ((0 ∷ []) ∷ (2 ∷ 2 ∷ 16 ∷ []) ∷ (1 ∷ 2 ∷ 2 ∷ []) ∷ (2 ∷ 2 ∷ 2 ∷ []) ∷ [])
    ∷ move_by two 2 2 23 input.Tick ((0 ∷ []) ∷ (2 ∷ 2 ∷ 24 ∷ []) ∷ [])
    -- to 3Γ in turns of five, and to 5Γ
    ∷ move_by five 2 0 11 input.Tick ((0 ∷ []) ∷ (2 ∷ 0 ∷ 12 ∷ []) ∷ [])
    ∷ move_by five 2 0 19 input.Tick ((0 ∷ []) ∷ (2 ∷ 5 ∷ 20 ∷ []) ∷ (1 ∷ 5 ∷ 2 ∷ []) ∷ (2 ∷ 5 ∷ 2 ∷ []) ∷ [])
    -- a view certificate for view 3 and one for view 2, in turns of two
    ∷ move_by two 2 0 2 (input.Vc 3) ((11 ∷ []) ∷ (2 ∷ 0 ∷ 2 ∷ []) ∷ [])
    ∷ move_by two 2 0 2 (input.Vc 2) ((0 ∷ []) ∷ (2 ∷ 2 ∷ 16 ∷ []) ∷ (1 ∷ 2 ∷ 2 ∷ []) ∷ (2 ∷ 2 ∷ 2 ∷ []) ∷ [])
    -- a quorum certificate into view 2 and one into view 3: both messages, and the vote alone
    ∷ move_by two 2 0 2 (input.Qc 1) ((0 ∷ []) ∷ (2 ∷ 2 ∷ 16 ∷ []) ∷ (1 ∷ 2 ∷ 2 ∷ []) ∷ (2 ∷ 2 ∷ 2 ∷ []) ∷ [])
    ∷ move_by two 2 0 2 (input.Qc 2) ((0 ∷ []) ∷ (2 ∷ 3 ∷ 24 ∷ []) ∷ (2 ∷ 3 ∷ 2 ∷ []) ∷ [])
    -- "9 (limits 2 to 4, its own clock and view)": a clock at the next initial view's, which 3Γ in view 2 is not
    ∷ move_by two 2 0 16 (input.Qc 2) ((9 ∷ []) ∷ (2 ∷ 0 ∷ 16 ∷ []) ∷ [])
    ∷ move_by two 2 2 24 (input.Qc 2) ((0 ∷ []) ∷ (2 ∷ 3 ∷ 24 ∷ []) ∷ (2 ∷ 3 ∷ 2 ∷ []) ∷ [])
    -- k outside 2 to 8
    ∷ move_by (plan_with 4 2 4 9 9) 2 0 2 input.Tick ((9 ∷ []) ∷ (2 ∷ 0 ∷ 2 ∷ []) ∷ [])
    ∷ move_by (plan_with 4 2 4 6 1) 2 0 2 input.Tick ((9 ∷ []) ∷ (2 ∷ 0 ∷ 2 ∷ []) ∷ [])
    ∷ move_by (plan_with 4 2 4 6 0) 2 0 2 input.Tick ((9 ∷ []) ∷ (2 ∷ 0 ∷ 2 ∷ []) ∷ [])
    -- a slot below 4Δ in turns of two, and V no multiple of k
    ∷ move_by (plan_with 4 2 7 4 2) 2 0 2 input.Tick ((9 ∷ []) ∷ (2 ∷ 0 ∷ 2 ∷ []) ∷ [])
    ∷ move_by (plan_with 4 2 4 6 4) 2 0 2 input.Tick ((9 ∷ []) ∷ (2 ∷ 0 ∷ 2 ∷ []) ∷ [])
    ∷ []

-- ---- all of them agree

pub openings_by_turn-hold : agreeing 0 openings_by_turn ≡ length openings_by_turn
unfolding openings_by_turn definitions
openings_by_turn-hold = refl

pub leaders_by_turn-hold : agreeing 0 leaders_by_turn ≡ length leaders_by_turn
unfolding leaders_by_turn definitions
leaders_by_turn-hold = refl

pub moves_by_turn-hold : agreeing 0 moves_by_turn ≡ length moves_by_turn
unfolding moves_by_turn definitions
moves_by_turn-hold = refl

pub sound_by_turn-hold : agreeing 0 sound_by_turn ≡ length sound_by_turn
unfolding sound_by_turn definitions
sound_by_turn-hold = refl

pub processor_by_turn-hold : agreeing 0 processor_by_turn ≡ length processor_by_turn
unfolding processor_by_turn definitions
processor_by_turn-hold = refl
