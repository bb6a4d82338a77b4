-- Computed vectors at the edges: the last number that passes a limit, the order of checks that could both refuse, what an answer stands for,
-- and what of check 9 lasts.
-- Each row, its right side taken from document 01 and, for the network's words, from document 02's "Tighter post", shuts out the wrong number or
-- order that its comment is about. Assumes nothing.
use Rattle.std.specs.Prelude.{◌≡◌, refl, true, false, List, [], ◌∷◌, ◌++◌, map, length, replicate, Err, Ok}
use Rattle.types.specs.declared.Message.TheVariants.{View, Vote, Vc, Qc}
use Rattle.types.specs.declared.Event.TheVariants.{Deliver, Sign, Show, Settle, Tick}
use Rattle.types.specs.declared.Answer.TheVariants.{Done, Stopped, Refused}
use Rattle.types.specs.declared.Form.TheVariants.{Packed}
use Rattle.types.specs.declared.Input.TheVariants as input
use Rattle.types.specs.declared.Sends.TheVariants.{Nothing, Vote as VoteFor, ViewAndVote}
use Rattle.types.specs.Traffic.{no_traffic}
use Rattle.model.specs.State.{State, state_of, with_network, run_of, check_of, held_of, accepted}
use Rattle.model.specs.Checks.{lengths_outside, unsound_for_good}
use Rattle.model.specs.Opening.{opening}
use Rattle.model.specs.Processors.{sent_in, check_in}
use Rattle.model.specs.Lists.{after}
use Rattle.model.specs.Rows.{definitions, plan_of, standard, zeroes, copies, setup_of, lent, buffers, handed_in, Row, agreeing, truth, words, schedule, handed_row, fields_of, move_by}

-- ---- limits

pub limits : List Row
limits =
    -- n = 64 passes 2
    schedule buffers (setup_of (plan_of 64 2 4 6) 0 []) [] (Refused 6 ∷ [])
    -- 6,000 views pass 4
    ∷ schedule buffers (setup_of (plan_of 4 2 4 6000) 0 zeroes) [] (Refused 6 ∷ [])
    -- seven processors want 28 network words
    ∷ schedule (lent 24 27) (setup_of (plan_of 7 2 4 6) 0 []) [] (Refused 6 ∷ [])
    ∷ schedule (lent 24 28) (setup_of (plan_of 7 2 4 6) 0 []) [] (Done 0 14 ∷ [])
    -- 524,288 network words pass 6, and one more does not
    ∷ truth (lengths_outside Packed standard 24 524288) false
    ∷ truth (lengths_outside Packed standard 24 524289) true
    -- an opened run has 64 clocks and views
    ∷ words
    (length (opening (setup_of standard 0 zeroes) buffers).state.run.clocks ∷ length (opening (setup_of standard 0 zeroes) buffers).state.run.views ∷ [])
    (64 ∷ 64 ∷ [])
    -- a run handed in with a mask bit at n is unsound
    ∷ handed_row (handed_in standard 16 5 false 0 0 (replicate 4 5) zeroes [] []) (Settle ∷ []) (Refused 9 ∷ [])
    -- a faulty clock above VΓ is not read by 17
    ∷ handed_row (handed_in standard 8 5 false 0 0 (5 ∷ 5 ∷ 5 ∷ 999 ∷ []) (0 ∷ 0 ∷ 0 ∷ 50 ∷ []) [] []) (Tick 1 ∷ []) (Done 1 0 ∷ [])
    -- one processor whose plan has Γ below 2Δ
    ∷ move_by (plan_of 4 2 3 6) 2 0 2 input.Tick ((9 ∷ []) ∷ (2 ∷ 0 ∷ 2 ∷ []) ∷ [])
    ∷ move_by (plan_of 4 2 3 6) 2 0 2 (input.Vc 3) ((9 ∷ []) ∷ (2 ∷ 0 ∷ 2 ∷ []) ∷ [])
    ∷ move_by (plan_of 4 2 3 6) 2 0 2 (input.Qc 0) ((9 ∷ []) ∷ (2 ∷ 0 ∷ 2 ∷ []) ∷ [])
    -- or n below 4, or V no multiple of 3
    ∷ move_by (plan_of 3 2 4 6) 2 0 2 input.Tick ((9 ∷ []) ∷ (2 ∷ 0 ∷ 2 ∷ []) ∷ [])
    ∷ move_by (plan_of 4 2 4 7) 2 0 2 input.Tick ((9 ∷ []) ∷ (2 ∷ 0 ∷ 2 ∷ []) ∷ [])
    ∷ []

-- ---- the order of two checks whose sentences both hold

pub orders : List Row
orders =
    -- 9 before 15
    handed_row (handed_in standard 0 5 true 6 0 (replicate 4 5) zeroes [] []) (Settle ∷ []) (Refused 9 ∷ [])
    -- 12 before 18
    ∷ handed_row (with_network (copies 8 (64 ∷ 0 ∷ [])) (handed_in standard 8 5 false 0 8 (replicate 4 5) zeroes (7 ∷ 1 ∷ []) []))
    (Sign (View 0 1) ∷ []) (Refused 12 ∷ [])
    -- 13 and 14 before 17
    ∷ schedule buffers (setup_of standard 0 zeroes) (Deliver (Qc 5 0) ∷ Show (Qc 5 0) ∷ []) (Done 0 8 ∷ Refused 13 ∷ Refused 14 ∷ [])
    -- 13 before 18
    ∷ handed_row (with_network (copies 8 (64 ∷ 0 ∷ [])) (handed_in standard 0 5 false 0 8 (replicate 4 5) zeroes (15 ∷ 1 ∷ []) []))
    (Deliver (View 0 1) ∷ []) (Refused 13 ∷ [])
    -- 17 before 18, delivered
    ∷ handed_row
    (with_network (2752 ∷ 0 ∷ copies 7 (64 ∷ 0 ∷ [])) (handed_in standard 0 5 false 0 8 (replicate 4 5) zeroes (replicate 23 0 ++ (2 ∷ [])) []))
    (Deliver (Qc 5 0) ∷ []) (Refused 17 ∷ [])
    -- and in a tick
    ∷ schedule (lent 12 16) (setup_of (plan_of 4 2 4 3) 0 (replicate 4 11)) (Tick 1 ∷ []) (Done 0 8 ∷ Refused 17 ∷ [])
    ∷ []

-- ---- signers, marks and answers

pub meanings : List Row
meanings =
    -- a signer after the certificate is added too
    words
    (after (opening (setup_of standard 0 zeroes) (lent 24 32)).state (Deliver (Vote 0 0) ∷ Deliver (Vote 0 1) ∷ Deliver (Vote 0 2) ∷ Deliver (Vote 0 3) ∷ [])).tally
    (15 ∷ 0 ∷ 15 ∷ 2 ∷ replicate 20 0)
    -- the marks of a faulty leader's view do not count: f and one that entered are too few
    ∷ handed_row (handed_in standard 1 5 false 0 0 (replicate 4 5) zeroes (2 ∷ 0 ∷ 0 ∷ 3 ∷ []) []) (Show (Qc 0 1) ∷ []) (Refused 14 ∷ [])
    -- the check and the messages held that an answer stands for
    ∷ words (check_of (Done 3 10) ∷ check_of (Stopped 2 10 16) ∷ check_of (Refused 9) ∷ held_of (Done 3 10) ∷ held_of (Stopped 2 10 16) ∷ held_of (Refused 9) ∷ [])
    (0 ∷ 16 ∷ 9 ∷ 10 ∷ 10 ∷ 0 ∷ [])
    -- a run of ticks that a check ended is an accepted event
    ∷ truth (accepted (Stopped 2 10 16)) true
    -- the messages and the check that one processor's answer stands for
    ∷ (
      map fields_of (sent_in 2 (Ok (ViewAndVote 3)) ++ sent_in 2 (Ok (VoteFor 1)) ++ sent_in 2 (Ok Nothing) ++ sent_in 2 (Err 17)),
      (1 ∷ 3 ∷ 2 ∷ []) ∷ (2 ∷ 3 ∷ 2 ∷ []) ∷ (2 ∷ 1 ∷ 2 ∷ []) ∷ [],
    )
    ∷ words (check_in (Err 17) ∷ check_in (Ok Nothing) ∷ []) (17 ∷ 0 ∷ [])
    ∷ []

-- ---- what of check 9 lasts

-- the time is ahead of the clocks, one below VΓ
abbrev ahead : State
ahead = handed_in standard 0 23 false 0 0 (replicate 4 5) zeroes [] []

-- a table without entries: its clocks read as 0, and none can be set; the view certificate for 3 is formed
abbrev short : State
short = state_of (run_of standard 0 0 false 0 0 [] zeroes no_traffic) (replicate 15 0 ++ (1 ∷ replicate 8 0)) (replicate 32 0)

pub lasting : List Row
lasting =
    -- the time does not: two ticks, and the next event meets 9
    handed_row ahead (Tick 2 ∷ Settle ∷ []) (Done 2 0 ∷ Refused 9 ∷ [])
    -- all else of it does
    ∷ truth (unsound_for_good ahead) false
    ∷ truth (unsound_for_good (after ahead (Tick 2 ∷ []))) false
    -- but not where a table is too short for the clock that an entry sets
    ∷ handed_row short (Show (Vc 3 0) ∷ Settle ∷ []) (Done 0 2 ∷ Refused 9 ∷ [])
    ∷ truth (unsound_for_good short) false
    ∷ truth (unsound_for_good (after short (Show (Vc 3 0) ∷ []))) true
    ∷ []

-- ---- all of them agree

pub limits-hold : agreeing 0 limits ≡ length limits
unfolding limits definitions
limits-hold = refl

pub orders-hold : agreeing 0 orders ≡ length orders
unfolding orders definitions
orders-hold = refl

pub meanings-hold : agreeing 0 meanings ≡ length meanings
unfolding meanings definitions
meanings-hold = refl

pub lasting-hold : agreeing 0 lasting ≡ length lasting
unfolding lasting definitions
lasting-hold = refl
