-- Computed vectors: which check refuses, and what none refuses. Each row, its right side taken from document 01 and, for the network's words, from
-- document 02's "Tighter post", shuts out the wrong check or order that its comment is about. Assumes nothing.
use Rattle.std.specs.Prelude.{◌≡◌, refl, true, false, List, [], ◌∷◌, ◌++◌, length, replicate}
use Rattle.types.specs.declared.Message.TheVariants.{View, Vote, Vc, Qc}
use Rattle.types.specs.declared.Event.TheVariants.{Deliver, Sign, Show, Settle, Tick}
use Rattle.types.specs.declared.Input.TheVariants as input
use Rattle.types.specs.declared.Answer.TheVariants.{Done, Refused}
use Rattle.model.specs.State.{with_tally, with_network}
use Rattle.model.specs.Checks.{too_far_ahead}
use Rattle.model.specs.Rows.{definitions, plan_of, standard, padded, table, zeroes, copies, setup_of, lent, buffers, handed_in, Row, agreeing, truth, schedule, full_schedule, handed_row, refused_whole, one_move}

-- ---- checks 2 to 8

pub openings : List Row
openings =
    -- n below 4; and 2 before 3
    schedule buffers (setup_of (plan_of 3 0 4 6) 0 zeroes) [] (Refused 2 ∷ [])
    -- n above 64
    ∷ schedule buffers (setup_of (plan_of 65 2 4 6) 0 zeroes) [] (Refused 2 ∷ [])
    -- no delay; and 3 before 4
    ∷ schedule buffers (setup_of (plan_of 4 0 4 7) 0 zeroes) [] (Refused 3 ∷ [])
    -- a delay above 1,000
    ∷ schedule buffers (setup_of (plan_of 4 1001 2002 6) 0 zeroes) [] (Refused 3 ∷ [])
    -- "Δ=4, Γ=7: check 3"
    ∷ schedule buffers (setup_of (plan_of 4 4 7 6) 0 zeroes) [] (Refused 3 ∷ [])
    -- "Γ=8 passes"
    ∷ schedule buffers (setup_of (plan_of 4 4 8 6) 0 zeroes) [] (Done 0 8 ∷ [])
    -- a slot above 10,000
    ∷ schedule buffers (setup_of (plan_of 4 2 10001 6) 0 zeroes) [] (Refused 3 ∷ [])
    -- the largest delay and slot
    ∷ schedule buffers (setup_of (plan_of 4 1000 10000 6) 0 zeroes) [] (Done 0 8 ∷ [])
    -- no views
    ∷ schedule buffers (setup_of (plan_of 4 2 4 0) 0 zeroes) [] (Refused 4 ∷ [])
    -- no multiple of 3; and 4 before 5
    ∷ schedule buffers (setup_of (plan_of 4 2 4 7) 16 zeroes) [] (Refused 4 ∷ [])
    -- above 6,000
    ∷ schedule buffers (setup_of (plan_of 4 2 4 6003) 0 zeroes) [] (Refused 4 ∷ [])
    -- three views: one leader
    ∷ schedule (lent 12 16) (setup_of (plan_of 4 2 4 3) 0 zeroes) [] (Done 0 8 ∷ [])
    -- a mask bit at n; and 5 before 6
    ∷ schedule (lent 0 0) (setup_of standard 16 zeroes) [] (Refused 5 ∷ [])
    -- one at 63
    ∷ schedule buffers (setup_of standard 9223372036854775808 zeroes) [] (Refused 5 ∷ [])
    -- more than t faulty
    ∷ schedule buffers (setup_of standard 6 zeroes) [] (Refused 5 ∷ [])
    -- n = 4, mask 8
    ∷ schedule buffers (setup_of standard 8 zeroes) [] (Done 0 6 ∷ [])
    -- n = 5, mask 16
    ∷ schedule buffers (setup_of (plan_of 5 2 4 6) 16 (replicate 5 0)) [] (Done 0 8 ∷ [])
    -- n = 7, mask 96: two faulty
    ∷ schedule buffers (setup_of (plan_of 7 2 4 6) 96 (replicate 7 0)) [] (Done 0 10 ∷ [])
    -- mask 112: three
    ∷ schedule buffers (setup_of (plan_of 7 2 4 6) 112 (replicate 7 0)) [] (Refused 5 ∷ [])
    -- too few tally words; and 6 before 7
    ∷ schedule (lent 23 16) (setup_of standard 0 (12 ∷ 0 ∷ 0 ∷ 0 ∷ [])) [] (Refused 6 ∷ [])
    -- too few network words
    ∷ schedule (lent 24 15) (setup_of standard 0 zeroes) [] (Refused 6 ∷ [])
    -- just enough of both
    ∷ schedule (lent 24 16) (setup_of standard 0 zeroes) [] (Done 0 8 ∷ [])
    -- 7 before 8
    ∷ schedule buffers (setup_of standard 0 (12 ∷ 0 ∷ 0 ∷ 0 ∷ [])) [] (Refused 7 ∷ [])
    -- 11 passes 7
    ∷ schedule buffers (setup_of standard 0 (11 ∷ 0 ∷ 0 ∷ 0 ∷ [])) [] (Refused 8 ∷ [])
    -- a faulty clock is not read by 7 or 8
    ∷ schedule buffers (setup_of standard 2 (0 ∷ 99 ∷ 0 ∷ 0 ∷ [])) [] (Done 0 6 ∷ [])
    -- only clocks ahead are bounded: a single one far behind is no reason to refuse
    ∷ schedule buffers (setup_of standard 0 (0 ∷ 9 ∷ 9 ∷ 9 ∷ [])) [] (Done 0 8 ∷ [])
    -- a clock ahead counts however far ahead it is: the sentence itself, since 7 refuses such start clocks before it
    ∷ truth (too_far_ahead standard 0 (table (0 ∷ 99 ∷ 99 ∷ 99 ∷ []))) false
    -- c'+Γ equal to c counts
    ∷ schedule buffers (setup_of standard 0 (5 ∷ 1 ∷ 0 ∷ 0 ∷ [])) [] (Done 0 8 ∷ [])
    -- one less does not
    ∷ schedule buffers (setup_of standard 0 (6 ∷ 1 ∷ 0 ∷ 0 ∷ [])) [] (Refused 8 ∷ [])
    -- n = 7: t+1 is 3, and two are too few
    ∷ schedule buffers (setup_of (plan_of 7 2 4 6) 0 (9 ∷ 9 ∷ 0 ∷ 0 ∷ 0 ∷ 0 ∷ 0 ∷ [])) [] (Refused 8 ∷ [])
    -- three equal clocks each count
    ∷ schedule buffers (setup_of (plan_of 7 2 4 6) 0 (9 ∷ 9 ∷ 9 ∷ 0 ∷ 0 ∷ 0 ∷ 0 ∷ [])) [] (Done 0 14 ∷ [])
    -- n = 5: two, its own counted
    ∷ schedule buffers (setup_of (plan_of 5 2 4 6) 0 (9 ∷ 9 ∷ 0 ∷ 0 ∷ 0 ∷ [])) [] (Done 0 10 ∷ [])
    -- n = 5 with the other one faulty
    ∷ schedule buffers (setup_of (plan_of 5 2 4 6) 2 (9 ∷ 9 ∷ 0 ∷ 0 ∷ 0 ∷ [])) [] (Refused 8 ∷ [])
    ∷ []

-- ---- checks 1 and 10 to 17

pub naming : List Row
naming =
    -- 10 before 11, for any form
    schedule buffers (setup_of standard 8 zeroes) (Deliver (View 7 0) ∷ Sign (View 7 3) ∷ Show (Vc 7 0) ∷ [])
    (Done 0 6 ∷ Refused 10 ∷ Refused 10 ∷ Refused 10 ∷ [])
    -- a view V or more, though the tally has words for it; the last view is not
    ∷ schedule buffers (setup_of standard 0 zeroes) (Deliver (Vote 6 0) ∷ Deliver (Vote 5 0) ∷ []) (Done 0 8 ∷ Refused 10 ∷ Refused 13 ∷ [])
    -- a view whose words would wrap round; a processor n or more
    ∷ schedule buffers (setup_of standard 0 zeroes) (Deliver (Vote 4611686018427387904 0) ∷ Deliver (Vote 0 4) ∷ Show (Qc 0 4) ∷ Sign (Vote 0 4) ∷ [])
    (Done 0 8 ∷ Refused 10 ∷ Refused 10 ∷ Refused 10 ∷ Refused 10 ∷ [])
    -- 11 for view messages and view certificates alone
    ∷ schedule buffers (setup_of standard 8 zeroes)
    (Deliver (View 1 0) ∷ Sign (View 1 3) ∷ Show (Vc 1 0) ∷ Deliver (Vote 1 0) ∷ Show (Qc 1 0) ∷ Sign (Vote 1 3) ∷ [])
    (Done 0 6 ∷ Refused 11 ∷ Refused 11 ∷ Refused 11 ∷ Refused 13 ∷ Refused 14 ∷ Done 0 6 ∷ [])
    -- 11 before 12
    ∷ schedule buffers (setup_of standard 8 zeroes) (Sign (View 1 0) ∷ Show (Vc 1 3) ∷ []) (Done 0 6 ∷ Refused 11 ∷ Refused 11 ∷ [])
    -- a correct signer; a faulty processor shown to, before 14
    ∷ schedule buffers (setup_of standard 2 zeroes) (Sign (View 0 0) ∷ Sign (Vote 0 2) ∷ Show (Vc 0 1) ∷ Show (Qc 0 1) ∷ [])
    (Done 0 6 ∷ Refused 12 ∷ Refused 12 ∷ Refused 12 ∷ Refused 12 ∷ [])
    -- a delivered message is gone; a certificate for a faulty processor never was there
    ∷ schedule buffers (setup_of standard 8 zeroes)
    (Deliver (Vote 0 0) ∷ Deliver (Vote 0 0) ∷ Deliver (Vote 0 1) ∷ Deliver (Vote 0 2) ∷ Deliver (Qc 0 3) ∷ Deliver (Qc 0 0) ∷ [])
    (Done 0 6 ∷ Done 0 5 ∷ Refused 13 ∷ Done 0 4 ∷ Done 0 6 ∷ Refused 13 ∷ Done 0 6 ∷ [])
    -- a correct leader's certificate exists if formed, whoever entered
    ∷ schedule buffers (setup_of standard 0 zeroes)
    (Show (Qc 0 0) ∷ Show (Vc 0 0) ∷ Deliver (View 0 0) ∷ Deliver (View 0 1) ∷ Show (Vc 0 0) ∷ Show (Qc 0 0) ∷ [])
    (Done 0 8 ∷ Refused 14 ∷ Refused 14 ∷ Done 0 7 ∷ Done 0 10 ∷ Done 0 10 ∷ Refused 14 ∷ [])
    -- a faulty leader's quorum certificate: f and two that entered are n−t
    ∷ full_schedule buffers (setup_of standard 1 zeroes) (Show (Qc 0 1) ∷ Show (Qc 1 1) ∷ Show (Qc 0 2) ∷ Show (Qc 1 1) ∷ [])
    (Done 0 0 ∷ Done 0 0 ∷ Refused 14 ∷ Done 0 0 ∷ Done 0 0 ∷ []) ((1 ∷ 2 ∷ 8 ∷ []) ∷ (2 ∷ 1 ∷ 4 ∷ []) ∷ (3 ∷ 0 ∷ 0 ∷ []) ∷ [])
    -- its view certificate: f and one that entered are t+1; then the quorum certificate
    ∷ full_schedule buffers (setup_of standard 2 (11 ∷ 0 ∷ 10 ∷ 0 ∷ [])) (Show (Vc 3 3) ∷ Tick 1 ∷ Show (Qc 3 2) ∷ Show (Vc 3 3) ∷ Show (Qc 3 2) ∷ [])
    (Done 0 6 ∷ Refused 14 ∷ Done 1 6 ∷ Refused 14 ∷ Done 0 6 ∷ Done 0 6 ∷ []) ((0 ∷ 3 ∷ 12 ∷ []) ∷ (2 ∷ 4 ∷ 16 ∷ []) ∷ (3 ∷ 3 ∷ 12 ∷ []) ∷ [])
    -- n = 5: f and two that entered are 2t+1, and not yet n−t
    ∷ schedule buffers (setup_of (plan_of 5 2 4 6) 1 (replicate 5 0)) (Show (Qc 0 1) ∷ Show (Qc 0 2) ∷ Show (Qc 1 1) ∷ Show (Qc 0 3) ∷ Show (Qc 1 1) ∷ [])
    (Done 0 0 ∷ Done 0 0 ∷ Done 0 0 ∷ Refused 14 ∷ Done 0 0 ∷ Done 0 0 ∷ [])
    -- n = 7 with one faulty: t and one that entered would be t+1, f and one are not
    ∷ schedule buffers (setup_of (plan_of 7 2 4 6) 2 (11 ∷ 0 ∷ 9 ∷ 9 ∷ 9 ∷ 9 ∷ 9 ∷ [])) (Tick 1 ∷ Show (Vc 3 2) ∷ []) (Done 0 12 ∷ Done 1 12 ∷ Refused 14 ∷ [])
    -- entries by tick count
    ∷ full_schedule buffers (setup_of standard 2 (11 ∷ 0 ∷ 11 ∷ 11 ∷ [])) (Tick 1 ∷ Show (Vc 3 0) ∷ Show (Qc 3 0) ∷ [])
    (Done 0 6 ∷ Done 1 6 ∷ Done 0 6 ∷ Done 0 6 ∷ []) ((0 ∷ 4 ∷ 16 ∷ []) ∷ (2 ∷ 3 ∷ 12 ∷ []) ∷ (3 ∷ 3 ∷ 12 ∷ []) ∷ [])
    -- a certificate below the present view is accepted and does nothing
    ∷ full_schedule buffers (setup_of standard 1 zeroes) (Show (Qc 0 1) ∷ Show (Qc 0 1) ∷ Show (Vc 0 1) ∷ []) (Done 0 0 ∷ Done 0 0 ∷ Done 0 0 ∷ Done 0 0 ∷ [])
    ((1 ∷ 1 ∷ 4 ∷ []) ∷ (2 ∷ 0 ∷ 0 ∷ []) ∷ (3 ∷ 0 ∷ 0 ∷ []) ∷ [])
    -- a quorum certificate for V−1, shown
    ∷ refused_whole (handed_in standard 0 5 false 0 1 (replicate 4 5) zeroes (replicate 23 0 ++ (2 ∷ [])) (2752 ∷ 0 ∷ [])) (Show (Qc 5 1)) 17
    -- or delivered
    ∷ refused_whole (handed_in standard 0 5 false 0 1 (replicate 4 5) zeroes (replicate 23 0 ++ (2 ∷ [])) (2752 ∷ 0 ∷ [])) (Deliver (Qc 5 0)) 17
    ∷ []

-- ---- check 9, and 1 before it

pub handed_in_runs : List Row
handed_in_runs =
    -- no run yet: 9 to every event, but 1 to what has no form
    handed_row (lent 24 16) (Deliver (View 0 0) ∷ Sign (View 0 0) ∷ Show (Vc 0 0) ∷ Settle ∷ Tick 1 ∷ [])
    (Refused 9 ∷ Refused 9 ∷ Refused 9 ∷ Refused 9 ∷ Refused 9 ∷ [])
    -- 0 ticks, a certificate signed, a signature shown
    ∷ handed_row (lent 24 16) (Tick 0 ∷ Sign (Vc 0 0) ∷ Sign (Qc 0 0) ∷ Show (View 0 0) ∷ Show (Vote 0 0) ∷ [])
    (Refused 1 ∷ Refused 1 ∷ Refused 1 ∷ Refused 1 ∷ Refused 1 ∷ [])
    -- sound: a message sent now
    ∷ handed_row (handed_in standard 0 5 false 0 1 (replicate 4 5) zeroes [] (65 ∷ 5 ∷ [])) (Settle ∷ []) (Done 0 1 ∷ [])
    -- sound: a faulty sender
    ∷ handed_row (handed_in standard 2 5 false 0 1 (replicate 4 5) zeroes [] (65 ∷ 5 ∷ [])) (Settle ∷ []) (Done 0 1 ∷ [])
    -- sound: a faulty processor's clock and view
    ∷ handed_row (handed_in standard 8 5 false 0 1 (5 ∷ 5 ∷ 5 ∷ 999 ∷ []) (0 ∷ 0 ∷ 0 ∷ 50 ∷ []) [] (65 ∷ 5 ∷ [])) (Settle ∷ []) (Done 0 1 ∷ [])
    -- sound: a clock condition that does not hold
    ∷ handed_row (handed_in standard 0 5 false 0 1 (11 ∷ 0 ∷ 0 ∷ 0 ∷ []) zeroes [] (65 ∷ 5 ∷ [])) (Settle ∷ []) (Done 0 1 ∷ [])
    -- sound: a settled run with settling time 0
    ∷ handed_row (handed_in standard 0 5 true 0 0 (replicate 4 5) zeroes [] []) (Tick 1 ∷ []) (Done 1 0 ∷ [])
    -- sound: a held view message for a view that is not initial; 11 refuses its delivery
    ∷ handed_row (handed_in standard 0 5 false 0 1 (replicate 4 5) zeroes [] (512 ∷ 0 ∷ [])) (Settle ∷ Deliver (View 1 0) ∷ [])
    (Done 0 1 ∷ Refused 11 ∷ [])
    -- unsound: kind 5
    ∷ handed_row (handed_in standard 0 5 false 0 1 (replicate 4 5) zeroes [] (257 ∷ 5 ∷ [])) (Settle ∷ []) (Refused 9 ∷ [])
    -- unsound: a view V
    ∷ handed_row (handed_in standard 0 5 false 0 1 (replicate 4 5) zeroes [] (3137 ∷ 5 ∷ [])) (Settle ∷ []) (Refused 9 ∷ [])
    -- unsound: a certificate for a view V
    ∷ handed_row (handed_in standard 0 5 false 0 1 (replicate 4 5) zeroes [] (3265 ∷ 5 ∷ [])) (Settle ∷ []) (Refused 9 ∷ [])
    -- unsound: a processor n
    ∷ handed_row (handed_in standard 0 5 false 0 1 (replicate 4 5) zeroes [] (68 ∷ 5 ∷ [])) (Settle ∷ []) (Refused 9 ∷ [])
    -- unsound: a message to a faulty leader
    ∷ handed_row (handed_in standard 1 5 false 0 1 (replicate 4 5) zeroes [] (65 ∷ 5 ∷ [])) (Settle ∷ []) (Refused 9 ∷ [])
    -- unsound: a certificate to a faulty processor
    ∷ handed_row (handed_in standard 2 5 false 0 1 (replicate 4 5) zeroes [] (193 ∷ 5 ∷ [])) (Settle ∷ []) (Refused 9 ∷ [])
    -- unsound: sent later than now
    ∷ handed_row (handed_in standard 0 5 false 0 1 (replicate 4 5) zeroes [] (65 ∷ 6 ∷ [])) (Settle ∷ []) (Refused 9 ∷ [])
    -- unsound: a second message out of range
    ∷ handed_row (handed_in standard 0 5 false 0 2 (replicate 4 5) zeroes [] (65 ∷ 5 ∷ 65 ∷ 6 ∷ [])) (Settle ∷ []) (Refused 9 ∷ [])
    -- unsound: a word beyond the last message
    ∷ handed_row (handed_in standard 0 5 false 0 1 (replicate 4 5) zeroes [] (65 ∷ 5 ∷ 0 ∷ 1 ∷ [])) (Settle ∷ []) (Refused 9 ∷ [])
    -- unsound: the odd word, which no message can use
    ∷ handed_row (with_network (replicate 16 0 ++ (1 ∷ [])) (handed_in standard 0 5 false 0 0 (replicate 4 5) zeroes [] [])) (Settle ∷ []) (Refused 9 ∷ [])
    -- unsound: more messages than fit
    ∷ handed_row (with_network (copies 8 (64 ∷ 0 ∷ []) ++ (64 ∷ [])) (handed_in standard 0 5 false 0 9 (replicate 4 5) zeroes [] [])) (Settle ∷ [])
    (Refused 9 ∷ [])
    -- unsound: a number of them that would wrap round
    ∷ handed_row (handed_in standard 0 5 false 0 9223372036854775808 (replicate 4 5) zeroes [] (65 ∷ 5 ∷ [])) (Settle ∷ []) (Refused 9 ∷ [])
    -- unsound: a settling time in an unsettled run
    ∷ handed_row (handed_in standard 0 5 false 1 1 (replicate 4 5) zeroes [] (65 ∷ 5 ∷ [])) (Settle ∷ []) (Refused 9 ∷ [])
    -- unsound: one later than now
    ∷ handed_row (handed_in standard 0 5 true 6 1 (replicate 4 5) zeroes [] (65 ∷ 5 ∷ [])) (Tick 1 ∷ []) (Refused 9 ∷ [])
    -- unsound: a correct clock at VΓ, in a view V
    ∷ handed_row (handed_in standard 0 5 false 0 1 (5 ∷ 5 ∷ 5 ∷ 24 ∷ []) (0 ∷ 0 ∷ 0 ∷ 6 ∷ []) [] (65 ∷ 5 ∷ [])) (Settle ∷ []) (Refused 9 ∷ [])
    -- unsound: the time at VΓ
    ∷ handed_row (handed_in standard 0 24 false 0 1 (replicate 4 5) zeroes [] (65 ∷ 5 ∷ [])) (Settle ∷ []) (Refused 9 ∷ [])
    -- sound: the time below it
    ∷ handed_row (handed_in standard 0 23 false 0 1 (replicate 4 5) zeroes [] (65 ∷ 5 ∷ [])) (Settle ∷ []) (Done 0 1 ∷ [])
    -- unsound: a clock below its view's clock time
    ∷ handed_row (handed_in standard 0 5 false 0 1 (5 ∷ 5 ∷ 5 ∷ 7 ∷ []) (0 ∷ 0 ∷ 0 ∷ 2 ∷ []) [] (65 ∷ 5 ∷ [])) (Settle ∷ []) (Refused 9 ∷ [])
    -- sound: a clock at it
    ∷ handed_row (handed_in standard 0 5 false 0 1 (5 ∷ 5 ∷ 5 ∷ 8 ∷ []) (0 ∷ 0 ∷ 0 ∷ 2 ∷ []) [] (65 ∷ 5 ∷ [])) (Settle ∷ []) (Done 0 1 ∷ [])
    -- unsound: a clock at that of the next initial view
    ∷ handed_row (handed_in standard 0 5 false 0 1 (5 ∷ 5 ∷ 5 ∷ 12 ∷ []) (0 ∷ 0 ∷ 0 ∷ 2 ∷ []) [] (65 ∷ 5 ∷ [])) (Settle ∷ []) (Refused 9 ∷ [])
    -- unsound: a view whose clock time would wrap round to 0
    ∷ handed_row (handed_in standard 0 5 false 0 1 zeroes (0 ∷ 0 ∷ 0 ∷ 4611686018427387904 ∷ []) [] (65 ∷ 5 ∷ [])) (Settle ∷ []) (Refused 9 ∷ [])
    -- unsound: n out of range
    ∷ handed_row (handed_in (plan_of 3 2 4 6) 0 5 false 0 1 (replicate 4 5) zeroes [] (65 ∷ 5 ∷ [])) (Settle ∷ []) (Refused 9 ∷ [])
    -- unsound: Γ below 2Δ
    ∷ handed_row (handed_in (plan_of 4 2 3 6) 0 5 false 0 1 (replicate 4 5) zeroes [] (65 ∷ 5 ∷ [])) (Settle ∷ []) (Refused 9 ∷ [])
    -- unsound: no multiple of 3
    ∷ handed_row (handed_in (plan_of 4 2 4 5) 0 5 false 0 1 (replicate 4 5) zeroes [] (65 ∷ 5 ∷ [])) (Settle ∷ []) (Refused 9 ∷ [])
    -- unsound: more than t faulty
    ∷ handed_row (handed_in standard 12 5 false 0 1 (replicate 4 5) zeroes [] (65 ∷ 5 ∷ [])) (Settle ∷ []) (Refused 9 ∷ [])
    -- unsound: too few tally words
    ∷ handed_row (with_tally (padded 23 []) (handed_in standard 0 5 false 0 1 (replicate 4 5) zeroes [] (65 ∷ 5 ∷ []))) (Settle ∷ []) (Refused 9 ∷ [])
    -- unsound: too few network words
    ∷ handed_row (with_network (padded 15 (65 ∷ 5 ∷ [])) (handed_in standard 0 5 false 0 1 (replicate 4 5) zeroes [] [])) (Settle ∷ []) (Refused 9 ∷ [])
    ∷ []

-- ---- one processor by itself

pub one_processor : List Row
one_processor =
    -- a tick to the clock time of an initial view
    one_move 2 0 11 input.Tick ((0 ∷ []) ∷ (2 ∷ 3 ∷ 12 ∷ []) ∷ (1 ∷ 3 ∷ 2 ∷ []) ∷ (2 ∷ 3 ∷ 2 ∷ []) ∷ [])
    -- a tick to that of another view
    ∷ one_move 2 0 3 input.Tick ((0 ∷ []) ∷ (2 ∷ 0 ∷ 4 ∷ []) ∷ [])
    -- a view certificate above the present view
    ∷ one_move 2 0 2 (input.Vc 3) ((0 ∷ []) ∷ (2 ∷ 3 ∷ 12 ∷ []) ∷ (1 ∷ 3 ∷ 2 ∷ []) ∷ (2 ∷ 3 ∷ 2 ∷ []) ∷ [])
    -- a quorum certificate above it, for a view that is not initial
    ∷ one_move 2 0 2 (input.Qc 1) ((0 ∷ []) ∷ (2 ∷ 2 ∷ 8 ∷ []) ∷ (2 ∷ 2 ∷ 2 ∷ []) ∷ [])
    -- below it
    ∷ one_move 2 2 9 (input.Qc 1) ((0 ∷ []) ∷ (2 ∷ 2 ∷ 9 ∷ []) ∷ [])
    -- a clock below its view's clock time; and 9 before 10
    ∷ one_move 2 1 3 (input.Qc 9) ((9 ∷ []) ∷ (2 ∷ 1 ∷ 3 ∷ []) ∷ [])
    -- 10 before 11
    ∷ one_move 2 0 2 (input.Vc 7) ((10 ∷ []) ∷ (2 ∷ 0 ∷ 2 ∷ []) ∷ [])
    -- a quorum certificate for a view V
    ∷ one_move 2 0 2 (input.Qc 6) ((10 ∷ []) ∷ (2 ∷ 0 ∷ 2 ∷ []) ∷ [])
    -- a view that is not initial
    ∷ one_move 2 0 2 (input.Vc 1) ((11 ∷ []) ∷ (2 ∷ 0 ∷ 2 ∷ []) ∷ [])
    -- a tick to VΓ
    ∷ one_move 2 5 23 input.Tick ((17 ∷ []) ∷ (2 ∷ 5 ∷ 23 ∷ []) ∷ [])
    -- a number n or more, also with a tick
    ∷ one_move 4 0 2 input.Tick ((10 ∷ []) ∷ (4 ∷ 0 ∷ 2 ∷ []) ∷ [])
    ∷ one_move 4 0 2 (input.Vc 3) ((10 ∷ []) ∷ (4 ∷ 0 ∷ 2 ∷ []) ∷ [])
    ∷ []

-- ---- all of them agree

pub openings-hold : agreeing 0 openings ≡ length openings
unfolding openings definitions
openings-hold = refl

pub naming-hold : agreeing 0 naming ≡ length naming
unfolding naming definitions
naming-hold = refl

pub handed_in_runs-hold : agreeing 0 handed_in_runs ≡ length handed_in_runs
unfolding handed_in_runs definitions
handed_in_runs-hold = refl

pub one_processor-hold : agreeing 0 one_processor ≡ length one_processor
unfolding one_processor definitions
one_processor-hold = refl
