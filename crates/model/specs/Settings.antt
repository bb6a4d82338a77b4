-- "Settings worth trying": the starred ones in one table with one proof, and the printed schedule, computed from the definitions.
-- Assumes nothing.
use Rattle.std.specs.Prelude.{◌≡◌, refl, List, [], ◌∷◌, length, replicate}
use Rattle.types.specs.declared.Message.TheVariants.{View}
use Rattle.types.specs.declared.Event.TheVariants.{Deliver, Settle, Tick}
use Rattle.types.specs.declared.Input.TheVariants.{Vc, Qc}
use Rattle.types.specs.declared.Answer.TheVariants.{Done, Stopped, Refused}
use Rattle.types.specs.Quantities.{tolerated, lead}
use Rattle.model.specs.Rows.{definitions, plan_of, standard, zeroes, setup_of, lent, Row, agreeing, number, schedule, full_schedule, one_move}

-- ---- the starred settings

pub settings : List Row
settings =
    -- "t is 1 for n=4 and 6, 2 for 7, 21 for 64."
    number (tolerated (plan_of 4 2 4 6)) 1
    ∷ number (tolerated (plan_of 6 2 4 6)) 1
    ∷ number (tolerated (plan_of 7 2 4 6)) 2
    ∷ number (tolerated (plan_of 64 2 4 6)) 21
    -- "View 3 is led by 1, view 12 (V=15) by 0."
    ∷ number (lead standard 3) 1
    ∷ number (lead (plan_of 4 2 4 15) 12) 0
    -- "Start clocks 4 0 0 0: opened."
    ∷ schedule (lent 24 32) (setup_of standard 0 (4 ∷ 0 ∷ 0 ∷ 0 ∷ [])) [] (Done 0 8 ∷ [])
    -- "5 0 0 0: check 8."
    ∷ schedule (lent 24 32) (setup_of standard 0 (5 ∷ 0 ∷ 0 ∷ 0 ∷ [])) [] (Refused 8 ∷ [])
    -- "9 9 0 0: opened."
    ∷ schedule (lent 24 32) (setup_of standard 0 (9 ∷ 9 ∷ 0 ∷ 0 ∷ [])) [] (Done 0 8 ∷ [])
    -- "The same with mask 2: check 8."
    ∷ schedule (lent 24 32) (setup_of standard 2 (9 ∷ 9 ∷ 0 ∷ 0 ∷ [])) [] (Refused 8 ∷ [])
    -- "Clocks 11 11 11 11 and one tick: all in view 3, 16 held."
    ∷ full_schedule (lent 24 32) (setup_of standard 0 (replicate 4 11)) (Tick 1 ∷ []) (Done 0 8 ∷ Done 1 16 ∷ [])
    ((0 ∷ 3 ∷ 12 ∷ []) ∷ (1 ∷ 3 ∷ 12 ∷ []) ∷ (2 ∷ 3 ∷ 12 ∷ []) ∷ (3 ∷ 3 ∷ 12 ∷ []) ∷ [])
    -- "Clocks all 12: check 7."
    ∷ schedule (lent 24 32) (setup_of standard 0 (replicate 4 12)) [] (Refused 7 ∷ [])
    -- "View 0, clock 2, quorum certificate 2: view 3, clock 12, two messages."
    ∷ one_move 2 0 2 (Qc 2) ((0 ∷ []) ∷ (2 ∷ 3 ∷ 12 ∷ []) ∷ (1 ∷ 3 ∷ 2 ∷ []) ∷ (2 ∷ 3 ∷ 2 ∷ []) ∷ [])
    -- "View 0, clock 6, quorum certificate 0: view 1, clock 6, one message."
    ∷ one_move 2 0 6 (Qc 0) ((0 ∷ []) ∷ (2 ∷ 1 ∷ 6 ∷ []) ∷ (2 ∷ 1 ∷ 2 ∷ []) ∷ [])
    -- "View 3, view certificate 3: nothing."
    ∷ one_move 2 3 13 (Vc 3) ((0 ∷ []) ∷ (2 ∷ 3 ∷ 13 ∷ []) ∷ [])
    -- "Quorum certificate 5: check 17."
    ∷ one_move 2 3 13 (Qc 5) ((17 ∷ []) ∷ (2 ∷ 3 ∷ 13 ∷ []) ∷ [])
    ∷ []

pub settings-hold : agreeing 0 settings ≡ length settings
unfolding settings definitions
settings-hold = refl

-- ---- "A schedule and its printout", with 3,600 tally and 2,048 network words lent

pub printed_schedule : List Row
printed_schedule =
    full_schedule (lent 3600 2048) (setup_of standard 0 zeroes) (Deliver (View 0 0) ∷ Deliver (View 0 1) ∷ Tick 3 ∷ Settle ∷ Tick 3 ∷ [])
    (Done 0 8 ∷ Done 0 7 ∷ Done 0 10 ∷ Done 3 10 ∷ Done 0 10 ∷ Stopped 2 10 16 ∷ [])
    ((0 ∷ 0 ∷ 5 ∷ []) ∷ (1 ∷ 0 ∷ 5 ∷ []) ∷ (2 ∷ 0 ∷ 5 ∷ []) ∷ (3 ∷ 0 ∷ 5 ∷ []) ∷ [])
    ∷ []

pub printed : agreeing 0 printed_schedule ≡ length printed_schedule
unfolding printed_schedule definitions
printed = refl
