-- Loads computed: what an independent implementation makes of the same numbers. Assumes nothing.
use Rattle.std.specs.Prelude.{◌≡◌, ℕ, ◌-◌, ◌^◌, Bool, true, false, cond, List, [], ◌∷◌, map, length, refl}
use Rattle.types.specs.declared.Message.TheVariants.{View, Vote, Vc, Qc}
use Rattle.types.specs.declared.Event.{Event}
use Rattle.types.specs.declared.Event.TheVariants.{Deliver, Settle, Tick}
use Rattle.types.specs.declared.Setup.{Setup}
use Rattle.model.specs.State.{State}
use Rattle.model.specs.Rows.{definitions, plan_of, standard, zeroes, setup_of, lent, handed_in, Row, number, agreeing}
use Rattle.lines.specs.Decimal.{decimal}
use Rattle.lines.specs.Forms.{message_form, event_form, setup_form}
use Rattle.loads.specs.Draws.{next_seed, draw}
use Rattle.loads.specs.Loads.{point_of, ticking, chosen, Load, load_from, further_load, whole_load}

-- ---- the generator

pub draws : List Row
draws =
    number (next_seed 0) 1442695040888963407
    ∷ number (next_seed 1) 7806831264735756412
    ∷ number (next_seed (2 ^ 64 - 1)) 13525302890751722018
    ∷ number (next_seed (2 ^ 32)) 6961151790551630159
    ∷ number (draw (next_seed 0)) 335903614
    ∷ number (draw (next_seed (2 ^ 63))) 2483387262
    ∷ []

-- ---- loads: the seed and the step that they end with, whether for want of bytes, and the forms of their lines

abbrev tells : Load → List (List ℕ)
tells l = (l.point.seed ∷ l.point.step ∷ cond l.full 1 0 ∷ []) ∷ l.forms

-- from an opening into buffers that are long enough
abbrev made : Setup → ℕ → ℕ → ℕ → ℕ → Load
made u steps settle seed room = whole_load u (lent 24 64) steps settle seed room

abbrev load_row : Setup → ℕ → ℕ → ℕ → ℕ → List ℕ → List Event → Row
load_row u steps settle seed room left es = (tells (made u steps settle seed room), left ∷ setup_form u ∷ map event_form es)

-- no line, with so many bytes
abbrev no_line : Setup → ℕ → ℕ → Row
no_line u room full = (tells (made u 8 3 1 room), (1 ∷ 0 ∷ full ∷ []) ∷ [])

-- "(open 4 2 4 6 3 0 (0 0 0 0))": its line has 29 bytes, and that of the first delivery 21
abbrev usual : Setup
usual = setup_of standard 0 zeroes

-- a slot of 2 ticks and 3 views: the views are soon used up
abbrev quick : Setup
quick = setup_of (plan_of 4 1 2 3) 0 zeroes

pub loads : List Row
loads =
    load_row usual 8 3 1 1000 (4493283409665547658 ∷ 8 ∷ 0 ∷ [])
    (Deliver (Vote 0 1) ∷ Deliver (View 0 3) ∷ Deliver (Vote 0 2) ∷ Settle ∷ Deliver (View 0 0) ∷ Tick 1 ∷ Deliver (Vc 0 2) ∷ Deliver (View 0 2) ∷ Deliver (Vc 0 1) ∷ [])
    -- nothing is held: ticks alone, and one draw for each, though some would deliver
    ∷ load_row (setup_of standard 1 zeroes) 5 9 1 1000 (14673421054488193520 ∷ 5 ∷ 0 ∷ []) (Tick 1 ∷ Tick 1 ∷ Tick 1 ∷ Tick 1 ∷ Tick 1 ∷ [])
    -- a tick ends it, by 17
    ∷ load_row quick 100 100 53 1000 (3877307969837566292 ∷ 5 ∷ 0 ∷ []) (Tick 1 ∷ Tick 1 ∷ Tick 1 ∷ Tick 1 ∷ Tick 1 ∷ [])
    -- 7 ticks refused as overdue
    ∷ load_row quick 100 0 328 1000 (17163469386050918574 ∷ 24 ∷ 0 ∷ [])
    (Settle ∷ Deliver (Vote 0 1) ∷ Deliver (Vote 0 0) ∷ Deliver (Vote 0 3) ∷ Deliver (Qc 0 0) ∷ Deliver (View 0 2) ∷ Tick 1 ∷ Deliver (View 0 1) ∷ Deliver (Qc 0 1) ∷ Deliver (Vote 0 2) ∷ Deliver (View 0 0) ∷ Deliver (View 0 3) ∷ Deliver (Vote 1 1) ∷ Deliver (Qc 0 2) ∷ Deliver (Qc 0 3) ∷ Deliver (Vote 1 0) ∷ Tick 1 ∷ Deliver (Vote 1 2) ∷ Deliver (Qc 1 1) ∷ Deliver (Vote 1 3) ∷ Tick 1 ∷ Deliver (Qc 1 3) ∷ Deliver (Qc 1 0) ∷ Deliver (Qc 1 2) ∷ Deliver (Vote 2 1) ∷ [])
    -- a delivery ends it, by 17; 8 ticks refused as overdue
    ∷ load_row quick 100 0 304 1000 (564351553613629543 ∷ 26 ∷ 0 ∷ [])
    (Settle ∷ Deliver (Vote 0 1) ∷ Deliver (Vote 0 2) ∷ Deliver (Vote 0 0) ∷ Tick 1 ∷ Deliver (Qc 0 0) ∷ Deliver (View 0 0) ∷ Deliver (View 0 1) ∷ Deliver (View 0 2) ∷ Deliver (View 0 3) ∷ Deliver (Vote 0 3) ∷ Deliver (Qc 0 1) ∷ Deliver (Vote 1 1) ∷ Deliver (Vote 1 0) ∷ Deliver (Qc 0 2) ∷ Deliver (Qc 0 3) ∷ Deliver (Vote 1 3) ∷ Deliver (Vote 1 2) ∷ Tick 1 ∷ Deliver (Qc 1 2) ∷ Deliver (Qc 1 0) ∷ Deliver (Vote 2 0) ∷ Deliver (Vote 2 2) ∷ Deliver (Qc 1 3) ∷ Deliver (Qc 1 1) ∷ Deliver (Vote 2 3) ∷ Tick 1 ∷ [])
    -- no step; a settling right behind the opening; one at the number of steps, which there is none of
    ∷ load_row usual 0 0 7 1000 (7 ∷ 0 ∷ 0 ∷ []) []
    ∷ load_row usual 1 0 1 1000 (9396908728118811419 ∷ 1 ∷ 0 ∷ []) (Settle ∷ Deliver (Vote 0 1) ∷ [])
    ∷ load_row usual 1 1 1 1000 (9396908728118811419 ∷ 1 ∷ 0 ∷ []) (Deliver (Vote 0 1) ∷ [])
    -- a byte too few for the opening, for the line of a delivery, and for a settling
    ∷ no_line usual 28 1
    ∷ load_row usual 8 3 1 49 (1 ∷ 0 ∷ 1 ∷ []) []
    ∷ load_row usual 8 3 1 50 (9396908728118811419 ∷ 1 ∷ 1 ∷ []) (Deliver (Vote 0 1) ∷ [])
    ∷ load_row usual 8 0 1 37 (1 ∷ 0 ∷ 1 ∷ []) []
    ∷ load_row usual 8 0 1 38 (1 ∷ 0 ∷ 1 ∷ []) (Settle ∷ [])
    -- refused by 7, and then no bytes are asked
    ∷ no_line (setup_of standard 0 (12 ∷ 0 ∷ 0 ∷ 0 ∷ [])) 0 0
    ∷ []

-- ---- loads that go on from runs handed in, from step 0 and seed 1, which delivers first, or 2, which ticks

abbrev further : State → ℕ → ℕ → List ℕ → List Event → Row
further s seed room left es = (tells (further_load 1 9 (point_of s seed 0) room), left ∷ map event_form es)

-- three messages, sent at these times, in a run that is settled since 0, its time being 5; "A message is overdue .. at or past .. plus Δ", which is 2
abbrev three : Bool → ℕ → ℕ → ℕ → State
three settled a b c =
    handed_in standard 0 5 settled 0 3 (5 ∷ 5 ∷ 5 ∷ 5 ∷ []) zeroes []
    (65 ∷ a ∷ 2 ∷ b ∷ 195 ∷ c ∷ [])

-- settled, with a message overdue, and the time at VΓ
abbrev late : State
late = handed_in standard 0 24 true 0 1 (5 ∷ 5 ∷ 5 ∷ 5 ∷ []) zeroes [] (65 ∷ 0 ∷ [])

pub further_loads : List Row
further_loads =
    -- the draw's place, from 0
    further (three true 5 5 5) 4 100 (13512857827340264662 ∷ 1 ∷ 0 ∷ []) (Deliver (Vote 0 1) ∷ [])
    ∷ further (three true 5 5 5) 1 100 (9396908728118811419 ∷ 1 ∷ 0 ∷ []) (Deliver (View 0 2) ∷ [])
    ∷ further (three true 5 5 5) 5 100 (2587011477941047999 ∷ 1 ∷ 0 ∷ []) (Deliver (Qc 0 3) ∷ [])
    -- a tick, which is the delivery of the first of two that are overdue; one where none is, or where the network has not settled
    ∷ further (three true 4 3 1) 3 100 (2088359638719790806 ∷ 1 ∷ 0 ∷ []) (Deliver (View 0 2) ∷ [])
    ∷ further (three true 4 4 5) 3 100 (2088359638719790806 ∷ 1 ∷ 0 ∷ []) (Tick 1 ∷ [])
    ∷ further (three false 4 3 1) 3 100 (2088359638719790806 ∷ 1 ∷ 0 ∷ []) (Tick 1 ∷ [])
    ∷ further (three true 5 5 5) 10 9 (9743825058228238609 ∷ 1 ∷ 0 ∷ []) (Tick 1 ∷ [])
    -- 9 refuses the tick before 16 does, so it stays one: 9 bytes
    ∷ further late 3 8 (3 ∷ 0 ∷ 1 ∷ []) []
    ∷ further late 3 9 (3 ∷ 0 ∷ 0 ∷ []) []
    -- unsound for good: "its settling time is kept as 0" is broken
    ∷ further (handed_in standard 0 0 false 1 0 zeroes zeroes [] []) 3 0 (3 ∷ 0 ∷ 0 ∷ []) []
    ∷ []

pub draws-hold : agreeing 0 draws ≡ length draws
unfolding draws
draws-hold = refl

pub loads-hold : agreeing 0 loads ≡ length loads
unfolding loads whole_load load_from chosen ticking decimal message_form event_form setup_form definitions
loads-hold = refl

pub further-hold : agreeing 0 further_loads ≡ length further_loads
unfolding further_loads further_load load_from chosen ticking decimal message_form event_form definitions
further-hold = refl
