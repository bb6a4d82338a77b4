-- The library's words of one processor computed. Assumes nothing.
use Rattle.std.specs.Prelude.{◌≡◌, refl, List, [], ◌∷◌, map, ℕ, length, take}
use Rattle.types.specs.declared.Plan.{Plan}
use Rattle.types.specs.Runs.{plan_in}
use Rattle.model.specs.Rows.{definitions, plan_with, standard, fields_of, Row, agreeing}
use Rattle.fever.specs.Clauses.{move_of, record_left, messages_told}

-- a slot of 8 ticks, two views per leader
abbrev pub two_views : Plan
two_views = plan_with 4 2 8 6 2

-- the check, the record's words and the messages that they tell
abbrev pub step_by : Plan → ℕ → ℕ → List ℕ → List (List ℕ)
step_by plan input view ws =
    let m = move_of plan input view ws in (m.check ∷ []) ∷ record_left ws m ∷ map fields_of (messages_told (record_left ws m))

abbrev pub step_told : ℕ → ℕ → List ℕ → List (List ℕ)
step_told = step_by standard

pub step_rows : List Row
step_rows =
    -- "View 0, clock 2, quorum certificate 2: view 3, clock 12, two messages."
    (step_told 4 2 (1 ∷ 2 ∷ 0 ∷ 7 ∷ 7 ∷ []), (0 ∷ []) ∷ (1 ∷ 12 ∷ 3 ∷ 2 ∷ 7 ∷ []) ∷ (1 ∷ 3 ∷ 1 ∷ []) ∷ (2 ∷ 3 ∷ 1 ∷ []) ∷ [])
    -- "View 0, clock 6, quorum certificate 0: view 1, clock 6, one message."
    ∷ (step_told 4 0 (1 ∷ 6 ∷ 0 ∷ 7 ∷ []), (0 ∷ []) ∷ (1 ∷ 6 ∷ 1 ∷ 1 ∷ []) ∷ (2 ∷ 1 ∷ 1 ∷ []) ∷ [])
    -- "View 3, view certificate 3: nothing."
    ∷ (step_told 3 3 (1 ∷ 12 ∷ 3 ∷ 7 ∷ []), (0 ∷ []) ∷ (1 ∷ 12 ∷ 3 ∷ 0 ∷ []) ∷ [])
    -- "Quorum certificate 5: check 17.", and the record's words stay
    ∷ (take 2 (step_told 4 5 (1 ∷ 2 ∷ 0 ∷ 7 ∷ [])), (17 ∷ []) ∷ (1 ∷ 2 ∷ 0 ∷ 7 ∷ []) ∷ [])
    -- a view certificate for a view that is not initial, which only a quorum certificate may name
    ∷ (take 2 (step_told 3 2 (1 ∷ 2 ∷ 0 ∷ 7 ∷ [])), (11 ∷ []) ∷ (1 ∷ 2 ∷ 0 ∷ 7 ∷ []) ∷ [])
    -- two views per leader: a tick to view 2, which is initial, and a certificate for view 3, which is not; nine of them: check 9
    ∷ (step_by (plan_in (4 ∷ 2 ∷ 8 ∷ 6 ∷ 2 ∷ [])) 0 0 (1 ∷ 15 ∷ 0 ∷ 7 ∷ []), (0 ∷ []) ∷ (1 ∷ 16 ∷ 2 ∷ 2 ∷ []) ∷ (1 ∷ 2 ∷ 1 ∷ []) ∷ (2 ∷ 2 ∷ 1 ∷ []) ∷ [])
    ∷ (take 2 (step_by two_views 3 3 (1 ∷ 2 ∷ 0 ∷ 7 ∷ [])), (11 ∷ []) ∷ (1 ∷ 2 ∷ 0 ∷ 7 ∷ []) ∷ [])
    ∷ (take 2 (step_by (plan_with 4 2 8 9 9) 0 0 (1 ∷ 2 ∷ 0 ∷ 7 ∷ [])), (9 ∷ []) ∷ (1 ∷ 2 ∷ 0 ∷ 7 ∷ []) ∷ [])
    -- a tick; an input that is none; a word too few
    ∷ (step_told 0 9 (1 ∷ 2 ∷ 0 ∷ 7 ∷ []), (0 ∷ []) ∷ (1 ∷ 3 ∷ 0 ∷ 0 ∷ []) ∷ [])
    ∷ (take 2 (step_told 1 0 (1 ∷ 2 ∷ 0 ∷ 7 ∷ [])), (1 ∷ []) ∷ (1 ∷ 2 ∷ 0 ∷ 7 ∷ []) ∷ [])
    ∷ (take 2 (step_told 0 0 (1 ∷ 2 ∷ 0 ∷ [])), (1 ∷ []) ∷ (1 ∷ 2 ∷ 0 ∷ []) ∷ [])
    ∷ []

pub step-rows-hold : agreeing 0 step_rows ≡ length step_rows
unfolding step_rows move_of definitions
step-rows-hold = refl
