-- `CanHold` asks for no more than room, and for no less. One list of lines, refused for every other reason among them, on a packed network and a
-- wide one that can hold it, answered alike; and lists that a packed network can hold and a wide one of as many words can't. Assumes nothing.
use Rattle.std.specs.Prelude.{◌≡◌, refl, Bool, true, false, not, ◌&&◌, cond, List, [], ◌∷◌, map, ℕ, T, length, replicate}
use Rattle.base.specs.Tests.{T-left, T-right}
use Rattle.types.specs.declared.Message.TheVariants.{View, Vote, Qc}
use Rattle.types.specs.declared.Event.TheVariants.{Deliver, Sign, Show, Settle, Tick}
use Rattle.types.specs.declared.Answer.{Answer}
use Rattle.types.specs.declared.Answer.TheVariants.{Done, Stopped, Refused}
use Rattle.model.specs.State.{State}
use Rattle.model.specs.Rows.{definitions, plan_of, standard, zeroes, setup_of, lent, wide, numbers_of, Row, agreeing}
use Rattle.liveness.specs.Carrying.{Line, opens, happens, line_after, line_answers, refused_for_network, CanHold}

-- 1 for each line that is refused for the network, 0 for the others
shorts : State → List Line → List ℕ
shorts s [] = []
shorts s (x ∷ ls) = cond (refused_for_network x s) 1 0 ∷ shorts (line_after x s).state ls

-- the answers, and which of them are refused for the network
abbrev answered : State → List Line → List Answer → List ℕ → Row
answered s ls xs ys = (shorts s ls ∷ map numbers_of (line_answers s ls), ys ∷ map numbers_of xs)

-- ---- lines that both can hold

unfoldable lines : List Line
lines =
    -- an event before any run
    happens Settle
    -- a start clock too far ahead; a tally too short for nine views
    ∷ opens (setup_of standard 0 (9 ∷ 0 ∷ 0 ∷ 0 ∷ [])) ∷ opens (setup_of (plan_of 4 2 4 9) 0 zeroes)
    -- accepted; the second view message completes a view certificate for each
    ∷ opens (setup_of standard 0 zeroes) ∷ happens (Deliver (View 0 0)) ∷ happens (Deliver (View 0 1))
    -- no such view, no initial view, a correct signer, no such message, no such certificate
    ∷ happens (Deliver (Vote 6 0)) ∷ happens (Deliver (View 1 0)) ∷ happens (Sign (Vote 0 0)) ∷ happens (Deliver (Vote 5 0)) ∷ happens (Show (Qc 0 1))
    -- settled: two ticks of three, and none, as messages sent at 0 are to be delivered first
    ∷ happens Settle ∷ happens (Tick 3) ∷ happens (Tick 1)
    ∷ []

abbrev told : List Answer
told =
    Refused 9 ∷ Refused 8 ∷ Refused 6 ∷ Done 0 8 ∷ Done 0 7 ∷ Done 0 10 ∷ Refused 10 ∷ Refused 11 ∷ Refused 12 ∷ Refused 13 ∷ Refused 14 ∷ Done 0 10
    ∷ Stopped 2 10 16 ∷ Refused 16 ∷ []

abbrev packed_network : State
packed_network = lent 24 20

abbrev wide_network : State
wide_network = wide (lent 24 40)

-- ---- lines that one can't

unfoldable delivered : List Line
delivered = opens (setup_of standard 0 zeroes) ∷ happens (Deliver (View 0 0)) ∷ happens (Deliver (Vote 0 0)) ∷ happens (Deliver (View 0 1)) ∷ []

unfoldable ticked : List Line
ticked = opens (setup_of standard 0 (replicate 4 10)) ∷ happens (Tick 2) ∷ []

pub holding : List Row
holding =
    answered packed_network lines told (replicate 14 0)
    ∷ answered wide_network lines told (replicate 14 0)
    -- nine messages in 35 words
    ∷ answered (lent 24 35) delivered (Done 0 8 ∷ Done 0 7 ∷ Done 0 6 ∷ Done 0 9 ∷ []) (0 ∷ 0 ∷ 0 ∷ 0 ∷ [])
    ∷ answered (wide (lent 24 35)) delivered (Done 0 8 ∷ Done 0 7 ∷ Done 0 6 ∷ Refused 18 ∷ []) (0 ∷ 0 ∷ 0 ∷ 1 ∷ [])
    -- 16, after the second tick of two
    ∷ answered (lent 24 35) ticked (Done 0 8 ∷ Done 2 16 ∷ []) (0 ∷ 0 ∷ [])
    ∷ answered (wide (lent 24 35)) ticked (Done 0 8 ∷ Stopped 1 8 18 ∷ []) (0 ∷ 1 ∷ [])
    -- eight in 31 words: the opening is refused for the network, and the events for want of a run
    ∷ answered (lent 24 31) delivered (Done 0 8 ∷ Done 0 7 ∷ Done 0 6 ∷ Done 0 9 ∷ []) (0 ∷ 0 ∷ 0 ∷ 0 ∷ [])
    ∷ answered (wide (lent 24 31)) delivered (Refused 6 ∷ Refused 9 ∷ Refused 9 ∷ Refused 9 ∷ []) (1 ∷ 0 ∷ 0 ∷ 0 ∷ [])
    ∷ []

pub holding-hold : agreeing 0 holding ≡ length holding
unfolding holding shorts lines delivered ticked line_answers definitions
holding-hold = refl

-- ---- so `CanHold` is met

all_held : State → List Line → Bool
all_held s [] = true
all_held s (x ∷ ls) = not (refused_for_network x s) && all_held (line_after x s).state ls

can-hold : (s : State) (ls : List Line) → T (all_held s ls) → CanHold s ls
unfolding all_held CanHold
can-hold s [] t = tt
can-hold s (x ∷ ls) t =
    (no (refused_for_network x s) (T-left (not (refused_for_network x s)) _ t), can-hold (line_after x s).state ls (T-right (not (refused_for_network x s)) _ t))
  where
    no : (b : Bool) → T (not b) → T b → ⊥
    no true t' u = t'
    no false t' u = u

packed-holds : CanHold packed_network lines
unfolding all_held lines definitions
packed-holds = can-hold packed_network lines tt

wide-holds : CanHold wide_network lines
unfolding all_held lines definitions
wide-holds = can-hold wide_network lines tt
