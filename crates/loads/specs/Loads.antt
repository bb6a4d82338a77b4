-- "Schedules out of a seed number": what a step does, what ends a load, and the lines of a load.
use Rattle.std.specs.Prelude.{ℕ, zero, suc, ◌+◌, ◌-◌, ◌%◌, Bool, true, false, cond, not, ◌&&◌, List, [], ◌∷◌, ◌++◌, length, ◌==◌, nat_lt, None, Option, Some}
use Rattle.base.specs.Scan.{first}
use Rattle.types.specs.declared.Event.{Event}
use Rattle.types.specs.declared.Event.TheVariants.{Deliver, Settle, Tick}
use Rattle.types.specs.declared.Setup.{Setup}
use Rattle.model.specs.State.{State, accepted}
use Rattle.model.specs.Checks.{time_unsound, unsound_for_good, overdue_at, overdue}
use Rattle.model.specs.Opening.{opening}
use Rattle.model.specs.Events.{applied}
use Rattle.buffers.specs.Kinds.{stored}
use Rattle.lines.specs.Forms.{event_form, setup_form}
use Rattle.lines.specs.Clauses.{line}
use Rattle.loads.specs.declared.Turn.{Turn}
use Rattle.loads.specs.Draws.{next_seed, draw}
use Rattle.types.specs.declared.Message.{Message}

-- where a load stands: the run and the lent buffers, the seed, and the number of the next step, "from 0"
pub record Point : Type 0 where
  pub state : State
  pub seed : ℕ
  pub step : ℕ

abbrev pub point_of : State → ℕ → ℕ → Point
point_of s seed step = record { state = s; seed = seed; step = step }

-- ---- one step

-- the delivery of a stored message. Check 9 refuses a run that holds words of no kind; 0 ticks stand for their delivery, which check 1 refuses
abbrev pub delivery_of : Option Message → Event
delivery_of (Some m) = Deliver m
delivery_of None = Tick 0

-- of the message held at place i
abbrev pub delivery : State → ℕ → Event
delivery s i = delivery_of (stored s.form s.network i)

-- a tick that 16 refuses: before it comes 9, which refuses any event at a time of VΓ or later (`SubstitutesOverdue`)
abbrev pub refused_overdue : State → Bool
refused_overdue s = not (time_unsound s) && overdue s

-- "A tick refused as overdue becomes the delivery of the first overdue message."
unfoldable pub ticking : State → Event
ticking s = cond (refused_overdue s) (delivery s (first (overdue_at s) s.run.held)) (Tick 1)

-- "Each step draws once; draw mod 4 of 0 or 1 delivers, 2 or 3 ticks. .. an empty post gives a tick and no second draw."
abbrev pub delivers : Point → Bool
delivers x = nat_lt (draw (next_seed x.seed) % 4) 2 && nat_lt 0 x.state.run.held

-- "Delivering draws again, and takes the post's message at that draw mod the number held, counted from 0"
unfoldable pub chosen : Point → Event
chosen x = cond (delivers x) (delivery x.state (draw (next_seed (next_seed x.seed)) % x.state.run.held)) (ticking x.state)

abbrev pub seed_after : Point → ℕ
seed_after x = cond (delivers x) (next_seed (next_seed x.seed)) (next_seed x.seed)

abbrev pub step_turn : Point → Turn
step_turn x = record { event = chosen x; seed = seed_after x; steps = 1 }

-- "the step (from 0) before which it settles": settling draws nothing and is no step
abbrev pub settle_due : ℕ → Point → Bool
settle_due settle x = x.step == settle && not x.state.run.settled

abbrev pub settle_turn : Point → Turn
settle_turn x = record { event = Settle; seed = x.seed; steps = 0 }

-- ---- the lines of a load

-- the forms of the lines, where they lead, and whether they ended for want of bytes
pub record Load : Type 0 where
  pub forms : List (List ℕ)
  pub point : Point
  pub full : Bool

abbrev pub halted : Point → Bool → Load
halted x full = record { forms = []; point = x; full = full }

abbrev pub line_then : List ℕ → Load → Load
line_then f l = record { forms = f ∷ l.forms; point = l.point; full = l.full }

-- the lines of a piece, and then a load from where it ended
abbrev pub followed : List (List ℕ) → Load → Load
followed fs l = record { forms = fs ++ l.forms; point = l.point; full = l.full }

-- the bytes of a line
abbrev pub line_bytes : List ℕ → ℕ
line_bytes f = length (line f)

abbrev pub turned : Turn → Point → Point
turned k x = point_of (applied k.event x.state).state k.seed (x.step + k.steps)

-- an event and its line, and then the rest with the bytes left; "Any other refusal, or too few lent bytes for the next line, ends the load."
abbrev pub doing : Turn → Point → ℕ → (Point → ℕ → Load) → Load
doing k x room rest =
    let f = event_form k.event in
    cond (nat_lt room (line_bytes f)) (halted x true)
    (cond (accepted (applied k.event x.state).answer) (line_then f (rest (turned k x) (room - line_bytes f))) (halted x false))

abbrev pub settling : ℕ → Point → ℕ → (Point → ℕ → Load) → Load
settling settle x room rest = cond (settle_due settle x) (doing (settle_turn x) x room rest) (rest x room)

-- so many steps more, with so many bytes: "opening first and ticks singly"
unfoldable pub load_from : ℕ → ℕ → Point → ℕ → Load
load_from settle zero x room = halted x false
load_from settle (suc left) x room = settling settle x room (λ y r. doing (step_turn y) y r (λ z q. load_from settle left z q))

-- what a load does next
unfoldable pub turn : ℕ → Point → Turn
turn settle x = cond (settle_due settle x) (settle_turn x) (step_turn x)

-- a load goes on up to `steps` steps; on a run handed in that is unsound, but for its time, which each event looks at, nothing is chosen
unfoldable pub further_load : ℕ → ℕ → Point → ℕ → Load
further_load steps settle x room = cond (unsound_for_good x.state) (halted x false) (load_from settle (steps - x.step) x room)

-- "Given are a table, a number of steps, the step .. before which it settles, none if at or above that number, and a 64-bit seed s": with a run and
-- lent buffers at hand, and so many lent bytes. "a refused opening .. writes nothing", nor does one whose line has too few bytes, and then it is not
-- done either
unfoldable pub whole_load : Setup → State → ℕ → ℕ → ℕ → ℕ → Load
whole_load u s steps settle seed room =
    let a = opening u s in
    let f = setup_form u in
    cond (accepted a.answer)
    (cond (nat_lt room (line_bytes f)) (halted (point_of s seed 0) true) (line_then f (load_from settle steps (point_of a.state seed 0) (room - line_bytes f))))
    (halted (point_of s seed 0) false)
