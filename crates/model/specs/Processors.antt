-- "At the cabinet's own face": one processor moved by rules 1 to 3.
use Rattle.std.specs.Prelude.{◌≡◌, refl, Bool, true, false, ◌||◌, List, [], ◌∷◌, ◌++◌, ℕ, ◌+◌, eqb, Err, Ok, Result}
use Rattle.types.specs.declared.Plan.{Plan}
use Rattle.types.specs.declared.Message.{Message}
use Rattle.types.specs.declared.Message.TheVariants.{View, Vote}
use Rattle.types.specs.declared.Processor.{Processor}
use Rattle.types.specs.declared.Input.{Input}
use Rattle.types.specs.declared.Input.TheVariants.{Tick, Vc, Qc}
use Rattle.types.specs.declared.Sends.{Sends}
use Rattle.types.specs.declared.Sends.TheVariants.{Nothing, Vote as VoteFor, ViewAndVote}
use Rattle.types.specs.Messages.{view_stage, vote_stage}
use Rattle.model.specs.Moves.{Entry, stay, into, entry_clock, entry_messages, by_clock, by_quorum, by_view}
use Rattle.model.specs.Checks.{Check, judged, plan_outside, clock_outside, no_processor, no_view, not_initial, at_end}

-- what a call leaves of the processor, the messages it sends, "for leaders faulty or not", and the check that refused it, or 0
pub record Moved : Type 0 where
  pub processor : Processor
  pub sent : List Message
  pub check : ℕ

-- ---- the answer: which messages it stands for, p being the sender, and which check

abbrev pub messages_of : ℕ → Sends → List Message
messages_of p Nothing = []
messages_of p (VoteFor w) = Vote w p ∷ []
messages_of p (ViewAndVote w) = View w p ∷ Vote w p ∷ []

abbrev pub sent_in : ℕ → Result Sends ℕ → List Message
sent_in p (Ok x) = messages_of p x
sent_in p (Err r) = []

abbrev pub check_in : Result Sends ℕ → ℕ
check_in (Ok x) = 0
check_in (Err r) = r

abbrev pub accepted_in : Result Sends ℕ → Bool
accepted_in (Ok x) = true
accepted_in (Err r) = false

-- that a function left the processor c and answered a, as m says
pub record Gives (m : Moved) (c : Processor) (a : Result Sends ℕ) : Type 0 where
  pub processor : c ≡ m.processor
  pub sent : sent_in c.number a ≡ m.sent
  pub check : check_in a ≡ m.check
  pub accepted : accepted_in a ≡ eqb m.check 0

-- ---- its move

-- the clock at which an input finds the processor: a tick has added 1
abbrev pub clock_at : Processor → Input → ℕ
clock_at c Tick = c.clock + 1
clock_at c (Vc w) = c.clock
clock_at c (Qc w) = c.clock

-- rules 1 to 3
abbrev pub entry_by : Plan → Processor → Input → Entry
entry_by plan c Tick = by_clock plan (clock_at c Tick)
entry_by plan c (Vc w) = by_view plan c.view w
entry_by plan c (Qc w) = by_quorum c.view w

-- c as it becomes, and what it sends
abbrev pub sending : Processor → List Message → Moved
sending c ms = record { processor = c; sent = ms; check = 0 }

abbrev pub moving : Plan → ℕ → ℕ → ℕ → Entry → Moved
moving plan p clock view stay = sending (record { number = p; clock = clock; view = view }) []
moving plan p clock view (into w) = sending (record { number = p; clock = entry_clock plan clock w; view = w }) (entry_messages plan p w)

-- no move is a refusal
pub moving-check : (plan : Plan) (p clock view : ℕ) (e : Entry) → (moving plan p clock view e).check ≡ 0
moving-check plan p clock view stay = refl
moving-check plan p clock view (into w) = refl

-- the move of c by rules 1 to 3
abbrev pub moving_by : Plan → Processor → Input → Moved
moving_by plan c i = moving plan c.number (clock_at c i) c.view (entry_by plan c i)

-- "The cabinet's face uses 9 (limits 2 to 4, its own clock and view), 10, 11 and 17."

abbrev pub processor_unsound : Plan → Processor → Bool
processor_unsound plan c = plan_outside plan || clock_outside plan c.clock c.view

-- those of the view that an input names
abbrev pub view_checks : Plan → Input → List Check
view_checks plan Tick = []
view_checks plan (Vc w) = (10, no_view plan w) ∷ (11, not_initial plan view_stage w) ∷ []
view_checks plan (Qc w) = (10, no_view plan w) ∷ (11, not_initial plan vote_stage w) ∷ []

-- those of a move that would leave the clock
abbrev pub end_checks : Plan → ℕ → List Check
end_checks plan clock = (17, at_end plan clock) ∷ []

-- all of them, in order; both halves of 10 are one number
abbrev pub step_checks : Plan → Processor → Input → ℕ → List Check
step_checks plan c i clock = (9, processor_unsound plan c) ∷ (10, no_processor plan c.number) ∷ view_checks plan i ++ end_checks plan clock

-- "A refusal answers its number alone and changes nothing"
abbrev pub refusing : Processor → ℕ → Moved
refusing c r = record { processor = c; sent = []; check = r }

unfoldable pub stepped : Plan → Processor → Input → Moved
stepped plan c i = let next = moving_by plan c i in judged (refusing c) (step_checks plan c i next.processor.clock) next
