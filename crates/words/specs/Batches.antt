-- Events lent as words, applied one after the other: each one's words become its answer.
use Rattle.std.specs.Prelude.{List, [], ◌∷◌, ℕ}
use Rattle.types.specs.declared.Event.{Event}
use Rattle.model.specs.State.{State, After, check_of, ticks_of}
use Rattle.model.specs.Events.{applied}
use Rattle.words.specs.Events.{event_of}

-- what is left of the run and the buffers, and of the events' words
pub record Worded : Type 0 where
  pub state : State
  pub words : List ℕ

-- an event's four words afterwards, and what comes behind them: its form stays, then the check that refused it or ended its ticks, the ticks
-- done and the messages held
abbrev pub answered : ℕ → After → Worded → Worded
answered form a y = record { state = y.state; words = form ∷ check_of a.answer ∷ ticks_of a.answer ∷ a.state.run.held ∷ y.words }

-- each event applied as if it came alone, whatever the run and the buffers hold; up to three words behind the last four stay
unfoldable pub words_applied : List ℕ → State → Worded
words_applied [] s = record { state = s; words = [] }
words_applied (a ∷ []) s = record { state = s; words = a ∷ [] }
words_applied (a ∷ b ∷ []) s = record { state = s; words = a ∷ b ∷ [] }
words_applied (a ∷ b ∷ c ∷ []) s = record { state = s; words = a ∷ b ∷ c ∷ [] }
words_applied (a ∷ b ∷ c ∷ d ∷ ws) s = let x = applied (event_of a b c d) s in answered a x (words_applied ws x.state)

-- the events of the words
unfoldable pub events_of : List ℕ → List Event
events_of [] = []
events_of (a ∷ []) = []
events_of (a ∷ b ∷ []) = []
events_of (a ∷ b ∷ c ∷ []) = []
events_of (a ∷ b ∷ c ∷ d ∷ ws) = event_of a b c d ∷ events_of ws
