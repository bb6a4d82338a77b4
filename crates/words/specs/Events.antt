-- An event as four words: form (1 deliver, 2 sign, 3 show, 4 settle, 5 tick), kind, view (of a tick: how many), processor; and its answer as
-- four: form, check, ticks done, messages held.
use Rattle.std.specs.Prelude.{cond, List, [], ◌∷◌, ◌++◌, ℕ, ◌+◌, ◌*◌, ◌/◌, eqb, ltb, length, get_or, take, drop, None, Option, Some}
use Rattle.types.specs.declared.Message.{Message}
use Rattle.types.specs.declared.Event.{Event}
use Rattle.types.specs.declared.Event.TheVariants.{Deliver, Sign, Show, Settle, Tick}
use Rattle.types.specs.declared.Answer.{Answer}
use Rattle.types.specs.Messages.{kind_of, view_in, processor_in}
use Rattle.model.specs.State.{check_of, ticks_of}
use Rattle.buffers.specs.Kinds.{stored_as}
use Rattle.words.specs.declared.Numbers.{Numbers}

abbrev pub event_words : ℕ
event_words = 4

-- ---- which event four numbers are

-- none: 0 ticks, which check 1 refuses whatever the run
abbrev pub no_event : Event
no_event = Tick 0

-- the message of a form that carries one
abbrev pub carried : ℕ → Message → Event
carried form m = cond (eqb form 1) (Deliver m) (cond (eqb form 2) (Sign m) (cond (eqb form 3) (Show m) no_event))

-- a kind outside 1 to 4 is of no message
abbrev pub carried_as : ℕ → Option Message → Event
carried_as form (Some m) = carried form m
carried_as form None = no_event

-- of settle the other three are not read, of tick kind and processor are not
unfoldable pub event_of : ℕ → ℕ → ℕ → ℕ → Event
event_of form kind view processor = cond (eqb form 4) Settle (cond (eqb form 5) (Tick view) (carried_as form (stored_as kind view processor)))

-- the same with the four numbers as one
abbrev pub event_as : Numbers → Event
event_as k = event_of k.form k.kind k.view k.processor

-- ---- and back: the numbers of an event, 0 where its form has none

abbrev pub four_numbers : ℕ → ℕ → ℕ → ℕ → Numbers
four_numbers form kind view processor = record { form = form; kind = kind; view = view; processor = processor }

abbrev pub message_numbers : ℕ → Message → Numbers
message_numbers form m = four_numbers form (kind_of m) (view_in m) (processor_in m)

abbrev pub event_numbers : Event → Numbers
event_numbers (Deliver m) = message_numbers 1 m
event_numbers (Sign m) = message_numbers 2 m
event_numbers (Show m) = message_numbers 3 m
event_numbers Settle = four_numbers 4 0 0 0
event_numbers (Tick m) = four_numbers 5 0 m 0

-- ---- in a list of words

-- how many whole events there are
abbrev pub events_in : List ℕ → ℕ
events_in ws = length ws / event_words

-- event i of them
abbrev pub event_at : List ℕ → ℕ → Event
event_at ws i =
    let at = event_words * i in
    cond (ltb i (events_in ws)) (event_of (get_or ws at 0) (get_or ws (at + 1) 0) (get_or ws (at + 2) 0) (get_or ws (at + 3) 0)) no_event

-- four words in the place of event i, where there are so many
unfoldable pub four_put : List ℕ → ℕ → ℕ → ℕ → ℕ → ℕ → List ℕ
four_put ws i a b c d =
    let at = event_words * i in cond (ltb i (events_in ws)) (take at ws ++ (a ∷ b ∷ c ∷ d ∷ []) ++ drop (at + event_words) ws) ws

abbrev pub numbers_put : List ℕ → ℕ → Numbers → List ℕ
numbers_put ws i k = four_put ws i k.form k.kind k.view k.processor

-- the answer of event i in its place, h being the messages held after it
abbrev pub answer_put : List ℕ → ℕ → Answer → ℕ → List ℕ
answer_put ws i a h = four_put ws i (get_or ws (event_words * i) 0) (check_of a) (ticks_of a) h
