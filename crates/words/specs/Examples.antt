-- Events and batches computed on words. Assumes nothing.
use Rattle.std.specs.Prelude.{◌≡◌, refl, false, List, [], ◌∷◌, map, ℕ, length, replicate}
use Rattle.model.specs.State.{State}
use Rattle.model.specs.Opening.{opening}
use Rattle.model.specs.Rows.{definitions, standard, zeroes, setup_of, buffers, handed_in, Row, agreeing}
use Rattle.words.specs.declared.Numbers.{Numbers}
use Rattle.words.specs.Events.{event_of, event_numbers}
use Rattle.words.specs.Batches.{words_applied, events_of}

-- ---- which event four words are, told by the words of that event

abbrev four_words : Numbers → List ℕ
four_words k = k.form ∷ k.kind ∷ k.view ∷ k.processor ∷ []

abbrev is_read : List ℕ → List (List ℕ) → Row
is_read ws events = (map (λ e. four_words (event_numbers e)) (events_of ws), events)

-- no event is told as 0 ticks
abbrev none : List ℕ
none = 5 ∷ 0 ∷ 0 ∷ 0 ∷ []

pub readings : List Row
readings =
    is_read (1 ∷ 4 ∷ 5 ∷ 6 ∷ 2 ∷ 1 ∷ 3 ∷ 0 ∷ 3 ∷ 3 ∷ 2 ∷ 1 ∷ []) ((1 ∷ 4 ∷ 5 ∷ 6 ∷ []) ∷ (2 ∷ 1 ∷ 3 ∷ 0 ∷ []) ∷ (3 ∷ 3 ∷ 2 ∷ 1 ∷ []) ∷ [])
    -- of settle nothing else is read, of ticks their number alone
    ∷ is_read (4 ∷ 9 ∷ 9 ∷ 9 ∷ 5 ∷ 9 ∷ 8 ∷ 9 ∷ []) ((4 ∷ 0 ∷ 0 ∷ 0 ∷ []) ∷ (5 ∷ 0 ∷ 8 ∷ 0 ∷ []) ∷ [])
    -- other forms, kinds 0 and 5
    ∷ is_read (0 ∷ 1 ∷ 0 ∷ 0 ∷ 6 ∷ 1 ∷ 0 ∷ 0 ∷ 1 ∷ 0 ∷ 0 ∷ 0 ∷ 3 ∷ 5 ∷ 0 ∷ 0 ∷ []) (none ∷ none ∷ none ∷ none ∷ [])
    -- three words are no event
    ∷ is_read (5 ∷ 0 ∷ 1 ∷ []) []
    ∷ []

-- ---- batches: all words that are left, and the time

abbrev leaves : State → List ℕ → ℕ → List ℕ → Row
leaves s ws time left = let y = words_applied ws s in ((y.state.run.time ∷ []) ∷ y.words ∷ [], (time ∷ []) ∷ left ∷ [])

-- "(open 4 2 4 6 0 (0 0 0 0))"
abbrev fresh : State
fresh = (opening (setup_of standard 0 zeroes) buffers).state

-- the time is ahead of the clocks, one below VΓ
abbrev ahead : State
ahead = handed_in standard 0 23 false 0 0 (replicate 4 5) zeroes [] []

pub batches : List Row
batches =
    -- document 01's first lines: a delivery, ticks, a settling, and one too many
    leaves fresh (1 ∷ 1 ∷ 0 ∷ 0 ∷ 5 ∷ 0 ∷ 2 ∷ 0 ∷ 4 ∷ 0 ∷ 0 ∷ 0 ∷ 4 ∷ 0 ∷ 0 ∷ 0 ∷ []) 2 (1 ∷ 0 ∷ 0 ∷ 7 ∷ 5 ∷ 0 ∷ 2 ∷ 7 ∷ 4 ∷ 0 ∷ 0 ∷ 7 ∷ 4 ∷ 15 ∷ 0 ∷ 7 ∷ [])
    -- words that are no event, and words behind the last
    ∷ leaves fresh (0 ∷ 7 ∷ 7 ∷ 7 ∷ 5 ∷ 7 ∷ 1 ∷ 7 ∷ 1 ∷ 1 ∷ []) 1 (0 ∷ 1 ∷ 0 ∷ 8 ∷ 5 ∷ 0 ∷ 1 ∷ 8 ∷ 1 ∷ 1 ∷ [])
    -- the time reaches VΓ within a batch: what follows meets 9, but for what has no form
    ∷ leaves ahead (5 ∷ 0 ∷ 1 ∷ 0 ∷ 4 ∷ 0 ∷ 0 ∷ 0 ∷ 5 ∷ 0 ∷ 0 ∷ 0 ∷ []) 24 (5 ∷ 0 ∷ 1 ∷ 0 ∷ 4 ∷ 9 ∷ 0 ∷ 0 ∷ 5 ∷ 1 ∷ 0 ∷ 0 ∷ [])
    -- a run that is broken for good
    ∷ leaves (handed_in standard 0 0 false 1 0 zeroes zeroes [] []) (4 ∷ 0 ∷ 0 ∷ 0 ∷ 5 ∷ 0 ∷ 1 ∷ 0 ∷ []) 0 (4 ∷ 9 ∷ 0 ∷ 0 ∷ 5 ∷ 9 ∷ 0 ∷ 0 ∷ [])
    ∷ []

pub readings-hold : agreeing 0 readings ≡ length readings
unfolding readings events_of event_of definitions
readings-hold = refl

pub batches-hold : agreeing 0 batches ≡ length batches
unfolding batches words_applied event_of definitions
batches-hold = refl
