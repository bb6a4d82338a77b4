-- The library's words computed: document 01's printed schedule and settings as calls, what refused calls leave, and the numbers of events and lines; a processor's steps stand in `StepExamples`.
-- Assumes nothing.
use Rattle.std.specs.Prelude.{◌≡◌, refl, List, [], ◌∷◌, ◌++◌, map, ℕ, ◌+◌, length, get_or, take, drop, replicate}
use Rattle.types.specs.declared.Event.{Event}
use Rattle.types.specs.declared.Event.TheVariants.{Deliver, Sign, Show, Settle, Tick}
use Rattle.types.specs.declared.Message.TheVariants.{View, Vote, Vc, Qc}
use Rattle.model.specs.Traffic.{totals}
use Rattle.model.specs.Lists.{since_settling, ticks_done, ticks_since}
use Rattle.model.specs.Rows.{definitions, plan_with, standard, table, zeroes, setup_of, Row, agreeing, number, words}
use Rattle.lines.specs.Decimal.{decimal}
use Rattle.lines.specs.Forms.{message_form, event_form, setup_form}
use Rattle.lines.specs.Promises.{schedule_of}
use Rattle.loads.specs.Loads.{ticking, chosen, load_from, further_load, whole_load}
use Rattle.lines.specs.Clauses.{event_reading, opening_reading, no_form, written_check}
use Rattle.liveness.specs.Promises.{settling_bound}
use Rattle.liveness.specs.Live as live
use Rattle.words.specs.declared.Numbers.{Numbers}
use Rattle.words.specs.Events.{event_of, event_as, four_numbers, event_numbers}
use Rattle.words.specs.Batches.{words_applied}
use Rattle.fever.specs.Layout.{setup_in, setup_words, run_in, time_word, settled_word, held_word, sent_word}
use Rattle.fever.specs.Clauses.{Lent, lent_of, lent_state, Called, opening_words, applying_words, CalledAll, applying_all, reading_left, written_by}
use Rattle.fever.specs.Loads.{CalledLoad, generating_words, generating_more}
use Rattle.fever.specs.Traffic.{CalledReport, reporting}
use Rattle.fever.specs.Promises.{one, events_of}

-- ---- calls

-- so many words lent, none of them 0
abbrev pub sevens : ℕ → ℕ → ℕ → Lent
sevens run tally network = lent_of (replicate run 7) (replicate tally 7) (replicate network 7)

-- two words more than a run has, and two more than the tally of 6 views
abbrev pub enough : Lent
enough = sevens 149 26 64

-- "(open 4 2 4 6 3 mask (c0 c1 ..))"
abbrev pub opens_at : ℕ → List ℕ → List ℕ
opens_at faulty clocks = setup_words (setup_of standard faulty clocks)

-- what a call tells: its answer, the time and the messages held
abbrev pub tells : Called → List ℕ
tells c = c.answer ∷ get_or c.lent.run time_word 0 ∷ get_or c.lent.run held_word 0 ∷ []

-- what calls in turn tell
abbrev pub telling : Called → List Numbers → List (List ℕ)
telling c [] = tells c ∷ []
telling c (k ∷ ks) = tells c ∷ telling (applying_words (event_as k) c.lent) ks

-- all words that a call left
abbrev pub words_left : Called → List (List ℕ)
words_left c = (c.answer ∷ []) ∷ c.lent.run ∷ c.lent.tally ∷ c.lent.network ∷ []

-- a call that answers r and leaves every word
abbrev pub leaves : Lent → ℕ → Called → Row
leaves x r c = (words_left c, (r ∷ []) ∷ x.run ∷ x.tally ∷ x.network ∷ [])

abbrev pub opened_words : Lent
opened_words = (opening_words (opens_at 0 zeroes) enough).lent

-- the same with another settled word
abbrev pub oddly : Lent
oddly = lent_of (take settled_word opened_words.run ++ (2 ∷ []) ++ drop (settled_word + 1) opened_words.run) opened_words.tally opened_words.network

-- document 01's printed schedule, after its opening
abbrev pub printed : List Numbers
printed = map event_numbers (Deliver (View 0 0) ∷ Deliver (View 0 1) ∷ Tick 3 ∷ Settle ∷ Tick 3 ∷ [])

pub call_rows : List Row
call_rows =
    -- document 01's printed schedule
    (
      telling (opening_words (opens_at 0 zeroes) enough) printed,
      (0 ∷ 0 ∷ 8 ∷ []) ∷ (0 ∷ 0 ∷ 7 ∷ []) ∷ (0 ∷ 0 ∷ 10 ∷ []) ∷ (0 ∷ 3 ∷ 10 ∷ []) ∷ (0 ∷ 3 ∷ 10 ∷ []) ∷ (16 ∷ 5 ∷ 10 ∷ []) ∷ [],
    )
    -- the run's words after an opening, settling and two ticks: the clock of the faulty one is 0, three view messages and three votes were sent, what stands behind the 147 words stays
    ∷ words (applying_words ((Tick 2)) (applying_words Settle (opening_words (opens_at 8 (1 ∷ 2 ∷ 3 ∷ 9 ∷ [])) enough).lent).lent).lent.run
    (4 ∷ 2 ∷ 4 ∷ 6 ∷ 3 ∷ 8 ∷ 2 ∷ 1 ∷ 0 ∷ 6 ∷ [] ++ table (3 ∷ 4 ∷ 5 ∷ []) ++ table [] ++ (3 ∷ 3 ∷ 0 ∷ 0 ∷ 0 ∷ 0 ∷ 0 ∷ 0 ∷ 0 ∷ 7 ∷ 7 ∷ []))
    -- refused calls: a start clock too high; a word too few; no run; numbers that are no event, no such message, 0 ticks; a settled word that is of no run
    ∷ leaves enough 7 (opening_words (opens_at 0 (12 ∷ 12 ∷ 12 ∷ 12 ∷ [])) enough)
    ∷ leaves enough 1 (opening_words (take 69 (opens_at 0 zeroes)) enough)
    ∷ leaves (sevens 146 24 64) 1 (opening_words (opens_at 0 zeroes) (sevens 146 24 64))
    ∷ leaves (sevens 146 24 64) 1 (applying_words Settle (sevens 146 24 64))
    ∷ leaves enough 9 (applying_words (Settle) enough)
    ∷ leaves opened_words 1 (applying_words (event_as (four_numbers 6 1 0 0)) opened_words)
    ∷ leaves opened_words 1 (applying_words (event_as (four_numbers 1 5 0 0)) opened_words)
    ∷ leaves opened_words 13 (applying_words (event_as (four_numbers 1 4 0 0)) opened_words)
    ∷ leaves oddly 1 (applying_words ((Tick 0)) oddly)
    ∷ leaves oddly 9 (applying_words ((Tick 1)) oddly)
    ∷ []

pub call-rows-hold : agreeing 0 call_rows ≡ length call_rows
unfolding call_rows opening_words applying_words setup_in run_in event_of definitions
call-rows-hold = refl

-- ---- many events in one call

abbrev pub in_row : Numbers → List ℕ
in_row k = k.form ∷ k.kind ∷ k.view ∷ k.processor ∷ []

abbrev pub in_words : List Numbers → List ℕ
in_words [] = []
in_words (k ∷ ks) = in_row k ++ in_words ks

-- what calls in turn leave
abbrev pub left_in_turn : Lent → List Numbers → Lent
left_in_turn x [] = x
left_in_turn x (k ∷ ks) = left_in_turn (applying_words (event_as k) x).lent ks

-- a call that answers r and leaves y and the events' words
abbrev pub all_leaves : ℕ → Lent → List ℕ → CalledAll → Row
all_leaves r y events c =
    ((c.answer ∷ []) ∷ c.lent.run ∷ c.lent.tally ∷ c.lent.network ∷ c.events ∷ [], (r ∷ []) ∷ y.run ∷ y.tally ∷ y.network ∷ events ∷ [])

-- time 23 of VΓ = 24, and no clock near its next view
abbrev pub near_end : Lent
near_end =
    let x = (opening_words (opens_at 0 (5 ∷ 5 ∷ 5 ∷ 5 ∷ [])) enough).lent in
    lent_of (take time_word x.run ++ (23 ∷ []) ++ drop (time_word + 1) x.run) x.tally x.network

-- two ticks, settling, and numbers that are no event
abbrev pub last_events : List Numbers
last_events = event_numbers (Tick 2) ∷ event_numbers Settle ∷ four_numbers 6 1 0 0 ∷ []

pub all_rows : List Row
all_rows =
    -- the printed schedule, and three words behind it: what the calls leave; of each event its form, its check, its ticks and the messages held
    all_leaves 0 (left_in_turn opened_words printed)
    (1 ∷ 0 ∷ 0 ∷ 7 ∷ 1 ∷ 0 ∷ 0 ∷ 10 ∷ 5 ∷ 0 ∷ 3 ∷ 10 ∷ 4 ∷ 0 ∷ 0 ∷ 10 ∷ 5 ∷ 16 ∷ 2 ∷ 10 ∷ 5 ∷ 5 ∷ 5 ∷ [])
    (applying_all (in_words printed ++ (5 ∷ 5 ∷ 5 ∷ [])) opened_words)
    -- two ticks go past VΓ: from then on check 9 refuses every event that has a form
    ∷ all_leaves 0 (left_in_turn near_end last_events) (5 ∷ 0 ∷ 2 ∷ 8 ∷ 4 ∷ 9 ∷ 0 ∷ 8 ∷ 6 ∷ 1 ∷ 0 ∷ 8 ∷ []) (applying_all (in_words last_events) near_end)
    -- no event
    ∷ all_leaves 0 opened_words (1 ∷ 1 ∷ 0 ∷ []) (applying_all (1 ∷ 1 ∷ 0 ∷ []) opened_words)
    -- refused as a whole: a word too few, a settled word that is of no run
    ∷ all_leaves 1 (sevens 146 24 64) (in_words printed) (applying_all (in_words printed) (sevens 146 24 64))
    ∷ all_leaves 9 oddly (in_words printed) (applying_all (in_words printed) oddly)
    ∷ []

pub all-rows-hold : agreeing 0 all_rows ≡ length all_rows
unfolding all_rows opening_words applying_words applying_all words_applied setup_in run_in event_of definitions
all-rows-hold = refl

-- ---- loads: 60 bytes have room for the setup's line and one event's, or for three events

-- a call that answers r and leaves y, the load's words and the bytes
abbrev pub load_leaves : ℕ → Lent → List ℕ → List ℕ → CalledLoad → Row
load_leaves r y load bytes c =
    ((c.answer ∷ []) ∷ c.lent.run ∷ c.lent.tally ∷ c.lent.network ∷ c.load ∷ c.bytes ∷ [], (r ∷ []) ∷ y.run ∷ y.tally ∷ y.network ∷ load ∷ bytes ∷ [])

-- seed 1, of 8 steps, settling before step 3; and a word more than a load has
abbrev pub eight_steps : List ℕ
eight_steps = 8 ∷ 3 ∷ 1 ∷ 7 ∷ 7 ∷ 7 ∷ 7 ∷ []

abbrev pub first_piece : CalledLoad
first_piece = generating_words (opens_at 0 zeroes) enough eight_steps (replicate 60 7)

-- refused, it leaves what was lent
abbrev pub no_load : ℕ → List ℕ → Lent → List ℕ → Row
no_load r setup x load = load_leaves r x load (replicate 60 7) (generating_words setup x load (replicate 60 7))

abbrev pub no_more : ℕ → Lent → List ℕ → Row
no_more r x load = load_leaves r x load (replicate 60 7) (generating_more x load (replicate 60 7))

pub load_rows : List Row
load_rows =
    -- what the calls for its lines leave; its seed, its step, the bytes written, and that more are needed
    load_leaves 0 (left_in_turn opened_words (map event_numbers (Deliver (Vote 0 1) ∷ []))) (8 ∷ 3 ∷ 9396908728118811419 ∷ 1 ∷ 50 ∷ 1 ∷ 7 ∷ [])
    (schedule_of (setup_form (setup_of standard 0 zeroes) ∷ event_form (Deliver (Vote 0 1)) ∷ []) ++ replicate 10 7) first_piece
    -- and it goes on
    ∷ load_leaves 0 (left_in_turn opened_words (map event_numbers (Deliver (Vote 0 1) ∷ Deliver (View 0 3) ∷ Deliver (Vote 0 2) ∷ Settle ∷ [])))
    (8 ∷ 3 ∷ 9232803539723513983 ∷ 3 ∷ 51 ∷ 1 ∷ 7 ∷ []) (schedule_of (map event_form (Deliver (View 0 3) ∷ Deliver (Vote 0 2) ∷ Settle ∷ [])) ++ replicate 9 7)
    (generating_more first_piece.lent first_piece.load (replicate 60 7))
    -- no step is left: nothing is written but the load's words
    ∷ load_leaves 0 opened_words (8 ∷ 3 ∷ 1 ∷ 8 ∷ 0 ∷ 0 ∷ []) (replicate 60 7) (generating_more opened_words (8 ∷ 3 ∷ 1 ∷ 8 ∷ 7 ∷ 7 ∷ []) (replicate 60 7))
    -- a byte too few for the setup's line: words of no run stay
    ∷ load_leaves 0 enough (8 ∷ 3 ∷ 1 ∷ 0 ∷ 0 ∷ 1 ∷ 7 ∷ []) (replicate 28 7) (generating_words (opens_at 0 zeroes) enough eight_steps (replicate 28 7))
    -- refused: a word too few of the setup, the run or the load; a start clock too high; no run; a settled word that is of no run
    ∷ no_load 1 (take 69 (opens_at 0 zeroes)) enough eight_steps
    ∷ no_load 1 (opens_at 0 zeroes) (sevens 146 24 64) eight_steps
    ∷ no_load 1 (opens_at 0 zeroes) enough (take 5 eight_steps)
    ∷ no_load 7 (opens_at 0 (12 ∷ 12 ∷ 12 ∷ 12 ∷ [])) enough eight_steps
    ∷ no_more 1 (sevens 146 24 64) eight_steps
    ∷ no_more 1 opened_words (take 5 eight_steps)
    ∷ no_more 9 (lent_of (replicate 147 1) opened_words.tally opened_words.network) eight_steps
    ∷ no_more 9 oddly eight_steps
    ∷ []

pub load-rows-hold : agreeing 0 load_rows ≡ length load_rows
unfolding load_rows generating_words generating_more whole_load further_load load_from chosen ticking opening_words applying_words setup_in run_in event_of decimal message_form event_form setup_form definitions
load-rows-hold = refl

-- The settling half of the library's demand 3 speaks of something: the run past the bound of `liveness`, as calls, none of which is refused.

abbrev pub live_opening : Called
live_opening = opening_words (setup_words live.setup) (sevens 147 48 64)

abbrev pub live_calls : List Numbers
live_calls = map event_numbers live.events

pub live-accepted : map (λ (l : List ℕ). get_or l 0 0) (telling live_opening live_calls) ≡ replicate (length live.events + 1) 0
unfolding live.setup live.events opening_words applying_words setup_in run_in event_of definitions
live-accepted = refl

-- one tick more since settling than the bound
pub live-past : ticks_since (since_settling (lent_state live_opening.lent) (events_of (lent_state live_opening.lent) (take 62 (map one live_calls)))) ≡ settling_bound (setup_in (setup_words live.setup)) + 1
unfolding live.setup live.events opening_words setup_in run_in event_of events_of since_settling ticks_done definitions
live-past = refl

-- ---- traffic

-- a call that answers r and leaves the report's words
abbrev pub report_leaves : ℕ → List ℕ → CalledReport → Row
report_leaves r ws c = ((c.answer ∷ []) ∷ c.report ∷ [], (r ∷ []) ∷ ws ∷ [])

-- refused, it leaves what was lent
abbrev pub no_report : ℕ → Lent → ℕ → Row
no_report r x k = report_leaves r (replicate k 7) (reporting x (replicate k 7))

pub traffic_rows : List Row
traffic_rows =
    -- document 01's printed schedule: sent, delivered and held by kind, the sum of waits; the word behind them stays
    report_leaves 0 (4 ∷ 4 ∷ 4 ∷ 0 ∷ 2 ∷ 0 ∷ 0 ∷ 0 ∷ 2 ∷ 4 ∷ 4 ∷ 0 ∷ 0 ∷ 7 ∷ []) (reporting (left_in_turn opened_words printed) (replicate 14 7))
    -- two ticks, then a vote is delivered
    ∷ report_leaves 0 (4 ∷ 4 ∷ 0 ∷ 0 ∷ 0 ∷ 1 ∷ 0 ∷ 0 ∷ 4 ∷ 3 ∷ 0 ∷ 0 ∷ 2 ∷ [])
    (reporting (left_in_turn opened_words (map event_numbers (Tick 2 ∷ Deliver (Vote 0 1) ∷ []))) (replicate 13 7))
    -- sums handed in, no number twice: each is told from its own word
    ∷ report_leaves 0 (11 ∷ 12 ∷ 13 ∷ 14 ∷ 15 ∷ 16 ∷ 17 ∷ 18 ∷ 4 ∷ 4 ∷ 0 ∷ 0 ∷ 19 ∷ [])
    (reporting (lent_of (take sent_word opened_words.run ++ (11 ∷ 12 ∷ 13 ∷ 14 ∷ 15 ∷ 16 ∷ 17 ∷ 18 ∷ 19 ∷ [])) opened_words.tally opened_words.network) (replicate 13 7))
    -- refused: a word too few of the run or of the report; no run; a settled word that is of no run; 1 before 9
    ∷ no_report 1 (sevens 146 24 64) 13
    ∷ no_report 1 opened_words 12
    ∷ no_report 9 enough 13
    ∷ no_report 9 oddly 13
    ∷ no_report 1 oddly 12
    ∷ []

pub traffic-rows-hold : agreeing 0 traffic_rows ≡ length traffic_rows
unfolding traffic_rows reporting totals opening_words applying_words setup_in run_in event_of definitions
traffic-rows-hold = refl

-- ---- numbers of events and lines

pub number_rows : List Row
number_rows = (
  map (λ (e : Event). in_row (event_numbers e)) (
      Deliver (View 3 1) ∷ Deliver (Vote 4 2) ∷ Deliver (Vc 3 1) ∷ Deliver (Qc 4 2) ∷ Sign (View 3 1) ∷ Sign (Vote 4 2) ∷ Show (Vc 3 1) ∷ Show (Qc 4 2) ∷ Settle
      ∷ Tick 9 ∷ []),
  (1 ∷ 1 ∷ 3 ∷ 1 ∷ []) ∷ (1 ∷ 2 ∷ 4 ∷ 2 ∷ []) ∷ (1 ∷ 3 ∷ 3 ∷ 1 ∷ []) ∷ (1 ∷ 4 ∷ 4 ∷ 2 ∷ []) ∷ (2 ∷ 1 ∷ 3 ∷ 1 ∷ []) ∷ (2 ∷ 2 ∷ 4 ∷ 2 ∷ []) ∷ (3 ∷ 3 ∷ 3 ∷ 1 ∷ [])
      ∷ (3 ∷ 4 ∷ 4 ∷ 2 ∷ []) ∷ (4 ∷ 0 ∷ 0 ∷ 0 ∷ []) ∷ (5 ∷ 0 ∷ 9 ∷ 0 ∷ []) ∷ [],
)
    -- a line of an opening, of an event, and one that is none of the forms, in a word more than it takes
    ∷ words (reading_left (replicate 75 7) (opening_reading (setup_of (plan_with 4 2 8 6 2) 8 (1 ∷ 2 ∷ 3 ∷ 9 ∷ []))))
    (6 ∷ 0 ∷ 0 ∷ 0 ∷ 4 ∷ 2 ∷ 8 ∷ 6 ∷ 2 ∷ 8 ∷ [] ++ table (1 ∷ 2 ∷ 3 ∷ 9 ∷ []) ++ (7 ∷ []))
    ∷ words (reading_left (replicate 75 7) (event_reading (Show (Qc 4 2)))) (3 ∷ 4 ∷ 4 ∷ 2 ∷ 0 ∷ 0 ∷ 0 ∷ 0 ∷ 0 ∷ 0 ∷ [] ++ table [] ++ (7 ∷ []))
    ∷ words (reading_left (replicate 75 7) no_form) (replicate 75 7)
    -- what a function that writes answers
    ∷ number (written_check (written_by 0)) 1
    ∷ number (written_check (written_by 9)) 0
    ∷ []

pub number-rows-hold : agreeing 0 number_rows ≡ length number_rows
unfolding number_rows
number-rows-hold = refl
