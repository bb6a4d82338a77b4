-- What the exported functions answer and leave in the lent words and bytes, for every argument, by the definitions of the crates below. Where a
-- call is refused nothing that was lent has changed.
use Rattle.std.specs.Prelude.{◌≡◌, Bool, cond, ◌||◌, List, [], ◌∷◌, ◌++◌, ℕ, eqb, ltb, length, get_or, drop, Err, Ok, Result}
use Rattle.types.specs.declared.Plan.{Plan}
use Rattle.types.specs.declared.Message.{Message}
use Rattle.types.specs.declared.Message.TheVariants.{View, Vote}
use Rattle.types.specs.declared.Event.{Event}
use Rattle.types.specs.declared.Run.{Run}
use Rattle.types.specs.declared.Answer.{Answer}
use Rattle.types.specs.declared.Input.TheVariants.{Tick, Vc, Qc}
use Rattle.types.specs.Messages.{lacks_form}
use Rattle.model.specs.State.{State, After, state_of, check_of, accepted}
use Rattle.model.specs.Opening.{opening}
use Rattle.model.specs.Events.{applied}
use Rattle.model.specs.Processors.{Moved, refusing, stepped}
use Rattle.lines.specs.Forms.{event_form, setup_form, lacks_setup_form}
use Rattle.lines.specs.Clauses.{Reading, read_check, written_as, written_in}
use Rattle.reader.specs.Lines.{reading}
use Rattle.words.specs.Events.{event_of}
use Rattle.words.specs.Batches.{Worded, words_applied}
use Rattle.fever.specs.Layout.{setup_length, setup_in, run_length, run_in, run_over, neither_settled, record_length, record_in, reading_length, reading_words}

-- ---- opening and applying

-- the words lent to both
pub record Lent : Type 0 where
  pub run : List ℕ
  pub tally : List ℕ
  pub network : List ℕ

abbrev pub lent_of : List ℕ → List ℕ → List ℕ → Lent
lent_of run tally network = record { run = run; tally = tally; network = network }

abbrev pub lent_state : Lent → State
lent_state x = state_of (run_in x.run) x.tally x.network

-- what a call answered, and the words as it left them
pub record Called : Type 0 where
  pub answer : ℕ
  pub lent : Lent

abbrev pub called : ℕ → Lent → Called
called r x = record { answer = r; lent = x }

-- the run's words after a call that answered a and left the run r: those of r where it was accepted, and what stood behind them
abbrev pub run_left : List ℕ → Answer → Run → List ℕ
run_left ws a r = cond (accepted a) (run_over ws r) ws

-- what the definitions leave, in words: the check that refused the call or ended the ticks, or 0. That ticks were done shows in the run's time,
-- which has gained as many (`TicksTold`): so a stopped call is told from a refused one.
abbrev pub told : List ℕ → After → Called
told ws a = called (check_of a.answer) (lent_of (run_left ws a.answer a.state.run) a.state.tally a.state.network)

-- `fever_open`: the model's opening of the setup in the first 70 words. The run at hand is not judged: a refusal leaves its words, whatever they are.
unfoldable pub opening_words : List ℕ → Lent → Called
opening_words setup x =
    cond (ltb (length setup) setup_length || ltb (length x.run) run_length) (called 1 x) (told x.run (opening (setup_in setup) (lent_state x)))

abbrev pub OpensWords : List ℕ → Lent → ℕ → Lent → Type 0
OpensWords setup before r after = called r after ≡ opening_words setup before

-- `fever_apply`: the model's step by the event that the four numbers are; they are 0 ticks where they are none. Check 1 is of how many words the run
-- has and of the event alone; a settled word above 1 is of no run, which is check 9.
unfoldable pub applying_words : Event → Lent → Called
applying_words e x =
    cond (ltb (length x.run) run_length || lacks_form e) (called 1 x)
    (cond (neither_settled x.run) (called 9 x) (told x.run (applied e (lent_state x))))

abbrev pub AppliesWords : ℕ → ℕ → ℕ → ℕ → Lent → ℕ → Lent → Type 0
AppliesWords form kind view processor before r after = called r after ≡ applying_words (event_of form kind view processor) before

-- ---- many events in one call

-- what it answered, and the words as it left them: the run's, the tally's and the network's, and those of the events
pub record CalledAll : Type 0 where
  pub answer : ℕ
  pub lent : Lent
  pub events : List ℕ

abbrev pub called_all : ℕ → Lent → List ℕ → CalledAll
called_all r x events = record { answer = r; lent = x; events = events }

abbrev pub told_all : List ℕ → Worded → CalledAll
told_all ws y = called_all 0 (lent_of (run_over ws y.state.run) y.state.tally y.state.network) y.words

-- `fever_apply_all`: the model's step by each event in turn, whose four words become its answer. Words that are of no run refuse all of them:
-- by 1 where they are too few, by 9 for the settled word.
unfoldable pub applying_all : List ℕ → Lent → CalledAll
applying_all events x =
    cond (ltb (length x.run) run_length) (called_all 1 x events)
    (cond (neither_settled x.run) (called_all 9 x events) (told_all x.run (words_applied events (lent_state x))))

abbrev pub AppliesEvents : List ℕ → Lent → ℕ → Lent → List ℕ → Type 0
AppliesEvents events before r after left = called_all r after left ≡ applying_all events before

-- ---- one processor

-- the step of the record in the first 4 words by an input: 0 a tick, 3 a view certificate, 4 a quorum certificate for the view
unfoldable pub move_of : Plan → ℕ → ℕ → List ℕ → Moved
move_of plan input view ws =
    cond (ltb (length ws) record_length) (refusing (record_in ws) 1)
    (cond (eqb input 0) (stepped plan (record_in ws) Tick)
    (cond (eqb input 3) (stepped plan (record_in ws) (Vc view))
    (cond (eqb input 4) (stepped plan (record_in ws) (Qc view)) (refusing (record_in ws) 1))))

-- number, clock, view, and how many messages it sends
abbrev pub record_words : Moved → List ℕ
record_words m = m.processor.number ∷ m.processor.clock ∷ m.processor.view ∷ length m.sent ∷ []

abbrev pub record_left : List ℕ → Moved → List ℕ
record_left ws m = cond (eqb m.check 0) (record_words m ++ drop record_length ws) ws

-- k messages of an entry into view w by p: none, its vote, or its view message and its vote
abbrev pub messages_for : ℕ → ℕ → ℕ → List Message
messages_for p w k = cond (eqb k 0) [] (cond (eqb k 1) (Vote w p ∷ []) (View w p ∷ Vote w p ∷ []))

-- the messages that a record's words tell: the sender stands in word 0, the view in word 2
abbrev pub messages_told : List ℕ → List Message
messages_told ws = messages_for (get_or ws 0 0) (get_or ws 2 0) (get_or ws 3 0)

-- `fever_step`: that the record before became the record after, as m says
pub record StepsWords (m : Moved) (before : List ℕ) (r : ℕ) (after : List ℕ) : Type 0 where
  pub check : r ≡ m.check
  pub words : after ≡ record_left before m
  pub sends : r ≡ 0 → messages_told after ≡ m.sent

-- ---- lines

-- what the words hold of a line that was read as x
abbrev pub reading_left : List ℕ → Reading → List ℕ
reading_left ws x = cond (eqb (read_check x.read) 0) (reading_words x ++ drop reading_length ws) ws

-- `fever_read_line`: 0 where the line is one of the forms, which is then in the first 74 words; else 1
pub record ReadsWords (line before : List ℕ) (r : ℕ) (after : List ℕ) : Type 0 where
  pub check : r ≡ cond (ltb (length before) reading_length) 1 (read_check (reading line).read)
  pub words : after ≡ cond (ltb (length before) reading_length) before (reading_left before (reading line))

-- what the answer of a function that writes stands for: so many bytes; 0 for check 1, the only one that it makes
abbrev pub written_by : ℕ → Result ℕ ℕ
written_by r = cond (eqb r 0) (Err 1) (Ok r)

-- that r stands for the answer x of a writer
abbrev pub StandsFor : ℕ → Result ℕ ℕ → Type 0
StandsFor r x = (lacks : Bool) (form buffer : List ℕ) → x ≡ written_as lacks form buffer → written_by r ≡ x

-- that a form, or what lacks one, was written into the lent bytes
pub record WritesLine (lacks : Bool) (form before : List ℕ) (r : ℕ) (after : List ℕ) : Type 0 where
  pub answer : written_by r ≡ written_as lacks form before
  pub text : after ≡ written_in lacks form before

-- `fever_write_event`: the line of the event that four numbers are; 0 ticks, which have none, where they are no event
abbrev pub WritesEvent : Event → List ℕ → ℕ → List ℕ → Type 0
WritesEvent e before r after = WritesLine (lacks_form e) (event_form e) before r after

-- `fever_write_setup`: the line of the setup in the first 70 words
abbrev pub WritesSetup : List ℕ → List ℕ → ℕ → List ℕ → Type 0
WritesSetup ws before r after =
    WritesLine (ltb (length ws) setup_length || lacks_setup_form (setup_in ws)) (setup_form (setup_in ws)) before r after
