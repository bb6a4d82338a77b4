-- How a run, a setup, one processor's record and what a line is read as stand in the words that a caller of the library lends; an event's numbers are
-- those of `words`.
use Rattle.std.specs.Prelude.{◌≡◌, ◌⊎◌, Bool, List, [], ◌∷◌, ◌++◌, ℕ, ◌+◌, ◌≤◌, ◌<◌, eqb, ltb, length, get_or, take, drop}
use Rattle.types.specs.declared.Setup.{Setup}
use Rattle.types.specs.declared.Run.{Run}
use Rattle.types.specs.declared.Counts.{Counts}
use Rattle.types.specs.declared.Traffic.{Traffic}
use Rattle.types.specs.declared.Processor.{Processor}
use Rattle.types.specs.Quantities.{table_clocks}
use Rattle.types.specs.Runs.{settled_as, plan_numbers, plan_in}
use Rattle.types.specs.Traffic.{counts_of, traffic_of, count_numbers}
use Rattle.model.specs.State.{run_of}
use Rattle.lines.specs.declared.Read.{Read}
use Rattle.lines.specs.Clauses.{Reading}
use Rattle.words.specs.declared.Numbers.{Numbers}
use Rattle.words.specs.Events.{four_numbers, event_numbers}

-- ---- the first words of a run and of a setup: the plan's numbers, then the faulty set

abbrev pub faulty_word : ℕ
faulty_word = 5

-- a table of 64 words from a place on
abbrev pub table_in : ℕ → List ℕ → List ℕ
table_in at ws = take table_clocks (drop at ws)

-- ---- a setup: the plan, the faulty set, 64 start clocks

abbrev pub setup_length : ℕ
setup_length = 70

abbrev pub start_word : ℕ
start_word = 6

unfoldable pub setup_in : List ℕ → Setup
setup_in ws = record { plan = plan_in ws; faulty = get_or ws faulty_word 0; clocks = table_in start_word ws }

abbrev pub setup_words : Setup → List ℕ
setup_words u = plan_numbers u.plan ++ (u.faulty ∷ u.clocks)

-- ---- a run: the plan, the faulty set, the time, whether the network has settled (0 or 1) and when, the messages held, 64 clocks, 64 views; then the
-- messages sent and those delivered, four kinds each, and the sum of waits

abbrev pub run_length : ℕ
run_length = 147

abbrev pub time_word : ℕ
time_word = 6

abbrev pub settled_word : ℕ
settled_word = 7

abbrev pub gst_word : ℕ
gst_word = 8

abbrev pub held_word : ℕ
held_word = 9

abbrev pub clocks_word : ℕ
clocks_word = 10

abbrev pub views_word : ℕ
views_word = 74

abbrev pub sent_word : ℕ
sent_word = 138

abbrev pub delivered_word : ℕ
delivered_word = 142

abbrev pub wait_sum_word : ℕ
wait_sum_word = 146

abbrev pub counts_at : ℕ → List ℕ → Counts
counts_at at ws = counts_of (get_or ws at 0) (get_or ws (at + 1) 0) (get_or ws (at + 2) 0) (get_or ws (at + 3) 0)

abbrev pub traffic_in : List ℕ → Traffic
traffic_in ws = traffic_of (counts_at sent_word ws) (counts_at delivered_word ws) (get_or ws wait_sum_word 0)

unfoldable pub run_in : List ℕ → Run
run_in ws =
    run_of (plan_in ws) (get_or ws faulty_word 0) (get_or ws time_word 0) (eqb (get_or ws settled_word 0) 1) (get_or ws gst_word 0) (get_or ws held_word 0)
    (table_in clocks_word ws) (table_in views_word ws) (traffic_in ws)

-- a settled word that is of no run
abbrev pub neither_settled : List ℕ → Bool
neither_settled ws = ltb 1 (get_or ws settled_word 0)

-- that words are of a run, as far as their number and the settled word tell
pub record OfRun (ws : List ℕ) : Type 0 where
  pub long : run_length ≤ length ws
  pub settled : get_or ws settled_word 0 ≤ 1

-- that they are of no run, by check 1 or 9
abbrev pub OfNoRun : List ℕ → ℕ → Type 0
OfNoRun ws check = ((check ≡ 1) × (length ws < run_length)) ⊎ ((check ≡ 9) × (run_length ≤ length ws) × (1 < get_or ws settled_word 0))

abbrev pub run_numbers : Run → List ℕ
run_numbers r = plan_numbers r.plan ++ (r.faulty ∷ r.time ∷ settled_as r.settled ∷ r.gst ∷ r.held ∷ [])

abbrev pub sum_words : Traffic → List ℕ
sum_words x = count_numbers x.sent ++ (count_numbers x.delivered ++ (x.waits ∷ []))

abbrev pub run_words : Run → List ℕ
run_words r = run_numbers r ++ (r.clocks ++ (r.views ++ sum_words r.traffic))

-- a run in the place of the one that stands there, what is behind its words staying
abbrev pub run_over : List ℕ → Run → List ℕ
run_over ws r = run_words r ++ drop run_length ws

-- ---- one processor's record: number, clock, view; a fourth word takes what it sends

abbrev pub record_length : ℕ
record_length = 4

abbrev pub record_in : List ℕ → Processor
record_in ws = record { number = get_or ws 0 0; clock = get_or ws 1 0; view = get_or ws 2 0 }

-- ---- what a line is read as: the numbers of its event, or form 6 for an opening; then its setup, 0 everywhere beside an event

abbrev pub reading_length : ℕ
reading_length = 74

abbrev pub read_numbers : Read → Numbers
read_numbers (Read.Event e) = event_numbers e
read_numbers Read.Opening = four_numbers 6 0 0 0
read_numbers Read.NoForm = four_numbers 0 0 0 0

abbrev pub reading_words : Reading → List ℕ
reading_words x =
    let k = read_numbers x.read in k.form ∷ k.kind ∷ k.view ∷ k.processor ∷ setup_words x.setup
