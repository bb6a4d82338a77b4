-- A load in the words and bytes that a caller of the library lends: its six words, and what `fever_generate` and `fever_generate_more` answer and
-- leave, for every argument, by the definitions of loads. Where a call is refused nothing that was lent has changed.
use Rattle.std.specs.Prelude.{◌≡◌, Bool, cond, ◌||◌, List, [], ◌∷◌, ◌++◌, Result, Ok, Err, ℕ, eqb, ltb, length, get_or, take, drop}
use Rattle.types.specs.declared.Event.{Event}
use Rattle.types.specs.declared.Run.{Run}
use Rattle.types.specs.declared.Setup.{Setup}
use Rattle.model.specs.State.{State, check_of}
use Rattle.model.specs.Checks.{unsound_for_good}
use Rattle.model.specs.Opening.{opening}
use Rattle.lines.specs.declared.Read.{Read}
use Rattle.lines.specs.Promises.{schedule_of}
use Rattle.reader.specs.Lines.{reading}
use Rattle.loads.specs.Loads.{Point, point_of, Load, further_load, whole_load}
use Rattle.workload.specs.declared.Generated.{Generated}
use Rattle.fever.specs.Layout.{setup_length, setup_in, run_length, run_over, neither_settled}
use Rattle.fever.specs.Clauses.{Lent, lent_of, lent_state}

-- ---- a load: how many steps it has, the step before which it settles, the seed, the next step, the bytes that the call has written, and 1 where the
-- lent bytes were too few for the next line, 0 where the load has ended

abbrev pub load_length : ℕ
load_length = 6

abbrev pub steps_word : ℕ
steps_word = 0

abbrev pub settles_word : ℕ
settles_word = 1

abbrev pub seed_word : ℕ
seed_word = 2

abbrev pub step_word : ℕ
step_word = 3

abbrev pub bytes_word : ℕ
bytes_word = 4

abbrev pub full_word : ℕ
full_word = 5

-- the last four of them written, those before and behind staying
abbrev pub load_over : List ℕ → ℕ → ℕ → ℕ → Bool → List ℕ
load_over ws seed step bytes full = take seed_word ws ++ (seed ∷ step ∷ bytes ∷ cond full 1 0 ∷ []) ++ drop load_length ws

-- the run's words after so many bytes were written, which led to the run r: they are not touched where there are none, so that words of no run stay
-- where an opening's line has no room
abbrev pub run_after : List ℕ → ℕ → Run → List ℕ
run_after ws bytes r = cond (eqb bytes 0) ws (run_over ws r)

-- that what was made of a load was put back into the words of the run and of the load, and 0 answered; or that a check refused it and was answered, the
-- words staying
abbrev pub PutsBack : Result Generated ℕ → List ℕ → List ℕ → ℕ → List ℕ → List ℕ → Type 0
PutsBack (Ok made) run load r run' load' =
    (r ≡ 0) × (run' ≡ run_after run made.bytes made.run) × (load' ≡ load_over load made.seed made.step made.bytes made.full)
PutsBack (Err check) run load r run' load' = (r ≡ check) × (run' ≡ run) × (load' ≡ load)

-- ---- what a call answered, and what it left: the words of the run, the tally and the network, those of the load, and the bytes

pub record CalledLoad : Type 0 where
  pub answer : ℕ
  pub lent : Lent
  pub load : List ℕ
  pub bytes : List ℕ

abbrev pub called_load : ℕ → Lent → List ℕ → List ℕ → CalledLoad
called_load r x load bytes = record { answer = r; lent = x; load = load; bytes = bytes }

-- the load l was made in the lent bytes
abbrev pub told_load : Lent → List ℕ → List ℕ → Load → CalledLoad
told_load x load out l =
    let k = length (schedule_of l.forms) in
    let s = l.point.state in
    called_load 0 (lent_of (run_after x.run k s.run) s.tally s.network) (load_over load l.point.seed l.point.step k l.full) (schedule_of l.forms ++ drop k out)

-- the lines of a load from its opening on, with so many bytes
abbrev pub whole_in : Setup → List ℕ → State → ℕ → Load
whole_in u load s room = whole_load u s (get_or load steps_word 0) (get_or load settles_word 0) (get_or load seed_word 0) room

-- `fever_generate`: a load from its opening on. The run at hand is not judged
unfoldable pub generating_words : List ℕ → Lent → List ℕ → List ℕ → CalledLoad
generating_words setup x load out =
    let check = check_of (opening (setup_in setup) (lent_state x)).answer in
    cond (ltb (length setup) setup_length || ltb (length x.run) run_length || ltb (length load) load_length) (called_load 1 x load out)
    (cond (eqb check 0) (told_load x load out (whole_in (setup_in setup) load (lent_state x) (length out))) (called_load check x load out))

abbrev pub GeneratesWords : List ℕ → Lent → List ℕ → List ℕ → ℕ → Lent → List ℕ → List ℕ → Type 0
GeneratesWords setup before load out r after load' out' = called_load r after load' out' ≡ generating_words setup before load out

-- where the load stands that goes on from the state s
abbrev pub point_in : List ℕ → State → Point
point_in load s = point_of s (get_or load seed_word 0) (get_or load step_word 0)

-- its lines
abbrev pub load_in : List ℕ → State → ℕ → Load
load_in load s room = further_load (get_or load steps_word 0) (get_or load settles_word 0) (point_in load s) room

-- `fever_generate_more`: a load goes on, on a run that is sound but for its time; a settled word above 1 is of no run
unfoldable pub generating_more : Lent → List ℕ → List ℕ → CalledLoad
generating_more x load out =
    cond (ltb (length x.run) run_length || ltb (length load) load_length) (called_load 1 x load out)
    (cond (neither_settled x.run || unsound_for_good (lent_state x)) (called_load 9 x load out) (told_load x load out (load_in load (lent_state x) (length out))))

abbrev pub GeneratesMore : Lent → List ℕ → List ℕ → ℕ → Lent → List ℕ → List ℕ → Type 0
GeneratesMore before load out r after load' out' = called_load r after load' out' ≡ generating_more before load out

-- ---- the events of a load: those that its lines are read as

abbrev pub event_read : Read → List Event
event_read (Read.Event e) = e ∷ []
event_read Read.Opening = []
event_read Read.NoForm = []

unfoldable pub events_read : List (List ℕ) → List Event
events_read [] = []
events_read (f ∷ fs) = event_read (reading f).read ++ events_read fs

-- of a call of `fever_generate_more` on the state s: none where the load has too few words
abbrev pub load_events : List ℕ → List ℕ → State → List Event
load_events load out s = cond (ltb (length load) load_length) [] (events_read (load_in load s (length out)).forms)
