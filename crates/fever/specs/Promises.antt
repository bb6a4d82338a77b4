-- What is promised of the library: demand 3 of the words that its calls leave first, then that the layouts lose nothing, then what the words and
-- answers tell. proofs/Promises.antt has a proof of each, under its name in small letters with hyphens (`demand-three-of-library`).
use Rattle.std.specs.Prelude.{◌≡◌, Bool, true, false, ◌⊎◌, ◌≢◌, List, [], ◌∷◌, ◌++◌, map, ℕ, zero, suc, ◌+◌, ◌-◌, ◌*◌, ◌≤◌, ◌<◌, T, eqb, length, get_or, set, take, drop, Ok}
use Rattle.types.specs.declared.Event.{Event}
use Rattle.types.specs.declared.Form.{Form}
use Rattle.types.specs.declared.Setup.{Setup}
use Rattle.types.specs.declared.Run.{Run}
use Rattle.types.specs.Quantities.{table_clocks}
use Rattle.types.specs.Messages.{lacks_form}
use Rattle.model.specs.State.{State, After, ticks_of, held_of, accepted}
use Rattle.model.specs.Checks.{unsound}
use Rattle.model.specs.Opening.{opening}
use Rattle.model.specs.Events.{applied}
use Rattle.model.specs.Traffic.{history_totals}
use Rattle.model.specs.Lists.{after, Since, since_settling, has_settled, ticks_since}
use Rattle.liveness.specs.Carrying.{Line, line_answers, after_lines, CanHold, HeldAlike}
use Rattle.simulator.specs.Demands.{Demanded}
use Rattle.lines.specs.Forms.{event_form, setup_form}
use Rattle.lines.specs.Clauses.{Reading, event_reading, line, written_as, written_check, Put}
use Rattle.lines.specs.Promises.{schedule_of}
use Rattle.loads.specs.Loads.{line_bytes}
use Rattle.words.specs.declared.Numbers.{Numbers}
use Rattle.words.specs.Events.{event_words, event_of, event_as, four_numbers, event_numbers}
use Rattle.fever.specs.Layout.{setup_in, setup_words, run_length, settled_word, time_word, gst_word, held_word, run_in, run_words, run_over, neither_settled, reading_words}
use Rattle.fever.specs.Clauses.{Lent, lent_of, lent_state, Called, called, told, opening_words, OpensWords, applying_words, AppliesWords, called_all, applying_all, AppliesEvents, WritesLine}
use Rattle.fever.specs.Loads.{step_word, bytes_word, called_load, generating_words, GeneratesWords, generating_more, GeneratesMore, load_events}
use Rattle.fever.specs.Carrying.{lent_in, carrying_words, CarriesWords}
use Rattle.fever.specs.Traffic.{report_length, called_report, told_report, ReportsTraffic}

-- ---- demand 3 of the library: calls of `fever_apply`, `fever_apply_all` and `fever_generate_more` after a `fever_open` that answered 0, each lent the
-- words that the last one left

-- the events of words, four numbers each; up to three words behind them are none
unfoldable pub numbers_of : List ℕ → List Numbers
numbers_of [] = []
numbers_of (a ∷ []) = []
numbers_of (a ∷ b ∷ []) = []
numbers_of (a ∷ b ∷ c ∷ []) = []
numbers_of (a ∷ b ∷ c ∷ d ∷ ws) = four_numbers a b c d ∷ numbers_of ws

-- one event to `fever_apply`, the words of many to `fever_apply_all`, or the words of a load and bytes to `fever_generate_more`
pub data Call : Type 0 where
  one : Numbers → Call
  many : List ℕ → Call
  more : List ℕ → List ℕ → Call

-- that the call with the words x lent answered and left c: its function's contract
abbrev pub Answers : Call → Lent → Called → Type 0
Answers (one k) x c = AppliesWords k.form k.kind k.view k.processor x c.answer c.lent
Answers (many events) x c = (left : List ℕ) × AppliesEvents events x c.answer c.lent left
Answers (more load out) x c = (load' : List ℕ) × (out' : List ℕ) × GeneratesMore x load out c.answer c.lent load' out'

-- the calls ks in turn, with x lent to the first: cs is what each answered and left
abbrev pub InTurn : Lent → List Call → List Called → Type 0
InTurn x [] [] = Unit {0}
InTurn x [] (c ∷ cs) = ⊥
InTurn x (k ∷ ks) [] = ⊥
InTurn x (k ∷ ks) (c ∷ cs) = Answers k x c × InTurn c.lent ks cs

-- the words after the first i of them; before the first, x
abbrev pub lent_after : Lent → List Called → ℕ → Lent
lent_after x cs zero = x
lent_after x [] (suc i) = x
lent_after x (c ∷ cs) (suc i) = lent_after c.lent cs i

-- the events of a call on the state s: numbers that are no event are 0 ticks, which did nothing (`NoEventNothing`); those of a load are those of the
-- lines that it writes (`LinesAreEvents`)
abbrev pub call_events : Call → State → List Event
call_events (one k) s = event_as k ∷ []
call_events (many events) s = map event_as (numbers_of events)
call_events (more load out) s = load_events load out s

-- of the calls in turn, s being the state at the first
unfoldable pub events_of : State → List Call → List Event
events_of s [] = []
events_of s (k ∷ ks) = call_events k s ++ events_of (after s (call_events k s)) ks

-- Whatever words the setup has and whatever words are lent: if `fever_open` answers 0 and leaves `opened`, then P holds after every number of calls,
-- of those calls and of the words that they left.
abbrev pub AfterCalls : (List ℕ → Lent → Lent → List Call → Lent → Type 0) → Type 0
AfterCalls P =
    (setup : List ℕ) (before opened : Lent) → OpensWords setup before 0 opened → (ks : List Call) (cs : List Called) → InTurn opened ks cs
    → (i : ℕ) → P setup before opened (take i ks) (lent_after opened cs i)

-- Demand 3's sentences, of the setup that the setup's words are and of the run, tally and network that the words left are.
abbrev pub DemandThreeOfLibrary : Type 0
DemandThreeOfLibrary =
    AfterCalls (λ setup before opened ks last. Demanded (setup_in setup) (lent_state before) (lent_state opened) (events_of (lent_state opened) ks) (lent_state last))

-- No further call answers 9.
abbrev pub NeverNine : Type 0
NeverNine = AfterCalls (λ setup before opened ks last. (k : Call) (c : Called) → Answers k last c → c.answer ≢ 9)

-- Nor does any event of many.
abbrev pub NoneNine : List ℕ → Type 0
NoneNine [] = Unit {0}
NoneNine (a ∷ []) = Unit {0}
NoneNine (a ∷ b ∷ []) = Unit {0}
NoneNine (a ∷ b ∷ c ∷ []) = Unit {0}
NoneNine (form ∷ check ∷ ticks ∷ held ∷ ws) = (check ≢ 9) × NoneNine ws

abbrev pub NeverNineOfMany : Type 0
NeverNineOfMany =
    AfterCalls (λ setup before opened ks last. (events : List ℕ) (r : ℕ) (after' : Lent) (left : List ℕ) → AppliesEvents events last r after' left → NoneNine left)

-- The words are those of the definitions' list, and the run has as many as were lent to the opening.
pub record LeftBy (setup : List ℕ) (before : Lent) (ks : List Call) (last : Lent) : Type 0 where
  pub opens : T (accepted (opening (setup_in setup) (lent_state before)).answer)
  pub state : let s = (opening (setup_in setup) (lent_state before)).state in lent_state last ≡ after s (events_of s ks)
  pub words_of_run : length last.run ≡ length before.run

abbrev pub LibraryIsAfter : Type 0
LibraryIsAfter = AfterCalls (λ setup before opened ks last. LeftBy setup before ks last)

-- Whether the network has settled, and how many ticks were accepted since, is told by three words of the run.
pub record SettledTold (since : Since) (ws : List ℕ) : Type 0 where
  pub settled : eqb (get_or ws settled_word 0) 1 ≡ has_settled since
  pub ticks : has_settled since ≡ true → get_or ws time_word 0 ≡ get_or ws gst_word 0 + ticks_since since

abbrev pub SettlingTold : Type 0
SettlingTold = AfterCalls (λ setup before opened ks last. SettledTold (since_settling (lent_state opened) (events_of (lent_state opened) ks)) last.run)

-- A report with words enough answers 0 and tells the history of the calls' events; in it sent is delivered plus held, kind by kind
-- (`SentIsDeliveredAndHeld`), and no sum has wrapped.
abbrev pub TrafficOfLibrary : Type 0
TrafficOfLibrary =
    AfterCalls (λ setup before opened ks last. (ws left : List ℕ) (r : ℕ) → report_length ≤ length ws → ReportsTraffic last ws r left
    → called_report r left ≡ told_report ws (Ok (history_totals (setup_in setup) (lent_state before) (events_of (lent_state opened) ks))))

-- Every list of calls can be made, on any words.
abbrev pub EveryCallAnswered : Type 0
EveryCallAnswered = (x : Lent) (ks : List Call) → (cs : List Called) × InTurn x ks cs

-- Four numbers that are no event, or an event without a form (0 ticks among them), answer 1 and change nothing.
abbrev pub NoEventNothing : Type 0
NoEventNothing = (k : Numbers) (x : Lent) (c : Called) → T (lacks_form (event_as k)) → Answers (one k) x c → c ≡ called 1 x

-- ---- loads

-- What `fever_generate_more` wrote into the bytes are the lines of the events that it did, as many bytes as the load's word says.
abbrev pub LinesAreEvents : Type 0
LinesAreEvents =
    (x : Lent) (load out : List ℕ) (after' : Lent) (load' out' : List ℕ) → GeneratesMore x load out 0 after' load' out'
    → Put (schedule_of (map event_form (load_events load out (lent_state x)))) out (get_or load' bytes_word 0) out'

-- `fever_generate`, where it has written a line, did what `fever_open` does and then, lent the words that this left and the bytes behind the setup's
-- line, `fever_generate_more` from step 0.
pub record OpensFirst (setup : List ℕ) (before : Lent) (load out : List ℕ) (after' : Lent) (load' out' : List ℕ) : Type 0 where
  pub opened : Lent
  pub opens : OpensWords setup before 0 opened
  pub heads : take (line_bytes (setup_form (setup_in setup))) out' ≡ line (setup_form (setup_in setup))
  pub goes_on : let k = line_bytes (setup_form (setup_in setup)) in
      GeneratesMore opened (set load step_word 0) (drop k out) 0 after' (set load' bytes_word (get_or load' bytes_word 0 - k)) (drop k out')

abbrev pub GeneratesAfterOpening : Type 0
GeneratesAfterOpening =
    (setup : List ℕ) (before : Lent) (load out : List ℕ) (after' : Lent) (load' out' : List ℕ)
    → GeneratesWords setup before load out 0 after' load' out' → get_or load' bytes_word 0 ≢ 0 → OpensFirst setup before load out after' load' out'

-- So what holds after calls that follow a `fever_open`, demand 3 first, holds after calls that follow such a `fever_generate`, its own events being the
-- first of theirs.
abbrev pub AfterLoad : (List ℕ → Lent → Lent → List Call → Lent → Type 0) → Type 0
AfterLoad P =
    (setup : List ℕ) (before : Lent) (load out : List ℕ) (made : Lent) (load' out' : List ℕ)
    → GeneratesWords setup before load out 0 made load' out' → get_or load' bytes_word 0 ≢ 0 → (ks : List Call) (cs : List Called) → InTurn made ks cs
    → (i : ℕ) → P setup before (opening_words setup before).lent (more (set load step_word 0) (drop (line_bytes (setup_form (setup_in setup))) out) ∷ take i ks) (lent_after made cs i)

abbrev pub CallsAfterLoad : Type 1
CallsAfterLoad = (P : List ℕ → Lent → Lent → List Call → Lent → Type 0) → AfterCalls P → AfterLoad P

-- ---- runs carried over, by `fever_pack` and `fever_unpack` or the other way round

-- the same words lent, with another network
abbrev pub on_network : List ℕ → Lent → Lent
on_network ws x = lent_of x.run x.tally ws

-- "Held runs are carried over in order": on the words that were left the run is sound and holds the same
abbrev pub CarriedWordsAlike : Type 0
CarriedWordsAlike =
    (from to : Form) (x : Lent) (target left : List ℕ) → CarriesWords from to x target 0 left
    → (unsound (lent_in to (on_network left x)) ≡ false) × HeldAlike (lent_in from x) (lent_in to (on_network left x))

-- and it goes on alike: lines that both networks could hold are answered alike, and leave the same run, tally and messages
abbrev pub CarriedGoesOn : Type 0
CarriedGoesOn =
    (from to : Form) (x : Lent) (target left : List ℕ) → CarriesWords from to x target 0 left
    → (ls : List Line) → CanHold (lent_in from x) ls → CanHold (lent_in to (on_network left x)) ls
    → (line_answers (lent_in from x) ls ≡ line_answers (lent_in to (on_network left x)) ls)
    × HeldAlike (after_lines (lent_in from x) ls) (after_lines (lent_in to (on_network left x)) ls)

-- "turning them back gives the same four numbers": into a target as long as the first network it answers 0 and leaves the very words
abbrev pub CarriedWordsBack : Type 0
CarriedWordsBack =
    (from to : Form) (x : Lent) (target left : List ℕ) → CarriesWords from to x target 0 left → (back : List ℕ) → length back ≡ length x.network
    → (r : ℕ) (after' : List ℕ) → CarriesWords to from (on_network left x) back r after' → (r ≡ 0) × (after' ≡ x.network)

-- ---- many events in one call are as many calls in turn

-- the events' words after the calls ks in turn, which answered and left cs, x being lent to the first: of each its form, its answer, the time gained
-- and the messages held
abbrev pub answers_of : Lent → List Numbers → List Called → List ℕ
answers_of x [] cs = []
answers_of x (k ∷ ks) [] = []
answers_of x (k ∷ ks) (c ∷ cs) =
    k.form ∷ c.answer ∷ (get_or c.lent.run time_word 0 - get_or x.run time_word 0) ∷ get_or c.lent.run held_word 0 ∷ answers_of c.lent ks cs

pub record LeftInTurn (x : Lent) (events : List ℕ) (cs : List Called) (r : ℕ) (after : Lent) (left : List ℕ) : Type 0 where
  pub answer : r ≡ 0
  pub lent : after ≡ lent_after x cs (length (numbers_of events))
  pub words : left ≡ answers_of x (numbers_of events) cs ++ drop (event_words * length (numbers_of events)) events

-- Whatever else is lent, and whatever the events: if the run has all of its words and a settled word of 0 or 1, `fever_apply_all` leaves what calls of
-- `fever_apply` leave, and tells of each event what its call tells.
abbrev pub ManyInTurn : Type 0
ManyInTurn =
    (x : Lent) (events : List ℕ) → run_length ≤ length x.run → neither_settled x.run ≡ false
    → (r : ℕ) (after : Lent) (left : List ℕ) → AppliesEvents events x r after left
    → (cs : List Called) → InTurn x (map one (numbers_of events)) cs → LeftInTurn x events cs r after left

-- ---- the layouts lose nothing: what was laid out, whatever stands behind it, is read back

abbrev pub RunBack : Type 0
RunBack = (r : Run) (more : List ℕ) → length r.clocks ≡ table_clocks → length r.views ≡ table_clocks → run_in (run_words r ++ more) ≡ r

-- and the words that a run is read from are those of the run
abbrev pub RunWordsBack : Type 0
RunWordsBack = (ws : List ℕ) → run_length ≤ length ws → neither_settled ws ≡ false → run_over ws (run_in ws) ≡ ws

abbrev pub SetupBack : Type 0
SetupBack = (u : Setup) (more : List ℕ) → length u.clocks ≡ table_clocks → setup_in (setup_words u ++ more) ≡ u

abbrev pub EventBack : Type 0
EventBack = (e : Event) → event_as (event_numbers e) ≡ e

-- so the first four words that a line was read into are an event's numbers, and those from word 4 on an opening's setup
abbrev pub ReadEventBack : Type 0
ReadEventBack =
    (e : Event) (more : List ℕ) → let ws = reading_words (event_reading e) ++ more in
    event_of (get_or ws 0 0) (get_or ws 1 0) (get_or ws 2 0) (get_or ws 3 0) ≡ e

abbrev pub ReadSetupBack : Type 0
ReadSetupBack = (x : Reading) (more : List ℕ) → length x.setup.clocks ≡ table_clocks → setup_in (drop 4 (reading_words x ++ more)) ≡ x.setup

-- ---- what the words tell of a call

-- an opening that answers anything but 0 has changed nothing
abbrev pub RefusedOpeningKeeps : Type 0
RefusedOpeningKeeps = (setup : List ℕ) (x : Lent) → (opening_words setup x).answer ≢ 0 → (opening_words setup x).lent ≡ x

-- an event that answers anything but 0 and leaves the time as it was has changed nothing: no ticks were stopped
abbrev pub RefusedKeeps : Type 0
RefusedKeeps =
    (e : Event) (x : Lent) → (applying_words e x).answer ≢ 0 → get_or (applying_words e x).lent.run time_word 0 ≡ get_or x.run time_word 0
    → (applying_words e x).lent ≡ x

-- many events of which the call answers anything but 0 have changed nothing, their own words included
abbrev pub RefusedAllKeeps : Type 0
RefusedAllKeeps = (events : List ℕ) (x : Lent) → (applying_all events x).answer ≢ 0 → applying_all events x ≡ called_all (applying_all events x).answer x events

-- a load that answers anything but 0 has changed nothing, its own words and the bytes included
abbrev pub RefusedLoadKeeps : Type 0
RefusedLoadKeeps =
    (setup : List ℕ) (x : Lent) (load out : List ℕ) → (generating_words setup x load out).answer ≢ 0
    → generating_words setup x load out ≡ called_load (generating_words setup x load out).answer x load out

abbrev pub RefusedMoreKeeps : Type 0
RefusedMoreKeeps =
    (x : Lent) (load out : List ℕ) → (generating_more x load out).answer ≢ 0 → generating_more x load out ≡ called_load (generating_more x load out).answer x load out

-- a carrying over that answers anything but 0 has written nothing
abbrev pub RefusedCarryKeeps : Type 0
RefusedCarryKeeps =
    (from to : Form) (x : Lent) (target : List ℕ) → (carrying_words from to x target).check ≢ 0 → (carrying_words from to x target).target ≡ target

-- the ticks that an accepted event did are the time gained, and the messages held stand in their word
pub record TicksAre (x : Lent) (a : After) : Type 0 where
  pub ticks : get_or (told x.run a).lent.run time_word 0 ≡ get_or x.run time_word 0 + ticks_of a.answer
  pub held : get_or (told x.run a).lent.run held_word 0 ≡ held_of a.answer

abbrev pub TicksTold : Type 0
TicksTold = (e : Event) (x : Lent) → accepted (applied e (lent_state x)).answer ≡ true → TicksAre x (applied e (lent_state x))

-- that r is 0 where check 1 refuses to write, and there alone; else the bytes of the line, which are some
abbrev pub BytesTell : Bool → List ℕ → List ℕ → ℕ → Type 0
BytesTell lacks form before r =
    ((written_check (written_as lacks form before) ≡ 1) × (r ≡ 0)) ⊎ ((written_check (written_as lacks form before) ≡ 0) × (r ≡ length (line form)) × (0 < r))

-- so do the functions that write answer
abbrev pub BytesTold : Type 0
BytesTold = (lacks : Bool) (form before : List ℕ) (r : ℕ) (after : List ℕ) → WritesLine lacks form before r after → BytesTell lacks form before r
