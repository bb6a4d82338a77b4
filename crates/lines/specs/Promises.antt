-- What is promised of lines: one is written for each event, which words are reported where their ends are looked for, and how an input is cut into them.
use Rattle.std.specs.Prelude.{ℕ, suc, ◌/◌, ◌%◌, ◌^◌, ◌≤◌, ◌<◌, ◌≡◌, Bool, true, false, ◌⊎◌, List, [], ◌∷◌, ◌++◌, map, length, take, drop, Result}
use Rattle.std.proofs.Common.{inl, inr}
use Rattle.base.specs.Members.{Every}
use Rattle.types.specs.declared.Answer.{Answer}
use Rattle.types.specs.declared.Event.{Event}
use Rattle.types.specs.declared.Setup.{Setup}
use Rattle.types.specs.declared.Totals.{Totals}
use Rattle.types.specs.Quantities.{table_clocks}
use Rattle.types.specs.Runs.{setup_with, usual_numbers, usual_plan_in}
use Rattle.lines.specs.declared.Next.{Next}
use Rattle.lines.specs.declared.Next.TheVariants.{Line, Long, Unfinished, Endless}
use Rattle.lines.specs.Forms.{newline, setup_form, usual_form, lacks_setup_form, setup_fields, Below, EventLine, SetupLine, trimmed}
use Rattle.lines.specs.Printout.{answer_form, processor_form, printed_most, totals_text, totals_most}
use Rattle.lines.specs.Clauses.{Reading, event_reading, opening_reading, read_check, Reads, line, Writes, written_check}
use Rattle.lines.specs.Search.{word_bytes, reported}
use Rattle.lines.specs.Splitting.{line_most, next_line, ended, lines_after, input_lines, cut_read}

-- ---- forms

-- the line s is one of the forms
abbrev pub Formed : List ℕ → Type 0
Formed s = ((e : Event) × EventLine s e) ⊎ ((u : Setup) × SetupLine s u)

-- a definition of reading that reads every line as what it is the form of, and as nothing else
abbrev pub ReadsLines : (List ℕ → Reading) → Type 0
ReadsLines f = (s : List ℕ) → Reads s (f s)

-- every line is read as one thing
abbrev pub OneReading : Type 0
OneReading = (s : List ℕ) (r r' : Reading) → Reads s r → Reads s r' → r ≡ r'

-- check 1: "The line is not one of the forms above", then and only then
abbrev pub Judges : List ℕ → Reading → Type 0
Judges s r = ((read_check r.read ≡ 0) × Formed s) ⊎ ((read_check r.read ≡ 1) × (Formed s → ⊥))

abbrev pub JudgesLines : (List ℕ → Reading) → Type 0
JudgesLines f = (s : List ℕ) → Judges s (f s)

-- check 1 of writing: "has no form .. or too few lent bytes", then and only then, and no byte changes; else the line stands in the buffer, and what was
-- behind it still does
abbrev pub JudgesWriting : Type 0
JudgesWriting = (lacks : Bool) (form buffer : List ℕ) (r : Result ℕ ℕ) (after : List ℕ) → Writes lacks form buffer r after
    → ((written_check r ≡ 0) × (lacks ≡ false) × (length (line form) ≤ length buffer) × (after ≡ line form ++ drop (length (line form)) buffer))
    ⊎ ((written_check r ≡ 1) × ((lacks ≡ true) ⊎ (length buffer < length (line form))) × (after ≡ buffer))

-- two events with one line are the same event
abbrev pub OneEvent : Type 0
OneEvent = (s : List ℕ) (e e' : Event) → EventLine s e → EventLine s e' → e ≡ e'

-- and so are two setups: "tables that differ only from n on are the same event"
abbrev pub OneSetup : Type 0
OneSetup = (s : List ℕ) (u u' : Setup) → SetupLine s u → SetupLine s u' → trimmed u ≡ trimmed u'

-- the setup with k = 3
abbrev pub with_usual : Setup → Setup
with_usual u = setup_with (usual_plan_in (usual_numbers u.plan)) u.faulty u.clocks

-- the line that is written is read as the setup; "any opening line without it is read as k=3"
abbrev pub ReadsSetups : (List ℕ → Reading) → Type 0
ReadsSetups f = (u : Setup) → lacks_setup_form u ≡ false → Below (setup_fields u) → length u.clocks ≡ table_clocks
    → (f (setup_form u) ≡ opening_reading (trimmed u)) × (f (usual_form u) ≡ opening_reading (trimmed (with_usual u)))

-- no line is the form of an event and of a setup
abbrev pub NeverBoth : Type 0
NeverBoth = (s : List ℕ) (e : Event) (u : Setup) → EventLine s e → SetupLine s u → ⊥

-- "a line is at most 4,800 bytes": every form is far shorter
abbrev pub form_most : ℕ
form_most = 1460

abbrev pub ShortForms : Type 0
ShortForms = (s : List ℕ) → Formed s → length s ≤ form_most

-- so many bytes hold every printed line
abbrev pub ShortAnswers : Type 0
ShortAnswers = (a : Answer) → length (line (answer_form a)) ≤ printed_most

abbrev pub ShortProcessors : Type 0
ShortProcessors = (p view clock : ℕ) → length (line (processor_form p view clock)) ≤ printed_most

-- and so many every report
abbrev pub ShortReports : Type 0
ShortReports = (x : Result Totals ℕ) → length (totals_text x) ≤ totals_most

-- ---- words

-- "A word is reported exactly when one of its bytes is a newline", byte i of it being w / 256^i % 256: none is reported falsely, and none missed
abbrev pub ReportsExactly : Type 0
ReportsExactly = (w : ℕ)
    → (reported w ≡ true → (i : ℕ) × (i < word_bytes) × (w / 256 ^ i % 256 ≡ newline))
    × ((i : ℕ) → i < word_bytes → w / 256 ^ i % 256 ≡ newline → reported w ≡ true)

-- ---- the next line within the bytes at hand

-- whatever stands before s on its line and whatever follows s: that line ends behind the first e bytes of s, and cutting goes on behind its newline
abbrev pub Ended : List ℕ → ℕ → Type 0
Ended s e = (e < length s) × ((start more : List ℕ) → lines_after start (s ++ more) ≡ ended (start ++ take e s) ∷ input_lines (drop (suc e) s ++ more))

-- all of s stands on one line, which goes on in what follows
abbrev pub Started : List ℕ → Type 0
Started s = (start more : List ℕ) → lines_after start (s ++ more) ≡ lines_after (start ++ s) more

abbrev pub Tells : List ℕ → Next → Type 0
Tells s (Line e) = (e ≤ line_most) × Ended s e
Tells s (Long e) = (line_most < e) × Ended s e
Tells s Unfinished = (length s ≤ line_most) × Started s
Tells s Endless = (line_most < length s) × Started s

abbrev pub TellsNext : Type 0
TellsNext = (s : List ℕ) → Tells s (next_line s)

-- ---- what is written

-- the next line of a buffer that starts with the line of a form is that form
abbrev pub NextForm : Type 0
NextForm = (s : List ℕ) → Formed s → (more : List ℕ) → next_line (line s ++ more) ≡ Line (length s)

-- ---- a whole schedule

abbrev pub AllFormed : List (List ℕ) → Type 0
AllFormed l = Every Formed l

-- forms, each with its newline
abbrev pub schedule_of : List (List ℕ) → List ℕ
schedule_of [] = []
schedule_of (s ∷ l) = line s ++ schedule_of l

-- a schedule is cut into the forms it is made of
abbrev pub CutsBack : Type 0
CutsBack = (l : List (List ℕ)) → AllFormed l → input_lines (schedule_of l) ≡ map ended l

-- what a line that is one of the forms is to be read as
abbrev pub reading_of : (s : List ℕ) → Formed s → Reading
reading_of s (inl x) = event_reading x.0
reading_of s (inr x) = opening_reading (trimmed x.0)

abbrev pub readings_of : (l : List (List ℕ)) → AllFormed l → List Reading
readings_of [] h = []
readings_of (s ∷ l) h = reading_of s h.0 ∷ readings_of l h.1

-- and read as the events and openings that they are the forms of
abbrev pub ReadsBack : (List ℕ → Reading) → Type 0
ReadsBack f = (l : List (List ℕ)) (h : AllFormed l) → map (cut_read f) (input_lines (schedule_of l)) ≡ readings_of l h
