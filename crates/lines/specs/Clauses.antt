-- What reading and writing a line owe to its form.
use Rattle.std.specs.Prelude.{ℕ, ◌≡◌, Bool, ◌||◌, cond, List, [], ◌∷◌, ◌++◌, length, drop, replicate, ltb, Err, Ok, Result}
use Rattle.types.specs.declared.Event.{Event}
use Rattle.types.specs.declared.Setup.{Setup}
use Rattle.types.specs.Quantities.{table_clocks}
use Rattle.lines.specs.declared.Read.{Read}
use Rattle.lines.specs.Forms.{newline, EventLine, SetupLine, trimmed}

-- ---- reading

-- what a line is read as, and the setup of an opening
pub record Reading : Type 0 where
  pub read : Read
  pub setup : Setup

abbrev pub read_as : Read → Setup → Reading
read_as r u = record { read = r; setup = u }

-- what stands beside anything but an opening
abbrev pub no_setup : Setup
no_setup = record { plan = record { n = 0; delta = 0; gamma = 0; views = 0; k = 0 }; faulty = 0; clocks = replicate table_clocks 0 }

abbrev pub event_reading : Event → Reading
event_reading e = read_as (Read.Event e) no_setup

abbrev pub opening_reading : Setup → Reading
opening_reading u = read_as Read.Opening u

abbrev pub no_form : Reading
no_form = read_as Read.NoForm no_setup

-- document 01's number of each answer: "The line is not one of the forms above"
abbrev pub read_check : Read → ℕ
read_check (Read.Event e) = 0
read_check Read.Opening = 0
read_check Read.NoForm = 1

-- that the line s is read as r: an event or an opening exactly where the line is its form, none where it is that of nothing
pub record Reads (s : List ℕ) (r : Reading) : Type 0 where
  -- every line that reads as an event is exactly the form of that event
  pub event : (e : Event) → r.read ≡ Read.Event e → EventLine s e
  pub opening : r.read ≡ Read.Opening → SetupLine s r.setup
  -- reading the form gives the event, and the setup with clocks from n on 0
  pub from_event : (e : Event) → EventLine s e → r ≡ event_reading e
  pub from_setup : (u : Setup) → SetupLine s u → r ≡ opening_reading (trimmed u)
  -- nothing stands beside a line that is none of the forms
  pub from_nothing : r.read ≡ Read.NoForm → r ≡ no_form

-- ---- writing

-- the form and then one newline
abbrev pub line : List ℕ → List ℕ
line form = form ++ (newline ∷ [])

-- check 1: "a line to be written has no form .. or too few lent bytes"
abbrev pub not_written : Bool → List ℕ → List ℕ → Bool
not_written lacks form buffer = lacks || ltb (length buffer) (length (line form))

unfoldable pub written_as : Bool → List ℕ → List ℕ → Result ℕ ℕ
written_as lacks form buffer = cond (not_written lacks form buffer) (Err 1) (Ok (length (line form)))

-- "writing leaves lent bytes after the newline untouched"
unfoldable pub written_in : Bool → List ℕ → List ℕ → List ℕ
written_in lacks form buffer = cond (not_written lacks form buffer) buffer (line form ++ drop (length (line form)) buffer)

-- that writing the form, or what lacks one, answered r and left `after` in the buffer
abbrev pub Writes : Bool → List ℕ → List ℕ → Result ℕ ℕ → List ℕ → Type 0
Writes lacks form buffer r after = (r ≡ written_as lacks form buffer) × (after ≡ written_in lacks form buffer)

-- document 01's number of each answer
abbrev pub written_check : Result ℕ ℕ → ℕ
written_check (Ok k) = 0
written_check (Err r) = r

-- how many bytes were written
abbrev pub written_bytes : Result ℕ ℕ → ℕ
written_bytes (Ok k) = k
written_bytes (Err r) = 0

-- that the words stand at the start of the lent bytes, k being their length, and the others are untouched
pub record Put (words out : List ℕ) (k : ℕ) (after : List ℕ) : Type 0 where
  pub bytes : k ≡ length words
  pub text : after ≡ words ++ drop k out

-- ---- a text printed into lent bytes

-- "too few lent bytes": they are asked to hold the longest text that may come, before anything is done
abbrev pub too_few : ℕ → List ℕ → Bool
too_few most out = ltb (length out) most

-- that the text was printed into the lent bytes `out`: what was answered, and what they hold afterwards
abbrev pub Prints : ℕ → List ℕ → List ℕ → Result ℕ ℕ → List ℕ → Type 0
Prints most text out r after =
    (r ≡ cond (too_few most out) (Err 1) (Ok (length text))) × (after ≡ cond (too_few most out) out (text ++ drop (length text) out))
