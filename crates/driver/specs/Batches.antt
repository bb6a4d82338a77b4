-- Lines in a batch: read as words, applied as words, printed from the words.
use Rattle.std.specs.Prelude.{◌≡◌, Bool, cond, List, [], ◌∷◌, ◌++◌, ℕ, zero, suc, ◌+◌, ◌*◌, ◌≤◌, ◌<◌, length, get_or, take, eqb}
use Rattle.types.specs.declared.Answer.{Answer}
use Rattle.types.specs.declared.Answer.TheVariants.{Refused}
use Rattle.model.specs.State.{State}
use Rattle.liveness.specs.Promises.{answer_from}
use Rattle.words.specs.declared.Numbers.{Numbers}
use Rattle.words.specs.Events.{event_words, four_numbers, event_numbers}
use Rattle.words.specs.Batches.{Worded, words_applied}
use Rattle.lines.specs.declared.Read.{Read}
use Rattle.lines.specs.Clauses.{no_setup, line}
use Rattle.lines.specs.Printout.{answer_form}
use Rattle.printout.specs.Printout.{Standing, leaving, read_reply, printed_line, ticks_printed}
use Rattle.printout.specs.Clauses.{place_at, Advance, behind, fed}
use Rattle.driver.specs.declared.Noted.{Noted}
use Rattle.driver.specs.Inner.{replying}

-- ---- reading

-- a line of no form is four zeros, which are no event
abbrev pub no_numbers : Numbers
no_numbers = four_numbers 0 0 0 0

abbrev pub read_numbers : Read → Numbers
read_numbers (Read.Event e) = event_numbers e
read_numbers Read.Opening = no_numbers
read_numbers Read.NoForm = no_numbers

-- lines read, as words
abbrev pub gathered : List Read → List ℕ
gathered [] = []
gathered (r ∷ rs) = let k = read_numbers r in k.form ∷ k.kind ∷ k.view ∷ k.processor ∷ gathered rs

-- a batch has at most so many lines
abbrev pub lines_most : ℕ
lines_most = 512

-- and ends before an opening
abbrev pub NoOpening : List Read → Type 0
NoOpening [] = Unit {0}
NoOpening (Read.Event e ∷ rs) = NoOpening rs
NoOpening (Read.Opening ∷ rs) = ⊥
NoOpening (Read.NoForm ∷ rs) = NoOpening rs

-- what the printout makes of such lines, one after the other
abbrev pub replied : List Read → Standing → Advance
replied [] x = record { place = place_at x []; text = [] }
replied (r ∷ rs) x = let y = read_reply r no_setup x in behind (printed_line y) (replied rs y.standing)

-- that the first line of the bytes, with its newline, is so many of them and has such numbers: they are those of what it is read as, which is no opening
pub record Notes (s : List ℕ) (n : Noted) : Type 0 where
  pub some : 0 < n.used
  pub within : n.used ≤ length s
  pub read : Read
  pub plain : NoOpening (read ∷ [])
  pub numbers : n.numbers ≡ read_numbers read
  pub feeds : (x : Standing) → fed (place_at x []) (take n.used s) ≡ replying (read_reply read no_setup x)

-- that the first lines of the bytes stand in the batch, at most so many: their words are those of some reads, to which the printout replies as to the bytes
pub record Gathers (s : List ℕ) (most count used : ℕ) (batch : List ℕ) : Type 0 where
  pub within : used ≤ length s
  pub few : count ≤ most
  pub each : count ≤ used
  pub reads : List Read
  pub many : length reads ≡ count
  pub plain : NoOpening reads
  pub words : take (event_words * count) batch ≡ gathered reads
  pub feeds : (x : Standing) → fed (place_at x []) (take used s) ≡ replied reads x

-- ---- applying

abbrev pub worded : State → List ℕ → Worded
worded s ws = record { state = s; words = ws }

-- "Before an accepted opening an event gets 9": nothing is applied then
abbrev pub words_answered : Bool → List ℕ → State → Worded
words_answered opened ws s = cond opened (words_applied ws s) (worded s ws)

-- ---- printing

-- what is printed for the answered words of a line in an open run
unfoldable pub open_as : ℕ → ℕ → ℕ → ℕ → Answer
open_as form check ticks held = let a = answer_from check ticks held in cond (eqb form 5) (ticks_printed held a) a

-- and for the words of a line where no run is open
unfoldable pub closed_as : ℕ → Answer
closed_as form = cond (eqb form 0) (Refused 1) (Refused 9)

abbrev pub printed_as : Bool → ℕ → ℕ → ℕ → ℕ → Answer
printed_as opened form check ticks held = cond opened (open_as form check ticks held) (closed_as form)

-- for those of line i
abbrev pub printed_at : Bool → List ℕ → ℕ → Answer
printed_at opened ws i =
    let at = event_words * i in printed_as opened (get_or ws at 0) (get_or ws (at + 1) 0) (get_or ws (at + 2) 0) (get_or ws (at + 3) 0)

-- for those of the first k lines
abbrev pub printed_up_to : Bool → List ℕ → ℕ → List ℕ
printed_up_to opened ws zero = []
printed_up_to opened ws (suc k) = printed_up_to opened ws k ++ line (answer_form (printed_at opened ws k))

-- ---- together

-- where the answered words of lines lead, and what is printed for them
abbrev pub advanced : Bool → ℕ → Worded → Advance
advanced opened count y = record { place = place_at (leaving opened y.state) []; text = printed_up_to opened y.words count }

-- a batch is its lines one by one, in an open run, whatever it holds, and where none is open
abbrev pub Batched : Type 0
Batched = (rs : List Read) (opened : Bool) (s : State) → NoOpening rs
    → replied rs (leaving opened s) ≡ advanced opened (length rs) (words_answered opened (gathered rs) s)
