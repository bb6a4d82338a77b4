-- What the driver's functions owe to the printout.
pub use Rattle.lines.specs.Clauses.{too_few, Prints}
use Rattle.std.specs.Prelude.{ℕ, ◌+◌, ◌*◌, ◌≤◌, ◌<◌, ◌≡◌, ◌⊎◌, Bool, true, false, cond, List, [], ◌∷◌, ◌++◌, length, take, drop, eqb, Result}
use Rattle.types.specs.Quantities.{table_clocks}
use Rattle.model.specs.State.{State, with_run}
use Rattle.lines.specs.declared.Next.TheVariants.{Unfinished}
use Rattle.lines.specs.Forms.{newline}
use Rattle.lines.specs.Printout.{printed_most}
use Rattle.lines.specs.Splitting.{ended, remainder, cut_read, line_most, next_line}
use Rattle.reader.specs.Lines.{reading}
use Rattle.printout.specs.declared.Session.{Session}
use Rattle.printout.specs.declared.Served.{Served}
use Rattle.printout.specs.Printout.{Standing, leaving, standing_of, Reply, reply, line_reply, printed_line, printed_from}

-- ---- one line

-- that the line s left the state y and was answered in the lent bytes; with too few of them nothing has changed
abbrev pub AnswersLine : List ℕ → Standing → List ℕ → Standing → Result ℕ ℕ → List ℕ → Type 0
AnswersLine s x out y r after =
    (y ≡ cond (too_few printed_most out) x (line_reply s x).standing) × Prints printed_most (printed_line (line_reply s x)) out r after

-- ---- the bytes of an input, in whatever pieces they come

-- where the program stands within its input: its state, and the bytes since the last newline
pub record Place : Type 0 where
  pub standing : Standing
  pub begun : List ℕ

abbrev pub place_at : Standing → List ℕ → Place
place_at x begun = record { standing = x; begun = begun }

-- the line that ends here
abbrev pub line_ended : Place → Reply
line_ended p = reply (cut_read reading (ended p.begun)) p.standing

-- behind its newline
abbrev pub fresh : Place → Place
fresh p = place_at (line_ended p).standing []

-- behind a byte of it
abbrev pub longer : Place → ℕ → Place
longer p b = place_at p.standing (p.begun ++ (b ∷ []))

-- where further bytes lead, and what is printed meanwhile
pub record Advance : Type 0 where
  pub place : Place
  pub text : List ℕ

abbrev pub behind : List ℕ → Advance → Advance
behind text f = record { place = f.place; text = text ++ f.text }

abbrev pub fed : Place → List ℕ → Advance
fed p [] = record { place = p; text = [] }
fed p (b ∷ s) = cond (eqb b newline) (behind (printed_line (line_ended p)) (fed (fresh p) s)) (fed (longer p b) s)

-- what is known of the bytes since the last newline: none were passed over, or more than a line may have
abbrev pub Begun : Bool → List ℕ → Type 0
Begun false begun = begun ≡ []
Begun true begun = line_most < length begun

-- that the bytes s, behind those begun, led from the state x to y, with k bytes printed into `out`
pub record Feeds (x : Standing) (begun s out : List ℕ) (y : Standing) (late : Bool) (k : ℕ) (after : List ℕ) : Type 0 where
  pub state : y ≡ (fed (place_at x begun) s).place.standing
  pub begins : Begun late (fed (place_at x begun) s).place.begun
  pub bytes : k ≡ length (fed (place_at x begun) s).text
  pub text : after ≡ (fed (place_at x begun) s).text ++ drop k out

-- that as many of the bytes at hand were used as r says, and why no more: the answer to a further line may not have room, or none ends there
pub record Serves (x : Standing) (late : Bool) (bytes out tally network : List ℕ) (r : Served) (after : List ℕ) : Type 0 where
  pub within : r.used ≤ length bytes
  pub room : r.printed ≤ length out
  pub feeds : (begun : List ℕ) → Begun late begun
      → Feeds x begun (take r.used bytes) out (standing_of r.session tally network) r.late r.printed after
  pub stops : (length out < r.printed + printed_most) ⊎ (next_line (drop r.used bytes) ≡ Unfinished)

-- ---- the end of the input

-- a line that is left, and those of the processors
abbrev pub closing_most : ℕ
closing_most = printed_most + table_clocks * printed_most

-- that what is left of the input, and the end, were printed: `rest` are the bytes at hand since the last newline
abbrev pub Closes : Session → Bool → List ℕ → List ℕ → Result ℕ ℕ → List ℕ → Type 0
Closes s late rest out r after =
    (x : State) (begun : List ℕ) → Begun late begun → Prints closing_most (printed_from (leaving s.opened (with_run s.run x)) (remainder (begun ++ rest))) out r after
