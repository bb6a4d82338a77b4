-- What is promised of a whole input: in whatever pieces it comes and whatever room the answers have, what is written is its printout, or its report.
-- proofs/Promises.antt and, of reports, proofs/Reporting.antt have a proof of each promise, under its name in small letters with hyphens.
use Rattle.std.specs.Prelude.{◌≡◌, Bool, false, List, [], ◌∷◌, ◌++◌, ℕ, ◌≤◌, length, take, drop, Result}
use Rattle.lines.specs.declared.Next.TheVariants.{Unfinished}
use Rattle.lines.specs.Clauses.{written_bytes}
use Rattle.lines.specs.Printout.{printed_most, totals_most}
use Rattle.lines.specs.Splitting.{next_line}
use Rattle.printout.specs.declared.Served.{Served}
use Rattle.printout.specs.Printout.{Standing, standing_of, session_of, at_start, printout}
use Rattle.printout.specs.Traffic.{report_text, traffic_printout}
use Rattle.printout.specs.Clauses.{Prints, place_at, fed, Serves, closing_most, Closes}

-- a call of `answer_lines`: the bytes at hand, the lent bytes, and what it left
pub record Call : Type 0 where
  pub bytes : List ℕ
  pub out : List ℕ
  pub served : Served
  pub tally : List ℕ
  pub network : List ℕ
  pub after : List ℕ

-- the last call
pub record End : Type 0 where
  pub out : List ℕ
  pub answer : Result ℕ ℕ
  pub after : List ℕ

-- Calls on the rest of an input, as their contracts say: each gets bytes with which it goes on and the state that the last one left; where none ends
-- in what is left of it, the last call, of which E speaks, gets that.
abbrev pub CourseTo : (Standing → Bool → List ℕ → Type 0) → Standing → Bool → List ℕ → List Call → Type 0
CourseTo E x late input [] = (next_line input ≡ Unfinished) × E x late input
CourseTo E x late input (c ∷ cs) =
    ((more : List ℕ) × (input ≡ c.bytes ++ more)) × Serves x late c.bytes c.out c.tally c.network c.served c.after
    × CourseTo E (standing_of c.served.session c.tally c.network) c.served.late (drop c.served.used input) cs

-- to `finish`, which gets enough lent bytes
abbrev pub Course : Standing → Bool → List ℕ → List Call → End → Type 0
Course x late input cs e =
    CourseTo (λ y passed rest. (closing_most ≤ length e.out) × Closes (session_of y) passed rest e.out e.answer e.after) x late input cs

-- what they printed
abbrev pub written : List Call → End → List ℕ
written [] e = take (written_bytes e.answer) e.after
written (c ∷ cs) e = take c.served.printed c.after ++ written cs e

abbrev pub PrintsWhole : Type 0
PrintsWhole = (input : List ℕ) (cs : List Call) (e : End) → Course at_start false input cs e → written cs e ≡ printout input

-- a call that used nothing, though an answer has room, has no line that ends in the bytes at hand
abbrev pub GoesOn : Type 0
GoesOn =
    (x : Standing) (late : Bool) (bytes out tally network : List ℕ) (r : Served) (after : List ℕ) → Serves x late bytes out tally network r after
    → printed_most ≤ length out → r.used ≡ 0 → next_line bytes ≡ Unfinished

-- ---- reports

-- what pieces of an input lead to is what is reported of, whatever is left without a newline
abbrev pub ReportsFed : Type 0
ReportsFed =
    (input rest : List ℕ) → next_line rest ≡ Unfinished
    → report_text (fed (place_at at_start []) input).place.standing ≡ traffic_printout (input ++ rest)

-- the same calls, to a report, which gets enough lent bytes
abbrev pub ReportCourse : Standing → Bool → List ℕ → List Call → End → Type 0
ReportCourse x late input cs e =
    CourseTo (λ y passed rest. (totals_most ≤ length e.out) × Prints totals_most (report_text y) e.out e.answer e.after) x late input cs

-- what it printed
abbrev pub ReportsWhole : Type 0
ReportsWhole =
    (input : List ℕ) (cs : List Call) (e : End) → ReportCourse at_start false input cs e → take (written_bytes e.answer) e.after ≡ traffic_printout input
