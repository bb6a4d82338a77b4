-- How the program writes a load, but for the writing: in pieces, each with the same lent bytes, and each from where the last one stands.
use Rattle.std.specs.Prelude.{ℕ, zero, suc, ◌+◌, ◌*◌, ◌≤◌, ◌<◌, ◌≡◌, true, false, List, Result, Ok, Err}
use Rattle.types.specs.declared.Setup.{Setup}
use Rattle.model.specs.State.{State, state_of, check_of}
use Rattle.model.specs.Opening.{opening}
use Rattle.lines.specs.Promises.{form_most}
use Rattle.printout.specs.Printout.{at_start}
use Rattle.loads.specs.Loads.{Point, point_of, Load, further_load, whole_load}
use Rattle.workload.specs.declared.Generated.{Generated}

-- no run, and words of 0, as many as the simulate program lends
abbrev pub start_state : State
start_state = at_start.state

-- the check that refuses the opening there, or 0
abbrev pub start_check : Setup → ℕ
start_check u = check_of (opening u start_state).answer

-- so many bytes hold two lines of any form
abbrev pub piece_least : ℕ
piece_least = 2 * (form_most + 1)

-- the pieces of a load, counted from 0: the first one, and each further one from where the one before it ended
unfoldable pub piece : ℕ → ℕ → ℕ → Load → ℕ → Load
piece steps settle room first zero = first
piece steps settle room first (suc k) = further_load steps settle (piece steps settle room first k).point room

-- where r and the lent words stand
abbrev pub stood : Generated → List ℕ → List ℕ → Point
stood r tally network = point_of (state_of r.run tally network) r.seed r.step

-- that a piece ended there
pub record Leaves (l : Load) (tally network : List ℕ) (r : Generated) : Type 0 where
  pub point : stood r tally network ≡ l.point
  pub full : r.full ≡ l.full

-- that the pieces of a load, of which all but the last one ended for want of bytes, led to r
pub record PiecesLead (steps settle room : ℕ) (first : Load) (tally network : List ℕ) (r : Generated) : Type 0 where
  pub earlier : ℕ
  pub further : (j : ℕ) → j < earlier → (piece steps settle room first j).full ≡ true
  pub last : Leaves (piece steps settle room first earlier) tally network r

-- that they did so to the load's end
pub record Completes (steps settle room : ℕ) (first : Load) (tally network : List ℕ) (r : Generated) : Type 0 where
  pub leads : PiecesLead steps settle room first tally network r
  pub over : r.full ≡ false

-- that the load was gone on with to its end, from what its first piece had left
abbrev pub Resumes : ℕ → ℕ → ℕ → List ℕ → List ℕ → Generated → List ℕ → List ℕ → Generated → Type 0
Resumes steps settle room tally network f tally' network' r = (first : Load) → Leaves first tally network f → Completes steps settle room first tally' network' r

-- that the whole load was, from the program's start, as no check refuses its opening; or that this check does, and the lent words stayed as they were
abbrev pub WritesWhole : Setup → ℕ → ℕ → ℕ → ℕ → List ℕ → List ℕ → Result Generated ℕ → Type 0
WritesWhole u steps settle seed room tally network (Ok r) =
    (start_check u ≡ 0) × Completes steps settle room (whole_load u start_state steps settle seed room) tally network r
WritesWhole u steps settle seed room tally network (Err k) = (k ≡ start_check u) × (0 < k) × (state_of start_state.run tally network ≡ start_state)

-- the same, with as many bytes for each piece as hold two lines, and with whatever is left in the lent words
pub record ProgramWrites (u : Setup) (steps settle seed : ℕ) (r : Result Generated ℕ) : Type 0 where
  pub room : ℕ
  pub least : piece_least ≤ room
  pub tally : List ℕ
  pub network : List ℕ
  pub whole : WritesWhole u steps settle seed room tally network r
