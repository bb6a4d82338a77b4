-- How the program goes on through its input, but for reading it and writing what is printed.
use Rattle.std.specs.Prelude.{ℕ, ◌≤◌, ◌≡◌, Bool, List, [], length, take, drop}
use Rattle.lines.specs.declared.Next.TheVariants.{Unfinished}
use Rattle.lines.specs.Printout.{printed_most}
use Rattle.lines.specs.Splitting.{next_line}
use Rattle.printout.specs.Printout.{Standing, standing_of, at_start}
use Rattle.printout.specs.Clauses.{place_at, fed, Begun}
use Rattle.stream.specs.declared.Progress.{Progress}

-- that the bytes s, behind those begun, led from the state x to the state y
pub record Leads (x : Standing) (begun s : List ℕ) (y : Standing) (late : Bool) : Type 0 where
  pub state : y ≡ (fed (place_at x begun) s).place.standing
  pub begins : Begun late (fed (place_at x begun) s).place.begun

-- that all lines that end within the bytes were answered, r telling how many bytes they have: whatever was begun, they led to what r holds, and no
-- line ends in the others
pub record Threads (x : Standing) (late : Bool) (bytes out tally network : List ℕ) (r : Progress) : Type 0 where
  pub within : r.bytes ≤ length bytes
  pub leads : (begun : List ℕ) → Begun late begun → Leads x begun (take r.bytes bytes) (standing_of r.session tally network) r.late
  pub stops : printed_most ≤ length out → next_line (drop r.bytes bytes) ≡ Unfinished

-- that some input, read in whatever pieces, led from the program's start to what r holds: all of it but the bytes at the start of the window, r telling
-- how many, in which no line ends
pub record Reaches (tally network window : List ℕ) (r : Progress) : Type 0 where
  pub input : List ℕ
  pub leads : Leads at_start [] input (standing_of r.session tally network) r.late
  pub within : r.bytes ≤ length window
  pub rest : next_line (take r.bytes window) ≡ Unfinished
