-- What is promised of a load that is written in pieces. proofs/Promises.antt has a proof of each, under its name in small letters with hyphens.
use Rattle.std.specs.Prelude.{ℕ, zero, suc, ◌≤◌, ◌≡◌, false, List, [], ◌++◌, Ok, length}
use Rattle.types.specs.declared.Setup.{Setup}
use Rattle.types.specs.Quantities.{table_clocks}
use Rattle.lines.specs.Forms.{setup_fields, Below}
use Rattle.lines.specs.Promises.{schedule_of}
use Rattle.liveness.specs.Unread.{AsLong}
use Rattle.printout.specs.Printout.{Standing}
use Rattle.loads.specs.Loads.{Load, whole_load}
use Rattle.workload.specs.declared.Generated.{Generated}
use Rattle.workload.specs.Promises.{Replayed}
use Rattle.generate.specs.Pieces.{start_state, piece_least, piece, stood, Completes, ProgramWrites}

-- the lines of so many pieces
unfoldable pub lines_of : ℕ → ℕ → ℕ → Load → ℕ → List (List ℕ)
lines_of steps settle room first zero = []
lines_of steps settle room first (suc k) = lines_of steps settle room first k ++ (piece steps settle room first k).forms

-- no load is cut at the lent bytes: the pieces of one that was written to its end are, one after the other, the load made at once with some number of
-- bytes, which was enough for it
abbrev pub Uncut : Type 0
Uncut =
    (u : Setup) (steps settle seed room : ℕ) → piece_least ≤ room
    → let first = whole_load u start_state steps settle seed room in
    (tally network : List ℕ) (r : Generated) (c : Completes steps settle room first tally network r)
    → (enough : ℕ)
    × (whole_load u start_state steps settle seed enough
    ≡ record { forms = lines_of steps settle room first (suc c.leads.earlier); point = stood r tally network; full = false })

-- all lines that the program wrote
abbrev pub written_lines : (u : Setup) (steps settle seed : ℕ) (r : Generated) → ProgramWrites u steps settle seed (Ok r) → List (List ℕ)
written_lines u steps settle seed r w =
    lines_of steps settle w.room (whole_load u start_state steps settle seed w.room) (suc w.whole.1.leads.earlier)

-- "Each line is accepted when read in turn with lent buffers as long": whoever reads all that the program wrote, with as many words as the simulate
-- program lends and whatever run and words they hold, accepts every line and, where there is one, ends in the run that the last piece left. A setup that
-- was read has a whole table, and numbers below 2^64 (`SetupLine`)
abbrev pub WrittenAccepted : Type 0
WrittenAccepted =
    (u : Setup) (steps settle seed : ℕ) (r : Generated) (w : ProgramWrites u steps settle seed (Ok r)) → length u.clocks ≡ table_clocks → Below (setup_fields u)
    → (x : Standing) → AsLong start_state x.state
    → Replayed r w.tally w.network (schedule_of (written_lines u steps settle seed r w)) x
