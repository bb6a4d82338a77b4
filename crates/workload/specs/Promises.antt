-- What is promised of loads, of their definitions alone: a reader accepts every line, and stands in the end where the load does; how they end; and
-- that pieces of a load are the load. proofs/Promises.antt has a proof of each, under its name in small letters with hyphens.
pub use Rattle.printout.specs.Printout.{standing_after}
use Rattle.std.specs.Prelude.{◌≡◌, true, false, Ok, ◌⊎◌, ◌≢◌, List, [], ◌∷◌, ℕ, ◌+◌, ◌-◌, ◌≤◌, ◌<◌, eqb, length, take}
use Rattle.types.specs.declared.Event.TheVariants.{Tick}
use Rattle.types.specs.declared.Setup.{Setup}
use Rattle.types.specs.Quantities.{table_clocks}
use Rattle.model.specs.State.{State, After, state_of, check_of, accepted}
use Rattle.model.specs.Checks.{unsound_for_good}
use Rattle.model.specs.Opening.{opening}
use Rattle.model.specs.Events.{applied}
use Rattle.liveness.specs.Promises.{Tabled}
use Rattle.liveness.specs.Unread.{AsLong, SameWithin}
use Rattle.lines.specs.Forms.{event_form, setup_form, setup_fields, Below}
use Rattle.lines.specs.Splitting.{Cut, input_lines, cut_read}
use Rattle.lines.specs.Promises.{schedule_of}
use Rattle.reader.specs.Lines.{reading}
use Rattle.printout.specs.Printout.{Standing, reply, line_accepted}
use Rattle.workload.specs.declared.Generated.{Generated}
use Rattle.workload.specs.Clauses.{Generates}
use Rattle.loads.specs.Loads.{Point, point_of, refused_overdue, Load, halted, followed, line_bytes, turn, further_load, whole_load}

-- ---- reading a load

-- each line, read in turn, is accepted
abbrev pub AllAccepted : Standing → List Cut → Type 0
AllAccepted x [] = Unit {0}
AllAccepted x (c ∷ cs) = let r = reply (cut_read reading c) x in (line_accepted r.answer ≡ true) × AllAccepted r.standing cs

-- what holds of a load's lines, and where it leads, for a reader with whatever run, and with buffers as long as those that the load was made with
abbrev pub OfLoads : (Standing → Load → Type 0) → Type 0
OfLoads P =
    (u : Setup) (before : State) (steps settle seed room : ℕ) → length u.clocks ≡ table_clocks → Below (setup_fields u)
    → (x : Standing) → AsLong before x.state
    → P x (whole_load u before steps settle seed room)

-- "Each line is accepted when read in turn with lent buffers as long."
abbrev pub LoadAccepted : Type 0
LoadAccepted = OfLoads (λ x l. AllAccepted x (input_lines (schedule_of l.forms)))

-- a reader has a run open, and it is that of the load's point
pub record StandsAt (x : Point) (y : Standing) : Type 0 where
  pub opened : y.opened ≡ true
  pub state : SameWithin x.state y.state

-- a load that has a line leads its reader to where it ended
abbrev pub LoadLeads : Type 0
LoadLeads = OfLoads (λ x l. l.forms ≢ [] → StandsAt l.point (standing_after x (input_lines (schedule_of l.forms))))

-- The same of what `generate` hands back and of the bytes that it wrote, by its contract: whoever reads them accepts every line, and, where there is
-- one, has the run that was handed back.
pub record Replayed (r : Generated) (tally network bytes : List ℕ) (x : Standing) : Type 0 where
  pub accepts : AllAccepted x (input_lines bytes)
  pub leads : 0 < length bytes → StandsAt (point_of (state_of r.run tally network) r.seed r.step) (standing_after x (input_lines bytes))

abbrev pub GeneratedAccepted : Type 0
GeneratedAccepted =
    (u : Setup) (before : State) (steps settle seed : ℕ) (out tally network : List ℕ) (r : Generated) (after : List ℕ)
    → Generates (check_of (opening u before).answer) (whole_load u before steps settle seed (length out)) before out tally network (Ok r) after
    → length u.clocks ≡ table_clocks → Below (setup_fields u)
    → (x : Standing) → AsLong before x.state
    → Replayed r tally network (take r.bytes after) x

-- ---- what ends a load

-- "a refused opening .. writes nothing"
abbrev pub LoadRefused : Type 0
LoadRefused =
    (u : Setup) (before : State) (steps settle seed room : ℕ) → accepted (opening u before).answer ≡ false
    → whole_load u before steps settle seed room ≡ halted (point_of before seed 0) false

-- the lines have room
abbrev pub LoadFits : Type 0
LoadFits = (u : Setup) (before : State) (steps settle seed room : ℕ) → length (schedule_of (whole_load u before steps settle seed room).forms) ≤ room

abbrev pub FurtherFits : Type 0
FurtherFits = (steps settle : ℕ) (x : Point) (room : ℕ) → length (schedule_of (further_load steps settle x room).forms) ≤ room

-- what the next event would leave, and answer
abbrev pub next_of : ℕ → Point → After
next_of settle x = applied (turn settle x).event x.state

-- "too few lent bytes for the next line": fewer than it has are left
pub record NoRoom (steps settle room : ℕ) (l : Load) : Type 0 where
  pub more : l.point.step < steps
  pub few : room - length (schedule_of l.forms) < line_bytes (event_form (turn settle l.point).event)

-- "Any other refusal, or too few lent bytes for the next line, ends the load"; nothing else does but that the steps are done
pub record Ends (steps settle room : ℕ) (x : Point) (l : Load) : Type 0 where
  pub full : l.full ≡ true → NoRoom steps settle room l
  pub over : l.full ≡ false → x.step ≤ steps → (l.point.step ≡ steps) ⊎ (accepted (next_of settle l.point).answer ≡ false)

abbrev pub FurtherEnds : Type 0
FurtherEnds = (steps settle : ℕ) (x : Point) (room : ℕ) → unsound_for_good x.state ≡ false → Ends steps settle room x (further_load steps settle x room)

-- from an accepted opening: its line had no room, or the steps after it end so; and the refusal is one by 17 or 18, so that no tick is refused as
-- overdue
pub record EndsWhole (u : Setup) (before : State) (steps settle seed room : ℕ) (l : Load) : Type 0 where
  pub full : l.full ≡ true → ((l ≡ halted (point_of before seed 0) true) × (room < line_bytes (setup_form u))) ⊎ NoRoom steps settle room l
  pub over : l.full ≡ false → (l.point.step ≡ steps)
      ⊎ ((accepted (next_of settle l.point).answer ≡ false)
      × ((check_of (next_of settle l.point).answer ≡ 17) ⊎ (check_of (next_of settle l.point).answer ≡ 18)))

abbrev pub LoadEnds : Type 0
LoadEnds = (u : Setup) (before : State) (steps settle seed room : ℕ) → accepted (opening u before).answer ≡ true
    → EndsWhole u before steps settle seed room (whole_load u before steps settle seed room)

-- ---- what becomes of a tick

-- "A tick refused as overdue": on every run that a load chooses on, a tick is refused by 16 exactly where the definition of a step says so
abbrev pub SubstitutesOverdue : Type 0
SubstitutesOverdue = (s : State) → unsound_for_good s ≡ false → eqb (check_of (applied (Tick 1) s).answer) 16 ≡ refused_overdue s

-- ---- a load in pieces

-- the load from where the piece p ended, with so many bytes for both
abbrev pub gone_on : ℕ → ℕ → Load → ℕ → Load
gone_on steps settle p room = followed p.forms (further_load steps settle p.point (room - length (schedule_of p.forms)))

-- a piece that ended for want of bytes, and the load that goes on from there, are the load with the bytes of both
abbrev pub PiecesJoin : Type 0
PiecesJoin =
    (steps settle : ℕ) (x : Point) (a b : ℕ) → Tabled x.state.run
    → let p = further_load steps settle x a in
    p.full ≡ true → further_load steps settle x (a + b) ≡ gone_on steps settle p (a + b)

-- the same where the piece begins with the opening, and has its line
abbrev pub FirstPiecesJoin : Type 0
FirstPiecesJoin =
    (u : Setup) (before : State) (steps settle seed a b : ℕ)
    → let p = whole_load u before steps settle seed a in
    p.full ≡ true → p.forms ≢ [] → whole_load u before steps settle seed (a + b) ≡ gone_on steps settle p (a + b)
