-- "The sums are those of the schedule's history": which run the lines of an input leave open, and the report that its history makes.
use Rattle.std.specs.Prelude.{ℕ, cond, List, [], ◌∷◌, ◌++◌, Ok}
use Rattle.types.specs.declared.Event.{Event}
use Rattle.types.specs.declared.Setup.{Setup}
use Rattle.model.specs.State.{State, accepted}
use Rattle.model.specs.Opening.{opening}
use Rattle.model.specs.Traffic.{history_totals}
use Rattle.lines.specs.declared.Read.{Read}
use Rattle.lines.specs.Printout.{totals_text}
use Rattle.lines.specs.Splitting.{Cut, input_lines, cut_read}
use Rattle.reader.specs.Lines.{reading}
use Rattle.printout.specs.Printout.{Standing, at_start, reply}

-- ---- the last run

-- the setup of the last accepted opening, the state before it, and the events of the lines behind it; or no opening was accepted
pub data History : Type 0 where
  never : History
  opened_with : Setup → State → List Event → History

-- the event of a line is one of the run that is open, accepted or refused: "a refused one having changed nothing"
abbrev pub event_history : Event → History → History
event_history e never = never
event_history e (opened_with u before es) = opened_with u before (es ++ (e ∷ []))

-- "A later accepted opening begins a new run in place of the old; a refused one leaves the old run going."
abbrev pub opening_history : Setup → Standing → History → History
opening_history u x h = cond (accepted (opening u x.state).answer) (opened_with u x.state []) h

-- a line that is none of the forms changes nothing
abbrev pub read_history : Read → Setup → Standing → History → History
read_history (Read.Event e) u x h = event_history e h
read_history Read.Opening u x h = opening_history u x h
read_history Read.NoForm u x h = h

-- lines in turn, x being the state before the first of them, and h the history behind it
abbrev pub history_from : History → Standing → List Cut → History
history_from h x [] = h
history_from h x (c ∷ cs) = let r = cut_read reading c in history_from (read_history r.read r.setup x h) (reply r x).standing cs

-- those of a whole input
unfoldable pub last_run : List ℕ → History
last_run s = history_from never at_start (input_lines s)

-- ---- its report

abbrev pub history_text : History → List ℕ
history_text never = []
history_text (opened_with u before es) = totals_text (Ok (history_totals u before es))
