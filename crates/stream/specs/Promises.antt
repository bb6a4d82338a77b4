-- What is promised of the traffic program. proofs/Reporting.antt has a proof of each promise, under its name in small letters with hyphens.
use Rattle.std.specs.Prelude.{◌≡◌, true, false, cond, List, [], ◌++◌, ℕ, T, take}
use Rattle.types.specs.declared.Event.{Event}
use Rattle.types.specs.declared.Setup.{Setup}
use Rattle.model.specs.State.{State, accepted}
use Rattle.model.specs.Opening.{opening}
use Rattle.model.specs.Lists.{after}
use Rattle.model.specs.Traffic.{held_counts, history_totals}
use Rattle.liveness.specs.Traffic.{both_counts}
use Rattle.lines.specs.Printout.{traffic_text}
use Rattle.lines.specs.Splitting.{input_lines}
use Rattle.printout.specs.Printout.{Standing, standing_of, standing_after, at_start}
use Rattle.printout.specs.Traffic.{report_text, traffic_printout}
use Rattle.stream.specs.declared.Progress.{Progress}
use Rattle.stream.specs.Threads.{Reaches}
use Rattle.stream.specs.History.{History, never, opened_with, last_run, history_text}

-- what some input led to is reported of as the whole input is
abbrev pub ReportsReached : Type 0
ReportsReached =
    (tally network window : List ℕ) (r : Progress) (h : Reaches tally network window r)
    → report_text (standing_of r.session tally network) ≡ traffic_printout (h.input ++ take r.bytes window)

-- no report is refused: of the run that is open at the end of an input, if one is, the traffic is told
abbrev pub ReportsTold : Type 0
ReportsTold =
    (input : List ℕ) → let x = standing_after at_start (input_lines input) in
    traffic_printout input ≡ cond x.opened (traffic_text x.state.run.traffic (held_counts x.state)) []

-- ---- "The sums are those of the schedule's history: sent is delivered plus held, kind by kind"

-- that a run is open, and is what an accepted opening and the events after it have left
pub record RunAfter (u : Setup) (before : State) (es : List Event) (x : Standing) : Type 0 where
  pub running : x.opened ≡ true
  pub opens : T (accepted (opening u before).answer)
  pub state : x.state ≡ after (opening u before).state es

-- that a history leads to the state x; without an accepted opening no run is open
abbrev pub HistoryLeads : History → Standing → Type 0
HistoryLeads never x = x.opened ≡ false
HistoryLeads (opened_with u before es) x = RunAfter u before es x

-- that its report adds up
abbrev pub HistoryAdds : History → Type 0
HistoryAdds never = Unit {0}
HistoryAdds (opened_with u before es) = let y = history_totals u before es in y.traffic.sent ≡ both_counts y.traffic.delivered y.held

-- for every input: the events behind its last accepted opening led to where it ends, and what is printed is the report of their history
pub record ToldOf (h : History) (x : Standing) (printed : List ℕ) : Type 0 where
  pub leads : HistoryLeads h x
  pub text : printed ≡ history_text h
  pub adds : HistoryAdds h

abbrev pub ReportsHistory : Type 0
ReportsHistory = (input : List ℕ) → ToldOf (last_run input) (standing_after at_start (input_lines input)) (traffic_printout input)
