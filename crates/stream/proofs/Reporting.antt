-- Reports: what is printed is of the state at hand, of the schedule's history, and never a refusal. Assumes nothing.
use mathlib.Core.Path.{◌≡◌, ap, ◌∙◌}
use mathlib.Core.Bool.{true, false, cond}
use mathlib.Core.List.{[]}
use lib.ListN.{take}
use Rattle.model.specs.State.{State}
use Rattle.model.specs.Checks.{unsound}
use Rattle.model.specs.Traffic.{held_counts, totals}
use Rattle.lines.specs.Printout.{traffic_text, totals_text}
use Rattle.lines.specs.Splitting.{input_lines}
use Rattle.printout.specs.Printout.{Standing, standing_after, at_start}
use Rattle.printout.specs.Traffic.{report_text, traffic_printout}
use Rattle.printout.proofs.Reporting.{reports-fed}
use Rattle.stream.specs.History.{History, never, opened_with, last_run, history_text}
use Rattle.stream.specs.Promises.{ReportsReached, ReportsTold, HistoryLeads, ToldOf, ReportsHistory}
use Rattle.stream.proofs.History.{input-history, history-sound, history-totals, history-adds}

-- ---- what is printed

open-text : (x : Standing) → x.opened ≡ true → report_text x ≡ totals_text (totals x.state)
unfolding report_text
open-text x e = rw e

closed-text : (x : Standing) → x.opened ≡ false → report_text x ≡ []
unfolding report_text
closed-text x e = rw e

-- ---- where some input led

pub reports-reached : ReportsReached
reports-reached tally network window r h = ap report_text h.leads.state ∙ reports-fed h.input (take r.bytes window) h.rest

-- ---- the history

told-sound : (s : State) → unsound s ≡ false → totals_text (totals s) ≡ traffic_text s.run.traffic (held_counts s)
unfolding totals totals_text
told-sound s e = rw e

pub reports-told : ReportsTold
unfolding traffic_printout
reports-told input = go (last_run input) (standing_after at_start (input_lines input)) (input-history input)
  where
    go : (h : History) (x : Standing) → HistoryLeads h x
        → report_text x ≡ cond x.opened (traffic_text x.state.run.traffic (held_counts x.state)) []
    go never x l = closed-text x l ∙ rw l
    go (opened_with u before es) x l = open-text x l.running ∙ told-sound x.state (history-sound u before es x l) ∙ rw l.running

pub reports-history : ReportsHistory
unfolding traffic_printout
reports-history input = go (last_run input) (standing_after at_start (input_lines input)) (input-history input)
  where
    text : (h : History) (x : Standing) → HistoryLeads h x → report_text x ≡ history_text h
    text never x l = closed-text x l
    text (opened_with u before es) x l = open-text x l.running ∙ ap totals_text (history-totals u before es x l)

    go : (h : History) (x : Standing) → HistoryLeads h x → ToldOf h x (report_text x)
    go h x l = record { leads = l; text = text h x l; adds = history-adds h x l }
