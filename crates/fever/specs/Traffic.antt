-- A run's traffic in words, and what `fever_traffic` answers and leaves.
use Rattle.std.specs.Prelude.{◌≡◌, cond, ◌||◌, List, [], ◌∷◌, ◌++◌, ℕ, ltb, length, drop, Result, Ok, Err}
use Rattle.types.specs.declared.Totals.{Totals}
use Rattle.types.specs.Traffic.{count_numbers}
use Rattle.model.specs.Traffic.{totals}
use Rattle.fever.specs.Layout.{run_length, neither_settled}
use Rattle.fever.specs.Clauses.{Lent, lent_state}

-- ---- a report: sent, delivered and held, four kinds each, and the sum of waits

abbrev pub report_length : ℕ
report_length = 13

abbrev pub report_words : Totals → List ℕ
report_words x = count_numbers x.traffic.sent ++ (count_numbers x.traffic.delivered ++ (count_numbers x.held ++ (x.traffic.waits ∷ [])))

-- what a call answered, and the report's words as it left them; all else that is lent is only read
pub record CalledReport : Type 0 where
  pub answer : ℕ
  pub report : List ℕ

abbrev pub called_report : ℕ → List ℕ → CalledReport
called_report r ws = record { answer = r; report = ws }

-- the definition's report, in words; a refused one leaves them
abbrev pub told_report : List ℕ → Result Totals ℕ → CalledReport
told_report ws (Ok x) = called_report 0 (report_words x ++ drop report_length ws)
told_report ws (Err check) = called_report check ws

-- `fever_traffic`: check 1 is of how many words the run and the report have; a settled word above 1 is of no run, which is check 9
unfoldable pub reporting : Lent → List ℕ → CalledReport
reporting x ws =
    cond (ltb (length x.run) run_length || ltb (length ws) report_length) (called_report 1 ws)
    (cond (neither_settled x.run) (called_report 9 ws) (told_report ws (totals (lent_state x))))

abbrev pub ReportsTraffic : Lent → List ℕ → ℕ → List ℕ → Type 0
ReportsTraffic x before r after = called_report r after ≡ reporting x before
