-- "A report gives, for a whole run, messages sent and delivered by kind": what the traffic program prints for a schedule.
use Rattle.std.specs.Prelude.{ℕ, cond, List, []}
use Rattle.model.specs.Traffic.{totals}
use Rattle.lines.specs.Printout.{totals_text}
use Rattle.lines.specs.Splitting.{input_lines}
use Rattle.printout.specs.Printout.{Standing, standing_after, at_start}

-- the report of the run that is open, and nothing where none is
unfoldable pub report_text : Standing → List ℕ
report_text x = cond x.opened (totals_text (totals x.state)) []

-- of a whole input: of the run that is open at its end
unfoldable pub traffic_printout : List ℕ → List ℕ
traffic_printout s = report_text (standing_after at_start (input_lines s))
