use Rattle.fever.proofs.Telling.{report-short, report-no-run, report-told}
use Rattle.fever.specs.Clauses.{lent_of}
use Rattle.fever.proofs.fever_traffic.Goals as goal

pub returns-then-report-lt-REPORT_WORDS : goal.returns-then-report-lt-REPORT_WORDS
returns-then-report-lt-REPORT_WORDS c = report-short _ _ c.if-report-lt-REPORT_WORDS.true

pub returns-in-Some : goal.returns-in-Some
returns-in-Some c = report-no-run _ _ c.if-report-lt-REPORT_WORDS.false _ c.in-Some.ensures

pub returns : goal.returns
returns c = report-told (lent_of c.args.run.now c.args.tally.now c.args.network.now) c.args.report.now c.in_default.ensures.long c.if-report-lt-REPORT_WORDS.false c.in_default.ensures.settled _ c.run_in.ensures
    c.totals-totals.result c.totals-totals.ensures _ c.put_report.ensures
