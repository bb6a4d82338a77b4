use Rattle.lines.specs.Printout.{totals_most}
use Rattle.std.proofs.Common.{arith}
use Rattle.types.specs.declared.Answer.TheVariants as Answer
use Rattle.lines.proofs.Printing.{answer-length}
use Rattle.writer.proofs.Reporting.{prints-stamped, prints-line, text-told, text-refused}
use Rattle.writer.proofs.write_totals.Goals as goal

pub returns-in-Ok : goal.returns-in-Ok
returns-in-Ok c = rw (c.in-Ok.is, text-told c.in-Ok.told) (prints-stamped totals_most _ _ _ _ c.if-out-lt-TOTALS_MOST.false c.put_traffic.ensures)

pub returns-in-Err : goal.returns-in-Err
returns-in-Err c = rw (c.in-Err.is, text-refused c.in-Err.check) (prints-line totals_most _ _ _ _ c.if-out-lt-TOTALS_MOST.false (omega (arith, answer-length (Answer.Refused c.in-Err.check))) c.write_answer.ensures)
