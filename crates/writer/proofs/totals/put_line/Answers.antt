use Rattle.std.proofs.Common.{arith}
use Rattle.writer.proofs.Reporting.{line-stamped, line_refused}
use Rattle.writer.proofs.totals.put_line.Goals as goal

pub overflow_add-result : goal.overflow_add-result
overflow_add-result c = omega (arith, (line-stamped c.args.word.now c.args.numbers.now c.args.out.now _ c.args.at _ c.requires.0 c.requires.1 c.requires.2 c.write_numbers.ensures _ c.in-Ok.is).1, c.well_formed, c.requires.0)

pub returns-in-Ok : goal.returns-in-Ok
returns-in-Ok c = line-stamped c.args.word.now c.args.numbers.now c.args.out.now _ c.args.at _ c.requires.0 c.requires.1 c.requires.2 c.write_numbers.ensures _ c.in-Ok.is

pub returns-in-Err : goal.returns-in-Err
returns-in-Err c = line_refused c.args.word.now c.args.numbers.now c.args.out.now _ c.args.at _ c.requires.0 c.requires.1 c.requires.2 c.write_numbers.ensures _ c.in-Err.is
