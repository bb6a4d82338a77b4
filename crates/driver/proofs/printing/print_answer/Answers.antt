use Rattle.driver.proofs.Texts.{answer-room}
use Rattle.lines.proofs.Putting.{never-refused, put_written}
use Rattle.driver.proofs.printing.print_answer.Goals as goal

pub returns-in-Ok : goal.returns-in-Ok
returns-in-Ok c = put_written _ _ _ _ _ c.write_answer.ensures (answer-room _ c.args.out.now c.requires) c.in-Ok.is

pub returns-in-Err : goal.returns-in-Err
returns-in-Err c = absurd (never-refused _ _ _ _ _ c.write_answer.ensures (answer-room _ c.args.out.now c.requires) c.in-Err.is)
