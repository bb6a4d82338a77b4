use Rattle.driver.proofs.Texts.{put-yes, processor-room}
use mathlib.Core.Path.{sym, ◌∙◌}
use Rattle.lines.proofs.Putting.{never-refused, put_written}
use Rattle.driver.proofs.printing.print_processor.Goals as goal

pub returns-in-Ok : goal.returns-in-Ok
returns-in-Ok c = put-yes _ _ _ _ _ (sym c.correct.ensures ∙ c.if-not-correct.false) (put_written _ _ _ _ _ c.write_processor.ensures (processor-room _ _ _ c.args.out.now c.requires) c.in-Ok.is)

pub returns-in-Err : goal.returns-in-Err
returns-in-Err c = absurd (never-refused _ _ _ _ _ c.write_processor.ensures (processor-room _ _ _ c.args.out.now c.requires) c.in-Err.is)
