use Rattle.lines.specs.Printout.{processor_form}
use Rattle.writer.proofs.write_processor.Goals as goal

pub returns : goal.returns
unfolding processor_form
returns c = c.write_numbers.ensures
