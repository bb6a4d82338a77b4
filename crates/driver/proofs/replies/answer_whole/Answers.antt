use Rattle.driver.proofs.Answering.{line-opened, line-batched}
use Rattle.driver.proofs.replies.answer_whole.Goals as goal

pub returns-in-Opening : goal.returns-in-Opening
returns-in-Opening c = line-opened _ _ _ _ _ _ _ _ _ _ c.skim_line-read.ensures c.in-Opening.is c.read_setup.ensures.0 c.answer_opening.ensures

pub returns : goal.returns
returns c = line-batched _ _ _ _ _ _ _ _ _ _ _ _ c.skim_line-read.ensures c.in_default.not-Opening c.numbers_read.ensures c.put_numbers.ensures c.answer_batch.ensures
