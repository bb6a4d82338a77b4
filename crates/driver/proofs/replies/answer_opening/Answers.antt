use Rattle.driver.proofs.Answering.{opening-passes}
use Rattle.driver.proofs.replies.answer_opening.Goals as goal

pub returns : goal.returns
returns c = opening-passes _ _ _ _ _ _ _ _ _ _ _ _ c.if-setup-eq0.false c.open_in_place-answer.ensures c.stays_open-session.ensures c.print_answer-2.ensures
