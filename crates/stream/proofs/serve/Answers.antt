use Rattle.transfer.proofs.Moves.{grows-trans}
use Rattle.stream.proofs.serve.Goals as goal

pub returns-in_ok-at_end-2-clause-grows : goal.returns-in_ok-at_end-2-clause-grows
returns-in_ok-at_end-2-clause-grows g c = grows-trans _ _ _ c.answer_input-else-reporting.ensures.grows c.write_text-else-reporting.ensures
