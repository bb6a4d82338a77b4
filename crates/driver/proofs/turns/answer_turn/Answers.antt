use Rattle.driver.proofs.Answering.{turn-batch}
use native.Mathlib.Omega.{arith}
use Rattle.driver.proofs.turns.answer_turn.Goals as goal

pub returns : goal.returns
returns c = turn-batch _ _ _ _ _ _ _ _ _ _ _ _ _ c.read_batch-gathered.ensures (omega (arith, c.most_lines-most.ensures.0, c.read_batch-gathered.auto.batch, c.requires)) c.most_lines-most.ensures.2 c.if-gathered-eq0.false c.answer_batch.ensures c.answer_batch.auto.out
