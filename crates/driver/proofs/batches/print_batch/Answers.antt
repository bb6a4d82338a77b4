use Rattle.driver.proofs.Batching.{answer-told}
use native.Mathlib.Omega.{arith}
use Rattle.driver.proofs.batches.print_batch.Goals as goal

pub loop-i-preserved : goal.loop-i-preserved
loop-i-preserved c = answer-told _ _ c.loop-i.invariant (omega arith) c.requires c.printed_at-answer.ensures c.print_answer-at.ensures c.print_answer-at.auto.out
