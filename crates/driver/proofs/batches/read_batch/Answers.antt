use native.Mathlib.Omega.{arith}
use Rattle.driver.proofs.Gathering.{gathers-more}
use Rattle.driver.proofs.batches.read_batch.Goals as goal

pub loop-count-preserved : goal.loop-count-preserved
loop-count-preserved c = rw c.put_numbers.ensures (gathers-more _ _ _ _ _ _ c.loop-count.invariant (omega arith) (omega (arith, c.requires)) c.in-Some.ensures)
