use Rattle.driver.specs.Batches.{Gathers}
use Rattle.driver.proofs.batches.read_batch.Given as goal

abbrev pub invariant-loop-count : goal.invariant-loop-count
invariant-loop-count l = Gathers l.rest l.most l.count l.used l.batch
