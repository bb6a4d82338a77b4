use Rattle.leaps.proofs.Waiting.{waits_start, waits-more}
use Rattle.leaps.proofs.wait_for_all.Goals as goal

pub loop-i-init : goal.loop-i-init
loop-i-init c = waits_start _ _ _ _ _

pub loop-i-preserved : goal.loop-i-preserved
loop-i-preserved c = waits-more _ _ _ _ _ _ _ _ c.loop-i.invariant (rw c.sent.ensures at c.wait_for-wait.ensures)
