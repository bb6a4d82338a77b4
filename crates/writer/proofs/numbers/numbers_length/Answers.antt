use Rattle.writer.proofs.Spacing.{measured-more}
use Rattle.writer.proofs.numbers.numbers_length.Goals as goal

pub loop-n-preserved : goal.loop-n-preserved
loop-n-preserved c = measured-more _ _ _ _ c.loop-n.invariant c.loop-n-test.true c.width.ensures.0
