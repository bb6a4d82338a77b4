use Rattle.writer.proofs.Spacing.{listed-none, next-room, listed_more}
use Rattle.writer.proofs.numbers.put_numbers.Goals as goal

pub loop-n-init : goal.loop-n-init
loop-n-init c = listed-none _ _ c.args.numbers.now

pub put_spaced-end-requires : goal.put_spaced-end-requires
put_spaced-end-requires c = next-room _ _ c.args.numbers.now _ _ _ c.requires c.loop-n.invariant c.loop-n-test.true

pub loop-n-preserved : goal.loop-n-preserved
loop-n-preserved c = listed_more _ _ c.args.numbers.now _ _ _ _ _ c.requires c.loop-n.invariant c.loop-n-test.true c.put_spaced-end.ensures c.put_spaced-end.auto.out
