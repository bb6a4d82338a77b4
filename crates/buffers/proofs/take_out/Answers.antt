use Rattle.std.proofs.Common.{arith, rules}
use Rattle.buffers.proofs.NetworkWords.{closed_up}
use Rattle.buffers.proofs.take_out.Goals as goal

pub returns : goal.returns
returns c = closed_up c.args.network.now _ _ c.args.h c.args.i _ (omega arith) (omega arith) c.copy_within.ensures.after (omega arith) (search rules)
