use Rattle.std.proofs.Common.{arith}
use Rattle.writer.proofs.Lengths.{deliver-bytes, sign-bytes, show-bytes, settle-bytes, tick-bytes}
use Rattle.writer.proofs.events.event_length.Goals as goal

pub returns-in-Deliver : goal.returns-in-Deliver
returns-in-Deliver c = (rw c.in-Deliver.is (deliver-bytes _ _ c.message_length.ensures.0), omega arith)

pub returns-in-Sign : goal.returns-in-Sign
returns-in-Sign c = (rw c.in-Sign.is (sign-bytes _ _ c.message_length-in-Sign.ensures.0), omega arith)

pub returns-in-Show : goal.returns-in-Show
returns-in-Show c = (rw c.in-Show.is (show-bytes _ _ c.message_length-in-Show.ensures.0), omega arith)

pub returns-in-Settle : goal.returns-in-Settle
returns-in-Settle c = (rw c.in-Settle.is settle-bytes, omega arith)

pub returns-in-Tick : goal.returns-in-Tick
returns-in-Tick c = (rw c.in-Tick.is (tick-bytes _ _ c.width.ensures.0), omega arith)
