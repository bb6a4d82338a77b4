use Rattle.lines.specs.Forms.{event_form}
use Rattle.types.specs.declared.Event.TheVariants.{Deliver, Sign, Show, Settle, Tick}
use Rattle.writer.proofs.Lengths.{deliver-bytes, sign-bytes, show-bytes, settle-bytes, tick-bytes, line-bytes}
use Rattle.writer.proofs.event_bytes.Goals as goal

pub returns-in-Deliver : goal.returns-in-Deliver
returns-in-Deliver c = rw c.in-Deliver.is (line-bytes (event_form (Deliver c.in-Deliver.m)) 10 _ (deliver-bytes _ _ c.message_length.ensures.0))

pub returns-in-Sign : goal.returns-in-Sign
returns-in-Sign c = rw c.in-Sign.is (line-bytes (event_form (Sign c.in-Sign.m)) 7 _ (sign-bytes _ _ c.message_length-in-Sign.ensures.0))

pub returns-in-Show : goal.returns-in-Show
returns-in-Show c = rw c.in-Show.is (line-bytes (event_form (Show c.in-Show.m)) 7 _ (show-bytes _ _ c.message_length-in-Show.ensures.0))

pub returns-in-Settle : goal.returns-in-Settle
returns-in-Settle c = rw c.in-Settle.is (line-bytes (event_form Settle) 8 0 settle-bytes)

pub returns-in-Tick : goal.returns-in-Tick
returns-in-Tick c = rw c.in-Tick.is (line-bytes (event_form (Tick c.in-Tick.m)) 7 _ (tick-bytes _ _ c.width.ensures.0))
