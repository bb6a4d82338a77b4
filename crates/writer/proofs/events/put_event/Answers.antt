use Rattle.lines.specs.Forms.{event_form}
use Rattle.writer.proofs.events.put_event.Goals as goal

pub put_carrying-requires : goal.put_carrying-requires
unfolding event_form
put_carrying-requires c = rw c.in-Deliver.is at c.requires

pub put_carrying-requires-in-Sign : goal.put_carrying-requires-in-Sign
unfolding event_form
put_carrying-requires-in-Sign c = rw c.in-Sign.is at c.requires

pub put_carrying-requires-in-Show : goal.put_carrying-requires-in-Show
unfolding event_form
put_carrying-requires-in-Show c = rw c.in-Show.is at c.requires

pub put_slice-requires : goal.put_slice-requires
unfolding event_form
put_slice-requires c = rw c.in-Settle.is at c.requires

pub returns-in-Deliver : goal.returns-in-Deliver
unfolding event_form
returns-in-Deliver c = rw c.in-Deliver.is c.put_carrying.ensures

pub returns-in-Sign : goal.returns-in-Sign
unfolding event_form
returns-in-Sign c = rw c.in-Sign.is c.put_carrying-in-Sign.ensures

pub returns-in-Show : goal.returns-in-Show
unfolding event_form
returns-in-Show c = rw c.in-Show.is c.put_carrying-in-Show.ensures

pub returns-in-Settle : goal.returns-in-Settle
unfolding event_form
returns-in-Settle c = rw c.in-Settle.is c.put_slice.ensures
