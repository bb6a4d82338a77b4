use Rattle.std.proofs.Common.{arith}
use Rattle.writer.proofs.Lengths.{message-bytes}
use Rattle.writer.proofs.events.message_length.Goals as goal

pub returns : goal.returns
returns c = (message-bytes _ _ _ _ _ _ c.kind_length.ensures.0 c.view.ensures c.width-view.ensures.0 c.processor.ensures c.width-processor.ensures.0, omega arith)
