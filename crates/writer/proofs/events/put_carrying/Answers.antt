use Rattle.writer.proofs.Stamping.{written_then, written_last}
use Rattle.writer.proofs.events.put_carrying.Goals as goal

pub returns : goal.returns
returns c = written_then _ c.put_slice-inner.ensures (written_then _ c.put_message-end.ensures (written_last c.put_byte.ensures)) c.requires
