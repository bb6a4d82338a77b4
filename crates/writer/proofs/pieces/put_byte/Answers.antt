use Rattle.writer.proofs.Stamping.{stamped-byte}
use Rattle.writer.proofs.pieces.put_byte.Goals as goal

pub returns : goal.returns
returns c = stamped-byte _ _ _ c.requires
