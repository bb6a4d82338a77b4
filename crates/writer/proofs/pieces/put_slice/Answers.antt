use Rattle.writer.proofs.Stamping.{stamped-part}
use Rattle.writer.proofs.pieces.put_slice.Goals as goal

pub returns : goal.returns
returns g c = stamped-part _ _ _ _ c.copy_from_slice.ensures.after
