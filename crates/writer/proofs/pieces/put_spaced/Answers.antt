use Rattle.writer.proofs.Stamping.{written_then}
use Rattle.writer.proofs.pieces.put_spaced.Goals as goal

pub returns : goal.returns
returns c = written_then _ c.put_byte-digits.ensures (λ r. c.put_number.ensures) c.requires
