use Rattle.writer.proofs.Stamping.{written_then}
use Rattle.writer.proofs.Clocks.{clocks-cons}
use Rattle.writer.proofs.setups.put_clocks.Goals as goal

pub returns : goal.returns
returns c = rw (clocks-cons _ c.requires.0) (written_then _ c.put_number-end.ensures (λ r. c.put_numbers.ensures) (rw (clocks-cons _ c.requires.0) at c.requires.1))
