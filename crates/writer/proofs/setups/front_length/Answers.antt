use Rattle.writer.proofs.Opening.{front_bytes}
use Rattle.std.proofs.Common.{arith}
use Rattle.writer.proofs.setups.front_length.Goals as goal

pub returns : goal.returns
returns c = (front_bytes c.args.word.now c.args.numbers.now _ _ _ c.numbers_length.ensures.0 c.set_length.ensures.0, omega (arith, c.numbers_length.ensures.1, c.set_length.ensures.1, c.requires.0))
