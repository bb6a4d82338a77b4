use Rattle.writer.proofs.Opening.{opening-bytes}
use Rattle.std.proofs.Common.{arith}
use Rattle.writer.proofs.setups.opening_length.Goals as goal

pub returns : goal.returns
returns c = (opening-bytes c.args.word.now c.args.numbers.now _ c.args.clocks.now _ _ c.requires.2 c.front_length.ensures.0 c.numbers_length.ensures.0, omega (arith, c.front_length.ensures.1, c.numbers_length.ensures.1))
