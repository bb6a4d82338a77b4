use Rattle.std.proofs.Common.{◌*◌, arith, lt-ltb}
use Rattle.buffers.proofs.NetworkWords.{four}
use Rattle.words.specs.Events.{four_put}
use Rattle.words.proofs.put_numbers.Goals as goal

pub returns-then-i-words : goal.returns-then-i-words
unfolding four_put
returns-then-i-words c = rw (lt-ltb _ _ c.if-i-words.true) (four c.args.words.now (4 * c.args.i) _ _ _ _ (omega (arith, c.if-i-words.true)))
