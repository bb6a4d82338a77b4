use Rattle.writer.proofs.Writing.{refused-room, written}
use Rattle.std.proofs.Common.{refl, arith}
use Rattle.writer.proofs.write_opening.Goals as goal

pub returns-then-out-bytes : goal.returns-then-out-bytes
returns-then-out-bytes c = refused-room _ _ c.args.out.now _ c.opening_length-bytes.ensures.0 (omega (arith, c.if-out-bytes.true))

pub returns : goal.returns
returns c = written _ refl c.opening_length-bytes.ensures.0 (omega (arith, c.if-out-bytes.false)) c.put_opening-end.ensures c.put_byte.ensures
