use Rattle.writer.proofs.Writing.{refused-room, form-room, newline-room, written}
use Rattle.writer.proofs.Spacing.{numbers-bytes}
use Rattle.std.proofs.Common.{refl, arith}
use Rattle.writer.proofs.answers.write_numbers.Goals as goal

pub returns-then-out-bytes : goal.returns-then-out-bytes
returns-then-out-bytes c = refused-room _ _ c.args.out.now _ (numbers-bytes c.args.word.now c.args.numbers.now _ c.numbers_length.ensures.0) (omega (arith, c.if-out-bytes.true))

pub put_form-end-requires : goal.put_form-end-requires
put_form-end-requires c = form-room (numbers-bytes c.args.word.now c.args.numbers.now _ c.numbers_length.ensures.0) (omega (arith, c.if-out-bytes.false))

pub put_byte-requires : goal.put_byte-requires
put_byte-requires c = newline-room c.put_form-end.ensures (numbers-bytes c.args.word.now c.args.numbers.now _ c.numbers_length.ensures.0) (omega (arith, c.if-out-bytes.false))

pub returns : goal.returns
returns c = written _ refl (numbers-bytes c.args.word.now c.args.numbers.now _ c.numbers_length.ensures.0) (omega (arith, c.if-out-bytes.false)) c.put_form-end.ensures c.put_byte.ensures
