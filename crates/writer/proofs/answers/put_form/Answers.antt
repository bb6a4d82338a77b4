use Rattle.writer.proofs.Spacing.{numbers-room, numbers-stamped}
use Rattle.writer.proofs.Stamping.{room-first, room-second, written_then}
use Rattle.writer.proofs.answers.put_form.Goals as goal

pub put_numbers-end-requires : goal.put_numbers-end-requires
put_numbers-end-requires c = room-first _ _ (room-second _ c.put_slice-first.ensures (room-second _ c.put_byte-inner.ensures (numbers-room c.args.word.now c.args.numbers.now c.requires)))

pub put_byte-requires : goal.put_byte-requires
put_byte-requires c = room-second _ c.put_numbers-end.ensures (room-second _ c.put_slice-first.ensures (room-second _ c.put_byte-inner.ensures (numbers-room c.args.word.now c.args.numbers.now c.requires)))

pub returns : goal.returns
returns c =
    numbers-stamped c.args.word.now c.args.numbers.now
    (written_then _ c.put_byte-inner.ensures (written_then _ c.put_slice-first.ensures (written_then _ c.put_numbers-end.ensures (λ r. c.put_byte.ensures)))
    (numbers-room c.args.word.now c.args.numbers.now c.requires))
