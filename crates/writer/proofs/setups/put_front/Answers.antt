use Rattle.writer.proofs.Opening.{front-room, front-stamped}
use Rattle.writer.proofs.Stamping.{room-first, room-second, written_then}
use Rattle.writer.proofs.setups.put_front.Goals as goal

pub put_numbers-set-requires : goal.put_numbers-set-requires
put_numbers-set-requires c = room-first _ _ (room-second _ c.put_slice-first.ensures (room-second _ c.put_byte-inner.ensures (front-room c.args.word.now c.args.numbers.now _ c.requires)))

pub put_set-table-requires : goal.put_set-table-requires
put_set-table-requires c = room-first _ _ (room-second _ c.put_numbers-set.ensures (room-second _ c.put_slice-first.ensures (room-second _ c.put_byte-inner.ensures (front-room c.args.word.now c.args.numbers.now _ c.requires))))

pub put_slice-requires : goal.put_slice-requires
put_slice-requires c = room-second _ c.put_set-table.ensures (room-second _ c.put_numbers-set.ensures (room-second _ c.put_slice-first.ensures (room-second _ c.put_byte-inner.ensures (front-room c.args.word.now c.args.numbers.now _ c.requires))))

pub returns : goal.returns
returns c =
    front-stamped c.args.word.now c.args.numbers.now _
    (written_then _ c.put_byte-inner.ensures
    (written_then _ c.put_slice-first.ensures
    (written_then _ c.put_numbers-set.ensures
    (written_then _ c.put_set-table.ensures (λ r. c.put_slice.ensures))))
    (front-room c.args.word.now c.args.numbers.now _ c.requires))
