use Rattle.writer.proofs.Opening.{opening-room, opening-stamped}
use Rattle.writer.proofs.Stamping.{room-first, room-second, written_then}
use Rattle.writer.proofs.setups.put_opening.Goals as goal

pub put_front-first-requires : goal.put_front-first-requires
put_front-first-requires c = room-first _ _ (opening-room c.args.word.now c.args.numbers.now _ _ c.requires.1)

pub put_clocks-end-requires : goal.put_clocks-end-requires
put_clocks-end-requires c = (c.requires.0, room-first _ _ (room-second _ c.put_front-first.ensures (opening-room c.args.word.now c.args.numbers.now _ _ c.requires.1)))

pub put_slice-requires : goal.put_slice-requires
put_slice-requires c = room-second _ c.put_clocks-end.ensures (room-second _ c.put_front-first.ensures (opening-room c.args.word.now c.args.numbers.now _ _ c.requires.1))

pub returns : goal.returns
returns c =
    opening-stamped c.args.word.now c.args.numbers.now _ _
    (written_then _ c.put_front-first.ensures (written_then _ c.put_clocks-end.ensures (λ r. c.put_slice.ensures))
    (opening-room c.args.word.now c.args.numbers.now _ _ c.requires.1))
