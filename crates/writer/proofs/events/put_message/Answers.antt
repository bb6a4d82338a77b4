use Rattle.lines.specs.Forms.{message_form}
use Rattle.writer.proofs.Stamping.{room-first, room-second, written_then, written_last}
use Rattle.writer.proofs.events.put_message.Goals as goal

pub put_byte-kind-requires : goal.put_byte-kind-requires
unfolding message_form
put_byte-kind-requires c = room-first _ _ c.requires

pub put_kind-view-requires : goal.put_kind-view-requires
unfolding message_form
put_kind-view-requires c = room-first _ _ (room-second _ c.put_byte-kind.ensures c.requires)

pub put_spaced-processor-requires : goal.put_spaced-processor-requires
unfolding message_form
put_spaced-processor-requires c = rw c.view.ensures (room-first _ _ (room-second _ c.put_kind-view.ensures (room-second _ c.put_byte-kind.ensures c.requires)))

pub put_spaced-end-requires : goal.put_spaced-end-requires
unfolding message_form
put_spaced-end-requires c = rw c.processor.ensures (room-first _ _ (room-second _ (rw c.view.ensures at c.put_spaced-processor.ensures) (room-second _ c.put_kind-view.ensures (room-second _ c.put_byte-kind.ensures c.requires))))

pub put_byte-requires : goal.put_byte-requires
unfolding message_form
put_byte-requires c = room-second _ (rw c.processor.ensures at c.put_spaced-end.ensures) (room-second _ (rw c.view.ensures at c.put_spaced-processor.ensures) (room-second _ c.put_kind-view.ensures (room-second _ c.put_byte-kind.ensures c.requires)))

pub returns : goal.returns
unfolding message_form
returns c =
    written_then _ c.put_byte-kind.ensures
    (written_then _ c.put_kind-view.ensures
    (written_then _ (rw c.view.ensures at c.put_spaced-processor.ensures)
    (written_then _ (rw c.processor.ensures at c.put_spaced-end.ensures)
    (written_last c.put_byte.ensures))))
    c.requires
