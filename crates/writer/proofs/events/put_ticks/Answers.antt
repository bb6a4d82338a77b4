use Rattle.lines.specs.Forms.{event_form}
use Rattle.writer.proofs.Stamping.{room-first, room-second, written_then, written_last}
use Rattle.writer.proofs.events.put_ticks.Goals as goal

pub put_slice-number-requires : goal.put_slice-number-requires
unfolding event_form
put_slice-number-requires c = room-first _ _ c.requires

pub put_spaced-end-requires : goal.put_spaced-end-requires
unfolding event_form
put_spaced-end-requires c = room-first _ _ (room-second _ c.put_slice-number.ensures c.requires)

pub put_byte-requires : goal.put_byte-requires
unfolding event_form
put_byte-requires c = room-second _ c.put_spaced-end.ensures (room-second _ c.put_slice-number.ensures c.requires)

pub returns : goal.returns
unfolding event_form
returns c = written_then _ c.put_slice-number.ensures (written_then _ c.put_spaced-end.ensures (written_last c.put_byte.ensures)) c.requires
