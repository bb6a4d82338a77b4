use Rattle.std.proofs.Common.{sym, ◌∙◌, arith}
use Rattle.writer.proofs.Writing.{refused-form, refused-room, written}
use Rattle.writer.proofs.write_event.Goals as goal

pub returns-then-lacks_form : goal.returns-then-lacks_form
returns-then-lacks_form c = refused-form _ _ _ (sym c.lacks_form.ensures ∙ c.if-lacks_form.true)

pub returns-then-out-length : goal.returns-then-out-length
returns-then-out-length c = refused-room _ _ c.args.out.now _ c.event_length-length.ensures.0 (omega (arith, c.if-out-length.true))

pub returns : goal.returns
returns c = written _ (sym c.lacks_form.ensures ∙ c.if-lacks_form.false) c.event_length-length.ensures.0 (omega (arith, c.if-out-length.false)) c.put_event-end.ensures c.put_byte.ensures
