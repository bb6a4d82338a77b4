use Rattle.fever.proofs.Calling.{event-refused, event-done}
use Rattle.fever.proofs.steps.apply_event.Goals as goal

pub returns-then-event-eq0 : goal.returns-then-event-eq0
returns-then-event-eq0 c = event-refused _ _ c.run_in-own.ensures _ _ _ _ c.apply_events.new.run _ _ _ c.apply_events.ensures c.if-check-gt0.true c.if-event-eq0.true

pub returns : goal.returns
returns c = event-done _ _ c.run_in-own.ensures _ _ _ _ c.apply_events.new.run _ _ _ c.apply_events.ensures _ c.requires.0 c.requires.1 c.put_run.ensures
