use Rattle.fever.proofs.Calling.{applying-lacking, applying-no-run, applying-done}
use Rattle.fever.proofs.fever_apply.Goals as goal

pub returns-then-lacks_form : goal.returns-then-lacks_form
returns-then-lacks_form c = applying-lacking _ _ _ _ c.event_of.ensures c.lacks_form.ensures c.if-lacks_form.true

pub returns-in-Some : goal.returns-in-Some
returns-in-Some c = applying-no-run _ _ _ _ _ c.event_of.ensures c.lacks_form.ensures c.if-lacks_form.false c.in-Some.ensures

pub returns : goal.returns
returns c = applying-done _ _ _ c.in_default.ensures.long c.in_default.ensures.settled c.apply_event.ensures
