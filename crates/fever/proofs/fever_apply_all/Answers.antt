use Rattle.fever.proofs.Calling.{all-no-run, all_done}
use Rattle.fever.proofs.fever_apply_all.Goals as goal

pub returns-in-Some : goal.returns-in-Some
returns-in-Some c = all-no-run _ _ _ c.in-Some.ensures

pub returns : goal.returns
returns c = all_done _ _ _ c.apply_events.new.run _ _ _ _ c.in_default.ensures.long c.in_default.ensures.settled c.run_in-own.ensures c.apply_events.ensures c.put_run.ensures
