use Rattle.fever.proofs.Stepping.{takes-sent}
use Rattle.fever.proofs.steps.take_input.Goals as goal

pub returns-in-Ok : goal.returns-in-Ok
returns-in-Ok c = takes-sent _ _ _ _ _ _ _ _ _ _ _ c.record_in-own.ensures c.step_in_place.ensures c.in-Ok.is c.count_sent.ensures c.put_slice.ensures
