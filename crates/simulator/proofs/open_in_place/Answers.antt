use mathlib.Core.Path.{sym, ◌∙◌}
use Rattle.simulator.proofs.Starting.{opens-done, opens-refused}
use Rattle.simulator.proofs.open_in_place.Goals as goal

pub returns-in-Ok : goal.returns-in-Ok
returns-in-Ok c = opens-done c.args.setup c.args.run.now c.args.tally.now c.args.network.now c.start.result _ _ (sym c.setup_check.ensures ∙ c.in-Ok.is) c.start.ensures

pub returns-in-Err : goal.returns-in-Err
returns-in-Err c = opens-refused c.args.setup c.args.run.now c.args.tally.now c.args.network.now c.in-Err.check (sym c.setup_check.ensures ∙ c.in-Err.is)
