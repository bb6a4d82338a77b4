use Rattle.simulator.proofs.Striding.{quiet-reacts}
use Rattle.simulator.proofs.ticks.react_to_tick.Goals as goal

pub returns-then-clock-clock_time : goal.returns-then-clock-clock_time
returns-then-clock-clock_time c = quiet-reacts c.args.plan c.args.processor c.requires.0 _ _ c.next_initial.ensures c.clock_time.ensures c.if-clock-clock_time.true
