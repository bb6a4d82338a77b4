use mathlib.Core.Path.{ap, ◌∙◌}
use native.Mathlib.Omega.{arith}
use Rattle.types.specs.Quantities.{clock_time}
use Rattle.pacemaker.specs.Steps.{entry_into}
use Rattle.pacemaker.proofs.StepLaws.{as_moved}
use Rattle.pacemaker.proofs.TickLaws.{tick-passes, tick-arrives}
use Rattle.pacemaker.proofs.tick.Goals as goal

pub returns-then-clock-time_of : goal.returns-then-clock-time_of
returns-then-clock-time_of c =
    let s = c.args.sound in
    let time = c.time_of.ensures ∙ ap (clock_time s.within.plan) c.next_of-next.ensures.0 in
    as_moved (tick-passes s.within.plan s.processor s.sound (omega (arith, time, c.if-clock-time_of.true))) c.accept.ensures

pub returns-else-clock-time_of : goal.returns-else-clock-time_of
returns-else-clock-time_of c =
    let s = c.args.sound in
    let next = c.next_of-next.ensures.0 in
    let time = c.time_of.ensures ∙ ap (clock_time s.within.plan) next in
    as_moved (ap (entry_into s.within.plan s.processor) next
    ∙ tick-arrives s.within.plan s.processor s.sound (omega (arith, time, c.if-clock-time_of.false)))
    c.enter.ensures
