use native.Mathlib.Omega.{arith}
use mathlib.Core.Path.{◌∙◌}
use Rattle.pacemaker.proofs.StepLaws.{as_moved, entered, entry-goes-on}
use Rattle.pacemaker.proofs.enter.Goals as goal

pub returns-else-w-within : goal.returns-else-w-within
returns-else-w-within c =
    let s = c.args.sound in
    as_moved (entered s.within.plan s.processor s.processor.clock c.args.w _ _ _
    c.time_of.ensures c.max.ensures c.entry_sends.ensures
    ∙ entry-goes-on s.within.plan s.processor s.sound c.args.w (omega (arith, c.requires, c.if-w-within.false)))
    c.accept.ensures
