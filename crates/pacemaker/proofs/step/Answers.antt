use native.Mathlib.Omega.{arith}
use mathlib.Core.Path.{ap₂, ◌∙◌}
use Rattle.types.specs.declared.Plan.{Plan}
use Rattle.types.specs.declared.Processor.{Processor}
use Rattle.pacemaker.specs.Steps.{stepping}
use Rattle.pacemaker.proofs.StepLaws.{as_moved, refused-unsound, refused-processor, is-stepping}
use Rattle.pacemaker.proofs.step.Goals as goal

pub returns-in-None : goal.returns-in-None
returns-in-None c =
    let a = c.args in
    as_moved (refused-unsound a.plan a.processor a.input c.in-None.ensures) c.refuse.ensures

pub returns-in-Some : goal.returns-in-Some
returns-in-Some c =
    let a = c.args in
    let s = c.in-Some.ensures in
    as_moved (refused-processor a.plan a.processor a.input s.0 (omega (arith, c.if-plan-processor.true))) c.refuse-in-Some.ensures

pub returns-in-Some-2 : goal.returns-in-Some-2
returns-in-Some-2 c =
    let a = c.args in
    let s = c.in-Some-2.ensures in
    as_moved (ap₂ (λ (p : Plan) (q : Processor). stepping p q a.input) s.1 s.2 ∙ is-stepping a.plan a.processor a.input s.0 (omega (arith, c.if-plan-processor.false))) c.by_input.ensures
