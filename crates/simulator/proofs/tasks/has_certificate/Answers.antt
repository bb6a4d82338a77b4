use Rattle.model.specs.Checks.{exists}
use Rattle.model.specs.Moves.{needed}
use Rattle.base.specs.Choice.{cond_yes, cond_no}
use Rattle.base.specs.Sets.{size}
use lib.Dec.{leb}
use Prim.Native.Nat.{ℕ, ◌+◌}
use mathlib.Core.Path.{◌∙◌, ap, ap₂, sym}
use Rattle.simulator.proofs.tasks.has_certificate.Goals as goal

pub returns-then-led : goal.returns-then-led
unfolding exists
returns-then-led c = cond_yes _ _ _ _ (sym c.led.ensures ∙ c.if-led.true) c.is_marked.ensures

pub returns-else-led : goal.returns-else-led
unfolding exists
returns-else-led c = cond_no _ _ _ _ (sym c.led.ensures ∙ c.if-led.false) (ap (λ (x : ℕ). leb x (c.size.result + c.size-else-led.result)) c.signers_needed.ensures ∙ ap₂ (λ (x y : ℕ). leb (needed c.args.stage c.args.run.now.plan) (x + y)) c.size.ensures (c.size-else-led.ensures ∙ ap size c.entered.ensures))
