use Rattle.std.proofs.Common.{ℕ, ◌%◌, ◌≡◌, false, ap, ◌∙◌, arith}
use Rattle.model.specs.State.{state_of}
use Rattle.loads.specs.Loads.{point_of, delivery_of}
use Rattle.types.specs.declared.Form.TheVariants.{Packed}
use Rattle.buffers.specs.Kinds.{stored}
use Rattle.loads.proofs.Choosing.{delivers_by, draws-delivery, draws-tick, none-held, step-delivers, step_ticks}
use Rattle.loads.proofs.step.Goals as goal
use Rattle.loads.proofs.step.Goals.{else-run-gt0-via-then-run-gt0+else-drawn-lt2, else-run-gt0-via-else-run-gt0}

pub returns-then-drawn-lt2 : goal.returns-then-drawn-lt2
returns-then-drawn-lt2 c = λ t j. step-delivers (point_of (state_of c.args.run.now t c.args.network.now) c.args.seed j) _ c.next_seed-once.ensures _ _ c.next_seed-twice.ensures (draws-delivery c.next_seed-once.result c.drawn.result c.args.run.now.held c.drawn.ensures c.if-drawn-lt2.true (omega arith)) (c.delivery.ensures ∙ ap (λ (d : ℕ). delivery_of (stored Packed c.args.network.now (d % c.args.run.now.held))) c.drawn-then-drawn-lt2.ensures)

pub returns-else-run-gt0 : goal.returns-else-run-gt0
returns-else-run-gt0 c = λ t j. step_ticks (point_of (state_of c.args.run.now t c.args.network.now) c.args.seed j) _ c.next_seed-once.ensures _ ticks (c.tick_or_deliver.ensures t)
  where
    ticks : delivers_by c.next_seed-once.result c.args.run.now.held ≡ false
    ticks = elim c.else-run-gt0.branch [
      | else-run-gt0-via-then-run-gt0+else-drawn-lt2 w ↦ draws-tick c.next_seed-once.result w.drawn.result c.args.run.now.held w.drawn.ensures w.if-drawn-lt2.false
      | else-run-gt0-via-else-run-gt0 w ↦ none-held c.next_seed-once.result c.args.run.now.held w.if-run-gt0.false
    ]
