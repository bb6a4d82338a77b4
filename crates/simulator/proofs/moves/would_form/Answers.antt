use Rattle.simulator.proofs.Hearing.{ripe-few, ripe-formed, ripe-then}
use Rattle.base.specs.Choice.{or-first, or-rest}
use Rattle.base.specs.SetLaws.{insert-word}
use Prim.Native.Nat.{ℕ}
use Rattle.base.specs.Sets.{insert}
use lib.Dec.{leb}
use mathlib.Core.Path.{◌∙◌, ap, refl, sym}
use native.Mathlib.Omega.{arith}
use borrow.Author.Tests.{lt-leb}
use Rattle.liveness.proofs.Answers.{no-yes}
use Rattle.simulator.proofs.moves.would_form.Goals.{then-signers_needed-size, else-signers_needed-size}
use Rattle.simulator.proofs.moves.would_form.Goals as goal

pub returns-then-stage : goal.returns-then-stage
returns-then-stage c = c.if-stage.true ∙ sym (or-first c.args.stage (leb c.args.own c.args.w) c.if-stage.true) ∙ elim c.if-signers_needed-size.branch [
  | then-signers_needed-size w ↦ ripe-then c.args.stage c.args.plan c.args.own c.args.tally.now c.args.w c.args.p c.insert-signers.result (c.insert-signers.ensures ∙ insert-word c.heard.result c.args.p c.requires ∙ ap (λ (x : ℕ). insert x c.args.p) c.heard.ensures) (rw (c.size.ensures, c.signers_needed.ensures) at w.if-signers_needed-size.true) (sym w.is_marked.ensures ∙ grind (arith, w.value-is, c.if-not-is_marked.true))
  | else-signers_needed-size w ↦ no-yes (sym c.if-not-is_marked.true ∙ w.value-is ∙ lt-leb _ _ w.if-signers_needed-size.false)
]

pub returns-else-stage : goal.returns-else-stage
returns-else-stage c = or-rest c.args.stage (leb c.args.own c.args.w) (leb c.args.own c.args.w) c.if-stage.false refl ∙ elim c.if-signers_needed-size.branch [
  | then-signers_needed-size w ↦ ripe-then c.args.stage c.args.plan c.args.own c.args.tally.now c.args.w c.args.p c.insert-signers.result (c.insert-signers.ensures ∙ insert-word c.heard.result c.args.p c.requires ∙ ap (λ (x : ℕ). insert x c.args.p) c.heard.ensures) (rw (c.size.ensures, c.signers_needed.ensures) at w.if-signers_needed-size.true) (sym w.is_marked.ensures ∙ grind (arith, w.value-is, c.if-not-is_marked.true))
  | else-signers_needed-size w ↦ no-yes (sym c.if-not-is_marked.true ∙ w.value-is ∙ lt-leb _ _ w.if-signers_needed-size.false)
]

pub returns-else-not-is_marked : goal.returns-else-not-is_marked
returns-else-not-is_marked c = c.if-not-is_marked.false ∙ elim c.if-signers_needed-size.branch [
  | then-signers_needed-size w ↦ ripe-formed c.args.stage c.args.plan c.args.own c.args.tally.now c.args.w c.args.p c.insert-signers.result (c.insert-signers.ensures ∙ insert-word c.heard.result c.args.p c.requires ∙ ap (λ (x : ℕ). insert x c.args.p) c.heard.ensures) (sym w.is_marked.ensures ∙ grind (arith, w.value-is, c.if-not-is_marked.false))
  | else-signers_needed-size w ↦ ripe-few c.args.stage c.args.plan c.args.own c.args.tally.now c.args.w c.args.p c.insert-signers.result (c.insert-signers.ensures ∙ insert-word c.heard.result c.args.p c.requires ∙ ap (λ (x : ℕ). insert x c.args.p) c.heard.ensures) (rw (c.size.ensures, c.signers_needed.ensures) at w.if-signers_needed-size.false)
]
