use Rattle.std.proofs.lemmas.Result.{err_from_is_err_and}
use Rattle.simulator.proofs.Deciding.{check-passes, check-refuses}
use Rattle.simulator.proofs.Happening.{show-named, show-faulty, show-none, show-there, certificate-reaches, none-leaves}
use Rattle.simulator.specs.Inner.{named_check}
use Rattle.model.specs.Checks.{exists}
use Rattle.model.specs.State.{State, state_of}
use Rattle.types.specs.Quantities.{correct}
use Prim.Native.Nat.{ℕ}
use mathlib.Core.Bool.{Bool}
use mathlib.Core.Path.{◌≡◌, sym, ap, ap₂, ◌∙◌}
use Rattle.simulator.proofs.tasks.judge_showing.Goals as goal

pub returns-in_err-check_named : goal.returns-in_err-check_named
returns-in_err-check_named c = λ ws a.
    let p = err_from_is_err_and c.from_residual.result c.from_residual.ensures.1 in
    let r = check-refuses _ _ (sym c.in_err-check_named.was ∙ c.check_named.ensures) in
    rw (p.1, p.2) (show-named (state_of c.args.run.now c.args.tally.now ws) c.args.message a.0 a.1 _ r.0 r.1)

pub returns-then-has_certificate : goal.returns-then-has_certificate
returns-then-has_certificate c = λ ws a.
    let s : State = state_of c.args.run.now c.args.tally.now ws in
    let named : named_check c.args.run.now.plan c.args.message ≡ 0 = check-passes _ (sym c.in_ok-check_named.was ∙ c.check_named.ensures) in
    let right = ap (correct c.args.run.now.plan c.args.run.now.faulty) (sym c.processor.ensures) ∙ sym c.correct.ensures ∙ c.if-correct.true in (
      record { sound = a.1; named = named; reaches = certificate-reaches s.run c.args.message right },
      show-there s c.args.message a.0 a.1 named right
          (ap₂ (λ (b : Bool) (w : ℕ). exists b s.run c.args.tally.now w) (sym c.stage.ensures) (sym c.view.ensures) ∙ sym c.has_certificate.ensures ∙ c.if-has_certificate.true)
          _ (none-leaves s c.args.message),
    )

pub returns-then-correct : goal.returns-then-correct
returns-then-correct c = λ ws a.
    let s : State = state_of c.args.run.now c.args.tally.now ws in
    let named : named_check c.args.run.now.plan c.args.message ≡ 0 = check-passes _ (sym c.in_ok-check_named.was ∙ c.check_named.ensures) in
    show-none s c.args.message a.0 a.1 named
    (ap (correct c.args.run.now.plan c.args.run.now.faulty) (sym c.processor.ensures) ∙ sym c.correct.ensures ∙ c.if-correct.true)
    (ap₂ (λ (b : Bool) (w : ℕ). exists b s.run c.args.tally.now w) (sym c.stage.ensures) (sym c.view.ensures) ∙ sym c.has_certificate.ensures ∙ c.if-has_certificate.false)

pub returns : goal.returns
returns c = λ ws a.
    let named : named_check c.args.run.now.plan c.args.message ≡ 0 = check-passes _ (sym c.in_ok-check_named.was ∙ c.check_named.ensures) in
    show-faulty (state_of c.args.run.now c.args.tally.now ws) c.args.message a.0 a.1 named
    (ap (correct c.args.run.now.plan c.args.run.now.faulty) (sym c.processor.ensures) ∙ sym c.correct.ensures ∙ c.if-correct.false)
