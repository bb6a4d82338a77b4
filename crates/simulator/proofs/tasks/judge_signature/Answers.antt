use Rattle.std.proofs.lemmas.Result.{err_from_is_err_and}
use Rattle.simulator.proofs.Deciding.{check-passes, check-refuses}
use Rattle.simulator.proofs.Happening.{sign-named, sign-correct, sign-heard, sign-unheard, signature-reaches, none-leaves, finish-still}
use Rattle.simulator.specs.Inner.{named_check}
use Rattle.model.specs.State.{State, state_of}
use Rattle.types.specs.Quantities.{lead, correct}
use Prim.Native.Nat.{ℕ}
use mathlib.Core.Path.{◌≡◌, sym, ap, ◌∙◌}
use Rattle.simulator.proofs.tasks.judge_signature.Goals as goal

pub returns-in_err-check_named : goal.returns-in_err-check_named
returns-in_err-check_named c = λ t ws a.
    let p = err_from_is_err_and c.from_residual.result c.from_residual.ensures.1 in
    let r = check-refuses _ _ (sym c.in_err-check_named.was ∙ c.check_named.ensures) in
    rw (p.1, p.2) (sign-named (state_of c.args.run.now t ws) c.args.message a.0 a.1 _ r.0 r.1)

pub returns-then-correct : goal.returns-then-correct
returns-then-correct c = λ t ws a.
    let named : named_check c.args.run.now.plan c.args.message ≡ 0 = check-passes _ (sym c.in_ok-check_named.was ∙ c.check_named.ensures) in
    sign-correct (state_of c.args.run.now t ws) c.args.message a.0 a.1 named
    (ap (correct c.args.run.now.plan c.args.run.now.faulty) (sym c.processor.ensures) ∙ sym c.correct.ensures ∙ c.if-correct.true)

pub returns-then-led : goal.returns-then-led
returns-then-led c = λ t ws a.
    let s : State = state_of c.args.run.now t ws in
    let named : named_check c.args.run.now.plan c.args.message ≡ 0 = check-passes _ (sym c.in_ok-check_named.was ∙ c.check_named.ensures) in (
      record { sound = a.1; named = named; reaches = signature-reaches s.run c.args.message a.0 },
      sign-heard s c.args.message a.0 a.1 named
          (ap (correct c.args.run.now.plan c.args.run.now.faulty) (sym c.processor.ensures) ∙ sym c.correct.ensures ∙ c.if-correct.false)
          (ap (λ (w : ℕ). correct c.args.run.now.plan c.args.run.now.faulty (lead c.args.run.now.plan w)) (sym c.view.ensures) ∙ sym c.led.ensures ∙ c.if-led.true)
          _ (none-leaves s c.args.message),
    )

pub returns : goal.returns
returns c = λ t ws a.
    let s : State = state_of c.args.run.now t ws in
    let named : named_check c.args.run.now.plan c.args.message ≡ 0 = check-passes _ (sym c.in_ok-check_named.was ∙ c.check_named.ensures) in
    sign-unheard s c.args.message a.0 a.1 named
    (ap (correct c.args.run.now.plan c.args.run.now.faulty) (sym c.processor.ensures) ∙ sym c.correct.ensures ∙ c.if-correct.false)
    (ap (λ (w : ℕ). correct c.args.run.now.plan c.args.run.now.faulty (lead c.args.run.now.plan w)) (sym c.view.ensures) ∙ sym c.led.ensures ∙ c.if-led.false)
    _ (finish-still s a.1)
