use Rattle.std.proofs.lemmas.Result.{err_from_is_err_and}
use Rattle.model.specs.State.{State, After, state_of, check_of, done}
use Rattle.workload.proofs.Making.{check-refused, check-opens, check-positive, made-short, line-inside, made-on, zero-check, not-refused}
use Rattle.model.specs.Opening.{opened, opening}
use mathlib.Core.Path.{◌≡◌, refl, sym, ap, ◌∙◌}
use Rattle.workload.proofs.generate.Goals as goal

pub returns-in_err-setup_check : goal.returns-in_err-setup_check
returns-in_err-setup_check c =
    let s : State = state_of c.args.run c.args.tally.now c.args.network.now in
    let p = err_from_is_err_and c.from_residual.result c.from_residual.ensures.1 in
    let e = sym c.setup_check.ensures ∙ c.in_err-setup_check.was in
    rw (p.1, p.2) (sym (ap (λ (a : After). check_of a.answer) (check-refused c.args.setup s _ e)), check-positive c.args.setup s _ e, refl, refl)

pub returns-in_default : goal.returns-in_default
returns-in_default c =
    let s : State = state_of c.args.run c.args.tally.now c.args.network.now in
    made-short c.args.setup s c.args.steps c.args.settle c.args.seed c.args.out.now (check-opens c.args.setup s (sym c.setup_check.ensures ∙ c.in_ok-setup_check.was)) c.write_setup.result _ c.write_setup.ensures _ c.in_default.is

pub slice_bounds-generate_more-count : goal.slice_bounds-generate_more-count
slice_bounds-generate_more-count c =
    let s : State = state_of c.args.run c.args.tally.now c.args.network.now in
    line-inside c.args.setup s c.args.steps c.args.settle c.args.seed c.args.out.now (check-opens c.args.setup s (sym c.setup_check.ensures ∙ c.in_ok-setup_check.was)) c.write_setup.result _ c.write_setup.ensures _ c.in-Ok.is c.write_setup.auto.out (opening c.args.setup s) refl

pub slice_bounds-generate_more-start : goal.slice_bounds-generate_more-start
slice_bounds-generate_more-start c =
    let s : State = state_of c.args.run c.args.tally.now c.args.network.now in
    line-inside c.args.setup s c.args.steps c.args.settle c.args.seed c.args.out.now (check-opens c.args.setup s (sym c.setup_check.ensures ∙ c.in_ok-setup_check.was)) c.write_setup.result _ c.write_setup.ensures _ c.in-Ok.is c.write_setup.auto.out (opening c.args.setup s) refl

pub returns-in_err-load : goal.returns-in_err-load
returns-in_err-load c =
    let s : State = state_of c.args.run c.args.tally.now c.args.network.now in
    let e : opening c.args.setup s ≡ done (opened c.args.setup s) = check-opens c.args.setup s (sym c.setup_check.ensures ∙ c.in_ok-setup_check.was) in
    let refused = c.in_err-load.ensures in
    absurd (not-refused c.args.setup s c.args.steps c.args.settle c.args.seed c.args.out.now e c.write_setup.result _ c.write_setup.ensures _ c.in-Ok.is c.write_setup.auto.out _ c.open-opened.ensures _ refused.0 refused.1)

pub returns : goal.returns
returns c =
    let s : State = state_of c.args.run c.args.tally.now c.args.network.now in
    let e : opening c.args.setup s ≡ done (opened c.args.setup s) = check-opens c.args.setup s (sym c.setup_check.ensures ∙ c.in_ok-setup_check.was) in
    let made = c.in_ok-load.ensures in (
      zero-check c.args.setup s c.args.steps c.args.settle c.args.seed c.args.out.now e,
      made-on c.args.setup s c.args.steps c.args.settle c.args.seed c.args.out.now e c.write_setup.result _ c.write_setup.ensures _ c.in-Ok.is c.write_setup.auto.out _ c.open-opened.ensures _ _ _ _ made.1,
    )
