use Rattle.std.proofs.lemmas.Result.{err_from_is_err_and}
use mathlib.Core.Path.{refl, sym}
use Rattle.checks.proofs.Opens.{steps}
use Rattle.checks.proofs.setup_check.Goals as goal

pub returns-in_err-within : goal.returns-in_err-within
returns-in_err-within c =
    let p = err_from_is_err_and c.from_residual.result c.from_residual.ensures.1 in
    rw (p.1, p.2, steps c.args.setup c.args.tally c.args.network, c.in_err-within.ensures) refl

pub returns-then-faulty_outside : goal.returns-then-faulty_outside
returns-then-faulty_outside c = rw (steps c.args.setup c.args.tally c.args.network, c.in_ok-within.ensures.0, sym c.faulty_outside.ensures, c.if-faulty_outside.true) refl

pub returns-then-lengths_outside : goal.returns-then-lengths_outside
returns-then-lengths_outside c =
    rw (steps c.args.setup c.args.tally c.args.network, c.in_ok-within.ensures.0, sym c.faulty_outside.ensures, c.if-faulty_outside.false, sym c.in_ok-within.ensures.1, sym c.lengths_outside.ensures, c.if-lengths_outside.true) refl

pub returns-then-start_too_high : goal.returns-then-start_too_high
returns-then-start_too_high c =
    rw (steps c.args.setup c.args.tally c.args.network, c.in_ok-within.ensures.0, sym c.faulty_outside.ensures, c.if-faulty_outside.false, sym c.in_ok-within.ensures.1, sym c.lengths_outside.ensures, c.if-lengths_outside.false, sym c.start_too_high.ensures, c.if-start_too_high.true) refl

pub returns-then-too_far_ahead : goal.returns-then-too_far_ahead
returns-then-too_far_ahead c =
    rw (steps c.args.setup c.args.tally c.args.network, c.in_ok-within.ensures.0, sym c.faulty_outside.ensures, c.if-faulty_outside.false, sym c.in_ok-within.ensures.1, sym c.lengths_outside.ensures, c.if-lengths_outside.false, sym c.start_too_high.ensures, c.if-start_too_high.false, sym c.too_far_ahead.ensures, c.if-too_far_ahead.true) refl

pub returns-else-too_far_ahead : goal.returns-else-too_far_ahead
returns-else-too_far_ahead c =
    rw (steps c.args.setup c.args.tally c.args.network, c.in_ok-within.ensures.0, sym c.faulty_outside.ensures, c.if-faulty_outside.false, sym c.in_ok-within.ensures.1, sym c.lengths_outside.ensures, c.if-lengths_outside.false, sym c.start_too_high.ensures, c.if-start_too_high.false, sym c.too_far_ahead.ensures, c.if-too_far_ahead.false) refl
