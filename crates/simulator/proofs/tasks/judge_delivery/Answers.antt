use Rattle.std.proofs.lemmas.Result.{err_from_is_err_and}
use Rattle.simulator.proofs.Deciding.{named-packs, check-passes, check-refuses}
use Rattle.simulator.proofs.Happening.{deliver-named, deliver-missing, deliver-held}
use Rattle.simulator.proofs.Delivery.{found_none, found_some, leaves-without, held-reaches}
use Rattle.simulator.proofs.Fitness.{fit_of, room_of}
use Rattle.simulator.specs.Inner.{named_check}
use Rattle.model.specs.State.{State, state_of}
use mathlib.Core.Path.{◌≡◌, sym, ◌∙◌}
use Rattle.simulator.proofs.tasks.judge_delivery.Goals as goal

pub returns-in_err-check_named : goal.returns-in_err-check_named
returns-in_err-check_named c = λ t a.
    let p = err_from_is_err_and c.from_residual.result c.from_residual.ensures.1 in
    let r = check-refuses _ _ (sym c.in_err-check_named.was ∙ c.check_named.ensures) in
    rw (p.1, p.2) (deliver-named (state_of c.args.run.now t c.args.network.now) c.args.message a.1 _ r.0 r.1)

pub returns-then-run-place : goal.returns-then-run-place
returns-then-run-place c = λ t a.
    let s : State = state_of c.args.run.now t c.args.network.now in
    let named : named_check c.args.run.now.plan c.args.message ≡ 0 = check-passes _ (sym c.in_ok-check_named.was ∙ c.check_named.ensures) in
    deliver-missing s c.args.message a.1 named (found_none s.run t s.network c.args.message _ (room_of s a.1) (named-packs s.run.plan c.args.message (fit_of s a.1).plan named) c.find-place.ensures c.if-run-place.true)

pub returns : goal.returns
returns c = λ t a.
    let s : State = state_of c.args.run.now t c.args.network.now in
    let named : named_check c.args.run.now.plan c.args.message ≡ 0 = check-passes _ (sym c.in_ok-check_named.was ∙ c.check_named.ensures) in
    let is_held_lem = found_some s.run t s.network c.args.message _ (room_of s a.1) (named-packs s.run.plan c.args.message (fit_of s a.1).plan named) c.find-place.ensures c.if-run-place.false in (
      record { sound = a.1; named = named; reaches = held-reaches s c.args.message a.1 is_held_lem },
      deliver-held s c.args.message a.1 named is_held_lem _ (leaves-without s.run t s.network c.args.message _ (room_of s a.1) (named-packs s.run.plan c.args.message (fit_of s a.1).plan named) c.find-place.ensures c.if-run-place.false),
    )
