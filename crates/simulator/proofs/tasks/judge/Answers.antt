use Rattle.simulator.proofs.Happening.{lacking, unsound-handed, ticks-applied, ticks-some}
use Rattle.checks.proofs.Nine.{nine-is}
use Rattle.model.specs.State.{State, state_of}
use Rattle.types.specs.Messages.{lacks_form}
use mathlib.Core.Path.{sym, ap, ◌∙◌}
use Rattle.simulator.proofs.tasks.judge.Goals as goal

pub returns-then-lacks_form : goal.returns-then-lacks_form
returns-then-lacks_form c = λ e. lacking c.args.event (state_of c.args.run.now c.args.tally.now c.args.network.now) (sym c.lacks_form.ensures ∙ c.if-lacks_form.true)

pub returns-then-is_nine : goal.returns-then-is_nine
returns-then-is_nine c = λ e.
    let s : State = state_of c.args.run.now c.args.tally.now c.args.network.now in
    unsound-handed c.args.event s (sym c.lacks_form.ensures ∙ c.if-lacks_form.false) (sym (nine-is s c.args.broken e c.is_nine.result c.is_nine.ensures) ∙ c.if-is_nine.true)

pub returns-in-Deliver : goal.returns-in-Deliver
returns-in-Deliver c = λ e.
    let s : State = state_of c.args.run.now c.args.tally.now c.args.network.now in
    let sound = sym (nine-is s c.args.broken e c.is_nine.result c.is_nine.ensures) ∙ c.if-is_nine.false in
    rw c.in-Deliver.is (c.judge_delivery.ensures _ (ap lacks_form (sym c.in-Deliver.is) ∙ sym c.lacks_form.ensures ∙ c.if-lacks_form.false, sound))

pub returns-in-Sign : goal.returns-in-Sign
returns-in-Sign c = λ e.
    let s : State = state_of c.args.run.now c.args.tally.now c.args.network.now in
    let sound = sym (nine-is s c.args.broken e c.is_nine.result c.is_nine.ensures) ∙ c.if-is_nine.false in
    rw c.in-Sign.is (c.judge_signature.ensures _ _ (ap lacks_form (sym c.in-Sign.is) ∙ sym c.lacks_form.ensures ∙ c.if-lacks_form.false, sound))

pub returns-in-Show : goal.returns-in-Show
returns-in-Show c = λ e.
    let s : State = state_of c.args.run.now c.args.tally.now c.args.network.now in
    let sound = sym (nine-is s c.args.broken e c.is_nine.result c.is_nine.ensures) ∙ c.if-is_nine.false in
    rw c.in-Show.is (c.judge_showing.ensures _ (ap lacks_form (sym c.in-Show.is) ∙ sym c.lacks_form.ensures ∙ c.if-lacks_form.false, sound))

pub returns-in-Settle : goal.returns-in-Settle
returns-in-Settle c = λ e.
    let s : State = state_of c.args.run.now c.args.tally.now c.args.network.now in
    let sound = sym (nine-is s c.args.broken e c.is_nine.result c.is_nine.ensures) ∙ c.if-is_nine.false in
    rw c.in-Settle.is (c.judge_settling.ensures _ _ (ap lacks_form (sym c.in-Settle.is) ∙ sym c.lacks_form.ensures ∙ c.if-lacks_form.false, sound))

pub returns-in-Tick : goal.returns-in-Tick
returns-in-Tick c = λ e.
    let s : State = state_of c.args.run.now c.args.tally.now c.args.network.now in
    let sound = sym (nine-is s c.args.broken e c.is_nine.result c.is_nine.ensures) ∙ c.if-is_nine.false in
    let f = ap lacks_form (sym c.in-Tick.is) ∙ sym c.lacks_form.ensures ∙ c.if-lacks_form.false in
    rw c.in-Tick.is (ticks-some _ f, sound, ticks-applied _ s f sound)
