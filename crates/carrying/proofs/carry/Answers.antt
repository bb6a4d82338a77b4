use Rattle.carrying.proofs.Laying.{six, nine, carried}
use Rattle.model.specs.State.{State, state_in}
use mathlib.Core.Path.{sym, ◌∙◌}
use Rattle.carrying.proofs.carry.Goals as goal

pub returns-then-target_outside : goal.returns-then-target_outside
returns-then-target_outside c = let s : State = state_in c.args.from c.args.run.now c.args.tally.now c.args.network.now in
    six c.args.to s c.args.target.now (sym c.target_outside.ensures ∙ c.if-target_outside.true)

pub returns-then-unsound : goal.returns-then-unsound
returns-then-unsound c = let s : State = state_in c.args.from c.args.run.now c.args.tally.now c.args.network.now in
    nine c.args.to s c.args.target.now (sym c.target_outside.ensures ∙ c.if-target_outside.false) (sym c.unsound.ensures ∙ c.if-unsound.true)

pub returns : goal.returns
returns c = let s : State = state_in c.args.from c.args.run.now c.args.tally.now c.args.network.now in
    carried c.args.to s c.args.target.now (sym c.target_outside.ensures ∙ c.if-target_outside.false) (sym c.unsound.ensures ∙ c.if-unsound.false) _ _ c.zero_words.ensures c.carry_all.ensures
