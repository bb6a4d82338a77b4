use Rattle.model.specs.State.{State, state_in}
use Rattle.checks.proofs.Nine.{end-reached, plan-of, nine-is}
use Rattle.checks.proofs.unsound.Goals as goal

pub returns-then-unsound_for_good : goal.returns-then-unsound_for_good
returns-then-unsound_for_good c = let s : State = state_in c.args.form c.args.run.now c.args.tally.now c.args.network.now in
    nine-is s _ c.unsound_for_good.ensures.says _ (rw c.if-unsound_for_good.true)

pub returns-else-unsound_for_good : goal.returns-else-unsound_for_good
returns-else-unsound_for_good c = let s : State = state_in c.args.form c.args.run.now c.args.tally.now c.args.network.now in
    nine-is s _ c.unsound_for_good.ensures.says _ (rw c.if-unsound_for_good.false (end-reached c.args.run.now.plan c.args.run.now.time _ (plan-of s _ c.unsound_for_good.ensures.says c.if-unsound_for_good.false) c.end_time.ensures))
