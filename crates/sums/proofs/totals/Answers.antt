use Rattle.std.proofs.Common.{sym, ◌∙◌}
use Rattle.model.specs.State.{state_of}
use Rattle.checks.proofs.Nine.{room_of}
use Rattle.sums.proofs.Reporting.{totals-refused, totals-told}
use Rattle.sums.proofs.totals.Goals as goal

pub returns-then-unsound : goal.returns-then-unsound
returns-then-unsound c = (totals-refused (state_of c.args.run.now c.args.tally.now c.args.network.now) (sym c.unsound.ensures ∙ c.if-unsound.true))

pub count_held-requires : goal.count_held-requires
count_held-requires c = room_of (state_of c.args.run.now c.args.tally.now c.args.network.now) (sym c.unsound.ensures ∙ c.if-unsound.false)

pub returns : goal.returns
returns c = totals-told (state_of c.args.run.now c.args.tally.now c.args.network.now) _ (sym c.unsound.ensures ∙ c.if-unsound.false) c.count_held.ensures
