use Rattle.std.proofs.Common.{sym, ap, ◌∙◌, arith}
use Rattle.types.specs.declared.Counts.{Counts}
use Rattle.types.specs.Traffic.{counts_more, count_one}
use Rattle.sums.proofs.Reporting.{held-none, held-more, held-same, unknown}
use Rattle.sums.proofs.count_held.Goals as goal
use Rattle.sums.proofs.count_held.Goals.{in-Some, in_default}

pub loop-i-init : goal.loop-i-init
loop-i-init c = c.none-counts.ensures ∙ held-none c.args.network.now

pub loop-i-preserved : goal.loop-i-preserved
unfolding counts_more
loop-i-preserved c = elim c.match-decode.branch [
  | in-Some w ↦ w.counts-is ∙ w.count-counts.ensures ∙ ap (λ (x : Counts). count_one x w.in-Some.message) c.loop-i.invariant ∙ held-more c.args.network.now c.loop-i.i (omega arith) w.in-Some.message (sym c.decode.ensures ∙ w.in-Some.is)
  | in_default w ↦ w.counts-is ∙ c.loop-i.invariant ∙ held-same c.args.network.now c.loop-i.i (omega arith) (omega arith) (sym c.decode.ensures ∙ unknown c.decode.result w.in_default.not-Some)
]
