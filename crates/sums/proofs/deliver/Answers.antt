use Rattle.std.proofs.Common.{ap}
use Rattle.types.specs.declared.Counts.{Counts}
use Rattle.types.specs.Traffic.{traffic_of, wrapped, counts_more}
use Rattle.sums.proofs.deliver.Goals as goal

pub returns : goal.returns
unfolding counts_more
returns c = ap (λ (z : Counts). traffic_of c.args.traffic.sent z (wrapped c.args.traffic.waits c.args.wait)) c.count.ensures
