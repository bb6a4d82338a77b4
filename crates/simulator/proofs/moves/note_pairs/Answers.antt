use Rattle.simulator.proofs.Counting.{pairs-counted}
use Rattle.types.specs.Traffic.{traffic_of, traffic_sent}
use Rattle.types.specs.declared.Message.TheVariants.{Vote}
use Rattle.types.specs.declared.Traffic.{Traffic}
use Rattle.types.specs.declared.Counts.{Counts}
use lib.ListN.{replicate}
use Prim.Native.Nat.{◌/◌}
use mathlib.Core.Path.{ap, ◌∙◌}
use Rattle.simulator.proofs.moves.note_pairs.Goals as goal

pub returns : goal.returns
returns c = c.send-2.ensures ∙ ap (λ (x : Traffic). traffic_sent x (replicate (c.args.posted / 2) (Vote 0 0))) c.send.ensures
    ∙ ap (λ (x : Counts). traffic_of x c.args.traffic.delivered c.args.traffic.waits) (pairs-counted (c.args.posted / 2) c.args.traffic.sent)
