use Rattle.std.proofs.Common.{[], ◌∷◌, ◌++◌}
use Rattle.lines.specs.Printout.{traffic_word, all_word, waits_word}
use Rattle.lines.specs.Forms.{one_blank}
use Rattle.writer.proofs.Reporting.{line_as, six-stamped}
use Rattle.writer.proofs.totals.put_traffic.Goals as goal

pub returns : goal.returns
returns c = six-stamped c.put_kind-a.ensures.0 c.put_kind-b.ensures.0 c.put_kind-c.ensures.0 c.put_kind-d.ensures.0
    (line_as (traffic_word ++ one_blank ++ all_word) (λ i. c.add_all.ensures i ∷ c.add_all-all.ensures i ∷ c.add_all-2.ensures i ∷ []) c.put_kind-e.ensures.0)
    (line_as waits_word (λ i. c.args.traffic.waits ∷ c.add_all-all.ensures i ∷ []) c.put_line.ensures.0)
