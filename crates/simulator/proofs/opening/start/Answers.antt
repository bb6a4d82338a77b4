use mathlib.Core.Path.{◌∙◌}
use Rattle.buffers.specs.Zeros.{zeroed-fits}
use Rattle.simulator.proofs.Starting.{ready, first-room, start-made}
use native.Mathlib.Omega.{arith}
use Rattle.simulator.proofs.opening.start.Goals as goal

pub overflow_mul-rows : goal.overflow_mul-rows
overflow_mul-rows c = omega (arith, (ready _ _ _ c.requires).rows, c.well_formed)

pub enter_all-held-requires : goal.enter_all-held-requires
enter_all-held-requires c = (omega (arith, (ready _ _ _ c.requires).ok.n_at_least), (ready _ _ _ c.requires).ok.n_at_most, first-room c.args.setup c.args.network.now _ (ready _ _ _ c.requires).room (c.zero_words-2.ensures ∙ zeroed-fits c.args.network.now _ (omega arith)))

pub returns : goal.returns
returns c = start-made c.args.setup c.args.tally.now c.args.network.now (ready _ _ _ c.requires) c.blank-run.result c.enter_all-held.result c.note_pairs-traffic.result _ _ _ _ c.blank-run.ensures (c.zero_words.ensures ∙ zeroed-fits c.args.tally.now _ (omega (arith, (ready _ _ _ c.requires).rows))) (c.zero_words-2.ensures ∙ zeroed-fits c.args.network.now _ (omega arith)) c.enter_all-held.ensures c.note_pairs-traffic.ensures
