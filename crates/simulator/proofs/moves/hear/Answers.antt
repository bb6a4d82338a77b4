use Rattle.simulator.proofs.Posting.{posts-none}
use Rattle.buffers.specs.Tally.{added-word}
use Rattle.model.specs.State.{heard_word}
use mathlib.Core.Path.{◌∙◌}
use Rattle.simulator.proofs.moves.hear.Goals as goal

pub returns-else-formed : goal.returns-else-formed
returns-else-formed c = rw c.if-formed.false (posts-none _ _ _, c.hear.ensures ∙ added-word c.args.tally.now c.args.w (heard_word c.args.stage) c.args.p c.requires.1)
