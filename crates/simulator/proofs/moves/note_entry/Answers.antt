use Rattle.simulator.proofs.Counting.{nothing-noted, vote-noted, pair-noted}
use mathlib.Core.Path.{◌∙◌}
use Rattle.simulator.proofs.moves.note_entry.Goals as goal

pub returns-in-Nothing : goal.returns-in-Nothing
returns-in-Nothing c = λ plan faulty e. nothing-noted plan faulty c.args.p c.args.sends 0 _ e c.args.traffic c.in-Nothing.is

pub returns-in-Vote : goal.returns-in-Vote
returns-in-Vote c = λ plan faulty e. c.send.ensures ∙ vote-noted plan faulty c.args.p c.args.sends _ _ e c.args.traffic c.in-Vote.is

pub returns-in-ViewAndVote : goal.returns-in-ViewAndVote
returns-in-ViewAndVote c = λ plan faulty e. c.note_pairs.ensures ∙ pair-noted plan faulty c.args.p c.args.sends _ _ e c.args.traffic c.in-ViewAndVote.is
