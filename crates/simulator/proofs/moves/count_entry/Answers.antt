use Rattle.simulator.proofs.Sending.{sent-none, share-length}
use lib.ListN.{length}
use mathlib.Core.Bool.{Bool, cond}
use mathlib.Core.Path.{◌∙◌, ap, sym}
use Rattle.simulator.proofs.moves.count_entry.Goals as goal

pub returns-in-Nothing : goal.returns-in-Nothing
returns-in-Nothing c = rw c.in-Nothing.is (sym (ap length (sent-none c.args.plan c.args.faulty c.args.p)))

pub returns-in-Vote : goal.returns-in-Vote
returns-in-Vote c = c.share.ensures ∙ ap (λ (b : Bool). cond b 1 0) c.led.ensures ∙ rw c.in-Vote.is (share-length c.args.plan c.args.faulty c.args.p _).0

pub returns-in-ViewAndVote : goal.returns-in-ViewAndVote
returns-in-ViewAndVote c = c.share-in-ViewAndVote.ensures ∙ ap (λ (b : Bool). cond b 2 0) c.led-in-ViewAndVote.ensures ∙ rw c.in-ViewAndVote.is (share-length c.args.plan c.args.faulty c.args.p _).1
