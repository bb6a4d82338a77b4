use Rattle.simulator.proofs.Posting.{posts-none, posts-as}
use Rattle.simulator.proofs.Sending.{sent-none}
use mathlib.Core.Path.{refl, sym}
use Rattle.simulator.proofs.moves.enter.Goals as goal

pub returns-in-Nothing : goal.returns-in-Nothing
returns-in-Nothing c = rw c.in-Nothing.is (posts-as _ _ _ _ _ _ _ (sym (sent-none c.args.plan c.args.faulty c.args.p)) (posts-none _ _ _), refl)
