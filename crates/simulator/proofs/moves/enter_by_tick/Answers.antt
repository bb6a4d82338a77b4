use mathlib.Core.Path.{refl, sym}
use Rattle.simulator.proofs.Posting.{posts-none, posts-as}
use Rattle.simulator.proofs.Sending.{sent-none}
use Rattle.simulator.proofs.moves.enter_by_tick.Goals as goal

pub returns-then-silent : goal.returns-then-silent
returns-then-silent c = rw (c.silent.ensures c.if-silent.true) (posts-as _ _ _ _ _ _ _ (sym (sent-none c.args.plan c.args.faulty c.args.p)) (posts-none _ _ _), refl)
