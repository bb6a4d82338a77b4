use Rattle.std.proofs.Common.{sym, rules}
use Rattle.sums.proofs.Wrapping.{more-views, more-votes, more-vcs, more-qcs}
use Rattle.sums.proofs.count.Goals as goal

pub returns-in-View : goal.returns-in-View
returns-in-View c = rw c.in-View.is (sym (more-views _ _ _ _ (search rules)))

pub returns-in-Vote : goal.returns-in-Vote
returns-in-Vote c = rw c.in-Vote.is (sym (more-votes _ _ _ _ (search rules)))

pub returns-in-Vc : goal.returns-in-Vc
returns-in-Vc c = rw c.in-Vc.is (sym (more-vcs _ _ _ _ (search rules)))

pub returns-in-Qc : goal.returns-in-Qc
returns-in-Qc c = rw c.in-Qc.is (sym (more-qcs _ _ _ _ (search rules)))
