use borrow.Author.Rules.{rules}
use Rattle.fever.proofs.Laying.{run-laid}
use Rattle.fever.proofs.layout.put_run.Goals as goal

pub returns : goal.returns
returns c = run-laid c.args.run.now _ _ _ _ _ _ _ _ _ _ _ _ _ _ (search rules) (search rules) c.requires c.settled_as.ensures c.put_slice-first.ensures c.put_slice-second.ensures c.put_slice-sent.ensures c.put_counts-delivered.ensures c.put_counts-waits.ensures c.put_slice.ensures
