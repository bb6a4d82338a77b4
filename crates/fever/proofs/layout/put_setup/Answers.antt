use Rattle.fever.proofs.Laying.{setup-laid}
use borrow.Author.Rules.{rules}
use Rattle.fever.proofs.layout.put_setup.Goals as goal

pub returns : goal.returns
returns c = setup-laid c.args.setup _ _ _ _ _ c.if-setup-eq0.false (search rules) c.requires c.put_slice-next.ensures c.put_slice.ensures
