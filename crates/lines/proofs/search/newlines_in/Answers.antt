use borrow.Author.Rules.{rules}
use Rattle.lines.proofs.WordTest.{word-bits}
use Rattle.lines.proofs.search.newlines_in.Goals as goal

pub returns : goal.returns
returns c = word-bits c.args.word (search rules)
