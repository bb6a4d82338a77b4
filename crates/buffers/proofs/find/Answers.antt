use Rattle.buffers.proofs.PackedWords.{first-beginning}
use borrow.Author.Tests.{le-leb}
use mathlib.Core.Path.{sym, ◌∙◌}
use Rattle.buffers.proofs.find.Goals as goal

pub returns-then-is_packable : goal.returns-then-is_packable
returns-then-is_packable c =
    let e = sym c.is_packable.ensures ∙ c.if-is_packable.true in
    rw (← c.capacity.ensures, le-leb _ _ c.if-held-capacity.true, e) (c.scan.ensures ∙ rw c.pack.ensures (first-beginning c.args.message e c.args.network.now c.args.held))
