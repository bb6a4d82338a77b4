use Rattle.buffers.proofs.NetworkWords.{posted-wide}
use Rattle.buffers.proofs.put_wide.Goals as goal

pub returns : goal.returns
returns c = rw (c.kind.ensures, c.view.ensures, c.processor.ensures) (posted-wide _ _ _ _ c.requires)
