use Rattle.std.proofs.Math.Facts.{Fits-lt-pow}
use Rattle.lines.proofs.WordBytes.{word-bytes}
use Rattle.lines.proofs.search.word_at.Goals as goal

pub returns : goal.returns
returns c = word-bytes c.args.bytes.now c.args.i _ c.requires (λ j. Fits-lt-pow (c.type_inv.bytes j)) c.from_le_bytes.ensures
