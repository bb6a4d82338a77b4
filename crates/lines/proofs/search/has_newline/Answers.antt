use mathlib.Core.Path.{ap, ◌∙◌}
use mathlib.Core.Bool.{not}
use Prim.Native.Nat.{ℕ}
use lib.Dec.{eqb}
use Rattle.lines.specs.Search.{word_bytes, bytes_in, reported}
use Rattle.lines.proofs.WordTest.{bits-some}
use Rattle.lines.proofs.search.has_newline.Goals as goal

pub returns : goal.returns
unfolding reported
returns c = ap (λ (z : ℕ). not (eqb z 0)) c.newlines_in.ensures ∙ bits-some (bytes_in word_bytes c.args.word)
