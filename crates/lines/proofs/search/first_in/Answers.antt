use mathlib.Core.Path.{ap, ◌∙◌}
use Prim.Native.Nat.{ℕ, ◌/◌}
use lib.Count.{count_trailing_zeros}
use Rattle.lines.specs.Search.{word_bytes, bytes_in}
use Rattle.lines.proofs.WordTest.{bits-first}
use Rattle.lines.proofs.search.first_in.Goals as goal

pub returns : goal.returns
unfolding bytes_in
returns c = ap (λ (z : ℕ). count_trailing_zeros 64 z / 8) c.newlines_in.ensures ∙ bits-first (bytes_in word_bytes c.args.word)
