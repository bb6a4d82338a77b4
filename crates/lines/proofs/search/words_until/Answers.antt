use borrow.Author.Rules.{rules}
use native.Mathlib.Omega.{arith}
use Prim.Native.Nat.{◌≤◌}
use Rattle.base.specs.Choice.{flag}
use Rattle.lines.specs.Search.{word_bytes, bytes_in}
use Rattle.lines.proofs.Newlines.{before-most, none-in-word, first-in-word}
use Rattle.lines.proofs.search.words_until.Goals as goal

pub overflow_add-result : goal.overflow_add-result
unfolding bytes_in
overflow_add-result c =
    let k : c.first_in.result ≤ word_bytes = omega (arith, c.first_in.ensures, before-most (bytes_in word_bytes c.word_at-word.result)) in search rules

pub returns-then-has_newline : goal.returns-then-has_newline
returns-then-has_newline c =
    let f = first-in-word _ _ _ _ c.loop-i.invariant.0 c.word_at-word.ensures (flag _ _ _ c.has_newline.ensures c.if-has_newline.true) c.first_in.ensures in
    omega (arith, f.0, f.1)

pub loop-i-preserved : goal.loop-i-preserved
loop-i-preserved c =
    let x = c.loop-i.invariant in
    (none-in-word _ _ _ x.0 (search rules) c.word_at-word.ensures (flag _ _ _ c.has_newline.ensures c.if-has_newline.false), search rules, omega (arith, x.2))
