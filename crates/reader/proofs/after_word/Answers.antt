use Rattle.reader.proofs.ScanLaws.{word-beyond, word-here, word-other, starts-at}
use mathlib.Core.Path.{sym, ◌∙◌}
use Rattle.reader.proofs.after_word.Goals as goal
use Rattle.reader.proofs.after_word.Goals.{else-at-s-via-then-at-s+else-starts_with, else-at-s-via-else-at-s}

pub returns-then-starts_with : goal.returns-then-starts_with
returns-then-starts_with c = word-here _ _ _ c.if-at-s.true (sym (starts-at c.args.s.now c.args.at c.args.word.now) ∙ sym c.starts_with.ensures.value ∙ c.if-starts_with.true)

pub returns-else-at-s : goal.returns-else-at-s
returns-else-at-s c = elim c.else-at-s.branch [
  | else-at-s-via-then-at-s+else-starts_with w ↦ word-other _ _ _ (sym (starts-at c.args.s.now c.args.at c.args.word.now) ∙ sym w.starts_with.ensures.value ∙ w.if-starts_with.false)
  | else-at-s-via-else-at-s w ↦ word-beyond _ _ _ w.if-at-s.false
]
