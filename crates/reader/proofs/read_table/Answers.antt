use Rattle.reader.proofs.Tables.{no-first, no-further, no_end, whole-table}
use Rattle.reader.specs.Lines.{table_end_at}
use lib.Seq.{length-take-le}
use native.Mathlib.Omega.{arith}
use mathlib.Core.Path.{sym, ◌∙◌}
use Rattle.reader.proofs.read_table.Goals as goal

pub returns-in_err-c : goal.returns-in_err-c
returns-in_err-c c = c.from_residual.ensures ∙ no-first _ _ _ (sym c.in_err-c.ensures)

pub returns-then-further-n : goal.returns-then-further-n
returns-then-further-n c = no-further _ _ _ _ _ _ _ _ (sym c.in_ok-c.ensures) c.read_several-further.ensures (length-take-le _ _ (omega (arith, c.requires.1))) c.if-further-n.true

pub returns-in_err-end : goal.returns-in_err-end
unfolding table_end_at
returns-in_err-end c = c.from_residual-in_err-end.ensures ∙ no_end _ _ _ _ _ _ _ _ (sym c.in_ok-c.ensures) c.read_several-further.ensures (length-take-le _ _ (omega (arith, c.requires.1))) c.if-further-n.false (sym c.in_err-end.ensures)

pub returns : goal.returns
unfolding table_end_at
returns c = whole-table _ _ _ _ _ _ _ _ (sym c.in_ok-c.ensures) c.read_several-further.ensures (length-take-le _ _ (omega (arith, c.requires.1))) c.requires.0 c.requires.1 c.if-further-n.false _ (sym c.in_ok-end.ensures)
