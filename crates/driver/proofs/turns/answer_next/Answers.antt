use Rattle.driver.proofs.Answering.{due, not-due}
use Rattle.driver.proofs.Serving.{turn-line}
use Rattle.lines.proofs.Splitting.{line-inside}
use lib.Seq.{length-take-le}
use mathlib.Core.Path.{refl, sym}
use native.Mathlib.Omega.{arith}
use Rattle.driver.proofs.turns.answer_next.Goals as goal

pub pass_over-requires : goal.pass_over-requires
pass_over-requires c = not-due _ _ _ _ c.due_line.ensures c.in_default.not-Line

pub returns-in_default : goal.returns-in_default
returns-in_default c = c.pass_over.ensures _ _ _

pub slice_bounds-answer_whole-end : goal.slice_bounds-answer_whole-end
slice_bounds-answer_whole-end c = sym (length-take-le _ _ (omega (arith, line-inside _ _ _ refl (due _ _ _ _ _ c.due_line.ensures c.in-Line.is).2)))

pub answer_whole-requires : goal.answer_whole-requires
answer_whole-requires c = (due _ _ _ _ _ c.due_line.ensures c.in-Line.is).1

pub returns : goal.returns
returns c = turn-line _ _ _ _ _ _ _ _ _ _ (due _ _ _ _ _ c.due_line.ensures c.in-Line.is).0 refl (due _ _ _ _ _ c.due_line.ensures c.in-Line.is).2 c.answer_whole.ensures c.answer_whole.auto.out
