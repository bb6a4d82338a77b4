use mathlib.Core.Logic.{inr}
use Rattle.driver.proofs.Going.{going_more, going-stops, stops-all, going-serves}
use Rattle.driver.proofs.turns.answer_turns.Goals as goal

pub loop-left-preserved : goal.loop-left-preserved
loop-left-preserved c = going_more _ _ _ _ _ _ _ _ _ _ _ _ _ _ _ c.loop-left.invariant c.answer_turn-turn.ensures c.answer_turn-turn.auto.out

pub returns-then-turn-eq0 : goal.returns-then-turn-eq0
returns-then-turn-eq0 c = going-serves _ _ _ _ _ _ _ _ _ _ _ (going_more _ _ _ _ _ _ _ _ _ _ _ _ _ _ _ c.loop-left.invariant c.answer_turn-turn.ensures c.answer_turn-turn.auto.out) (going-stops _ _ _ _ _ _ _ _ _ _ _ _ _ _ _ c.loop-left.invariant c.answer_turn-turn.ensures c.if-turn-eq0.true)

pub returns-after-loop-left : goal.returns-after-loop-left
returns-after-loop-left c = going-serves _ _ _ _ _ _ _ _ _ _ _ c.loop-left.invariant (inr (stops-all _ _ c.loop-left-test.false))
