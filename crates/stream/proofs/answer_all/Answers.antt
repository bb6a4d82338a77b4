use Rattle.std.proofs.Common.{arith}
use Rattle.transfer.proofs.Moves.{grows-trans}
use Rattle.driver.proofs.Going.{stops-all}
use Rattle.stream.proofs.Threading.{going_more, going-stops, going-threads}
use Rattle.stream.proofs.answer_all.Goals as goal

pub returns-in_err-write_whole-clause-grows : goal.returns-in_err-write_whole-clause-grows
returns-in_err-write_whole-clause-grows g c = grows-trans _ _ _ c.loop-used.invariant.4 c.write_whole.ensures.grows

pub returns-then-served-eq0-clause-threads : goal.returns-then-served-eq0-clause-threads
returns-then-served-eq0-clause-threads g c =
    going-threads _ _ _ _ _ _ _ _ _ (going_more _ _ _ _ _ _ _ _ _ _ _ _ _ c.loop-used.invariant.0 c.answer_lines-served.ensures)
    (λ h. going-stops _ _ _ _ _ _ _ _ _ c.answer_lines-served.ensures c.if-served-eq0.true (omega (arith, h, c.loop-used.invariant.3)))

pub returns-then-served-eq0-clause-grows : goal.returns-then-served-eq0-clause-grows
returns-then-served-eq0-clause-grows g c = grows-trans _ _ _ c.loop-used.invariant.4 c.write_whole.ensures.grows

pub loop-used-preserved : goal.loop-used-preserved
loop-used-preserved g c =
    let inv = c.loop-used.invariant in
    let lent = c.answer_lines-served.auto in (
      going_more _ _ _ _ _ _ _ _ _ _ _ _ _ inv.0 c.answer_lines-served.ensures,
      omega (arith, lent.tally, inv.1),
      omega (arith, lent.network, inv.2),
      omega (arith, lent.out, inv.3),
      grows-trans _ _ _ inv.4 c.write_whole.ensures.grows,
    )

pub returns-after-loop-used-clause-threads : goal.returns-after-loop-used-clause-threads
returns-after-loop-used-clause-threads g c = going-threads _ _ _ _ _ _ _ _ _ c.loop-used.invariant.0 (λ h. stops-all _ _ c.loop-used-test.false)
