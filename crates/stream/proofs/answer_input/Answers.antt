use Rattle.std.proofs.Common.{arith, refl}
use Rattle.transfer.proofs.Moves.{grows-none, grows-trans, shrinks-none, shrinks-trans}
use Rattle.stream.proofs.Threading.{reaches-start, reaches_more}
use Rattle.stream.proofs.answer_input.Goals as goal

pub loop-init : goal.loop-init
loop-init g c =
    (reaches-start _ _ _ _ c.unopened-session.ensures c.requires.0 c.requires.1, refl, refl, refl, refl, shrinks-none _, grows-none _)

pub returns-in_err-got-clause-shrinks : goal.returns-in_err-got-clause-shrinks
returns-in_err-got-clause-shrinks g c = shrinks-trans _ _ _ c.loop.invariant.5 c.read_behind.ensures.shrinks

pub returns-then-got-eq0-clause-shrinks : goal.returns-then-got-eq0-clause-shrinks
returns-then-got-eq0-clause-shrinks g c = shrinks-trans _ _ _ c.loop.invariant.5 c.read_behind.ensures.shrinks

pub returns-in_err-answered-clause-shrinks : goal.returns-in_err-answered-clause-shrinks
returns-in_err-answered-clause-shrinks g c = shrinks-trans _ _ _ c.loop.invariant.5 c.read_behind.ensures.shrinks

pub returns-in_err-answered-clause-grows : goal.returns-in_err-answered-clause-grows
returns-in_err-answered-clause-grows g c = grows-trans _ _ _ c.loop.invariant.6 c.answer_all.ensures.grows

pub loop-preserved : goal.loop-preserved
loop-preserved g c =
    let inv = c.loop.invariant in
    let lent = c.answer_all.auto in
    let kept = c.keep-unused.ensures in (
      reaches_more _ _ _ _ _ _ _ _ _ _ _ _ _ inv.0 c.in_ok-got.ensures.within c.requires.2 inv.4 c.in_ok-answered.ensures.threads kept.0 kept.1 c.keep-unused.auto.window,
      omega (arith, lent.tally, inv.1),
      omega (arith, lent.network, inv.2),
      omega (arith, c.keep-unused.auto.window, c.read_behind.auto.window, inv.3),
      omega (arith, lent.out, inv.4),
      shrinks-trans _ _ _ inv.5 c.read_behind.ensures.shrinks,
      grows-trans _ _ _ inv.6 c.answer_all.ensures.grows,
    )
