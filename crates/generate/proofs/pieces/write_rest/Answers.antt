use Rattle.std.proofs.Common.{rules, arith, refl}
use Rattle.transfer.proofs.Moves.{grows-none, grows-trans}
use Rattle.generate.proofs.Piecing.{leads-none, leads-on, leads-more, still-over, stays}
use Rattle.generate.proofs.pieces.write_rest.Goals as goal

pub loop-last-init : goal.loop-last-init
loop-last-init g c = (leads-none _ _ _ _ _ _, refl, refl, refl, search rules, grows-none _)

pub returns-in_default-clause-resumes : goal.returns-in_default-clause-resumes
returns-in_default-clause-resumes g c =
    let inv = c.loop-last.invariant in
    let refused = c.in_default.ensures in
    λ first h. record {
      leads = leads-on _ _ _ first (inv.0 first h) c.loop-last-test.true inv.3 (stays _ _ _ c.loop-last.last refused.0 refused.1 refused.2);
      over = refl;
    }

pub returns-in_err-write_whole-clause-grows : goal.returns-in_err-write_whole-clause-grows
returns-in_err-write_whole-clause-grows g c = grows-trans _ _ _ c.loop-last.invariant.5 c.write_whole.ensures.grows

pub returns-then-next-last-clause-resumes : goal.returns-then-next-last-clause-resumes
returns-then-next-last-clause-resumes g c =
    let inv = c.loop-last.invariant in
    let made = c.in-Ok.ensures in
    λ first h. record {
      leads = leads-more _ _ _ first (inv.0 first h) c.loop-last-test.true inv.3 made.1;
      over = still-over _ _ _ _ (omega (arith, c.requires, inv.3)) made.1 c.if-next-last.true;
    }

pub returns-then-next-last-clause-grows : goal.returns-then-next-last-clause-grows
returns-then-next-last-clause-grows g c = grows-trans _ _ _ c.loop-last.invariant.5 c.write_whole.ensures.grows

pub loop-last-preserved : goal.loop-last-preserved
loop-last-preserved g c =
    let inv = c.loop-last.invariant in
    let lent = c.generate_more.auto in (
      λ first h. leads-more _ _ _ first (inv.0 first h) c.loop-last-test.true inv.3 c.in-Ok.ensures.1,
      omega (arith, lent.tally, inv.1),
      omega (arith, lent.network, inv.2),
      omega (arith, lent.out, inv.3),
      search rules,
      grows-trans _ _ _ inv.5 c.write_whole.ensures.grows,
    )
