use Rattle.writer.proofs.Writing.{refused_none, refused-many, written-setup}
use Rattle.std.proofs.Common.{arith}
use Rattle.writer.proofs.write_setup.Goals as goal
use Rattle.writer.proofs.write_setup.Goals.{then-plan-eq0-via-then-plan-eq0, then-plan-eq0-via-else-plan-eq0+then-plan-gt-N_MOST}

pub returns-then-plan-eq0 : goal.returns-then-plan-eq0
returns-then-plan-eq0 c =
    elim c.then-plan-eq0.branch [
      | then-plan-eq0-via-then-plan-eq0 w ↦ refused_none _ _ w.if-plan-eq0.true
      | then-plan-eq0-via-else-plan-eq0+then-plan-gt-N_MOST w ↦ refused-many c.args.setup _ (omega (arith, w.if-plan-gt-N_MOST.true))
    ]

pub returns : goal.returns
returns c = written-setup _ _ _ _ c.if-plan-eq0.false c.if-plan-gt-N_MOST.false c.write_opening.ensures
