use Rattle.fever.specs.Layout.{setup_in}
use Rattle.fever.proofs.layout.setup_in.Goals as goal

pub returns : goal.returns
unfolding setup_in
returns c = rw (c.plan_in.ensures, c.table_in.ensures)
