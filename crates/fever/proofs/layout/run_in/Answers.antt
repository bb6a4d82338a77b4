use mathlib.Core.Path.{refl}
use Rattle.fever.specs.Layout.{run_in}
use Rattle.fever.proofs.layout.run_in.Goals as goal

pub returns : goal.returns
unfolding run_in
returns c = rw (c.plan_in.ensures, c.table_in.ensures, c.table_in-2.ensures, c.counts_in.ensures, c.counts_in-2.ensures) refl
