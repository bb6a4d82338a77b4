use Rattle.reader.proofs.Openings.{no-heading, usual-heading, whole-heading}
use mathlib.Core.Path.{refl}
use Rattle.reader.proofs.read_heading.Goals as goal
use Rattle.reader.proofs.read_heading.Goals.{in-6, in-5}

pub returns-in_default : goal.returns-in_default
returns-in_default c = no-heading _ _ _ _ _ c.read_several-count.ensures refl c.in_default.in_default-own.rest.0.1 c.in_default.in_default-own.rest.1

pub returns : goal.returns
returns c = elim c.match-count.branch [
  | in-6 w ↦ rw w.k-is (whole-heading _ _ _ _ _ c.read_several-count.ensures refl w.in-6.is)
  | in-5 w ↦ rw w.k-is (usual-heading _ _ _ _ _ c.read_several-count.ensures refl w.in-5.is)
]
