use mathlib.Core.Bool.{Bool, cond}
use mathlib.Core.Path.{ap}
use Rattle.workload.proofs.generate_more.Goals as goal

pub returns : goal.returns
returns c = let piece = c.in_ok-piece.ensures in (ap (λ (b : Bool). cond b 9 0) piece.0, piece.1)
