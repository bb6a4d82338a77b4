use Rattle.loads.proofs.Halves.{by-halves}
use Rattle.loads.proofs.wrapping_mul.Goals as goal

pub returns : goal.returns
returns c = by-halves c.args.a c.args.b
