use native.Mathlib.Omega.{arith}
use borrow.Author.Tests.{le-ltb}
use Rattle.checks.proofs.Arithmetic.{beyond-none, beyond-shift}
use mathlib.Core.Path.{sym, ◌∙◌}
use Rattle.checks.proofs.has_beyond.Goals as goal

pub returns-then-n-lt-BITS : goal.returns-then-n-lt-BITS
returns-then-n-lt-BITS c = beyond-shift c.args.n c.args.faulty

pub returns-else-n-lt-BITS : goal.returns-else-n-lt-BITS
returns-else-n-lt-BITS c = le-ltb c.args.n 64 (omega arith) ∙ sym (beyond-none c.args.n c.args.faulty (omega arith) c.ranges.faulty.fits)
