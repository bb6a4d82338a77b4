use Rattle.std.proofs.Common.{le-ltb, rules}
use Rattle.base.specs.SetLaws.{member-beyond}
use Rattle.base.specs.Sets.{member}
use Rattle.base.proofs.member.Goals as goal

pub returns-then-p-lt-BITS : goal.returns-then-p-lt-BITS
unfolding member
returns-then-p-lt-BITS c = search rules

pub returns-else-p-lt-BITS : goal.returns-else-p-lt-BITS
returns-else-p-lt-BITS c = search (le-ltb, member-beyond, rules)
