use native.Mathlib.Omega.{arith}
use Rattle.lines.proofs.Newlines.{before-most}
use Rattle.lines.proofs.search.words_before.Goals as goal

pub words_until-requires : goal.words_until-requires
words_until-requires c = omega (arith, c.blocks_before.ensures, before-most c.args.bytes.now)
