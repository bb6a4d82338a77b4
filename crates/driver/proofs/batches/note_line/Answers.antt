use Rattle.driver.proofs.Gathering.{noted}
use Rattle.lines.proofs.Splitting.{line-inside}
use lib.Seq.{length-take-le}
use Rattle.std.proofs.Common.{rules}
use native.Mathlib.Omega.{arith}
use mathlib.Core.Path.{sym}
use Rattle.driver.proofs.batches.note_line.Goals as goal

pub slice_bounds-skim_line-end : goal.slice_bounds-skim_line-end
slice_bounds-skim_line-end c = sym (length-take-le _ _ (omega (arith, line-inside _ _ _ c.next_line.ensures c.in-Line.is)))

pub overflow_add-result : goal.overflow_add-result
overflow_add-result c = omega (arith, line-inside _ _ _ c.next_line.ensures c.in-Line.is, c.well_formed)

pub returns : goal.returns
returns c = noted _ _ _ _ _ c.next_line.ensures c.in-Line.is c.skim_line-read.ensures (search rules) c.numbers_read.ensures
