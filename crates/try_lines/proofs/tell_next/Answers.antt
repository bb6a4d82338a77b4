use Rattle.std.proofs.Common.{rules, arith, sym, length-take-le}
use Rattle.lines.proofs.Splitting.{line-inside, long-inside}
use Rattle.try_lines.proofs.tell_next.Goals as goal

pub slice_bounds-tell_line-end : goal.slice_bounds-tell_line-end
slice_bounds-tell_line-end g c = sym (length-take-le _ _ (omega (arith, line-inside _ _ _ c.next_line.ensures c.in-Line.is)))

pub overflow_add-result : goal.overflow_add-result
overflow_add-result g c = search (rules, line-inside _ _ _ c.next_line.ensures c.in-Line.is)

pub returns-in_ok-tell_line-in-Line : goal.returns-in_ok-tell_line-in-Line
returns-in_ok-tell_line-in-Line g c = (omega arith, omega (arith, line-inside _ _ _ c.next_line.ensures c.in-Line.is))

pub overflow_add-result-in-Long : goal.overflow_add-result-in-Long
overflow_add-result-in-Long g c = search (rules, long-inside _ _ _ c.next_line.ensures c.in-Long.is)

pub returns-in_ok-say_refused-in-Long : goal.returns-in_ok-say_refused-in-Long
returns-in_ok-say_refused-in-Long g c = (omega arith, omega (arith, long-inside _ _ _ c.next_line.ensures c.in-Long.is))
