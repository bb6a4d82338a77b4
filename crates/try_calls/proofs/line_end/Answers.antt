use Rattle.std.proofs.Common.{arith, ◌≡◌, ⊎_elim}
use Rattle.lines.specs.declared.Next.TheVariants.{Line, Long}
use Rattle.lines.proofs.Splitting.{line-inside, long-inside}
use Rattle.try_calls.proofs.line_end.Goals as goal

pub returns-in-Line : goal.returns-in-Line
returns-in-Line c =
    ⊎_elim (λ (h : c.next_line.result ≡ Line c.in-Line.end). omega (arith, line-inside _ _ _ c.next_line.ensures h))
    (λ (h : c.next_line.result ≡ Long c.in-Line.end). omega (arith, long-inside _ _ _ c.next_line.ensures h)) c.in-Line.is

pub returns-in-Line-2 : goal.returns-in-Line-2
returns-in-Line-2 c =
    ⊎_elim (λ (h : c.next_line.result ≡ Line c.in-Line.end). omega (arith, line-inside _ _ _ c.next_line.ensures h))
    (λ (h : c.next_line.result ≡ Long c.in-Line.end). omega (arith, long-inside _ _ _ c.next_line.ensures h)) c.in-Line.is
