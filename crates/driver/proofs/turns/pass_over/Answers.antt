use Rattle.driver.proofs.Serving.{turn-late, turn-long, turn-endless}
use Rattle.lines.proofs.Splitting.{line-inside, long-inside}
use Rattle.lines.specs.declared.Next.TheVariants.{Line, Long}
use mathlib.Core.Logic.{⊎_elim}
use mathlib.Core.Path.{◌≡◌, sym, ◌∙◌}
use native.Mathlib.Omega.{arith}
use Rattle.driver.proofs.turns.pass_over.Goals as goal

pub refuse_line-requires : goal.refuse_line-requires
refuse_line-requires c = (
  omega (arith, c.if-out-lt-PRINTED_MOST.false),
  ⊎_elim (λ (h : c.next_line.result ≡ Line c.in-Line.end). omega (arith, line-inside _ _ _ c.next_line.ensures h, c.well_formed))
      (λ (h : c.next_line.result ≡ Long c.in-Line.end). omega (arith, long-inside _ _ _ c.next_line.ensures h, c.well_formed)) c.in-Line.is,
)

pub returns-in-Line : goal.returns-in-Line
returns-in-Line c = λ session tally network.
    ⊎_elim
    (λ (h : c.next_line.result ≡ Line c.in-Line.end).
    turn-late _ _ _ _ _ _ _ _ _ _ (c.requires _ (sym c.next_line.ensures ∙ h) (omega (arith, c.if-out-lt-PRINTED_MOST.false))) c.next_line.ensures h (c.refuse_line.ensures _ _ _) c.refuse_line.auto.out)
    (λ (h : c.next_line.result ≡ Long c.in-Line.end). turn-long _ _ _ _ _ _ _ _ _ _ c.next_line.ensures h (c.refuse_line.ensures _ _ _) c.refuse_line.auto.out)
    c.in-Line.is

pub returns-in-Endless : goal.returns-in-Endless
returns-in-Endless c = λ session tally network. turn-endless _ _ _ _ _ _ _ c.next_line.ensures c.in-Endless.is
