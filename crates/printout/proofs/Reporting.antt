-- The promises of the report: in whatever pieces an input comes, it is of what all of them leave. Assumes nothing.
use mathlib.Core.Path.{◌≡◌, refl, sym, ap, ◌∙◌}
use mathlib.Core.Bool.{false}
use mathlib.Core.List.{List, [], ◌∷◌, ◌++◌}
use Prim.Native.Nat.{ℕ}
use Rattle.lines.specs.declared.Next.TheVariants.{Unfinished}
use Rattle.lines.specs.Printout.{totals_most}
use Rattle.lines.specs.Splitting.{next_line, lines_after, input_lines, remainder}
use Rattle.printout.specs.Printout.{Standing, at_start, standing_after}
use Rattle.printout.specs.Traffic.{report_text, traffic_printout}
use Rattle.printout.specs.Clauses.{Place, place_at, fed}
use Rattle.printout.specs.Promises.{ReportsFed, ReportsWhole}
use Rattle.printout.proofs.Feeding.{standing-fed}
use Rattle.printout.proofs.Promises.{prints-text, left-lines, course-split}

-- bytes left after the last newline leave all as it was
remainder-leaves : (x : Standing) (l : List ℕ) → standing_after x (remainder l) ≡ x
remainder-leaves x [] = refl
remainder-leaves x (b ∷ l) = refl

left-leaves : (x : Standing) (begun rest : List ℕ) → next_line rest ≡ Unfinished → standing_after x (lines_after begun rest) ≡ x
left-leaves x begun rest h = ap (standing_after x) (left-lines begun rest h) ∙ remainder-leaves x (begun ++ rest)

pub reports-fed : ReportsFed
unfolding traffic_printout input_lines
reports-fed input rest h =
    let p : Place = (fed (place_at at_start []) input).place in
    sym (ap report_text (standing-fed (place_at at_start []) input rest ∙ left-leaves p.standing p.begun rest h))

pub reports-whole : ReportsWhole
reports-whole input cs e c =
    let l = course-split _ cs at_start false [] input refl c in
    prints-text totals_most _ e.out e.answer e.after l.arrives.ends.0 l.arrives.ends.1
    ∙ reports-fed l.used l.rest l.unended ∙ ap traffic_printout l.whole
