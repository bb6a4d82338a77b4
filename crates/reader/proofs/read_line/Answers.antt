use Rattle.reader.proofs.RoundTrip.{reading-reads}
use Rattle.reader.proofs.Skimming.{no-opening, some-opening, skims-opening, skims-plain}
use Rattle.lines.specs.Clauses.{Reading}
use mathlib.Core.Path.{ap, sym, ◌∙◌}
use Rattle.reader.proofs.read_line.Goals as goal

pub returns-then-read_setup-eq0 : goal.returns-then-read_setup-eq0
returns-then-read_setup-eq0 c = (ap (λ (x : Reading). x.read) (sym (no-opening _ c.if-read_setup-eq0.true) ∙ skims-opening _ _ _ c.skim_line.ensures c.in-Opening.is c.read_setup.ensures.0), reading-reads _)

pub returns-else-read_setup-eq0 : goal.returns-else-read_setup-eq0
returns-else-read_setup-eq0 c = (ap (λ (x : Reading). x.read) (sym (some-opening _ c.if-read_setup-eq0.false) ∙ skims-opening _ _ _ c.skim_line.ensures c.in-Opening.is c.read_setup.ensures.0), reading-reads _)

pub returns-in_default : goal.returns-in_default
returns-in_default c = (ap (λ (x : Reading). x.read) (skims-plain _ _ c.skim_line.ensures c.in_default.not-Opening), reading-reads _)
