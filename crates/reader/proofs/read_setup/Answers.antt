use Rattle.reader.proofs.RoundTrip.{reading-reads}
use Rattle.reader.proofs.Skimming.{setup-where}
use mathlib.Core.Path.{sym, ◌∙◌}
use Rattle.reader.proofs.read_setup.Goals as goal
use Rattle.reader.proofs.read_setup.Goals.{in-Some+in_default-read_opening, in_default}

pub returns-in-Some-read_opening : goal.returns-in-Some-read_opening
returns-in-Some-read_opening c = (sym (setup-where _ ∙ rw (← c.in-Some.ensures, ← c.in-Some-read_opening.ensures)), reading-reads _)

pub returns : goal.returns
returns c = elim c.match-after_word.branch [
  | in-Some+in_default-read_opening w ↦ (c.no_setup.ensures ∙ sym (setup-where _ ∙ rw (← w.in-Some.ensures, sym w.read_opening.ensures ∙ w.in_default-read_opening.is)), reading-reads _)
  | in_default w ↦ (c.no_setup.ensures ∙ sym (setup-where _ ∙ rw (sym c.after_word.ensures ∙ w.in_default.is)), reading-reads _)
]
