use mathlib.Core.Path.{refl}
use Rattle.reader.proofs.Skimming.{skims-opening}
use Rattle.fever.proofs.Writing.{reads-line, reads-event, reads_none}
use Rattle.fever.proofs.fever_read_line.Goals as goal

pub returns-in-Event : goal.returns-in-Event
returns-in-Event c = reads-line _ _ _ _ _ c.if-words-lt-READING_WORDS.false (reads-event _ c.skim_line.result _ c.skim_line.ensures c.in-Event.is) c.put_event.ensures.0 c.put_event.ensures.1

pub returns-in-Opening : goal.returns-in-Opening
returns-in-Opening c = reads-line _ _ _ _ _ c.if-words-lt-READING_WORDS.false (skims-opening _ c.skim_line.result _ c.skim_line.ensures c.in-Opening.is c.read_setup.ensures.0) c.put_setup.ensures.0 c.put_setup.ensures.1

pub returns-in-NoForm : goal.returns-in-NoForm
returns-in-NoForm c = reads-line _ _ _ _ _ c.if-words-lt-READING_WORDS.false (reads_none _ c.skim_line.result c.skim_line.ensures c.in-NoForm.is) refl refl
