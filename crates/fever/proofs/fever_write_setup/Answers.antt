use Rattle.fever.proofs.Writing.{no-setup-written}
use Rattle.fever.proofs.fever_write_setup.Goals as goal

pub returns-then-setup-lt-SETUP_WORDS : goal.returns-then-setup-lt-SETUP_WORDS
returns-then-setup-lt-SETUP_WORDS c = no-setup-written _ _ c.if-setup-lt-SETUP_WORDS.true
