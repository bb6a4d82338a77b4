use Rattle.fever.proofs.Loading.{generating-short, generating-run-short, generating-load-short, generating-done}
use Rattle.fever.proofs.fever_generate.Goals as goal
use Rattle.fever.proofs.fever_generate.Goals.{then-setup-lt-SETUP_WORDS-via-then-setup-lt-SETUP_WORDS, then-setup-lt-SETUP_WORDS-via-else-setup-lt-SETUP_WORDS+then-run-lt-RUN_WORDS, then-setup-lt-SETUP_WORDS-via-else-setup-lt-SETUP_WORDS+else-run-lt-RUN_WORDS+then-load-lt-LOAD_WORDS}

pub returns-then-setup-lt-SETUP_WORDS : goal.returns-then-setup-lt-SETUP_WORDS
returns-then-setup-lt-SETUP_WORDS c =
    elim c.then-setup-lt-SETUP_WORDS.branch [
      | then-setup-lt-SETUP_WORDS-via-then-setup-lt-SETUP_WORDS w ↦ generating-short _ _ _ _ w.if-setup-lt-SETUP_WORDS.true
      | then-setup-lt-SETUP_WORDS-via-else-setup-lt-SETUP_WORDS+then-run-lt-RUN_WORDS w ↦ generating-run-short _ _ _ _ w.if-run-lt-RUN_WORDS.true
      | then-setup-lt-SETUP_WORDS-via-else-setup-lt-SETUP_WORDS+else-run-lt-RUN_WORDS+then-load-lt-LOAD_WORDS w ↦ generating-load-short _ _ _ _ w.if-load-lt-LOAD_WORDS.true
    ]

pub returns : goal.returns
returns c = generating-done _ _ _ _ _ _ _ _ _ _ _ _ _ c.if-setup-lt-SETUP_WORDS.false c.if-run-lt-RUN_WORDS.false c.if-load-lt-LOAD_WORDS.false c.setup_in.ensures c.run_in.ensures c.generate-made.ensures c.put_load.ensures
