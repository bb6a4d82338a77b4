use Rattle.fever.proofs.Calling.{opening-short, opening-run-short, opening-done}
use Rattle.fever.proofs.fever_open.Goals as goal
use Rattle.fever.proofs.fever_open.Goals.{then-setup-lt-SETUP_WORDS-via-then-setup-lt-SETUP_WORDS, then-setup-lt-SETUP_WORDS-via-else-setup-lt-SETUP_WORDS+then-run-lt-RUN_WORDS}

pub returns-then-setup-lt-SETUP_WORDS : goal.returns-then-setup-lt-SETUP_WORDS
returns-then-setup-lt-SETUP_WORDS c =
    elim c.then-setup-lt-SETUP_WORDS.branch [
      | then-setup-lt-SETUP_WORDS-via-then-setup-lt-SETUP_WORDS w ↦ opening-short _ _ w.if-setup-lt-SETUP_WORDS.true
      | then-setup-lt-SETUP_WORDS-via-else-setup-lt-SETUP_WORDS+then-run-lt-RUN_WORDS w ↦ opening-run-short _ _ w.if-run-lt-RUN_WORDS.true
    ]

pub returns : goal.returns
returns c = opening-done _ _ _ _ c.open_in_place-answer.new.run c.open_in_place-answer.result _ _ _ _ c.if-setup-lt-SETUP_WORDS.false c.if-run-lt-RUN_WORDS.false c.setup_in-start.ensures
    c.run_in-own.ensures c.open_in_place-answer.ensures (record { check = c.put_outcome.ensures.0; words = c.put_outcome.ensures.1 })
