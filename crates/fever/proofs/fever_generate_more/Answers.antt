use Rattle.fever.proofs.Loading.{more-load-short, more-no-run, more-done}
use Rattle.fever.proofs.fever_generate_more.Goals as goal

pub returns-then-load-lt-LOAD_WORDS : goal.returns-then-load-lt-LOAD_WORDS
returns-then-load-lt-LOAD_WORDS c = more-load-short _ _ _ c.if-load-lt-LOAD_WORDS.true

pub returns-in-Some : goal.returns-in-Some
returns-in-Some c = more-no-run _ _ _ c.if-load-lt-LOAD_WORDS.false _ c.in-Some.ensures

pub returns : goal.returns
returns c = more-done _ _ _ c.in_default.ensures.long c.if-load-lt-LOAD_WORDS.false _ _ _ _ _ _ _ _ c.in_default.ensures.settled c.run_in.ensures c.generate_more-made.ensures c.put_load.ensures
