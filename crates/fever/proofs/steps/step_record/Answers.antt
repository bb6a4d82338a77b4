use Rattle.fever.proofs.Stepping.{refusing-steps}
use Rattle.fever.specs.Clauses.{move_of}
use borrow.Author.Tests.{lt-ltb, le-ltb, ne_eqb}
use Rattle.fever.proofs.steps.step_record.Goals as goal

pub returns-then-words-lt-RECORD_WORDS : goal.returns-then-words-lt-RECORD_WORDS
unfolding move_of
returns-then-words-lt-RECORD_WORDS c = rw (lt-ltb _ _ c.if-words-lt-RECORD_WORDS.true) (refusing-steps _ _)

pub returns-in-0 : goal.returns-in-0
unfolding move_of
returns-in-0 c = rw (le-ltb _ _ c.if-words-lt-RECORD_WORDS.false, c.in-0.is) c.take_input.ensures

pub returns-in-3 : goal.returns-in-3
unfolding move_of
returns-in-3 c = rw (le-ltb _ _ c.if-words-lt-RECORD_WORDS.false, c.in-3.is) c.take_input-in-3.ensures

pub returns-in-4 : goal.returns-in-4
unfolding move_of
returns-in-4 c = rw (le-ltb _ _ c.if-words-lt-RECORD_WORDS.false, c.in-4.is) c.take_input-in-4.ensures

pub returns-in_default : goal.returns-in_default
unfolding move_of
returns-in_default c = rw (le-ltb _ _ c.if-words-lt-RECORD_WORDS.false, ne_eqb _ _ c.in_default.in_default-own.rest.0.0.1, ne_eqb _ _ c.in_default.in_default-own.rest.0.1, ne_eqb _ _ c.in_default.in_default-own.rest.1) (refusing-steps _ _)
