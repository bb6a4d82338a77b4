use Rattle.reader.proofs.Decimals.{decimal-told}
use Rattle.reader.specs.Decimals.{decimal_of}
use borrow.Author.Tests.{eq-eqb, ne_eqb}
use Rattle.reader.proofs.read_decimal.Goals as goal

pub returns-in-Some : goal.returns-in-Some
unfolding decimal_of
returns-in-Some c = decimal-told _ _ (rw (← c.in-Some.ensures, eq-eqb _ _ c.if-end-text.true))

pub returns-in_default : goal.returns-in_default
unfolding decimal_of
returns-in_default c = decimal-told _ _ (rw (← c.in-Some.ensures, ne_eqb _ _ c.if-end-text.false))

pub returns-in_default-2 : goal.returns-in_default-2
unfolding decimal_of
returns-in_default-2 c = decimal-told _ _ (rw (← c.read_number.ensures, c.in_default.is))
