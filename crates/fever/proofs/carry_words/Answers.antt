use Rattle.std.proofs.Common.{Ok, Err}
use Rattle.fever.proofs.Carrying.{outside-run, carry-short, carry-outside, carry-neither, carry-told}
use Rattle.fever.specs.Clauses.{lent_of}
use Rattle.fever.proofs.carry_words.Goals as goal

pub returns-then-run-lt-RUN_WORDS : goal.returns-then-run-lt-RUN_WORDS
returns-then-run-lt-RUN_WORDS c = carry-short c.args.from c.args.to (lent_of c.args.run.now c.args.tally.now c.args.network.now) c.args.target.now c.if-run-lt-RUN_WORDS.true

pub returns-then-target_outside : goal.returns-then-target_outside
returns-then-target_outside c = carry-outside c.args.from c.args.to (lent_of c.args.run.now c.args.tally.now c.args.network.now) c.args.target.now c.if-run-lt-RUN_WORDS.false c.if-run-gt1.true (outside-run c.args.from c.args.to (lent_of c.args.run.now c.args.tally.now c.args.network.now) c.args.target.now c.run_in-own.result c.run_in-own.ensures _ _ c.target_outside.ensures c.if-target_outside.true)

pub returns-else-target_outside : goal.returns-else-target_outside
returns-else-target_outside c = carry-neither c.args.from c.args.to (lent_of c.args.run.now c.args.tally.now c.args.network.now) c.args.target.now c.if-run-lt-RUN_WORDS.false c.if-run-gt1.true (outside-run c.args.from c.args.to (lent_of c.args.run.now c.args.tally.now c.args.network.now) c.args.target.now c.run_in-own.result c.run_in-own.ensures _ _ c.target_outside.ensures c.if-target_outside.false)

pub returns-in-Ok : goal.returns-in-Ok
returns-in-Ok c = carry-told c.args.from c.args.to (lent_of c.args.run.now c.args.tally.now c.args.network.now) c.args.target.now c.if-run-lt-RUN_WORDS.false c.if-run-gt1.false _ c.run_in-own.ensures (Ok tt) _ c.in-Ok.ensures

pub returns-in-Err : goal.returns-in-Err
returns-in-Err c = carry-told c.args.from c.args.to (lent_of c.args.run.now c.args.tally.now c.args.network.now) c.args.target.now c.if-run-lt-RUN_WORDS.false c.if-run-gt1.false _ c.run_in-own.ensures (Err c.in-Err.check) _ c.in-Err.ensures
