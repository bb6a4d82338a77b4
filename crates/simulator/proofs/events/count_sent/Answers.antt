use Rattle.simulator.proofs.Fitness.{planned-of}
use Rattle.simulator.proofs.Sending.{formed-count, sent-count}
use Rattle.types.specs.Messages.{stage_of}
use Rattle.simulator.proofs.events.count_sent.Goals as goal

pub returns-in-Heard : goal.returns-in-Heard
returns-in-Heard c = rw c.in-Heard.is (formed-count c.args.plan c.args.faulty (planned-of c.args.plan c.args.faulty c.requires.0 c.requires.1) (stage_of c.args.message) _ c.in-Heard.formed _ c.count_formed.ensures)

pub returns-in-Moved : goal.returns-in-Moved
returns-in-Moved c = rw c.in-Moved.is (sent-count c.args.plan c.args.faulty _ c.in-Moved.y.sends _ (rw c.processor.ensures at c.count_entry.ensures))
