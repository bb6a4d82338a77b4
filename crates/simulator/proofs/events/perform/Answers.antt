use Rattle.simulator.proofs.events.perform.Goals as goal

pub move_on-requires : goal.move_on-requires
move_on-requires c = let room = rw c.in-Moved.is at c.requires.2 in let packs = rw c.in-Moved.is at c.requires.5 in rw c.processor.ensures (c.requires.0, c.requires.1, room, packs)

pub returns-in-Moved : goal.returns-in-Moved
returns-in-Moved c = rw c.in-Moved.is (rw c.processor.ensures at c.move_on.ensures)
