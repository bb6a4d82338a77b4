use Rattle.buffers.proofs.NetworkWords.{posted-packed}
use Rattle.buffers.proofs.put_packed.Goals as goal

pub returns-then-is_packable : goal.returns-then-is_packable
returns-then-is_packable c = rw (← c.is_packable.ensures, c.if-is_packable.true, c.pack.ensures) (posted-packed c.args.network.now c.args.h c.args.m c.args.sent c.requires)
