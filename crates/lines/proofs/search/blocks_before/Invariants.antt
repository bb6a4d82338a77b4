use Rattle.std.proofs.Common.{◌*◌, ◌≤◌}
use Rattle.lines.specs.Splitting.{before_newline}
use Rattle.lines.specs.Inner.{block_bytes}
use Rattle.lines.proofs.search.blocks_before.Given as goal

abbrev pub invariant-loop-block : goal.invariant-loop-block
invariant-loop-block l = l.block * block_bytes ≤ before_newline l.bytes
