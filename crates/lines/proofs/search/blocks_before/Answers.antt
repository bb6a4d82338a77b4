use Rattle.std.proofs.Common.{arith}
use Rattle.base.specs.Choice.{flag}
use Rattle.lines.specs.Inner.{block_bytes}
use Rattle.lines.proofs.Newlines.{before-most, none-among, some-among}
use Rattle.lines.proofs.search.blocks_before.Goals as goal

pub returns-then-block_has_newline : goal.returns-then-block_has_newline
returns-then-block_has_newline c =
    omega (arith, some-among _ _ block_bytes c.loop-block.invariant (flag _ _ _ c.block_has_newline.ensures c.if-block_has_newline.true))

pub loop-block-preserved : goal.loop-block-preserved
loop-block-preserved c =
    omega (arith, none-among _ _ block_bytes c.loop-block.invariant (omega arith) (flag _ _ _ c.block_has_newline.ensures c.if-block_has_newline.false))

pub returns : goal.returns
returns c = omega (arith, before-most c.args.bytes.now)
