use Rattle.buffers.proofs.Firsts.{first-none, first_more, first-yes}
use Rattle.buffers.specs.Network.{begins_with}
use borrow.Author.Tests.{eq-eqb, ne_eqb}
use native.Mathlib.Omega.{arith}
use mathlib.Core.Path.{sym}
use Rattle.buffers.proofs.scan.Goals as goal

pub loop-i-init : goal.loop-i-init
loop-i-init c = (omega arith, first-none _)

pub returns-then-network-i : goal.returns-then-network-i
returns-then-network-i c = sym (first-yes (begins_with c.args.network.now c.args.x) c.args.h c.loop-i.i c.loop-i.invariant.1 (eq-eqb _ _ c.if-network-i.true) c.loop-i-test.true)

pub loop-i-preserved : goal.loop-i-preserved
loop-i-preserved c = (omega arith, first_more (begins_with c.args.network.now c.args.x) c.loop-i.i c.loop-i.invariant.1 (ne_eqb _ _ c.if-network-i.false))
