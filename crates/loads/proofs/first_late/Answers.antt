use Rattle.buffers.proofs.Firsts.{first-none, first_more, first-yes}
use Rattle.types.specs.declared.Form.TheVariants.{Packed}
use Rattle.model.specs.Checks.{late, late_at}
use Rattle.std.proofs.Common.{sym, ap, ◌∙◌}
use Rattle.loads.proofs.first_late.Goals as goal

pub loop-i-init : goal.loop-i-init
loop-i-init c = first-none _

pub returns-then-is_late : goal.returns-then-is_late
returns-then-is_late c = (first-yes (late_at c.args.gst c.args.delta c.args.time Packed c.args.network.now) c.args.held c.loop-i.i c.loop-i.invariant (sym (c.is_late.ensures ∙ ap (late c.args.gst c.args.delta c.args.time) c.sent.ensures) ∙ c.if-is_late.true) c.loop-i-test.true, c.loop-i-test.true)

pub loop-i-preserved : goal.loop-i-preserved
loop-i-preserved c = first_more (late_at c.args.gst c.args.delta c.args.time Packed c.args.network.now) c.loop-i.i c.loop-i.invariant (sym (c.is_late.ensures ∙ ap (late c.args.gst c.args.delta c.args.time) c.sent.ensures) ∙ c.if-is_late.false)
