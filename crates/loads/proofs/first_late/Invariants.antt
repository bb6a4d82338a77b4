use Rattle.base.specs.Scan.{first}
use Rattle.types.specs.declared.Form.TheVariants.{Packed}
use Rattle.model.specs.Checks.{late_at}
use Rattle.std.proofs.Common.{◌≡◌}
use Rattle.loads.proofs.first_late.Given as goal

abbrev pub invariant-loop-i : goal.invariant-loop-i
invariant-loop-i l = first (late_at l.gst l.delta l.time Packed l.network) l.i ≡ l.i
