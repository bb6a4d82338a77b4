use Rattle.std.proofs.Common.{arith, ◌-◌, ◌≤◌, drop, length, take_all, length-drop, sym, subst}
use Rattle.std.specs.Io.KnownBytes.{Consumes}
use Rattle.std.proofs.KnownBytes.{Consumes-trans}
use Rattle.transfer.proofs.Reading.{read-behind}
use Rattle.transfer.proofs.read_full.Goals as goal

pub loop-done-preserved : goal.loop-done-preserved
loop-done-preserved g c =
    let held = c.loop-done.buffer in
    let done = c.loop-done.done in
    let inv = c.loop-done.invariant in
    let rest = take_all (length held - done) (drop done held) (omega (arith, length-drop done held)) in
    let free = rw rest at c.read.auto.buf in
    let bound = c.in_ok-come.ensures.bound.0 in
    let within : done ≤ length held = omega (arith, inv.0, c.loop-done.auto.buffer) in (
      omega (arith, inv.0, bound, free, length-drop done held, c.loop-done.auto.buffer),
      subst (Consumes _ _) (sym (read-behind done (length held - done) c.in_ok-come.come held c.read.new.buf within bound))
          (Consumes-trans _ _ _ _ _ inv.1 c.in_ok-come.ensures.bytes.0),
    )
