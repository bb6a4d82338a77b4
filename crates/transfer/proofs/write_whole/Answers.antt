use Rattle.std.proofs.Common.{arith, ◌-◌, drop, length, take-add, take_all, length-drop}
use Rattle.std.proofs.KnownBytes.{Appends-trans}
use Rattle.transfer.proofs.write_whole.Goals as goal

pub loop-done-preserved : goal.loop-done-preserved
loop-done-preserved g c =
    let all = c.args.bytes.now in
    let done = c.loop-done.done in
    let inv = c.loop-done.invariant in
    let rest = take_all (length all - done) (drop done all) (omega (arith, length-drop done all)) in
    let bound = rw rest at c.in_ok-taken.ensures.bound in
    let more = rw rest at c.in_ok-taken.ensures.bytes in
    (omega (arith, inv.0, bound, length-drop done all), rw (take-add done c.in_ok-taken.taken all) (Appends-trans _ _ _ _ _ inv.1 more))
