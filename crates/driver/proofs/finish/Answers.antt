use lib.ListN.{length}
use lib.Dec.{ltb}
use mathlib.Core.Bool.{◌||◌}
use Rattle.driver.proofs.Texts.{left-inside, closing-room, closes}
use native.Mathlib.Omega.{arith}
use Rattle.driver.proofs.finish.Goals as goal

pub print_closing-closing-requires : goal.print_closing-closing-requires
print_closing-closing-requires c = closing-room (c.args.late || ltb 0 (length c.args.rest.now)) _ _ _ c.print_left-at.ensures (omega (arith, c.if-out-lt-CLOSING_MOST.false)) c.print_left-at.auto.out

pub returns : goal.returns
returns c = closes _ c.args.late c.args.rest.now _ _ _ _ _ (omega (arith, c.if-out-lt-CLOSING_MOST.false)) c.print_left-at.ensures (left-inside (c.args.late || ltb 0 (length c.args.rest.now)) _ _ _ c.print_left-at.ensures (omega (arith, c.if-out-lt-CLOSING_MOST.false)) c.print_left-at.auto.out) c.print_closing-closing.ensures
