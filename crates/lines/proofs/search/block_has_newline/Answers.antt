use Prim.Native.Nat.{◌+◌}
use lib.Bits.{bit_or}
use Rattle.lines.proofs.WordBytes.{word-tells, both-tell}
use Rattle.lines.proofs.search.block_has_newline.Goals as goal

pub returns : goal.returns
returns c =
    let start = c in
    let s = start.args.bytes.now in
    let i = start.args.i in
    let m1 = c.newlines_in-first in
    let m2 = c.newlines_in-second in
    let m3 = c.newlines_in-third in
    let m4 = c.newlines_in-fourth in
    let two = both-tell s i 8 8 m1.result m2.result (word-tells s i _ _ c.word_at.ensures m1.ensures) (word-tells s (i + 8) _ _ c.word_at-2.ensures m2.ensures) in
    let three = both-tell s i 16 8 (bit_or m1.result m2.result) m3.result two (word-tells s (i + 16) _ _ c.word_at-3.ensures m3.ensures) in
    both-tell s i 24 8 (bit_or (bit_or m1.result m2.result) m3.result) m4.result three (word-tells s (i + 24) _ _ c.word_at-4.ensures m4.ensures)
