-- How long the printed lines are: no number has more than twenty digits. Assumes nothing.
use Rattle.std.proofs.Common.{Ok, Err}
use mathlib.Core.List.{List, ◌++◌}
use Prim.Native.Nat.{ℕ, ◌+◌, ◌≤◌}
use native.Mathlib.Omega.{arith}
use lib.Dec.{eqb}
use lib.ListN.{length, length-append}
use Rattle.base.specs.Tests.{by_cond}
use Rattle.types.specs.declared.Counts.{Counts}
use Rattle.types.specs.declared.Traffic.{Traffic}
use Rattle.types.specs.declared.Answer.TheVariants.{Done, Stopped, Refused}
use Rattle.lines.specs.Forms.{view_word, vote_word, vc_word, qc_word}
use Rattle.lines.specs.Clauses.{line}
use Rattle.lines.specs.Printout.{answer_form, processor_form, all_word, traffic_form, waits_form, all_of, traffic_text, totals_text, report_most, totals_most}
use Rattle.lines.specs.Promises.{ShortAnswers, ShortProcessors, ShortReports}
use Rattle.lines.proofs.Decimals.{length_most}

pub answer-length : ShortAnswers
unfolding answer_form
answer-length (Done a h) = simp length-append (omega (arith, length_most a, length_most h))
answer-length (Stopped a h r) = simp length-append (omega (arith, length_most a, length_most h, length_most r))
answer-length (Refused r) = simp length-append (omega (arith, length_most r))

pub processor-length : ShortProcessors
unfolding processor_form
processor-length p view clock = simp length-append (omega (arith, length_most p, length_most view, length_most clock))

-- ---- the report

-- so many bytes hold the text
record Short (text : List ℕ) (most : ℕ) : Type 0 where
  fits : length text ≤ most

short-both : {v w : List ℕ} {a b : ℕ} → Short v a → Short w b → Short (v ++ w) (a + b)
short-both {v} {w} x y = record { fits = omega (arith, x.fits, y.fits, length-append v w) }

traffic-short : (kind : List ℕ) (sent delivered held : ℕ) → length kind ≤ 4 → Short (line (traffic_form kind sent delivered held)) report_most
traffic-short kind sent delivered held h = record { fits = simp length-append (omega (arith, length_most sent, length_most delivered, length_most held)) }

waits-short : (waits delivered : ℕ) → Short (line (waits_form waits delivered)) report_most
waits-short waits delivered = record { fits = simp length-append (omega (arith, length_most waits, length_most delivered)) }

text-short : (x : Traffic) (held : Counts) → Short (traffic_text x held) totals_most
text-short x held =
    let s = x.sent in
    let d = x.delivered in
    short-both (short-both (short-both (short-both (short-both
    (traffic-short view_word s.views d.views held.views (omega arith))
    (traffic-short vote_word s.votes d.votes held.votes (omega arith)))
    (traffic-short vc_word s.vcs d.vcs held.vcs (omega arith)))
    (traffic-short qc_word s.qcs d.qcs held.qcs (omega arith)))
    (traffic-short all_word (all_of s) (all_of d) (all_of held) (omega arith)))
    (waits-short x.waits (all_of d))

pub report-length : ShortReports
unfolding totals_text
report-length (Ok x) = (text-short x.traffic x.held).fits
report-length (Err check) = omega (arith, answer-length (Refused check))
