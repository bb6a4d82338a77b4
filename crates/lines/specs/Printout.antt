-- "A schedule and its printout": the bytes of each printed line; and those of a report of the traffic.
use Rattle.std.specs.Prelude.{ℕ, ◌*◌, cond, List, [], ◌∷◌, ◌++◌, eqb, Result, Ok, Err}
use Rattle.types.specs.declared.Answer.{Answer}
use Rattle.types.specs.declared.Answer.TheVariants.{Done, Stopped, Refused}
use Rattle.types.specs.declared.Counts.{Counts}
use Rattle.types.specs.declared.Traffic.{Traffic}
use Rattle.types.specs.declared.Totals.{Totals}
use Rattle.types.specs.Traffic.{wrapped}
use Rattle.lines.specs.Forms.{one_blank, view_word, vote_word, vc_word, qc_word, numbers_form}
use Rattle.lines.specs.Clauses.{line}

-- "done"
abbrev pub done_word : List ℕ
done_word = 100 ∷ 111 ∷ 110 ∷ 101 ∷ []

-- "stopped"
abbrev pub stopped_word : List ℕ
stopped_word = 115 ∷ 116 ∷ 111 ∷ 112 ∷ 112 ∷ 101 ∷ 100 ∷ []

-- "refused"
abbrev pub refused_word : List ℕ
refused_word = 114 ∷ 101 ∷ 102 ∷ 117 ∷ 115 ∷ 101 ∷ 100 ∷ []

-- "cabinet"
abbrev pub processor_word : List ℕ
processor_word = 99 ∷ 97 ∷ 98 ∷ 105 ∷ 110 ∷ 101 ∷ 116 ∷ []

-- "(done a h), a ticks done (0 for other forms), h messages held; (stopped a h r) for ticks ended by check 16, 17 or 18 ..; or (refused r)"
unfoldable pub answer_form : Answer → List ℕ
answer_form (Done a h) = numbers_form done_word (a ∷ h ∷ [])
answer_form (Stopped a h r) = numbers_form stopped_word (a ∷ h ∷ r ∷ [])
answer_form (Refused r) = numbers_form refused_word (r ∷ [])

-- "(cabinet p view clock)"
unfoldable pub processor_form : ℕ → ℕ → ℕ → List ℕ
processor_form p view clock = numbers_form processor_word (p ∷ view ∷ clock ∷ [])

-- the most bytes of such a line and its newline: "(stopped", three numbers of twenty digits, a blank before each, a bracket
abbrev pub printed_most : ℕ
printed_most = 73

-- ---- the report

-- "traffic"
abbrev pub traffic_word : List ℕ
traffic_word = 116 ∷ 114 ∷ 97 ∷ 102 ∷ 102 ∷ 105 ∷ 99 ∷ []

-- "all"
abbrev pub all_word : List ℕ
all_word = 97 ∷ 108 ∷ 108 ∷ []

-- "waits"
abbrev pub waits_word : List ℕ
waits_word = 119 ∷ 97 ∷ 105 ∷ 116 ∷ 115 ∷ []

-- (traffic view s d h) and the like: "messages sent and delivered by kind, those held"
abbrev pub traffic_form : List ℕ → ℕ → ℕ → ℕ → List ℕ
traffic_form kind sent delivered held = numbers_form (traffic_word ++ one_blank ++ kind) (sent ∷ delivered ∷ held ∷ [])

-- (waits w d): "the sum of waits .. beside the number delivered"
abbrev pub waits_form : ℕ → ℕ → List ℕ
waits_form waits delivered = numbers_form waits_word (waits ∷ delivered ∷ [])

-- all kinds together, which wrap as each does
abbrev pub all_of : Counts → ℕ
all_of x = wrapped (wrapped (wrapped x.views x.votes) x.vcs) x.qcs

-- a line for each kind, one for all of them, and one for the waits
abbrev pub traffic_text : Traffic → Counts → List ℕ
traffic_text x held =
    line (traffic_form view_word x.sent.views x.delivered.views held.views)
    ++ line (traffic_form vote_word x.sent.votes x.delivered.votes held.votes)
    ++ line (traffic_form vc_word x.sent.vcs x.delivered.vcs held.vcs)
    ++ line (traffic_form qc_word x.sent.qcs x.delivered.qcs held.qcs)
    ++ line (traffic_form all_word (all_of x.sent) (all_of x.delivered) (all_of held))
    ++ line (waits_form x.waits (all_of x.delivered))

-- a report that is refused is the line of its check
unfoldable pub totals_text : Result Totals ℕ → List ℕ
totals_text (Ok x) = traffic_text x.traffic x.held
totals_text (Err check) = line (answer_form (Refused check))

-- the most bytes of the word of a line, "traffic view", and the most numbers behind it
abbrev pub report_word_most : ℕ
report_word_most = 12

abbrev pub report_numbers_most : ℕ
report_numbers_most = 3

-- the most bytes of a line: such a word, such numbers of twenty digits, a blank before each, two brackets, the newline
abbrev pub report_most : ℕ
report_most = 78

-- and of all six
abbrev pub totals_most : ℕ
totals_most = 6 * report_most
