-- The forms computed, as document 01 writes them, and where lines end. Assumes nothing.
use Rattle.std.specs.Prelude.{◌≡◌, refl, Bool, true, false, List, [], ◌∷◌, ◌++◌, map, ℕ, replicate, Err, Ok, Result}
use Rattle.types.specs.declared.Answer.TheVariants as Answer
use Rattle.types.specs.declared.Message.TheVariants.{View, Vote, Vc, Qc}
use Rattle.types.specs.declared.Event.TheVariants.{Deliver, Sign, Show, Settle, Tick}
use Rattle.model.specs.Rows.{plan_of, plan_with, standard, setup_of}
use Rattle.types.specs.declared.Setup.{Setup}
use Rattle.types.specs.declared.Counts.{Counts}
use Rattle.types.specs.declared.Totals.{Totals}
use Rattle.types.specs.Traffic.{counts_of, no_counts, traffic_of, no_traffic}
use Rattle.lines.specs.declared.Read.TheVariants as Read
use Rattle.lines.specs.declared.Next.{Next}
use Rattle.lines.specs.declared.Next.TheVariants.{Line, Long, Unfinished, Endless}
use Rattle.lines.specs.Decimal.{decimal}
use Rattle.lines.specs.Forms.{newline, joined, message_form, event_form, setup_form, usual_form, lacks_setup_form, trimmed}
use Rattle.lines.specs.Printout.{answer_form, processor_form, totals_text}
use Rattle.lines.specs.Clauses.{Reading, event_reading, no_form, read_check, written_as, written_in, written_check}
use Rattle.lines.specs.Splitting.{before_newline, next_line, Cut, ended, left, input_lines, cut_read}

-- ---- forms

pub form_rows : List (List ℕ)
form_rows =
    event_form (Deliver (View 0 0))
    ∷ event_form (Deliver (Vote 12 63))
    ∷ event_form (Deliver (Vc 3 1))
    ∷ event_form (Deliver (Qc 5999 10))
    ∷ event_form (Sign (View 9 2))
    ∷ event_form (Sign (Vote 10 2))
    ∷ event_form (Show (Vc 99 7))
    ∷ event_form (Show (Qc 100 0))
    ∷ event_form (Settle)
    ∷ event_form (Tick 3)
    ∷ event_form (Tick 18446744073709551615)
    ∷ setup_form (setup_of standard 0 (0 ∷ 0 ∷ 0 ∷ 0 ∷ []))
    ∷ setup_form (setup_of (plan_with 1 7 80 999 8) 1 (10 ∷ []))
    ∷ usual_form (setup_of standard 0 (0 ∷ 0 ∷ 0 ∷ 0 ∷ []))
    ∷ usual_form (setup_of (plan_of 1 7 80 999) 1 (10 ∷ []))
    ∷ []

pub form_bytes : List (List ℕ)
form_bytes =
    -- "(deliver (view 0 0))"
    (40 ∷ 100 ∷ 101 ∷ 108 ∷ 105 ∷ 118 ∷ 101 ∷ 114 ∷ 32 ∷ 40 ∷ 118 ∷ 105 ∷ 101 ∷ 119 ∷ 32 ∷ 48 ∷ 32 ∷ 48 ∷ 41 ∷ 41 ∷ [])
    -- "(deliver (vote 12 63))"
    ∷ (40 ∷ 100 ∷ 101 ∷ 108 ∷ 105 ∷ 118 ∷ 101 ∷ 114 ∷ 32 ∷ 40 ∷ 118 ∷ 111 ∷ 116 ∷ 101 ∷ 32 ∷ 49 ∷ 50 ∷ 32 ∷ 54 ∷ 51 ∷ 41 ∷ 41 ∷ [])
    -- "(deliver (vc 3 1))"
    ∷ (40 ∷ 100 ∷ 101 ∷ 108 ∷ 105 ∷ 118 ∷ 101 ∷ 114 ∷ 32 ∷ 40 ∷ 118 ∷ 99 ∷ 32 ∷ 51 ∷ 32 ∷ 49 ∷ 41 ∷ 41 ∷ [])
    -- "(deliver (qc 5999 10))"
    ∷ (40 ∷ 100 ∷ 101 ∷ 108 ∷ 105 ∷ 118 ∷ 101 ∷ 114 ∷ 32 ∷ 40 ∷ 113 ∷ 99 ∷ 32 ∷ 53 ∷ 57 ∷ 57 ∷ 57 ∷ 32 ∷ 49 ∷ 48 ∷ 41 ∷ 41 ∷ [])
    -- "(sign (view 9 2))"
    ∷ (40 ∷ 115 ∷ 105 ∷ 103 ∷ 110 ∷ 32 ∷ 40 ∷ 118 ∷ 105 ∷ 101 ∷ 119 ∷ 32 ∷ 57 ∷ 32 ∷ 50 ∷ 41 ∷ 41 ∷ [])
    -- "(sign (vote 10 2))"
    ∷ (40 ∷ 115 ∷ 105 ∷ 103 ∷ 110 ∷ 32 ∷ 40 ∷ 118 ∷ 111 ∷ 116 ∷ 101 ∷ 32 ∷ 49 ∷ 48 ∷ 32 ∷ 50 ∷ 41 ∷ 41 ∷ [])
    -- "(show (vc 99 7))"
    ∷ (40 ∷ 115 ∷ 104 ∷ 111 ∷ 119 ∷ 32 ∷ 40 ∷ 118 ∷ 99 ∷ 32 ∷ 57 ∷ 57 ∷ 32 ∷ 55 ∷ 41 ∷ 41 ∷ [])
    -- "(show (qc 100 0))"
    ∷ (40 ∷ 115 ∷ 104 ∷ 111 ∷ 119 ∷ 32 ∷ 40 ∷ 113 ∷ 99 ∷ 32 ∷ 49 ∷ 48 ∷ 48 ∷ 32 ∷ 48 ∷ 41 ∷ 41 ∷ [])
    -- "(settle)"
    ∷ (40 ∷ 115 ∷ 101 ∷ 116 ∷ 116 ∷ 108 ∷ 101 ∷ 41 ∷ [])
    -- "(tick 3)"
    ∷ (40 ∷ 116 ∷ 105 ∷ 99 ∷ 107 ∷ 32 ∷ 51 ∷ 41 ∷ [])
    -- "(tick 18446744073709551615)"
    ∷ (40 ∷ 116 ∷ 105 ∷ 99 ∷ 107 ∷ 32 ∷ 49 ∷ 56 ∷ 52 ∷ 52 ∷ 54 ∷ 55 ∷ 52 ∷ 52 ∷ 48 ∷ 55 ∷ 51 ∷ 55 ∷ 48 ∷ 57 ∷ 53 ∷ 53 ∷ 49 ∷ 54 ∷ 49 ∷ 53 ∷ 41 ∷ [])
    -- "(open 4 2 4 6 3 0 (0 0 0 0))"
    ∷ (40 ∷ 111 ∷ 112 ∷ 101 ∷ 110 ∷ 32 ∷ 52 ∷ 32 ∷ 50 ∷ 32 ∷ 52 ∷ 32 ∷ 54 ∷ 32 ∷ 51 ∷ 32 ∷ 48 ∷ 32 ∷ 40 ∷ 48 ∷ 32 ∷ 48 ∷ 32 ∷ 48 ∷ 32 ∷ 48 ∷ 41 ∷ 41 ∷ [])
    -- "(open 1 7 80 999 8 1 (10))"
    ∷ (40 ∷ 111 ∷ 112 ∷ 101 ∷ 110 ∷ 32 ∷ 49 ∷ 32 ∷ 55 ∷ 32 ∷ 56 ∷ 48 ∷ 32 ∷ 57 ∷ 57 ∷ 57 ∷ 32 ∷ 56 ∷ 32 ∷ 49 ∷ 32 ∷ 40 ∷ 49 ∷ 48 ∷ 41 ∷ 41 ∷ [])
    -- "(open 4 2 4 6 0 (0 0 0 0))"
    ∷ (40 ∷ 111 ∷ 112 ∷ 101 ∷ 110 ∷ 32 ∷ 52 ∷ 32 ∷ 50 ∷ 32 ∷ 52 ∷ 32 ∷ 54 ∷ 32 ∷ 48 ∷ 32 ∷ 40 ∷ 48 ∷ 32 ∷ 48 ∷ 32 ∷ 48 ∷ 32 ∷ 48 ∷ 41 ∷ 41 ∷ [])
    -- "(open 1 7 80 999 1 (10))"
    ∷ (40 ∷ 111 ∷ 112 ∷ 101 ∷ 110 ∷ 32 ∷ 49 ∷ 32 ∷ 55 ∷ 32 ∷ 56 ∷ 48 ∷ 32 ∷ 57 ∷ 57 ∷ 57 ∷ 32 ∷ 49 ∷ 32 ∷ 40 ∷ 49 ∷ 48 ∷ 41 ∷ 41 ∷ [])
    ∷ []

pub form_rows-hold : form_rows ≡ form_bytes
unfolding form_rows form_bytes event_form message_form setup_form usual_form decimal
form_rows-hold = refl

-- ---- printed lines

pub printed_rows : List (List ℕ)
printed_rows =
    answer_form (Answer.Done 0 8)
    ∷ answer_form (Answer.Stopped 2 10 16)
    ∷ answer_form (Answer.Refused 18)
    ∷ processor_form 63 5 18446744073709551615
    ∷ []

pub printed_bytes : List (List ℕ)
printed_bytes =
    -- "(done 0 8)"
    (40 ∷ 100 ∷ 111 ∷ 110 ∷ 101 ∷ 32 ∷ 48 ∷ 32 ∷ 56 ∷ 41 ∷ [])
    -- "(stopped 2 10 16)"
    ∷ (40 ∷ 115 ∷ 116 ∷ 111 ∷ 112 ∷ 112 ∷ 101 ∷ 100 ∷ 32 ∷ 50 ∷ 32 ∷ 49 ∷ 48 ∷ 32 ∷ 49 ∷ 54 ∷ 41 ∷ [])
    -- "(refused 18)"
    ∷ (40 ∷ 114 ∷ 101 ∷ 102 ∷ 117 ∷ 115 ∷ 101 ∷ 100 ∷ 32 ∷ 49 ∷ 56 ∷ 41 ∷ [])
    -- "(cabinet 63 5 18446744073709551615)"
    ∷ (40 ∷ 99 ∷ 97 ∷ 98 ∷ 105 ∷ 110 ∷ 101 ∷ 116 ∷ 32 ∷ 54 ∷ 51 ∷ 32 ∷ 53 ∷ 32 ∷ 49 ∷ 56 ∷ 52 ∷ 52 ∷ 54 ∷ 55 ∷ 52 ∷ 52 ∷ 48 ∷ 55 ∷ 51 ∷ 55 ∷ 48 ∷ 57 ∷ 53 ∷ 53 ∷ 49 ∷ 54 ∷ 49 ∷ 53 ∷ 41 ∷ [])
    ∷ []

pub printed_rows-hold : printed_rows ≡ printed_bytes
unfolding printed_rows printed_bytes answer_form processor_form decimal
printed_rows-hold = refl

-- ---- reports

abbrev pub totals_with : Counts → Counts → ℕ → Counts → Result Totals ℕ
totals_with sent delivered waits held = Ok (record { traffic = traffic_of sent delivered waits; held = held })

-- of document 01's schedule; with no number twice; at 2^64; refused
pub report_rows : List (List ℕ)
report_rows =
    totals_text (totals_with (counts_of 4 4 4 0) (counts_of 2 0 0 0) 0 (counts_of 2 4 4 0))
    ∷ totals_text (totals_with (counts_of 11 12 13 14) (counts_of 21 22 23 24) 41 (counts_of 31 32 33 34))
    ∷ totals_text (totals_with (counts_of 18446744073709551615 2 3 18446744073709551615) (counts_of 18446744073709551615 0 0 1) 18446744073709551615 (counts_of 0 0 0 5))
    ∷ totals_text (Err 9)
    ∷ []

pub report_bytes : List (List ℕ)
report_bytes =
    -- "(traffic view 4 2 2)"
    joined ((40 ∷ 116 ∷ 114 ∷ 97 ∷ 102 ∷ 102 ∷ 105 ∷ 99 ∷ 32 ∷ 118 ∷ 105 ∷ 101 ∷ 119 ∷ 32 ∷ 52 ∷ 32 ∷ 50 ∷ 32 ∷ 50 ∷ 41 ∷ 10 ∷ [])
    -- "(traffic vote 4 0 4)"
    ∷ (40 ∷ 116 ∷ 114 ∷ 97 ∷ 102 ∷ 102 ∷ 105 ∷ 99 ∷ 32 ∷ 118 ∷ 111 ∷ 116 ∷ 101 ∷ 32 ∷ 52 ∷ 32 ∷ 48 ∷ 32 ∷ 52 ∷ 41 ∷ 10 ∷ [])
    -- "(traffic vc 4 0 4)"
    ∷ (40 ∷ 116 ∷ 114 ∷ 97 ∷ 102 ∷ 102 ∷ 105 ∷ 99 ∷ 32 ∷ 118 ∷ 99 ∷ 32 ∷ 52 ∷ 32 ∷ 48 ∷ 32 ∷ 52 ∷ 41 ∷ 10 ∷ [])
    -- "(traffic qc 0 0 0)"
    ∷ (40 ∷ 116 ∷ 114 ∷ 97 ∷ 102 ∷ 102 ∷ 105 ∷ 99 ∷ 32 ∷ 113 ∷ 99 ∷ 32 ∷ 48 ∷ 32 ∷ 48 ∷ 32 ∷ 48 ∷ 41 ∷ 10 ∷ [])
    -- "(traffic all 12 2 10)"
    ∷ (40 ∷ 116 ∷ 114 ∷ 97 ∷ 102 ∷ 102 ∷ 105 ∷ 99 ∷ 32 ∷ 97 ∷ 108 ∷ 108 ∷ 32 ∷ 49 ∷ 50 ∷ 32 ∷ 50 ∷ 32 ∷ 49 ∷ 48 ∷ 41 ∷ 10 ∷ [])
    -- "(waits 0 2)"
    ∷ (40 ∷ 119 ∷ 97 ∷ 105 ∷ 116 ∷ 115 ∷ 32 ∷ 48 ∷ 32 ∷ 50 ∷ 41 ∷ 10 ∷ []) ∷ [])
    -- "(traffic view 11 21 31)"
    ∷ joined ((40 ∷ 116 ∷ 114 ∷ 97 ∷ 102 ∷ 102 ∷ 105 ∷ 99 ∷ 32 ∷ 118 ∷ 105 ∷ 101 ∷ 119 ∷ 32 ∷ 49 ∷ 49 ∷ 32 ∷ 50 ∷ 49 ∷ 32 ∷ 51 ∷ 49 ∷ 41 ∷ 10 ∷ [])
    -- "(traffic vote 12 22 32)"
    ∷ (40 ∷ 116 ∷ 114 ∷ 97 ∷ 102 ∷ 102 ∷ 105 ∷ 99 ∷ 32 ∷ 118 ∷ 111 ∷ 116 ∷ 101 ∷ 32 ∷ 49 ∷ 50 ∷ 32 ∷ 50 ∷ 50 ∷ 32 ∷ 51 ∷ 50 ∷ 41 ∷ 10 ∷ [])
    -- "(traffic vc 13 23 33)"
    ∷ (40 ∷ 116 ∷ 114 ∷ 97 ∷ 102 ∷ 102 ∷ 105 ∷ 99 ∷ 32 ∷ 118 ∷ 99 ∷ 32 ∷ 49 ∷ 51 ∷ 32 ∷ 50 ∷ 51 ∷ 32 ∷ 51 ∷ 51 ∷ 41 ∷ 10 ∷ [])
    -- "(traffic qc 14 24 34)"
    ∷ (40 ∷ 116 ∷ 114 ∷ 97 ∷ 102 ∷ 102 ∷ 105 ∷ 99 ∷ 32 ∷ 113 ∷ 99 ∷ 32 ∷ 49 ∷ 52 ∷ 32 ∷ 50 ∷ 52 ∷ 32 ∷ 51 ∷ 52 ∷ 41 ∷ 10 ∷ [])
    -- "(traffic all 50 90 130)"
    ∷ (40 ∷ 116 ∷ 114 ∷ 97 ∷ 102 ∷ 102 ∷ 105 ∷ 99 ∷ 32 ∷ 97 ∷ 108 ∷ 108 ∷ 32 ∷ 53 ∷ 48 ∷ 32 ∷ 57 ∷ 48 ∷ 32 ∷ 49 ∷ 51 ∷ 48 ∷ 41 ∷ 10 ∷ [])
    -- "(waits 41 90)"
    ∷ (40 ∷ 119 ∷ 97 ∷ 105 ∷ 116 ∷ 115 ∷ 32 ∷ 52 ∷ 49 ∷ 32 ∷ 57 ∷ 48 ∷ 41 ∷ 10 ∷ []) ∷ [])
    -- "(traffic view 18446744073709551615 18446744073709551615 0)"
    ∷ joined ((40 ∷ 116 ∷ 114 ∷ 97 ∷ 102 ∷ 102 ∷ 105 ∷ 99 ∷ 32 ∷ 118 ∷ 105 ∷ 101 ∷ 119 ∷ 32 ∷ 49 ∷ 56 ∷ 52 ∷ 52 ∷ 54 ∷ 55 ∷ 52 ∷ 52 ∷ 48 ∷ 55 ∷ 51 ∷ 55 ∷ 48 ∷ 57 ∷ 53 ∷ 53 ∷ 49 ∷ 54 ∷ 49 ∷ 53 ∷ 32 ∷ 49 ∷ 56 ∷ 52 ∷ 52 ∷ 54 ∷ 55 ∷ 52 ∷ 52 ∷ 48 ∷ 55 ∷ 51 ∷ 55 ∷ 48 ∷ 57 ∷ 53 ∷ 53 ∷ 49 ∷ 54 ∷ 49 ∷ 53 ∷ 32 ∷ 48 ∷ 41 ∷ 10 ∷ [])
    -- "(traffic vote 2 0 0)"
    ∷ (40 ∷ 116 ∷ 114 ∷ 97 ∷ 102 ∷ 102 ∷ 105 ∷ 99 ∷ 32 ∷ 118 ∷ 111 ∷ 116 ∷ 101 ∷ 32 ∷ 50 ∷ 32 ∷ 48 ∷ 32 ∷ 48 ∷ 41 ∷ 10 ∷ [])
    -- "(traffic vc 3 0 0)"
    ∷ (40 ∷ 116 ∷ 114 ∷ 97 ∷ 102 ∷ 102 ∷ 105 ∷ 99 ∷ 32 ∷ 118 ∷ 99 ∷ 32 ∷ 51 ∷ 32 ∷ 48 ∷ 32 ∷ 48 ∷ 41 ∷ 10 ∷ [])
    -- "(traffic qc 18446744073709551615 1 5)"
    ∷ (40 ∷ 116 ∷ 114 ∷ 97 ∷ 102 ∷ 102 ∷ 105 ∷ 99 ∷ 32 ∷ 113 ∷ 99 ∷ 32 ∷ 49 ∷ 56 ∷ 52 ∷ 52 ∷ 54 ∷ 55 ∷ 52 ∷ 52 ∷ 48 ∷ 55 ∷ 51 ∷ 55 ∷ 48 ∷ 57 ∷ 53 ∷ 53 ∷ 49 ∷ 54 ∷ 49 ∷ 53 ∷ 32 ∷ 49 ∷ 32 ∷ 53 ∷ 41 ∷ 10 ∷ [])
    -- "(traffic all 3 0 5)"
    ∷ (40 ∷ 116 ∷ 114 ∷ 97 ∷ 102 ∷ 102 ∷ 105 ∷ 99 ∷ 32 ∷ 97 ∷ 108 ∷ 108 ∷ 32 ∷ 51 ∷ 32 ∷ 48 ∷ 32 ∷ 53 ∷ 41 ∷ 10 ∷ [])
    -- "(waits 18446744073709551615 0)"
    ∷ (40 ∷ 119 ∷ 97 ∷ 105 ∷ 116 ∷ 115 ∷ 32 ∷ 49 ∷ 56 ∷ 52 ∷ 52 ∷ 54 ∷ 55 ∷ 52 ∷ 52 ∷ 48 ∷ 55 ∷ 51 ∷ 55 ∷ 48 ∷ 57 ∷ 53 ∷ 53 ∷ 49 ∷ 54 ∷ 49 ∷ 53 ∷ 32 ∷ 48 ∷ 41 ∷ 10 ∷ []) ∷ [])
    -- "(refused 9)"
    ∷ (40 ∷ 114 ∷ 101 ∷ 102 ∷ 117 ∷ 115 ∷ 101 ∷ 100 ∷ 32 ∷ 57 ∷ 41 ∷ 10 ∷ [])
    ∷ []

pub report_rows-hold : report_rows ≡ report_bytes
unfolding report_rows report_bytes totals_text answer_form decimal
report_rows-hold = refl

-- ---- the next line

pub nexts : List Next
nexts =
    next_line []
    ∷ next_line (newline ∷ [])
    ∷ next_line (40 ∷ 41 ∷ newline ∷ 40 ∷ newline ∷ [])
    ∷ next_line (40 ∷ 41 ∷ [])
    ∷ next_line (replicate 4800 32 ++ (newline ∷ 40 ∷ []))
    ∷ next_line (replicate 4801 32 ++ (newline ∷ 40 ∷ []))
    ∷ next_line (replicate 4800 32)
    ∷ next_line (replicate 4801 32)
    ∷ next_line (replicate 7 138 ++ (newline ∷ []))
    ∷ next_line (replicate 8 11 ++ (newline ∷ []))
    ∷ next_line (replicate 31 138 ++ (newline ∷ newline ∷ []))
    ∷ next_line (replicate 32 11 ++ (newline ∷ replicate 8 newline))
    ∷ next_line (replicate 39 138)
    ∷ []

-- the last five around the end of a word and of four
pub nexts-hold : nexts
    ≡ (Unfinished ∷ Line 0 ∷ Line 2 ∷ Unfinished ∷ Line 4800 ∷ Long 4801 ∷ Unfinished ∷ Endless ∷ Line 7 ∷ Line 8 ∷ Line 31 ∷ Line 32 ∷ Unfinished ∷ [])
unfolding nexts next_line before_newline
nexts-hold = refl

-- ---- the lines of an input

pub cut_inputs : List (List Cut)
cut_inputs =
    input_lines []
    ∷ input_lines (newline ∷ [])
    ∷ input_lines (40 ∷ newline ∷ newline ∷ 41 ∷ [])
    ∷ []

pub cut_inputs-hold : cut_inputs ≡ ([] ∷ (ended [] ∷ []) ∷ (ended (40 ∷ []) ∷ ended [] ∷ left ∷ []) ∷ [])
unfolding cut_inputs input_lines
cut_inputs-hold = refl

-- as if every line were "(settle)"
abbrev pub read_settle : List ℕ → Reading
read_settle s = event_reading Settle

pub cut_readings : List Reading
cut_readings = cut_read read_settle left ∷ cut_read read_settle (ended (replicate 4800 32)) ∷ cut_read read_settle (ended (replicate 4801 32)) ∷ []

pub cut_readings-hold : cut_readings ≡ (no_form ∷ event_reading Settle ∷ no_form ∷ [])
unfolding cut_readings
cut_readings-hold = refl

-- ---- what has a form: n is 0, 1, 64, 65

abbrev pub of_size : ℕ → Setup
of_size n = setup_of (plan_of n 2 4 6) 0 []

pub sizes : List Bool
sizes = map (λ n. lacks_setup_form (of_size n)) (0 ∷ 1 ∷ 64 ∷ 65 ∷ [])

pub sizes-hold : sizes ≡ (true ∷ false ∷ false ∷ true ∷ [])
unfolding sizes
sizes-hold = refl

-- a clock from n on is not written, and 0 when read
pub beyond-n : (setup_form (setup_of (plan_of 1 7 80 999) 1 (10 ∷ 20 ∷ [])) ≡ setup_form (setup_of (plan_of 1 7 80 999) 1 (10 ∷ [])))
    × (trimmed (setup_of (plan_of 1 7 80 999) 1 (10 ∷ 20 ∷ [])) ≡ setup_of (plan_of 1 7 80 999) 1 (10 ∷ []))
unfolding setup_form trimmed
beyond-n = (refl, refl)

-- ---- writing "()" into a byte more than its line has, as many, one less, and what has no form

abbrev pub brackets : List ℕ
brackets = 40 ∷ 41 ∷ []

pub written_answers : List (Result ℕ ℕ)
written_answers = written_as false brackets (replicate 4 7) ∷ written_as false brackets (replicate 3 7) ∷ written_as false brackets (replicate 2 7) ∷ written_as true brackets (replicate 4 7) ∷ []

pub written_answers-hold : written_answers ≡ (Ok 3 ∷ Ok 3 ∷ Err 1 ∷ Err 1 ∷ [])
unfolding written_answers written_as
written_answers-hold = refl

pub written_buffers : List (List ℕ)
written_buffers = written_in false brackets (replicate 4 7) ∷ written_in false brackets (replicate 3 7) ∷ written_in false brackets (replicate 2 7) ∷ written_in true brackets (replicate 4 7) ∷ []

pub written_buffers-hold : written_buffers ≡ ((40 ∷ 41 ∷ 10 ∷ 7 ∷ []) ∷ (40 ∷ 41 ∷ 10 ∷ []) ∷ (7 ∷ 7 ∷ []) ∷ (7 ∷ 7 ∷ 7 ∷ 7 ∷ []) ∷ [])
unfolding written_buffers written_in
written_buffers-hold = refl

-- document 01's numbers
pub numbers-hold : map written_check written_answers ≡ (0 ∷ 0 ∷ 1 ∷ 1 ∷ [])
unfolding written_answers written_as
numbers-hold = refl

pub checks-hold : map read_check (Read.Event Settle ∷ Read.Opening ∷ Read.NoForm ∷ []) ≡ (0 ∷ 0 ∷ 1 ∷ [])
checks-hold = refl
