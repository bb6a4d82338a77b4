-- What is printed, computed. Assumes nothing.
use Rattle.std.specs.Prelude.{◌≡◌, refl, true, false, List, [], ◌∷◌, ◌++◌, map, ℕ, ◌^◌, ◌-◌, length, replicate}
use Rattle.types.specs.declared.Message.TheVariants.{View, Vote, Qc}
use Rattle.types.specs.declared.Event.{Event}
use Rattle.types.specs.declared.Event.TheVariants.{Deliver, Sign, Show, Settle, Tick}
use Rattle.types.specs.declared.Answer.{Answer}
use Rattle.types.specs.declared.Answer.TheVariants.{Done, Stopped, Refused}
use Rattle.types.specs.declared.Counts.{Counts}
use Rattle.types.specs.Traffic.{counts_of, traffic_of, no_counts, no_traffic}
use Rattle.model.specs.Rows.{definitions, plan_of, standard, zeroes, setup_of, handed_in, Row, agreeing, number, truth, words}
use Rattle.model.specs.State.{State, state_of, run_of}
use Rattle.model.specs.Traffic.{totals}
use Rattle.lines.specs.Decimal.{decimal}
use Rattle.lines.specs.Forms.{newline, message_form, event_form, setup_form}
use Rattle.lines.specs.Clauses.{line}
use Rattle.lines.specs.Printout.{answer_form, processor_form, traffic_text, totals_text}
use Rattle.lines.specs.Splitting.{ended, input_lines}
use Rattle.lines.specs.Promises.{schedule_of}
use Rattle.reader.specs.Bytes.{class_of, class_at}
use Rattle.reader.specs.Scan.{after_word, number_at, next_number_at}
use Rattle.reader.specs.Lines.{kind_found_at, message_at, ending_at, deliver_at, sign_at, show_at, ticks_at, event_at, heading_at, first_clock_at, table_end_at, table_at, opening_at, reading}
use Rattle.printout.specs.Printout.{Standing, standing_of, leaving, unopened_session, at_start, ticks_printed, printed_answer, event_reply, opening_reply, line_accepted, standing_after, closing, printed_from, printout}
use Rattle.printout.specs.Traffic.{report_text, traffic_printout}

-- names all that has to unfold for a printout to compute
unfoldable pub printing : ℕ
unfolding definitions decimal message_form event_form setup_form answer_form processor_form input_lines class_of class_at after_word number_at kind_found_at message_at ending_at deliver_at sign_at show_at ticks_at event_at heading_at first_clock_at table_end_at next_number_at table_at opening_at reading ticks_printed printed_answer event_reply opening_reply closing printout totals totals_text report_text traffic_printout
printing = 0

-- ---- "A schedule and its printout"

pub schedule_lines : List (List ℕ)
schedule_lines =
    -- "(open 4 2 4 6 0 (0 0 0 0))"
    (40 ∷ 111 ∷ 112 ∷ 101 ∷ 110 ∷ 32 ∷ 52 ∷ 32 ∷ 50 ∷ 32 ∷ 52 ∷ 32 ∷ 54 ∷ 32 ∷ 48 ∷ 32 ∷ 40 ∷ 48 ∷ 32 ∷ 48 ∷ 32 ∷ 48 ∷ 32 ∷ 48 ∷ 41 ∷ 41 ∷ [])
    -- "(deliver (view 0 0))"
    ∷ (40 ∷ 100 ∷ 101 ∷ 108 ∷ 105 ∷ 118 ∷ 101 ∷ 114 ∷ 32 ∷ 40 ∷ 118 ∷ 105 ∷ 101 ∷ 119 ∷ 32 ∷ 48 ∷ 32 ∷ 48 ∷ 41 ∷ 41 ∷ [])
    -- "(deliver (view 0 1))"
    ∷ (40 ∷ 100 ∷ 101 ∷ 108 ∷ 105 ∷ 118 ∷ 101 ∷ 114 ∷ 32 ∷ 40 ∷ 118 ∷ 105 ∷ 101 ∷ 119 ∷ 32 ∷ 48 ∷ 32 ∷ 49 ∷ 41 ∷ 41 ∷ [])
    -- "(tick 3)"
    ∷ (40 ∷ 116 ∷ 105 ∷ 99 ∷ 107 ∷ 32 ∷ 51 ∷ 41 ∷ [])
    -- "(settle)"
    ∷ (40 ∷ 115 ∷ 101 ∷ 116 ∷ 116 ∷ 108 ∷ 101 ∷ 41 ∷ [])
    -- "(tick 3)"
    ∷ (40 ∷ 116 ∷ 105 ∷ 99 ∷ 107 ∷ 32 ∷ 51 ∷ 41 ∷ [])
    ∷ []

pub printout_lines : List (List ℕ)
printout_lines =
    -- "(done 0 8)"
    (40 ∷ 100 ∷ 111 ∷ 110 ∷ 101 ∷ 32 ∷ 48 ∷ 32 ∷ 56 ∷ 41 ∷ [])
    -- "(done 0 7)"
    ∷ (40 ∷ 100 ∷ 111 ∷ 110 ∷ 101 ∷ 32 ∷ 48 ∷ 32 ∷ 55 ∷ 41 ∷ [])
    -- "(done 0 10)"
    ∷ (40 ∷ 100 ∷ 111 ∷ 110 ∷ 101 ∷ 32 ∷ 48 ∷ 32 ∷ 49 ∷ 48 ∷ 41 ∷ [])
    -- "(done 3 10)"
    ∷ (40 ∷ 100 ∷ 111 ∷ 110 ∷ 101 ∷ 32 ∷ 51 ∷ 32 ∷ 49 ∷ 48 ∷ 41 ∷ [])
    -- "(done 0 10)"
    ∷ (40 ∷ 100 ∷ 111 ∷ 110 ∷ 101 ∷ 32 ∷ 48 ∷ 32 ∷ 49 ∷ 48 ∷ 41 ∷ [])
    -- "(stopped 2 10 16)"
    ∷ (40 ∷ 115 ∷ 116 ∷ 111 ∷ 112 ∷ 112 ∷ 101 ∷ 100 ∷ 32 ∷ 50 ∷ 32 ∷ 49 ∷ 48 ∷ 32 ∷ 49 ∷ 54 ∷ 41 ∷ [])
    -- "(cabinet 0 0 5)"
    ∷ (40 ∷ 99 ∷ 97 ∷ 98 ∷ 105 ∷ 110 ∷ 101 ∷ 116 ∷ 32 ∷ 48 ∷ 32 ∷ 48 ∷ 32 ∷ 53 ∷ 41 ∷ [])
    -- "(cabinet 1 0 5)"
    ∷ (40 ∷ 99 ∷ 97 ∷ 98 ∷ 105 ∷ 110 ∷ 101 ∷ 116 ∷ 32 ∷ 49 ∷ 32 ∷ 48 ∷ 32 ∷ 53 ∷ 41 ∷ [])
    -- "(cabinet 2 0 5)"
    ∷ (40 ∷ 99 ∷ 97 ∷ 98 ∷ 105 ∷ 110 ∷ 101 ∷ 116 ∷ 32 ∷ 50 ∷ 32 ∷ 48 ∷ 32 ∷ 53 ∷ 41 ∷ [])
    -- "(cabinet 3 0 5)"
    ∷ (40 ∷ 99 ∷ 97 ∷ 98 ∷ 105 ∷ 110 ∷ 101 ∷ 116 ∷ 32 ∷ 51 ∷ 32 ∷ 48 ∷ 32 ∷ 53 ∷ 41 ∷ [])
    ∷ []

pub schedule-printed : printout (schedule_of schedule_lines) ≡ schedule_of printout_lines
unfolding schedule_lines printout_lines printing
schedule-printed = refl

-- ---- other inputs

-- what an input prints, beside the answers to its lines and what comes at the end
abbrev pub row : Standing → List ℕ → List Answer → List (List ℕ) → Row
row x s answers end = words (printed_from x (input_lines s)) (schedule_of (map answer_form answers ++ end))

-- so many tally and network words lent
abbrev pub lending : ℕ → ℕ → Standing
lending t w = standing_of unopened_session (replicate t 0) (replicate w 0)

-- those of 6 views and of 16 messages
abbrev pub small : Standing
small = lending 24 32

-- "(open 4 2 4 6 mask (c c c c))"
abbrev pub opens : ℕ → ℕ → List ℕ
opens faulty c = setup_form (setup_of standard faulty (replicate 4 c))

-- a start clock of 3Γ: check 7
abbrev pub refused_opens : List ℕ
refused_opens = opens 0 12

abbrev pub event_lines : List Event → List (List ℕ)
event_lines es = map event_form es

-- the lines of these processors, all in one view with one clock
abbrev pub places : List ℕ → ℕ → ℕ → List (List ℕ)
places ps view clock = map (λ p. processor_form p view clock) ps

abbrev pub four : List ℕ
four = 0 ∷ 1 ∷ 2 ∷ 3 ∷ []

pub inputs : List Row
inputs =
    -- nothing; an empty line; no newline
    row small [] [] []
    ∷ row small (newline ∷ []) (Refused 1 ∷ []) []
    ∷ row small (opens 0 0) (Refused 1 ∷ []) []
    -- before an opening, and after one that is refused: no run, so none at the end
    ∷ row small (schedule_of (event_lines (Settle ∷ Tick 1 ∷ Tick 0 ∷ Deliver (View 0 0) ∷ []))) (Refused 9 ∷ Refused 9 ∷ Refused 1 ∷ Refused 9 ∷ []) []
    ∷ row small (schedule_of (refused_opens ∷ event_lines (Tick 1 ∷ Settle ∷ []))) (Refused 7 ∷ Refused 9 ∷ Refused 9 ∷ []) []
    -- refused lines, then an opening; what is left after the last newline is not done
    ∷ row small (schedule_of (event_form Settle ∷ refused_opens ∷ opens 0 0 ∷ event_lines (Tick 0 ∷ [])) ++ event_form (Tick 1))
    (Refused 9 ∷ Refused 7 ∷ Done 0 8 ∷ Refused 1 ∷ Refused 1 ∷ []) (places four 0 0)
    -- an empty line within
    ∷ row small (schedule_of (opens 0 0 ∷ [] ∷ event_lines (Tick 1 ∷ []))) (Done 0 8 ∷ Refused 1 ∷ Done 1 8 ∷ []) (places four 0 1)
    -- a faulty processor is not among those at the end
    ∷ row small (schedule_of (opens 4 0 ∷ [])) (Done 0 6 ∷ []) (places (0 ∷ 1 ∷ 3 ∷ []) 0 0)
    -- a refused opening leaves the run going, with its messages
    ∷ row small (schedule_of (opens 0 0 ∷ event_lines (Deliver (View 0 0) ∷ Tick 2 ∷ []) ++ (refused_opens ∷ event_lines (Tick 1 ∷ []))))
    (Done 0 8 ∷ Done 0 7 ∷ Done 2 7 ∷ Refused 7 ∷ Done 1 7 ∷ []) (places four 0 3)
    -- an accepted one begins another: unsettled, with other processors and clocks
    ∷ row small (schedule_of (opens 0 0 ∷ event_lines (Settle ∷ Tick 2 ∷ []) ++ (opens 8 5 ∷ event_lines (Tick 3 ∷ Settle ∷ []))))
    (Done 0 8 ∷ Done 0 8 ∷ Done 2 8 ∷ Done 0 6 ∷ Done 3 6 ∷ Done 0 6 ∷ []) (places (0 ∷ 1 ∷ 2 ∷ []) 0 8)
    ∷ []

pub inputs-hold : agreeing 0 inputs ≡ length inputs
unfolding inputs printing
inputs-hold = refl

-- ---- "ticks ended by check 16, 17 or 18"

pub refusals : List Row
refusals =
    -- by 16, after two ticks and after none; by 17; by 18
    row small (schedule_of (opens 0 0 ∷ event_lines (Settle ∷ Tick 5 ∷ Tick 5 ∷ []))) (Done 0 8 ∷ Done 0 8 ∷ Stopped 2 8 16 ∷ Stopped 0 8 16 ∷ []) (places four 0 2)
    ∷ row small (schedule_of (opens 0 11 ∷ event_lines (Tick 13 ∷ Tick 1 ∷ []))) (Done 0 8 ∷ Stopped 12 16 17 ∷ Stopped 0 16 17 ∷ []) (places four 3 23)
    ∷ row small (schedule_of (opens 0 10 ∷ event_lines (Deliver (View 0 0) ∷ Deliver (View 0 1) ∷ Tick 2 ∷ Tick 2 ∷ [])))
    (Done 0 8 ∷ Done 0 7 ∷ Done 0 10 ∷ Stopped 1 10 18 ∷ Stopped 0 10 18 ∷ []) (places four 0 11)
    -- only ticks are stopped: other events, refused by 15 and 18
    ∷ row small (schedule_of (opens 0 0 ∷ event_lines (Settle ∷ Settle ∷ []))) (Done 0 8 ∷ Done 0 8 ∷ Refused 15 ∷ []) (places four 0 0)
    ∷ row small (schedule_of (opens 0 11 ∷ event_lines (Tick 1 ∷ Deliver (Vote 0 0) ∷ Deliver (Vote 0 1) ∷ Deliver (Vote 0 2) ∷ [])))
    (Done 0 8 ∷ Done 1 16 ∷ Done 0 15 ∷ Done 0 14 ∷ Refused 18 ∷ []) (places four 3 12)
    ∷ row (lending 24 24) (schedule_of (opens 8 11 ∷ event_lines (Tick 1 ∷ Deliver (Vote 0 0) ∷ Deliver (Vote 0 1) ∷ Sign (Vote 0 3) ∷ [])))
    (Done 0 6 ∷ Done 1 12 ∷ Done 0 11 ∷ Done 0 10 ∷ Refused 18 ∷ []) (places (0 ∷ 1 ∷ 2 ∷ []) 3 12)
    ∷ []

pub refusals-hold : agreeing 0 refusals ≡ length refusals
unfolding refusals printing
refusals-hold = refl

-- ---- accepted lines, by what is printed for them

pub acceptances : List Row
acceptances =
    truth (line_accepted (Done 0 8)) true
    ∷ truth (line_accepted (Done 3 0)) true
    -- ticks that were stopped, after two, after one, and at the first
    ∷ truth (line_accepted (Stopped 2 8 16)) true
    ∷ truth (line_accepted (Stopped 1 10 18)) true
    ∷ truth (line_accepted (Stopped 0 8 16)) false
    ∷ truth (line_accepted (Stopped 0 16 17)) false
    ∷ truth (line_accepted (Stopped 0 10 18)) false
    ∷ truth (line_accepted (Refused 1)) false
    ∷ truth (line_accepted (Refused 16)) false
    ∷ []

pub acceptances-hold : agreeing 0 acceptances ≡ length acceptances
unfolding acceptances printing
acceptances-hold = refl

-- ---- runs handed in

-- quorum certificate 5, the last, is formed and on its way to processor 0
abbrev pub last_formed : State
last_formed = handed_in standard 0 5 false 0 1 (replicate 4 5) zeroes (replicate 23 0 ++ (2 ∷ [])) (2752 ∷ 0 ∷ [])

-- one message is said to be held where words of two are
abbrev pub words_left : State
words_left = handed_in standard 0 5 false 0 1 (replicate 4 5) zeroes [] (0 ∷ 0 ∷ 1 ∷ 0 ∷ [])

pub handed_runs : List Row
handed_runs =
    -- certificates, refused by 17; ticks, by another check
    row (leaving true last_formed) (schedule_of (event_lines (Deliver (Qc 5 0) ∷ Show (Qc 5 1) ∷ []))) (Refused 17 ∷ Refused 17 ∷ []) (places four 0 5)
    ∷ row (leaving true words_left) (schedule_of (event_lines (Tick 1 ∷ []))) (Refused 9 ∷ []) (places four 0 5)
    -- a run that is not open gets no event, no refused opening opens it, and it is not printed
    ∷ row (leaving false last_formed) (schedule_of (event_form (Tick 1) ∷ refused_opens ∷ event_lines (Tick 1 ∷ []))) (Refused 9 ∷ Refused 7 ∷ Refused 9 ∷ []) []
    ∷ row (leaving false last_formed) (schedule_of (opens 0 1 ∷ event_lines (Tick 1 ∷ []))) (Done 0 8 ∷ Done 1 8 ∷ []) (places four 0 2)
    -- a line of more than 4,800 bytes
    ∷ words (printed_from (leaving true last_formed) (ended (replicate 4801 32) ∷ ended (event_form (Tick 1)) ∷ []))
    (schedule_of (map answer_form (Refused 1 ∷ Done 1 1 ∷ []) ++ places four 0 6))
    ∷ []

pub handed_runs-hold : agreeing 0 handed_runs ≡ length handed_runs
unfolding handed_runs printing
handed_runs-hold = refl

-- n processors, of those below 63 none correct
abbrev pub highest : ℕ → State
highest n = state_of (run_of (plan_of n 2 4 6) (2 ^ 63 - 1) 0 false 0 0 (replicate 63 0 ++ (7 ∷ 8 ∷ [])) (replicate 63 0 ++ (1 ∷ 2 ∷ [])) no_traffic) [] []

-- 64 processors, and as many where there are said to be more
pub ends : List Row
ends = row (leaving true (highest 64)) [] [] (places (63 ∷ []) 1 7) ∷ row (leaving true (highest 65)) [] [] (places (63 ∷ []) 1 7) ∷ []

pub ends-hold : agreeing 0 ends ≡ length ends
unfolding ends printing
ends-hold = refl

-- ---- "lends 3,600 ledger words and 2,048 post words"

pub lent_words : List Row
lent_words =
    number (length at_start.state.tally) 3600
    ∷ number (length at_start.state.network) 2048
    -- words for 900 views, not for 903
    ∷ row at_start (schedule_of (setup_form (setup_of (plan_of 4 2 4 900) 0 zeroes) ∷ setup_form (setup_of (plan_of 4 2 4 903) 0 zeroes) ∷ []))
    (Done 0 8 ∷ Refused 6 ∷ []) (places four 0 0)
    ∷ []

pub lent_words-hold : agreeing 0 lent_words ≡ length lent_words
unfolding lent_words printing
lent_words-hold = refl

-- ---- the report of the traffic

-- what is reported behind an input, beside what it is to be
abbrev pub report_row : Standing → List ℕ → List ℕ → Row
report_row x s text = words (report_text (standing_after x (input_lines s))) text

-- these were sent, these delivered after such waits, and these are held
abbrev pub report : Counts → Counts → ℕ → Counts → List ℕ
report sent delivered waits held = traffic_text (traffic_of sent delivered waits) held

pub reports : List Row
reports =
    -- "A schedule and its printout"
    words (traffic_printout (schedule_of schedule_lines)) (report (counts_of 4 4 4 0) (counts_of 2 0 0 0) 0 (counts_of 2 4 4 0))
    -- no run is open: nothing; an event and a refused opening; a run handed in that is not
    ∷ report_row small [] []
    ∷ report_row small (schedule_of (event_form (Tick 1) ∷ refused_opens ∷ [])) []
    ∷ report_row (leaving false last_formed) [] []
    -- delivered after 2 ticks and after 3
    ∷ report_row small (schedule_of (opens 0 0 ∷ event_lines (Tick 2 ∷ Deliver (View 0 0) ∷ Tick 1 ∷ Deliver (Vote 0 1) ∷ [])))
    (report (counts_of 4 4 0 0) (counts_of 1 1 0 0) 5 (counts_of 3 3 0 0))
    -- an accepted opening begins anew, a refused one does not
    ∷ report_row small (schedule_of (opens 0 0 ∷ event_lines (Tick 2 ∷ Deliver (View 0 0) ∷ []) ++ (opens 8 5 ∷ [])))
    (report (counts_of 3 3 0 0) no_counts 0 (counts_of 3 3 0 0))
    ∷ report_row small (schedule_of (opens 0 0 ∷ event_lines (Tick 2 ∷ Deliver (View 0 0) ∷ []) ++ (refused_opens ∷ [])))
    (report (counts_of 4 4 0 0) (counts_of 1 0 0 0) 2 (counts_of 3 4 0 0))
    -- what is left after the last newline is not done
    ∷ report_row small (schedule_of (opens 0 0 ∷ []) ++ event_form (Deliver (View 0 0))) (report (counts_of 4 4 0 0) no_counts 0 (counts_of 4 4 0 0))
    -- refused lines: not in flight any more, and none of the forms
    ∷ report_row small (schedule_of (opens 0 0 ∷ event_lines (Deliver (View 0 0) ∷ Deliver (View 0 0) ∷ []) ++ ([] ∷ [])))
    (report (counts_of 4 4 0 0) (counts_of 1 0 0 0) 0 (counts_of 3 4 0 0))
    -- a run handed in that is unsound
    ∷ report_row (leaving true words_left) [] (line (answer_form (Refused 9)))
    ∷ []

pub reports-hold : agreeing 0 reports ≡ length reports
unfolding reports schedule_lines printing
reports-hold = refl
