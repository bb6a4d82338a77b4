-- Computed vectors: the traffic of runs, by their reports and by their histories. Each row, its right side taken from document 02's sentences and
-- document 01's rules, shuts out the wrong sum that its comment is about. Assumes nothing.
use Rattle.std.specs.Prelude.{◌≡◌, refl, false, List, [], ◌∷◌, ◌++◌, ℕ, ◌-◌, ◌^◌, length, replicate, Result, Ok, Err}
use Rattle.types.specs.declared.Message.TheVariants.{View, Vote, Qc}
use Rattle.types.specs.declared.Event.{Event}
use Rattle.types.specs.declared.Event.TheVariants.{Deliver, Sign, Show, Settle, Tick}
use Rattle.types.specs.declared.Setup.{Setup}
use Rattle.types.specs.declared.Totals.{Totals}
use Rattle.types.specs.Messages.{view_stage, vote_stage}
use Rattle.types.specs.Traffic.{counts_of, traffic_of, count_numbers}
use Rattle.model.specs.State.{State}
use Rattle.model.specs.Opening.{opening}
use Rattle.model.specs.Events.{applied}
use Rattle.model.specs.Lists.{after}
use Rattle.model.specs.Traffic.{ticks_posted, posting, posted_during, delivered_during, waits_during, ever_posted, of_view, with_sums, history_totals, totals}
use Rattle.model.specs.Rows.{definitions, standard, zeroes, setup_of, lent, buffers, handed_in, wide, traffic_numbers, Row, agreeing, number}

-- ---- what is told

-- sent, delivered, the sum of waits, held
abbrev pub told_numbers : Totals → List (List ℕ)
told_numbers x = traffic_numbers x.traffic ++ (count_numbers x.held ∷ [])

-- 0 and these, or the check that refuses
abbrev pub totals_numbers : Result Totals ℕ → List (List ℕ)
totals_numbers (Ok x) = (0 ∷ []) ∷ told_numbers x
totals_numbers (Err c) = (c ∷ []) ∷ []

abbrev pub reported_as : List ℕ → List ℕ → ℕ → List ℕ → List (List ℕ)
reported_as sent delivered waits held = (0 ∷ []) ∷ sent ∷ delivered ∷ (waits ∷ []) ∷ held ∷ []

-- an opening and the events after it: the report, and the history beside it
abbrev pub both_tell : State → Setup → List Event → List ℕ → List ℕ → ℕ → List ℕ → Row
both_tell before u es sent delivered waits held = (
  totals_numbers (totals (after (opening u before).state es)) ++ ((0 ∷ []) ∷ told_numbers (history_totals u before es)),
  reported_as sent delivered waits held ++ reported_as sent delivered waits held,
)

-- the report of a run
abbrev pub report_tells : State → List ℕ → List ℕ → ℕ → List ℕ → Row
report_tells s sent delivered waits held = (totals_numbers (totals s), reported_as sent delivered waits held)

abbrev pub none : List ℕ
none = replicate 4 0

abbrev pub plain : Setup
plain = setup_of standard 0 zeroes

-- document 01's printed schedule, after its opening
abbrev pub printed_events : List Event
printed_events = Deliver (View 0 0) ∷ Deliver (View 0 1) ∷ Tick 3 ∷ Settle ∷ Tick 3 ∷ []

abbrev pub largest : ℕ
largest = 2 ^ 64 - 1

-- the largest sums, beside a view message and a vote that were sent at time 2, now being 5
abbrev pub brimful : State
brimful = with_sums (traffic_of (counts_of largest largest largest largest) (counts_of largest largest largest largest) largest)
    (handed_in standard 0 5 false 0 2 (replicate 4 5) zeroes (15 ∷ 1 ∷ []) (1 ∷ 2 ∷ 67 ∷ 2 ∷ []))

pub sums : List Row
sums =
    -- the printed schedule: a view certificate is formed, and the last run of ticks is stopped
    both_tell buffers plain printed_events (4 ∷ 4 ∷ 4 ∷ 0 ∷ []) (2 ∷ 0 ∷ 0 ∷ 0 ∷ []) 0 (2 ∷ 4 ∷ 4 ∷ 0 ∷ [])
    -- "delivery less sending time", settled in between or not: 2 and 4
    ∷ both_tell buffers plain (Tick 2 ∷ Deliver (Vote 0 0) ∷ Tick 1 ∷ Settle ∷ Tick 1 ∷ Deliver (Vote 0 1) ∷ []) (4 ∷ 4 ∷ 0 ∷ 0 ∷ []) (0 ∷ 2 ∷ 0 ∷ 0 ∷ []) 6 (4 ∷ 2 ∷ 0 ∷ 0 ∷ [])
    -- a message sent later waits less: a quorum certificate formed at 3 and delivered at 4, the votes for it, and a view message behind which it stands
    ∷ both_tell buffers plain (Tick 3 ∷ Deliver (Vote 0 0) ∷ Deliver (Vote 0 1) ∷ Deliver (Vote 0 2) ∷ Tick 1 ∷ Deliver (Qc 0 3) ∷ Deliver (View 0 0) ∷ [])
    (4 ∷ 5 ∷ 0 ∷ 4 ∷ []) (1 ∷ 3 ∷ 0 ∷ 1 ∷ []) 14 (3 ∷ 2 ∷ 0 ∷ 3 ∷ [])
    -- "Sent means posted": nothing is, to a faulty leader
    ∷ both_tell buffers (setup_of standard 1 zeroes) [] none none 0 none
    -- a signature is neither sent nor delivered; what the leader that hears it forms is sent, to the three correct ones
    ∷ both_tell buffers (setup_of standard 8 zeroes) (Deliver (View 0 0) ∷ Sign (View 0 3) ∷ []) (3 ∷ 3 ∷ 3 ∷ 0 ∷ []) (1 ∷ 0 ∷ 0 ∷ 0 ∷ []) 0 (2 ∷ 3 ∷ 3 ∷ 0 ∷ [])
    -- nor is a certificate that is shown: the vote of whom it reaches is
    ∷ both_tell buffers plain (Deliver (Vote 0 0) ∷ Deliver (Vote 0 1) ∷ Deliver (Vote 0 2) ∷ Show (Qc 0 0) ∷ []) (4 ∷ 5 ∷ 0 ∷ 4 ∷ []) (0 ∷ 3 ∷ 0 ∷ 0 ∷ []) 0 (4 ∷ 2 ∷ 0 ∷ 4 ∷ [])
    -- refused events count nothing: not held, no such view, 0 ticks
    ∷ both_tell buffers plain (Tick 1 ∷ Deliver (Qc 0 0) ∷ Deliver (Vote 6 0) ∷ Tick 0 ∷ []) (4 ∷ 4 ∷ 0 ∷ 0 ∷ []) none 0 (4 ∷ 4 ∷ 0 ∷ 0 ∷ [])
    -- nor does a delivery whose certificate has no room: eight messages fit
    ∷ both_tell (lent 24 16) plain (Deliver (View 0 0) ∷ Deliver (View 0 1) ∷ []) (4 ∷ 4 ∷ 0 ∷ 0 ∷ []) (1 ∷ 0 ∷ 0 ∷ 0 ∷ []) 0 (3 ∷ 4 ∷ 0 ∷ 0 ∷ [])
    -- ticks that are stopped count what those before posted: all enter view 3 in the first; the refused tick, which would enter view 6, counts nothing
    ∷ both_tell buffers (setup_of standard 0 (replicate 4 11)) (Settle ∷ Tick 9 ∷ []) (8 ∷ 8 ∷ 0 ∷ 0 ∷ []) none 0 (8 ∷ 8 ∷ 0 ∷ 0 ∷ [])
    ∷ both_tell buffers plain (Tick 30 ∷ []) (8 ∷ 8 ∷ 0 ∷ 0 ∷ []) none 0 (8 ∷ 8 ∷ 0 ∷ 0 ∷ [])
    -- a later opening starts anew; a refused one keeps the sums
    ∷ both_tell (after (opening plain buffers).state printed_events) plain (Deliver (Vote 0 3) ∷ []) (4 ∷ 4 ∷ 0 ∷ 0 ∷ []) (0 ∷ 1 ∷ 0 ∷ 0 ∷ []) 0 (4 ∷ 3 ∷ 0 ∷ 0 ∷ [])
    ∷ report_tells (opening (setup_of standard 0 (5 ∷ 0 ∷ 0 ∷ 0 ∷ [])) (after (opening plain buffers).state printed_events)).state
    (4 ∷ 4 ∷ 4 ∷ 0 ∷ []) (2 ∷ 0 ∷ 0 ∷ 0 ∷ []) 0 (2 ∷ 4 ∷ 4 ∷ 0 ∷ [])
    -- of equal messages the first is delivered, so its wait counts: sent at 1 and at 4, now being 5
    ∷ report_tells (applied (Deliver (Vote 0 3)) (handed_in standard 0 5 false 0 2 (replicate 4 5) zeroes (15 ∷ []) (67 ∷ 1 ∷ 67 ∷ 4 ∷ []))).state
    none (0 ∷ 1 ∷ 0 ∷ 0 ∷ []) 4 (0 ∷ 1 ∷ 0 ∷ 0 ∷ [])
    -- and so in the wide form
    ∷ report_tells (applied (Deliver (Vote 0 3)) (wide (handed_in standard 0 5 false 0 2 (replicate 4 5) zeroes (15 ∷ []) (2 ∷ 0 ∷ 3 ∷ 1 ∷ 2 ∷ 0 ∷ 3 ∷ 4 ∷ [])))).state
    none (0 ∷ 1 ∷ 0 ∷ 0 ∷ []) 4 (0 ∷ 1 ∷ 0 ∷ 0 ∷ [])
    -- sums handed in go unchecked, and held is what the network holds
    ∷ report_tells brimful (replicate 4 largest) (replicate 4 largest) largest (1 ∷ 1 ∷ 0 ∷ 0 ∷ [])
    -- and "wrap at 2^64": the view message is delivered after 3 ticks, and four certificates are sent
    ∷ report_tells (applied (Deliver (View 0 1)) brimful).state
    (largest ∷ largest ∷ 3 ∷ largest ∷ []) (0 ∷ largest ∷ largest ∷ largest ∷ []) 2 (0 ∷ 1 ∷ 4 ∷ 0 ∷ [])
    -- "(unsound: 9)": a message sent later than now, or the time alone; a refused report tells nothing
    ∷ (
      totals_numbers (totals (with_sums brimful.run.traffic (handed_in standard 0 1 false 0 2 zeroes zeroes [] (1 ∷ 2 ∷ 67 ∷ 2 ∷ [])))),
      (9 ∷ []) ∷ [],
    )
    ∷ (
      totals_numbers (totals (with_sums brimful.run.traffic (handed_in standard 0 24 false 0 0 (replicate 4 5) zeroes [] []))),
      (9 ∷ []) ∷ [],
    )
    -- "for any one view at most 2n": so many of either stage for view 0, and none for another
    ∷ number (of_view view_stage 0 (ever_posted plain buffers printed_events)) 8
    ∷ number (of_view vote_stage 0 (ever_posted plain buffers (Deliver (Vote 0 0) ∷ Deliver (Vote 0 1) ∷ Deliver (Vote 0 2) ∷ Deliver (Vote 0 3) ∷ []))) 8
    ∷ number (of_view view_stage 3 (ever_posted plain buffers printed_events)) 0
    ∷ []

-- ---- all of them agree

pub sums-hold : agreeing 0 sums ≡ length sums
unfolding sums totals posted_during delivered_during waits_during posting ticks_posted definitions
sums-hold = refl
