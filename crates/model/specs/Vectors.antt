-- Computed vectors: rules, words, ticks and room. Each row, its right side taken from document 01 and, for the network's words, from document 02's
-- "Tighter post", shuts out the wrong rule or word that its comment is about. Assumes nothing.
use Rattle.std.specs.Prelude.{◌≡◌, refl, true, false, cond, List, [], ◌∷◌, ◌++◌, ℕ, length, replicate}
use Rattle.base.specs.Scan.{listed}
use Rattle.types.specs.declared.Message.TheVariants.{View, Vote, Vc, Qc}
use Rattle.types.specs.declared.Event.{Event}
use Rattle.types.specs.declared.Event.TheVariants.{Deliver, Sign, Show, Settle, Tick}
use Rattle.types.specs.declared.Answer.TheVariants.{Done, Stopped, Refused}
use Rattle.model.specs.State.{State, with_tally, with_network}
use Rattle.model.specs.Opening.{opening}
use Rattle.model.specs.Events.{tick_once}
use Rattle.model.specs.Lists.{after, since_settling, ticks_done, ticks_since, formed_in, formed_during, formed_since}
use Rattle.model.specs.Rows.{definitions, plan_of, standard, table, zeroes, copies, setup_of, lent, buffers, handed_in, Row, agreeing, truth, words, schedule, full_schedule, handed_row, unchanged, refused_whole, refused_opening}

-- buffers that held other things before: two tally words more than six views need, and a network word more than eight messages need
used : State
used = with_tally (replicate 26 9) (with_network (replicate 17 9) (lent 0 0))

votes_then_settle : List Event
votes_then_settle = Deliver (Vote 0 0) ∷ Deliver (Vote 0 1) ∷ Deliver (Vote 0 2) ∷ Settle ∷ []

-- ---- "How a cabinet moves"

pub moves : List Row
moves =
    -- a signature heard twice is one signer: the view certificate waits for another
    schedule buffers (setup_of standard 8 zeroes) (Sign (View 0 3) ∷ Sign (View 0 3) ∷ Deliver (View 0 0) ∷ [])
    (Done 0 6 ∷ Done 0 6 ∷ Done 0 6 ∷ Done 0 8 ∷ [])
    -- and so for votes
    ∷ schedule buffers (setup_of standard 8 zeroes) (Sign (Vote 0 3) ∷ Sign (Vote 0 3) ∷ Sign (Vote 0 3) ∷ Deliver (Vote 0 0) ∷ Deliver (Vote 0 1) ∷ [])
    (Done 0 6 ∷ Done 0 6 ∷ Done 0 6 ∷ Done 0 6 ∷ Done 0 5 ∷ Done 0 7 ∷ [])
    -- a leader that has left view 0 forms no view certificate for it
    ∷ schedule buffers (setup_of standard 0 (replicate 4 11)) (Tick 1 ∷ Deliver (View 0 0) ∷ Deliver (View 0 1) ∷ [])
    (Done 0 8 ∷ Done 1 16 ∷ Done 0 15 ∷ Done 0 14 ∷ [])
    -- nor does one that is one view further
    ∷ schedule buffers (setup_of standard 0 zeroes)
    (Deliver (Vote 0 0) ∷ Deliver (Vote 0 1) ∷ Deliver (Vote 0 2) ∷ Deliver (Qc 0 0) ∷ Deliver (View 0 0) ∷ Deliver (View 0 1) ∷ [])
    (Done 0 8 ∷ Done 0 7 ∷ Done 0 6 ∷ Done 0 9 ∷ Done 0 9 ∷ Done 0 8 ∷ Done 0 7 ∷ [])
    -- but it forms the quorum certificate, "whatever its own view"
    ∷ schedule buffers (setup_of standard 0 (replicate 4 11)) (Tick 1 ∷ Deliver (Vote 0 0) ∷ Deliver (Vote 0 1) ∷ Deliver (Vote 0 2) ∷ [])
    (Done 0 8 ∷ Done 1 16 ∷ Done 0 15 ∷ Done 0 14 ∷ Done 0 17 ∷ [])
    -- "its own view" is the leader's: processor 1 has left view 3, in which the signer, processor 0, still is
    ∷ handed_row (handed_in standard 0 5 false 0 1 (12 ∷ 16 ∷ 12 ∷ 12 ∷ []) (3 ∷ 4 ∷ 3 ∷ 3 ∷ []) (replicate 12 0 ++ (15 ∷ 4 ∷ [])) (1536 ∷ 0 ∷ []))
    (Deliver (View 3 0) ∷ []) (Done 0 0 ∷ [])
    -- a clock above the entered view's clock time is not set back
    ∷ full_schedule buffers (setup_of standard 0 (replicate 4 6)) (Deliver (Vote 0 0) ∷ Deliver (Vote 0 1) ∷ Deliver (Vote 0 2) ∷ Deliver (Qc 0 0) ∷ [])
    (Done 0 8 ∷ Done 0 7 ∷ Done 0 6 ∷ Done 0 9 ∷ Done 0 9 ∷ []) ((0 ∷ 1 ∷ 6 ∷ []) ∷ (1 ∷ 0 ∷ 6 ∷ []) ∷ (2 ∷ 0 ∷ 6 ∷ []) ∷ (3 ∷ 0 ∷ 6 ∷ []) ∷ [])
    -- a clock below it is raised; a quorum certificate for the present view enters the next one, with a vote
    ∷ full_schedule buffers (setup_of standard 0 zeroes) (Deliver (Vote 0 0) ∷ Deliver (Vote 0 1) ∷ Deliver (Vote 0 2) ∷ Deliver (Qc 0 0) ∷ [])
    (Done 0 8 ∷ Done 0 7 ∷ Done 0 6 ∷ Done 0 9 ∷ Done 0 9 ∷ []) ((0 ∷ 1 ∷ 4 ∷ []) ∷ (1 ∷ 0 ∷ 0 ∷ []) ∷ (2 ∷ 0 ∷ 0 ∷ []) ∷ (3 ∷ 0 ∷ 0 ∷ []) ∷ [])
    -- one shown does so too, leaves the message to the same processor held, and that one then does nothing
    ∷ full_schedule buffers (setup_of standard 0 zeroes)
    (Deliver (Vote 0 0) ∷ Deliver (Vote 0 1) ∷ Deliver (Vote 0 2) ∷ Show (Qc 0 0) ∷ Deliver (Qc 0 0) ∷ [])
    (Done 0 8 ∷ Done 0 7 ∷ Done 0 6 ∷ Done 0 9 ∷ Done 0 10 ∷ Done 0 9 ∷ []) ((0 ∷ 1 ∷ 4 ∷ []) ∷ (1 ∷ 0 ∷ 0 ∷ []) ∷ (2 ∷ 0 ∷ 0 ∷ []) ∷ (3 ∷ 0 ∷ 0 ∷ []) ∷ [])
    -- an initial view entered by quorum certificate: view message and vote; views led by a faulty processor: none
    ∷ full_schedule buffers (setup_of standard 1 zeroes)
    (Show (Qc 0 1) ∷ Show (Qc 0 2) ∷ Show (Qc 0 3) ∷ Show (Qc 1 1) ∷ Show (Qc 1 2) ∷ Show (Qc 1 3) ∷ Show (Qc 2 1) ∷ [])
    (Done 0 0 ∷ Done 0 0 ∷ Done 0 0 ∷ Done 0 0 ∷ Done 0 0 ∷ Done 0 0 ∷ Done 0 0 ∷ Done 0 2 ∷ [])
    ((1 ∷ 3 ∷ 12 ∷ []) ∷ (2 ∷ 2 ∷ 8 ∷ []) ∷ (3 ∷ 2 ∷ 8 ∷ []) ∷ [])
    -- a quorum certificate two views above enters the view after its own
    ∷ full_schedule buffers (setup_of standard 1 (replicate 4 2)) (Show (Qc 0 2) ∷ Show (Qc 0 3) ∷ Show (Qc 1 2) ∷ Show (Qc 1 3) ∷ Show (Qc 2 1) ∷ [])
    (Done 0 0 ∷ Done 0 0 ∷ Done 0 0 ∷ Done 0 0 ∷ Done 0 0 ∷ Done 0 2 ∷ []) ((1 ∷ 3 ∷ 12 ∷ []) ∷ (2 ∷ 2 ∷ 8 ∷ []) ∷ (3 ∷ 2 ∷ 8 ∷ []) ∷ [])
    -- a view certificate for the present view does nothing
    ∷ full_schedule buffers (setup_of standard 0 zeroes) (Deliver (View 0 0) ∷ Deliver (View 0 1) ∷ Deliver (Vc 0 2) ∷ [])
    (Done 0 8 ∷ Done 0 7 ∷ Done 0 10 ∷ Done 0 9 ∷ []) ((0 ∷ 0 ∷ 0 ∷ []) ∷ (1 ∷ 0 ∷ 0 ∷ []) ∷ (2 ∷ 0 ∷ 0 ∷ []) ∷ (3 ∷ 0 ∷ 0 ∷ []) ∷ [])
    -- one above it: the view, the clock, view message and vote; those in view 3 already stay as they are
    ∷ full_schedule buffers (setup_of standard 0 (11 ∷ 11 ∷ 0 ∷ 0 ∷ []))
    (Tick 1 ∷ Deliver (View 3 0) ∷ Deliver (View 3 1) ∷ Deliver (Vc 3 2) ∷ Deliver (Vc 3 0) ∷ [])
    (Done 0 8 ∷ Done 1 12 ∷ Done 0 11 ∷ Done 0 14 ∷ Done 0 15 ∷ Done 0 14 ∷ [])
    ((0 ∷ 3 ∷ 12 ∷ []) ∷ (1 ∷ 3 ∷ 12 ∷ []) ∷ (2 ∷ 3 ∷ 12 ∷ []) ∷ (3 ∷ 0 ∷ 1 ∷ []) ∷ [])
    -- n = 4: two view messages, three votes
    ∷ schedule buffers (setup_of standard 0 zeroes)
    (Deliver (View 0 0) ∷ Deliver (View 0 1) ∷ Deliver (Vote 0 0) ∷ Deliver (Vote 0 1) ∷ Deliver (Vote 0 2) ∷ [])
    (Done 0 8 ∷ Done 0 7 ∷ Done 0 10 ∷ Done 0 9 ∷ Done 0 8 ∷ Done 0 11 ∷ [])
    -- n = 5: two view messages, four votes
    ∷ schedule buffers (setup_of (plan_of 5 2 4 6) 0 (replicate 5 0))
    (Deliver (View 0 0) ∷ Deliver (View 0 1) ∷ Deliver (Vote 0 0) ∷ Deliver (Vote 0 1) ∷ Deliver (Vote 0 2) ∷ Deliver (Vote 0 3) ∷ [])
    (Done 0 10 ∷ Done 0 9 ∷ Done 0 13 ∷ Done 0 12 ∷ Done 0 11 ∷ Done 0 10 ∷ Done 0 14 ∷ [])
    -- n = 6: two view messages, five votes
    ∷ schedule buffers (setup_of (plan_of 6 2 4 6) 0 (replicate 6 0))
    (Deliver (View 0 0) ∷ Deliver (View 0 1) ∷ Deliver (Vote 0 0) ∷ Deliver (Vote 0 1) ∷ Deliver (Vote 0 2) ∷ Deliver (Vote 0 3) ∷ Deliver (Vote 0 4) ∷ [])
    (Done 0 12 ∷ Done 0 11 ∷ Done 0 16 ∷ Done 0 15 ∷ Done 0 14 ∷ Done 0 13 ∷ Done 0 12 ∷ Done 0 17 ∷ [])
    -- n = 7: three view messages
    ∷ schedule buffers (setup_of (plan_of 7 2 4 6) 0 (replicate 7 0)) (Deliver (View 0 0) ∷ Deliver (View 0 1) ∷ Deliver (View 0 2) ∷ [])
    (Done 0 14 ∷ Done 0 13 ∷ Done 0 12 ∷ Done 0 18 ∷ [])
    -- n = 7: five votes
    ∷ schedule buffers (setup_of (plan_of 7 2 4 6) 0 (replicate 7 0))
    (Deliver (Vote 0 0) ∷ Deliver (Vote 0 1) ∷ Deliver (Vote 0 2) ∷ Deliver (Vote 0 3) ∷ Deliver (Vote 0 4) ∷ [])
    (Done 0 14 ∷ Done 0 13 ∷ Done 0 12 ∷ Done 0 11 ∷ Done 0 10 ∷ Done 0 16 ∷ [])
    -- thresholds are by t, not f: with one faulty of four, the same two and three
    ∷ schedule buffers (setup_of standard 8 zeroes)
    (Deliver (View 0 0) ∷ Deliver (View 0 1) ∷ Deliver (Vote 0 0) ∷ Deliver (Vote 0 1) ∷ Deliver (Vote 0 2) ∷ [])
    (Done 0 6 ∷ Done 0 5 ∷ Done 0 7 ∷ Done 0 6 ∷ Done 0 5 ∷ Done 0 7 ∷ [])
    -- a certificate is formed once, and each of the two by its own mark
    ∷ schedule buffers (setup_of standard 0 zeroes)
    (Deliver (View 0 0) ∷ Deliver (View 0 1) ∷ Deliver (Vote 0 0) ∷ Deliver (Vote 0 1) ∷ Deliver (Vote 0 2) ∷ Deliver (View 0 2) ∷ Deliver (View 0 3)
    ∷ Deliver (Vote 0 3) ∷ [])
    (Done 0 8 ∷ Done 0 7 ∷ Done 0 10 ∷ Done 0 9 ∷ Done 0 8 ∷ Done 0 11 ∷ Done 0 10 ∷ Done 0 9 ∷ Done 0 8 ∷ [])
    -- a tick enters an initial view at its clock time, and no other view
    ∷ full_schedule buffers (setup_of standard 0 zeroes) (Tick 4 ∷ Tick 4 ∷ Tick 3 ∷ Tick 1 ∷ []) (Done 0 8 ∷ Done 4 8 ∷ Done 4 8 ∷ Done 3 8 ∷ Done 1 16 ∷ [])
    ((0 ∷ 3 ∷ 12 ∷ []) ∷ (1 ∷ 3 ∷ 12 ∷ []) ∷ (2 ∷ 3 ∷ 12 ∷ []) ∷ (3 ∷ 3 ∷ 12 ∷ []) ∷ [])
    -- messages to a faulty leader are not posted, at opening and by a tick
    ∷ schedule buffers (setup_of standard 1 zeroes) (Tick 1 ∷ []) (Done 0 0 ∷ Done 1 0 ∷ [])
    -- mask 2: those for view 3
    ∷ schedule buffers (setup_of standard 2 (11 ∷ 0 ∷ 11 ∷ 11 ∷ [])) (Tick 1 ∷ []) (Done 0 6 ∷ Done 1 6 ∷ [])
    -- a set handed in with t+2 signers and no mark: the next one heard forms the certificate
    ∷ handed_row (handed_in standard 0 5 false 0 2 (replicate 4 5) zeroes (15 ∷ 14 ∷ 14 ∷ []) (0 ∷ 0 ∷ 64 ∷ 0 ∷ []))
    (Deliver (View 0 0) ∷ Deliver (Vote 0 0) ∷ []) (Done 0 5 ∷ Done 0 8 ∷ [])
    -- also one heard before
    ∷ handed_row (handed_in standard 0 5 false 0 2 (replicate 4 5) zeroes (15 ∷ 14 ∷ 14 ∷ []) (1 ∷ 0 ∷ 65 ∷ 0 ∷ []))
    (Deliver (View 0 1) ∷ Deliver (Vote 0 1) ∷ []) (Done 0 5 ∷ Done 0 8 ∷ [])
    -- bits at n and above count in a set handed in
    ∷ handed_row (handed_in standard 0 5 false 0 2 (replicate 4 5) zeroes (15 ∷ 32 ∷ 96 ∷ []) (0 ∷ 0 ∷ 64 ∷ 0 ∷ []))
    (Deliver (View 0 0) ∷ Deliver (Vote 0 0) ∷ []) (Done 0 5 ∷ Done 0 8 ∷ [])
    -- and in an entered set
    ∷ handed_row (handed_in standard 1 5 false 0 0 (replicate 4 5) zeroes (96 ∷ []) []) (Show (Qc 0 1) ∷ []) (Done 0 0 ∷ [])
    ∷ []

-- ---- what is left in the lent words

pub contents : List Row
contents =
    -- the opening posts by rising number, the view message before the vote
    words (opening (setup_of standard 0 zeroes) (lent 24 16)).state.network
    (0 ∷ 0 ∷ 64 ∷ 0 ∷ 1 ∷ 0 ∷ 65 ∷ 0 ∷ 2 ∷ 0 ∷ 66 ∷ 0 ∷ 3 ∷ 0 ∷ 67 ∷ 0 ∷ [])
    -- the delivered leave, the rest close up, certificates follow by rising receiver, the leader included; 0 beyond
    ∷ words (after (opening (setup_of standard 0 zeroes) (lent 24 32)).state (Deliver (View 0 0) ∷ Deliver (View 0 1) ∷ [])).network
    (64 ∷ 0 ∷ 65 ∷ 0 ∷ 2 ∷ 0 ∷ 66 ∷ 0 ∷ 3 ∷ 0 ∷ 67 ∷ 0 ∷ 128 ∷ 0 ∷ 129 ∷ 0 ∷ 130 ∷ 0 ∷ 131 ∷ 0 ∷ replicate 12 0)
    -- and the tally: entered, view messages heard, votes heard, marks
    ∷ words (after (opening (setup_of standard 0 zeroes) (lent 24 32)).state (Deliver (View 0 0) ∷ Deliver (View 0 1) ∷ [])).tally
    (15 ∷ 3 ∷ 0 ∷ 1 ∷ replicate 20 0)
    -- a quorum certificate completed by a faulty signature; none for the faulty processor
    ∷ words (after (opening (setup_of standard 8 zeroes) (lent 24 16)).state (Deliver (Vote 0 1) ∷ Deliver (Vote 0 0) ∷ Sign (Vote 0 3) ∷ [])).network
    (0 ∷ 0 ∷ 1 ∷ 0 ∷ 2 ∷ 0 ∷ 66 ∷ 0 ∷ 192 ∷ 0 ∷ 193 ∷ 0 ∷ 194 ∷ 0 ∷ replicate 2 0)
    -- the faulty signer stands in the tally
    ∷ words (after (opening (setup_of standard 8 zeroes) (lent 24 16)).state (Deliver (Vote 0 1) ∷ Deliver (Vote 0 0) ∷ Sign (Vote 0 3) ∷ [])).tally
    (7 ∷ 0 ∷ 11 ∷ 2 ∷ replicate 20 0)
    -- what a tick sends has the time after it
    ∷ words (after (opening (setup_of standard 1 (replicate 4 11)) (lent 24 16)).state (Tick 1 ∷ [])).network
    (1537 ∷ 1 ∷ 1601 ∷ 1 ∷ 1538 ∷ 1 ∷ 1602 ∷ 1 ∷ 1539 ∷ 1 ∷ 1603 ∷ 1 ∷ replicate 4 0)
    -- entries by tick stand in the tally
    ∷ words (after (opening (setup_of standard 1 (replicate 4 11)) (lent 24 16)).state (Tick 1 ∷ [])).tally
    (14 ∷ 0 ∷ 0 ∷ 0 ∷ 0 ∷ 0 ∷ 0 ∷ 0 ∷ 0 ∷ 0 ∷ 0 ∷ 0 ∷ 14 ∷ replicate 11 0)
    -- of equal messages the first leaves: the one sent at 5 stays
    ∷ words (after (handed_in standard 0 5 false 0 3 (replicate 4 5) zeroes [] (65 ∷ 0 ∷ 2 ∷ 3 ∷ 65 ∷ 5 ∷ []))
    (Deliver (Vote 0 1) ∷ [])).network (2 ∷ 3 ∷ 65 ∷ 5 ∷ replicate 28 0)
    -- the rest keep their order
    ∷ words (after (handed_in standard 0 5 false 0 4 (replicate 4 5) zeroes [] (64 ∷ 0 ∷ 2 ∷ 3 ∷ 65 ∷ 4 ∷ 67 ∷ 5 ∷ []))
    (Deliver (View 0 2) ∷ [])).network (64 ∷ 0 ∷ 65 ∷ 4 ∷ 67 ∷ 5 ∷ replicate 26 0)
    -- other bits of a mark word are kept
    ∷ words (after (handed_in standard 0 5 false 0 2 (replicate 4 5) zeroes (15 ∷ 2 ∷ 6 ∷ 12 ∷ []) (0 ∷ 0 ∷ 64 ∷ 0 ∷ []))
    (Deliver (View 0 0) ∷ Deliver (Vote 0 0) ∷ [])).tally (15 ∷ 3 ∷ 7 ∷ 15 ∷ replicate 20 0)
    -- signatures to a faulty leader leave no trace
    ∷ words (after (opening (setup_of standard 1 zeroes) (lent 24 16)).state (Sign (View 0 0) ∷ Sign (Vote 1 0) ∷ [])).tally (14 ∷ replicate 23 0)
    -- and are accepted
    ∷ schedule buffers (setup_of standard 1 zeroes) (Sign (View 0 0) ∷ Sign (Vote 1 0) ∷ []) (Done 0 0 ∷ Done 0 0 ∷ Done 0 0 ∷ [])
    -- entries by certificate stand in the tally
    ∷ words (after (opening (setup_of standard 1 zeroes) (lent 24 16)).state (Show (Qc 0 2) ∷ [])).tally (14 ∷ 0 ∷ 0 ∷ 0 ∷ 4 ∷ replicate 19 0)
    -- the opening zeroes 4V tally words and no more
    ∷ words (opening (setup_of standard 1 zeroes) used).state.tally (14 ∷ replicate 23 0 ++ (9 ∷ 9 ∷ []))
    -- and every network word
    ∷ words (opening (setup_of standard 1 zeroes) used).state.network (replicate 17 0)
    -- start clocks of faulty processors and from n on are not read
    ∷ words (opening (setup_of standard 2 (3 ∷ 99 ∷ 3 ∷ 3 ∷ 77 ∷ [])) buffers).state.run.clocks (table (3 ∷ 0 ∷ 3 ∷ 3 ∷ []))
    -- a later opening starts from nothing: unsettled, no vote heard, no mark
    ∷ schedule (after (opening (setup_of standard 0 zeroes) buffers).state votes_then_settle) (setup_of standard 0 zeroes) votes_then_settle
    (Done 0 8 ∷ Done 0 7 ∷ Done 0 6 ∷ Done 0 9 ∷ Done 0 9 ∷ [])
    -- a refused one leaves run and words as they were
    ∷ refused_opening (after (opening (setup_of standard 0 zeroes) buffers).state votes_then_settle) (setup_of (plan_of 3 2 4 6) 0 zeroes) 2
    ∷ []

-- ---- "settle" and "tick"

pub timing : List Row
timing =
    -- overdue at exactly the deadline; the count is the ticks done, the reason what the next one would meet
    full_schedule buffers (setup_of standard 0 zeroes) (Settle ∷ Tick 9 ∷ Tick 1 ∷ []) (Done 0 8 ∷ Done 0 8 ∷ Stopped 2 8 16 ∷ Refused 16 ∷ [])
    ((0 ∷ 0 ∷ 2 ∷ []) ∷ (1 ∷ 0 ∷ 2 ∷ []) ∷ (2 ∷ 0 ∷ 2 ∷ []) ∷ (3 ∷ 0 ∷ 2 ∷ []) ∷ [])
    -- all ticks done: no reason, though the next one would be refused
    ∷ schedule buffers (setup_of standard 0 zeroes) (Settle ∷ Tick 2 ∷ Tick 1 ∷ []) (Done 0 8 ∷ Done 0 8 ∷ Done 2 8 ∷ Refused 16 ∷ [])
    -- the deadline counts from the later time: settling after sending
    ∷ schedule buffers (setup_of standard 0 zeroes) (Tick 3 ∷ Settle ∷ Tick 9 ∷ []) (Done 0 8 ∷ Done 3 8 ∷ Done 0 8 ∷ Stopped 2 8 16 ∷ [])
    -- sending after settling
    ∷ schedule buffers (setup_of standard 1 (replicate 4 11)) (Settle ∷ Tick 1 ∷ Tick 9 ∷ []) (Done 0 0 ∷ Done 0 0 ∷ Done 1 6 ∷ Stopped 2 6 16 ∷ [])
    -- the later of the two, not their sum
    ∷ schedule buffers (setup_of standard 1 (replicate 4 10)) (Tick 1 ∷ Settle ∷ Tick 1 ∷ Tick 9 ∷ [])
    (Done 0 0 ∷ Done 1 0 ∷ Done 0 0 ∷ Done 1 6 ∷ Stopped 2 6 16 ∷ [])
    -- any message held may be the overdue one, not the first alone
    ∷ handed_row (handed_in standard 0 5 true 0 2 (replicate 4 5) zeroes [] (64 ∷ 5 ∷ 65 ∷ 3 ∷ [])) (Tick 1 ∷ []) (Refused 16 ∷ [])
    -- nothing is overdue in an unsettled network
    ∷ schedule buffers (setup_of standard 0 zeroes) (Tick 9 ∷ []) (Done 0 8 ∷ Done 9 8 ∷ [])
    -- ticks stop by 16, go on after the overdue ones are delivered, and stop again
    ∷ schedule buffers (setup_of standard 1 (replicate 4 11))
    (Settle ∷ Tick 4 ∷ Deliver (View 3 1) ∷ Deliver (Vote 3 1) ∷ Deliver (Vote 3 2) ∷ Deliver (View 3 3) ∷ Deliver (Vote 3 3) ∷ Deliver (View 3 2)
    ∷ Tick 4 ∷ [])
    (Done 0 0 ∷ Done 0 0 ∷ Stopped 3 6 16 ∷ Done 0 5 ∷ Done 0 4 ∷ Done 0 3 ∷ Done 0 5 ∷ Done 0 7 ∷ Done 0 6 ∷ Stopped 2 6 16 ∷ [])
    -- 16 is judged before 17
    ∷ schedule buffers (setup_of (plan_of 4 1 2 3) 0 (replicate 4 4)) (Settle ∷ Tick 1 ∷ Tick 1 ∷ []) (Done 0 8 ∷ Done 0 8 ∷ Done 1 8 ∷ Refused 16 ∷ [])
    -- 16 before 18
    ∷ schedule (lent 24 16) (setup_of (plan_of 4 1 4 6) 0 (replicate 4 10)) (Settle ∷ Tick 1 ∷ Tick 1 ∷ []) (Done 0 8 ∷ Done 0 8 ∷ Done 1 8 ∷ Refused 16 ∷ [])
    -- what a tick sends counts from the time after it
    ∷ schedule buffers (setup_of (plan_of 4 1 2 6) 1 (replicate 4 5)) (Settle ∷ Tick 1 ∷ Tick 1 ∷ Tick 1 ∷ [])
    (Done 0 0 ∷ Done 0 0 ∷ Done 1 6 ∷ Done 1 6 ∷ Refused 16 ∷ [])
    -- no correct clock reaches VΓ
    ∷ full_schedule buffers (setup_of (plan_of 4 2 4 3) 0 zeroes) (Tick 12 ∷ Tick 1 ∷ []) (Done 0 8 ∷ Stopped 11 8 17 ∷ Refused 17 ∷ [])
    ((0 ∷ 0 ∷ 11 ∷ []) ∷ (1 ∷ 0 ∷ 11 ∷ []) ∷ (2 ∷ 0 ∷ 11 ∷ []) ∷ (3 ∷ 0 ∷ 11 ∷ []) ∷ [])
    -- also where one clock alone would
    ∷ full_schedule buffers (setup_of (plan_of 4 2 4 3) 0 (4 ∷ 0 ∷ 0 ∷ 0 ∷ [])) (Tick 9 ∷ []) (Done 0 8 ∷ Stopped 7 8 17 ∷ [])
    ((0 ∷ 0 ∷ 11 ∷ []) ∷ (1 ∷ 0 ∷ 7 ∷ []) ∷ (2 ∷ 0 ∷ 7 ∷ []) ∷ (3 ∷ 0 ∷ 7 ∷ []) ∷ [])
    -- a tick refused by 17 at the last processor leaves every clock
    ∷ refused_whole (handed_in standard 0 3 false 0 0 (0 ∷ 0 ∷ 0 ∷ 23 ∷ []) (0 ∷ 0 ∷ 0 ∷ 5 ∷ []) [] []) (Tick 1) 17
    -- and so does the single tick by itself
    ∷ unchanged (handed_in standard 0 3 false 0 0 (0 ∷ 0 ∷ 0 ∷ 23 ∷ []) (0 ∷ 0 ∷ 0 ∷ 5 ∷ []) [] [])
    (tick_once (handed_in standard 0 3 false 0 0 (0 ∷ 0 ∷ 0 ∷ 23 ∷ []) (0 ∷ 0 ∷ 0 ∷ 5 ∷ []) [] [])) 17
    -- a tick leaves the clocks of faulty processors and from n on
    ∷ words (after (opening (setup_of standard 2 zeroes) buffers).state (Tick 1 ∷ [])).run.clocks (table (1 ∷ 0 ∷ 1 ∷ 1 ∷ []))
    -- the network settles once
    ∷ schedule buffers (setup_of standard 0 zeroes) (Settle ∷ Tick 1 ∷ Settle ∷ []) (Done 0 8 ∷ Done 0 8 ∷ Done 1 8 ∷ Refused 15 ∷ [])
    -- the settling time is that of the event
    ∷ words ((after (opening (setup_of standard 0 zeroes) buffers).state (Tick 3 ∷ Settle ∷ Tick 1 ∷ [])).run.gst ∷ []) (3 ∷ [])
    -- the time gained is the count
    ∷ words ((after (opening (setup_of standard 0 zeroes) buffers).state (Tick 3 ∷ Settle ∷ Tick 9 ∷ [])).run.time ∷ []) (5 ∷ [])
    ∷ []

-- ---- check 18

pub room : List Row
room =
    -- what would not fit is refused; messages that left make room; as many as fit exactly are taken
    schedule (lent 24 16) (setup_of standard 0 zeroes)
    (Deliver (View 0 0) ∷ Deliver (View 0 1) ∷ Deliver (Vote 0 0) ∷ Deliver (Vote 0 1) ∷ Deliver (View 0 1) ∷ [])
    (Done 0 8 ∷ Done 0 7 ∷ Refused 18 ∷ Done 0 6 ∷ Done 0 5 ∷ Done 0 8 ∷ [])
    -- 17 words hold eight messages
    ∷ schedule (lent 24 17) (setup_of standard 0 zeroes) (Deliver (View 0 0) ∷ Deliver (Vote 0 0) ∷ Deliver (View 0 1) ∷ [])
    (Done 0 8 ∷ Done 0 7 ∷ Done 0 6 ∷ Refused 18 ∷ [])
    -- 18 words hold nine
    ∷ schedule (lent 24 18) (setup_of standard 0 zeroes) (Deliver (View 0 0) ∷ Deliver (Vote 0 0) ∷ Deliver (View 0 1) ∷ [])
    (Done 0 8 ∷ Done 0 7 ∷ Done 0 6 ∷ Done 0 9 ∷ [])
    -- refused whole: the delivered message stays, its signer is not added
    ∷ refused_whole (after (opening (setup_of standard 0 zeroes) (lent 24 16)).state (Deliver (View 0 0) ∷ [])) (Deliver (View 0 1)) 18
    -- ticks end before the one that does not fit
    ∷ full_schedule (lent 24 16) (setup_of standard 0 (replicate 4 10)) (Tick 3 ∷ Tick 1 ∷ []) (Done 0 8 ∷ Stopped 1 8 18 ∷ Refused 18 ∷ [])
    ((0 ∷ 0 ∷ 11 ∷ []) ∷ (1 ∷ 0 ∷ 11 ∷ []) ∷ (2 ∷ 0 ∷ 11 ∷ []) ∷ (3 ∷ 0 ∷ 11 ∷ []) ∷ [])
    -- a signature whose certificate would not fit is not added
    ∷ refused_whole (with_network (copies 8 (64 ∷ 0 ∷ [])) (handed_in standard 8 5 false 0 8 (replicate 4 5) zeroes (7 ∷ 1 ∷ []) []))
    (Sign (View 0 3)) 18
    -- a certificate shown whose messages would not fit
    ∷ refused_whole (with_network (copies 8 (1601 ∷ 0 ∷ [])) (handed_in standard 1 5 false 0 8 (replicate 4 5) zeroes (replicate 9 14) []))
    (Show (Qc 2 1)) 18
    -- 17 before 18
    ∷ refused_whole (with_network (copies 8 (64 ∷ 0 ∷ [])) (handed_in standard 0 5 false 0 8 (replicate 4 5) zeroes (replicate 23 0 ++ (2 ∷ [])) []))
    (Show (Qc 5 0)) 17
    ∷ []

-- ---- what a list did since settling: the ticks, and which of the views 0 to 2 had their quorum certificate formed

did_since : ℕ → List Event → ℕ → List ℕ → Row
did_since faulty es k ws =
    let i = since_settling (opening (setup_of standard faulty zeroes) buffers).state es in
    words (ticks_since i ∷ listed (λ w. cond (formed_since i w) 1 0) 3) (k ∷ ws)

three_votes : List Event
three_votes = Deliver (Vote 0 0) ∷ Deliver (Vote 0 1) ∷ Deliver (Vote 0 2) ∷ []

pub history : List Row
history =
    -- nothing counts in a list without a settle
    did_since 0 (Tick 2 ∷ three_votes) 0 (0 ∷ 0 ∷ 0 ∷ [])
    -- what stands before it does not count, nor do ticks that were not done
    ∷ did_since 0 (Tick 2 ∷ three_votes ++ (Settle ∷ Tick 9 ∷ Tick 1 ∷ [])) 2 (0 ∷ 0 ∷ 0 ∷ [])
    -- the certificate is formed with the third vote, and by it alone
    ∷ did_since 0 (Settle ∷ Tick 1 ∷ Deliver (Vote 0 0) ∷ Deliver (Vote 0 1) ∷ []) 1 (0 ∷ 0 ∷ 0 ∷ [])
    ∷ did_since 0 (Settle ∷ Tick 1 ∷ three_votes) 1 (1 ∷ 0 ∷ 0 ∷ [])
    -- two votes before settling and one after: formed since; a vote more forms nothing
    ∷ did_since 0 (Deliver (Vote 0 0) ∷ Deliver (Vote 0 1) ∷ Settle ∷ Deliver (Vote 0 2) ∷ Tick 1 ∷ []) 1 (1 ∷ 0 ∷ 0 ∷ [])
    ∷ did_since 0 (three_votes ++ (Settle ∷ Deliver (Vote 0 3) ∷ [])) 0 (0 ∷ 0 ∷ 0 ∷ [])
    -- view messages form none
    ∷ did_since 0 (Settle ∷ Deliver (View 0 0) ∷ Deliver (View 0 1) ∷ Deliver (View 0 2) ∷ []) 0 (0 ∷ 0 ∷ 0 ∷ [])
    -- a faulty processor's signature completes it
    ∷ did_since 8 (Settle ∷ Deliver (Vote 0 0) ∷ Deliver (Vote 0 1) ∷ Sign (Vote 0 3) ∷ []) 0 (1 ∷ 0 ∷ 0 ∷ [])
    -- to a faulty leader it completes nothing, whatever its row holds
    ∷ truth (formed_in (Sign (Vote 0 0)) (handed_in standard 1 5 false 0 0 (replicate 4 5) zeroes (14 ∷ 0 ∷ 14 ∷ []) []) 0) false
    -- a vote counts for its own view alone, though the next view's votes suffice
    ∷ truth
    (formed_in (Deliver (Vote 0 0))
    (handed_in standard 0 5 false 0 1 (replicate 4 5) zeroes (15 ∷ 0 ∷ 0 ∷ 0 ∷ 15 ∷ 0 ∷ 14 ∷ []) (64 ∷ 0 ∷ [])) 1)
    false
    -- a second settle starts nothing anew
    ∷ did_since 0 (Settle ∷ Tick 1 ∷ three_votes ++ (Settle ∷ Tick 1 ∷ [])) 2 (1 ∷ 0 ∷ 0 ∷ [])
    ∷ []

-- ---- all of them agree

pub moves-hold : agreeing 0 moves ≡ length moves
unfolding moves definitions
moves-hold = refl

pub contents-hold : agreeing 0 contents ≡ length contents
unfolding contents used votes_then_settle definitions
contents-hold = refl

pub timing-hold : agreeing 0 timing ≡ length timing
unfolding timing definitions
timing-hold = refl

pub room-hold : agreeing 0 room ≡ length room
unfolding room definitions
room-hold = refl

pub history-hold : agreeing 0 history ≡ length history
unfolding history did_since three_votes since_settling ticks_done formed_in formed_during definitions
history-hold = refl
