-- Computed vectors of "Tighter post": a message's words in either form, the checks that follow them, and runs carried over. Each row, its right
-- side taken from document 02's sentences and document 01's rules, shuts out the wrong word, check or order that its comment is about.
-- Assumes nothing.
use Rattle.std.specs.Prelude.{◌≡◌, refl, Bool, true, false, List, [], ◌∷◌, ◌++◌, map, ℕ, length, replicate}
use Rattle.types.specs.declared.Form.{Form}
use Rattle.types.specs.declared.Form.TheVariants.{Wide, Packed}
use Rattle.types.specs.declared.Message.TheVariants.{View, Vote, Vc, Qc}
use Rattle.types.specs.declared.Event.TheVariants.{Deliver, Settle, Tick}
use Rattle.types.specs.declared.Answer.TheVariants.{Done, Refused}
use Rattle.types.specs.Traffic.{counts_of, traffic_of}
use Rattle.model.specs.State.{State, Held, with_tally, with_network, held_at, words_of}
use Rattle.model.specs.Checks.{lengths_outside, not_held}
use Rattle.model.specs.Opening.{opening}
use Rattle.model.specs.Lists.{after}
use Rattle.model.specs.Traffic.{with_sums}
use Rattle.model.specs.Carrying.{target_outside, carried_over, carried_to}
use Rattle.model.specs.Rows.{definitions, plan_of, standard, padded, zeroes, copies, setup_of, lent, handed_in, wide, everything, Row, agreeing, truth, words, schedule, handed_row}

-- ---- "view × 512 + (kind − 1) × 64 + cabinet, then the sending time"

abbrev four_numbers : Held → List ℕ
four_numbers h = h.kind ∷ h.view ∷ h.processor ∷ h.sent ∷ []

-- each kind, in the last view and of the last processor that there can be
abbrev each_kind : List ℕ
each_kind = 3071551 ∷ 7 ∷ 3071615 ∷ 7 ∷ 3071679 ∷ 7 ∷ 3071743 ∷ 7 ∷ []

pub packing : List Row
packing =
    -- 512 to a view, 64 to a kind beyond the first
    words (words_of Packed 7 (View 5999 63 ∷ Vote 5999 63 ∷ Vc 5999 63 ∷ Qc 5999 63 ∷ [])) each_kind
    -- and the four numbers of each again
    ∷ (
      map four_numbers (held_at Packed each_kind 0 ∷ held_at Packed each_kind 1 ∷ held_at Packed each_kind 2 ∷ held_at Packed each_kind 3 ∷ []),
      (1 ∷ 5999 ∷ 63 ∷ 7 ∷ []) ∷ (2 ∷ 5999 ∷ 63 ∷ 7 ∷ []) ∷ (3 ∷ 5999 ∷ 63 ∷ 7 ∷ []) ∷ (4 ∷ 5999 ∷ 63 ∷ 7 ∷ []) ∷ [],
    )
    -- the first of all: words that are 0 are a message
    ∷ words (words_of Packed 0 (View 0 0 ∷ [])) (0 ∷ 0 ∷ [])
    ∷ words (four_numbers (held_at Packed (0 ∷ 0 ∷ []) 0)) (1 ∷ 0 ∷ 0 ∷ 0 ∷ [])
    -- kind, view and processor each have bits of their own: the kind's three, and all 64
    ∷ words (four_numbers (held_at Packed (448 ∷ 0 ∷ []) 0)) (8 ∷ 0 ∷ 0 ∷ 0 ∷ [])
    ∷ words (four_numbers (held_at Packed (18446744073709551615 ∷ 18446744073709551615 ∷ []) 0)) (8 ∷ 36028797018963967 ∷ 63 ∷ 18446744073709551615 ∷ [])
    -- a view that is too large for 64 bits is not cut
    ∷ words (words_of Packed 0 (Vote 36028797018963968 0 ∷ [])) (18446744073709551680 ∷ 0 ∷ [])
    -- a message is found by all three, behind others that differ in one; what it makes its receiver send is packed too, sent now
    ∷ words (after (handed_in standard 0 5 false 0 4 (replicate 4 5) zeroes [] (1601 ∷ 0 ∷ 1666 ∷ 1 ∷ 129 ∷ 2 ∷ 1665 ∷ 3 ∷ []))
    (Deliver (Vc 3 1) ∷ [])).network (1601 ∷ 0 ∷ 1666 ∷ 1 ∷ 129 ∷ 2 ∷ 1537 ∷ 5 ∷ 1601 ∷ 5 ∷ replicate 22 0)
    -- neither a vote for a view whose word would wrap round to it, nor a view message of processor 64, whose word it would be, is the vote held
    ∷ truth (not_held (handed_in standard 0 5 false 0 1 (replicate 4 5) zeroes [] (64 ∷ 0 ∷ [])) (Vote 36028797018963968 0)) true
    ∷ truth (not_held (handed_in standard 0 5 false 0 1 (replicate 4 5) zeroes [] (64 ∷ 0 ∷ [])) (View 0 64)) true
    ∷ []

-- ---- "checks 6 and 9 follow", and 18

pub packed_checks : List Row
packed_checks =
    -- sound: one message of each kind
    handed_row (handed_in standard 0 5 false 0 4 (replicate 4 5) zeroes [] (1 ∷ 5 ∷ 65 ∷ 5 ∷ 129 ∷ 5 ∷ 193 ∷ 5 ∷ [])) (Settle ∷ []) (Done 0 4 ∷ [])
    -- unsound: kinds 6 to 8, which two of the three bits would take for 2 to 4
    ∷ handed_row (handed_in standard 0 5 false 0 1 (replicate 4 5) zeroes [] (321 ∷ 5 ∷ [])) (Settle ∷ []) (Refused 9 ∷ [])
    ∷ handed_row (handed_in standard 0 5 false 0 1 (replicate 4 5) zeroes [] (385 ∷ 5 ∷ [])) (Settle ∷ []) (Refused 9 ∷ [])
    ∷ handed_row (handed_in standard 0 5 false 0 1 (replicate 4 5) zeroes [] (449 ∷ 5 ∷ [])) (Settle ∷ []) (Refused 9 ∷ [])
    -- unsound: kind 5 in a view above 0
    ∷ handed_row (handed_in standard 0 5 false 0 1 (replicate 4 5) zeroes [] (769 ∷ 5 ∷ [])) (Settle ∷ []) (Refused 9 ∷ [])
    -- sound: words that are 0, counted as held; they are delivered as what they say
    ∷ handed_row (handed_in standard 0 5 false 0 16 (replicate 4 5) zeroes [] []) (Settle ∷ []) (Done 0 16 ∷ [])
    ∷ handed_row (handed_in standard 0 5 false 0 2 (replicate 4 5) zeroes [] []) (Deliver (View 0 0) ∷ Deliver (View 0 0) ∷ Deliver (View 0 0) ∷ [])
    (Done 0 1 ∷ Done 0 0 ∷ Refused 13 ∷ [])
    -- unsound: one more than the words are for
    ∷ handed_row (handed_in standard 0 5 false 0 17 (replicate 4 5) zeroes [] []) (Settle ∷ []) (Refused 9 ∷ [])
    -- unsound: a vote of processor 63, a certificate for processor n
    ∷ handed_row (handed_in standard 0 5 false 0 1 (replicate 4 5) zeroes [] (127 ∷ 5 ∷ [])) (Settle ∷ []) (Refused 9 ∷ [])
    ∷ handed_row (handed_in standard 0 5 false 0 1 (replicate 4 5) zeroes [] (196 ∷ 5 ∷ [])) (Settle ∷ []) (Refused 9 ∷ [])
    -- sound: processor 4 of five, processor 63 of 64
    ∷ handed_row (handed_in (plan_of 5 2 4 6) 0 5 false 0 1 (replicate 5 5) zeroes [] (68 ∷ 5 ∷ [])) (Settle ∷ []) (Done 0 1 ∷ [])
    ∷ handed_row (with_network (padded 256 (2815 ∷ 5 ∷ [])) (handed_in (plan_of 64 2 4 6) 0 5 false 0 1 (replicate 64 5) [] [] [])) (Settle ∷ []) (Done 0 1 ∷ [])
    -- five processors want 20 words
    ∷ handed_row (with_network (padded 19 (68 ∷ 5 ∷ [])) (handed_in (plan_of 5 2 4 6) 0 5 false 0 1 (replicate 5 5) zeroes [] [])) (Settle ∷ []) (Refused 9 ∷ [])
    ∷ handed_row (with_network (padded 20 (68 ∷ 5 ∷ [])) (handed_in (plan_of 5 2 4 6) 0 5 false 0 1 (replicate 5 5) zeroes [] [])) (Settle ∷ []) (Done 0 1 ∷ [])
    -- unsound: the first word beyond the last message
    ∷ handed_row (handed_in standard 0 5 false 0 1 (replicate 4 5) zeroes [] (65 ∷ 5 ∷ 1 ∷ [])) (Settle ∷ []) (Refused 9 ∷ [])
    -- a full network with an odd word: that is 0, or it is unsound
    ∷ handed_row (with_network (copies 8 (64 ∷ 0 ∷ []) ++ (0 ∷ [])) (handed_in standard 0 5 false 0 8 (replicate 4 5) zeroes [] [])) (Settle ∷ []) (Done 0 8 ∷ [])
    ∷ handed_row (with_network (copies 8 (64 ∷ 0 ∷ []) ++ (1 ∷ [])) (handed_in standard 0 5 false 0 8 (replicate 4 5) zeroes [] [])) (Settle ∷ []) (Refused 9 ∷ [])
    ∷ []

-- ---- the wide form

pub wide_form : List Row
wide_form =
    -- the opening posts by rising number, the view message before the vote
    words (opening (setup_of standard 0 zeroes) (wide (lent 24 32))).state.network
    (1 ∷ 0 ∷ 0 ∷ 0 ∷ 2 ∷ 0 ∷ 0 ∷ 0 ∷ 1 ∷ 0 ∷ 1 ∷ 0 ∷ 2 ∷ 0 ∷ 1 ∷ 0 ∷ 1 ∷ 0 ∷ 2 ∷ 0 ∷ 2 ∷ 0 ∷ 2 ∷ 0 ∷ 1 ∷ 0 ∷ 3 ∷ 0 ∷ 2 ∷ 0 ∷ 3 ∷ 0 ∷ [])
    -- the delivered leave, the rest close up, certificates follow
    ∷ words (after (opening (setup_of standard 0 zeroes) (wide (lent 24 64))).state (Deliver (View 0 0) ∷ Deliver (View 0 1) ∷ [])).network
    (2 ∷ 0 ∷ 0 ∷ 0 ∷ 2 ∷ 0 ∷ 1 ∷ 0 ∷ 1 ∷ 0 ∷ 2 ∷ 0 ∷ 2 ∷ 0 ∷ 2 ∷ 0 ∷ 1 ∷ 0 ∷ 3 ∷ 0 ∷ 2 ∷ 0 ∷ 3 ∷ 0 ∷ 3 ∷ 0 ∷ 0 ∷ 0 ∷ 3 ∷ 0 ∷ 1 ∷ 0 ∷ 3 ∷ 0 ∷ 2 ∷ 0 ∷ 3
    ∷ 0 ∷ 3 ∷ replicate 25 0)
    -- what a tick sends has the time after it
    ∷ words (after (opening (setup_of standard 1 (replicate 4 11)) (wide (lent 24 32))).state (Tick 1 ∷ [])).network
    (1 ∷ 3 ∷ 1 ∷ 1 ∷ 2 ∷ 3 ∷ 1 ∷ 1 ∷ 1 ∷ 3 ∷ 2 ∷ 1 ∷ 2 ∷ 3 ∷ 2 ∷ 1 ∷ 1 ∷ 3 ∷ 3 ∷ 1 ∷ 2 ∷ 3 ∷ 3 ∷ 1 ∷ replicate 8 0)
    -- of equal messages the first leaves: the one sent at 5 stays
    ∷ words (after (wide (handed_in standard 0 5 false 0 3 (replicate 4 5) zeroes [] (2 ∷ 0 ∷ 1 ∷ 0 ∷ 1 ∷ 0 ∷ 2 ∷ 3 ∷ 2 ∷ 0 ∷ 1 ∷ 5 ∷ [])))
    (Deliver (Vote 0 1) ∷ [])).network (1 ∷ 0 ∷ 2 ∷ 3 ∷ 2 ∷ 0 ∷ 1 ∷ 5 ∷ replicate 24 0)
    -- the sending time that makes one overdue is the last of its words
    ∷ handed_row (wide (handed_in standard 0 5 true 0 2 (replicate 4 5) zeroes [] (2 ∷ 5 ∷ 0 ∷ 5 ∷ 2 ∷ 0 ∷ 1 ∷ 3 ∷ []))) (Tick 1 ∷ []) (Refused 16 ∷ [])
    ∷ handed_row (wide (handed_in standard 0 5 true 0 1 (replicate 4 5) zeroes [] (2 ∷ 0 ∷ 1 ∷ 4 ∷ []))) (Tick 1 ∷ []) (Done 1 1 ∷ [])
    -- four processors want 32 words, seven 56
    ∷ schedule (wide (lent 24 31)) (setup_of standard 0 zeroes) [] (Refused 6 ∷ [])
    ∷ schedule (wide (lent 24 32)) (setup_of standard 0 zeroes) [] (Done 0 8 ∷ [])
    ∷ schedule (wide (lent 24 55)) (setup_of (plan_of 7 2 4 6) 0 []) [] (Refused 6 ∷ [])
    ∷ schedule (wide (lent 24 56)) (setup_of (plan_of 7 2 4 6) 0 []) [] (Done 0 14 ∷ [])
    ∷ truth (lengths_outside Wide standard 24 524288) false
    ∷ truth (lengths_outside Wide standard 24 524289) true
    -- 35 words hold eight messages, 36 hold nine
    ∷ schedule (wide (lent 24 35)) (setup_of standard 0 zeroes) (Deliver (View 0 0) ∷ Deliver (Vote 0 0) ∷ Deliver (View 0 1) ∷ [])
    (Done 0 8 ∷ Done 0 7 ∷ Done 0 6 ∷ Refused 18 ∷ [])
    ∷ schedule (wide (lent 24 36)) (setup_of standard 0 zeroes) (Deliver (View 0 0) ∷ Deliver (Vote 0 0) ∷ Deliver (View 0 1) ∷ [])
    (Done 0 8 ∷ Done 0 7 ∷ Done 0 6 ∷ Done 0 9 ∷ [])
    -- sound, kind 0, kind 5, and words that are 0 counted as held
    ∷ handed_row (wide (handed_in standard 0 5 false 0 1 (replicate 4 5) zeroes [] (4 ∷ 5 ∷ 1 ∷ 5 ∷ []))) (Settle ∷ []) (Done 0 1 ∷ [])
    ∷ handed_row (wide (handed_in standard 0 5 false 0 1 (replicate 4 5) zeroes [] (0 ∷ 0 ∷ 1 ∷ 5 ∷ []))) (Settle ∷ []) (Refused 9 ∷ [])
    ∷ handed_row (wide (handed_in standard 0 5 false 0 1 (replicate 4 5) zeroes [] (5 ∷ 0 ∷ 1 ∷ 5 ∷ []))) (Settle ∷ []) (Refused 9 ∷ [])
    ∷ handed_row (wide (handed_in standard 0 5 false 0 1 (replicate 4 5) zeroes [] [])) (Settle ∷ []) (Refused 9 ∷ [])
    -- a word beyond the last message, and the last of the words that no message can use
    ∷ handed_row (wide (handed_in standard 0 5 false 0 1 (replicate 4 5) zeroes [] (2 ∷ 0 ∷ 1 ∷ 5 ∷ 0 ∷ 0 ∷ 0 ∷ 1 ∷ []))) (Settle ∷ []) (Refused 9 ∷ [])
    ∷ handed_row (wide (with_network (replicate 34 0 ++ (1 ∷ [])) (handed_in standard 0 5 false 0 0 (replicate 4 5) zeroes [] []))) (Settle ∷ []) (Refused 9 ∷ [])
    ∷ []

-- ---- "Held runs are carried over in order, and turning them back gives the same four numbers."

-- a message of each kind, as they were sent: the words of either form
abbrev four_wide : List ℕ
four_wide = 1 ∷ 3 ∷ 2 ∷ 1 ∷ 4 ∷ 5 ∷ 1 ∷ 2 ∷ 2 ∷ 0 ∷ 3 ∷ 4 ∷ 3 ∷ 3 ∷ 0 ∷ 5 ∷ []

abbrev four_packed : List ℕ
four_packed = 1538 ∷ 1 ∷ 2753 ∷ 2 ∷ 67 ∷ 4 ∷ 1664 ∷ 5 ∷ []

-- a run at time 5 that holds so many messages, with entries, signers and sums of its own
abbrev holding : Bool → ℕ → ℕ → List ℕ → State
holding settled gst held network =
    with_sums (traffic_of (counts_of 1 2 3 4) (counts_of 5 6 7 8) 9)
    (with_network network (handed_in standard 0 5 settled gst held (5 ∷ 6 ∷ 7 ∷ 8 ∷ []) (0 ∷ 1 ∷ 0 ∷ 2 ∷ []) (15 ∷ 3 ∷ 5 ∷ 1 ∷ []) []))

-- the check that refuses it, or 0, and the target's words
abbrev carries : Form → State → List ℕ → ℕ → List ℕ → Row
carries to s target check ws = let c = carried_over to s target in ((c.check ∷ []) ∷ c.target ∷ [], (check ∷ []) ∷ ws ∷ [])

-- so many words, 9 each, that a target held before
abbrev nines : ℕ → List ℕ
nines k = replicate k 9

pub carrying : List Row
carrying =
    -- there: kind, view, processor and sending time of each, in order; a longer target's rest is 0, the odd word too
    carries Packed (wide (holding false 0 4 (padded 32 four_wide))) (nines 16) 0 (padded 16 four_packed)
    ∷ carries Packed (wide (holding false 0 4 (padded 32 four_wide))) (nines 19) 0 (padded 19 four_packed)
    -- and back; the words that no message can use are 0
    ∷ carries Wide (holding false 0 4 (padded 16 four_packed)) (nines 32) 0 (padded 32 four_wide)
    ∷ carries Wide (holding false 0 4 (padded 16 four_packed)) (nines 39) 0 (padded 39 four_wide)
    -- there and back, and back and there: the words that there were
    ∷ carries Wide (carried_to Packed (wide (holding true 3 4 (padded 33 four_wide))) (nines 17)) (nines 33) 0 (padded 33 four_wide)
    ∷ carries Packed (carried_to Wide (holding true 3 4 (padded 17 four_packed)) (nines 32)) (nines 17) 0 (padded 17 four_packed)
    -- a target exactly as long as the messages; a source exactly as long, by its own form
    ∷ carries Packed (wide (holding false 0 8 (copies 2 four_wide))) (nines 16) 0 (copies 2 four_packed)
    ∷ carries Wide (holding false 0 8 (copies 2 four_packed)) (nines 32) 0 (copies 2 four_wide)
    -- the view message of 0 for view 0, sent at 0, whose packed words are 0
    ∷ carries Wide (holding false 0 2 (replicate 16 0)) (nines 32) 0 (padded 32 (1 ∷ 0 ∷ 0 ∷ 0 ∷ 1 ∷ []))
    ∷ carries Packed (wide (holding false 0 1 (padded 32 (1 ∷ [])))) (nines 16) 0 (replicate 16 0)
    -- no message held: all words are 0
    ∷ carries Packed (wide (holding false 0 0 (replicate 32 0))) (nines 16) 0 (replicate 16 0)
    ∷ carries Wide (holding false 0 0 (replicate 16 0)) (nines 32) 0 (replicate 32 0)
    -- the last processor of 64, the last view of 15
    ∷ carries Packed
    (wide (with_tally (replicate 60 0) (with_network (padded 512 (4 ∷ 14 ∷ 63 ∷ 5 ∷ [])) (handed_in (plan_of 64 2 4 15) 0 5 false 0 1 (replicate 64 5) [] [] []))))
    (nines 256) 0 (padded 256 (7423 ∷ 5 ∷ []))
    -- run and tally stay as they are, settled or not, and the words are of the other form
    ∷ (everything (carried_to Packed (wide (holding true 3 4 (padded 32 four_wide))) (nines 18)), everything (holding true 3 4 (padded 18 four_packed)))
    ∷ (everything (carried_to Packed (wide (holding false 0 4 (padded 32 four_wide))) (nines 18)), everything (holding false 0 4 (padded 18 four_packed)))
    ∷ (everything (carried_to Wide (holding true 3 4 (padded 16 four_packed)) (nines 33)), everything (wide (holding true 3 4 (padded 33 four_wide))))
    -- and it goes on: the vote is delivered, once, and the four quorum certificates that it completes are posted
    ∷ handed_row (carried_to Packed (wide (holding false 0 4 (padded 32 four_wide))) (nines 17)) (Deliver (Vote 0 3) ∷ Deliver (Vote 0 3) ∷ []) (Done 0 7 ∷ Refused 13 ∷ [])
    ∷ []

-- ---- "A target that check 6 refuses or that is too short answers 6; an unsound run .. 9; nothing is then written."

-- unsound: its second message was sent later than now
abbrev sent_later : List ℕ
sent_later = 2 ∷ 0 ∷ 1 ∷ 5 ∷ 2 ∷ 0 ∷ 1 ∷ 6 ∷ []

pub not_carried : List Row
not_carried =
    -- a target below 4n words, though it is long enough for what is held; below 8n, back
    carries Packed (wide (holding false 0 4 (padded 32 four_wide))) (nines 15) 6 (nines 15)
    ∷ carries Wide (holding false 0 4 (padded 16 four_packed)) (nines 31) 6 (nines 31)
    -- a target above 524,288 words, though no message is held; and one of as many
    ∷ truth (target_outside Packed standard 0 524289) true
    ∷ truth (target_outside Packed standard 0 524288) false
    ∷ truth (target_outside Wide standard 0 524289) true
    ∷ truth (target_outside Wide standard 0 524288) false
    -- one word short for nine messages, and as long as they are
    ∷ carries Packed (wide (holding false 0 9 (copies 9 (2 ∷ 0 ∷ 1 ∷ 5 ∷ [])))) (nines 17) 6 (nines 17)
    ∷ carries Packed (wide (holding false 0 9 (copies 9 (2 ∷ 0 ∷ 1 ∷ 5 ∷ [])))) (nines 18) 0 (copies 9 (65 ∷ 5 ∷ []))
    ∷ carries Wide (holding false 0 9 (copies 9 (65 ∷ 5 ∷ []))) (nines 35) 6 (nines 35)
    ∷ carries Wide (holding false 0 9 (copies 9 (65 ∷ 5 ∷ []))) (nines 36) 0 (copies 9 (2 ∷ 0 ∷ 1 ∷ 5 ∷ []))
    -- 6 before 9
    ∷ carries Packed (wide (holding false 0 2 (padded 32 sent_later))) (nines 15) 6 (nines 15)
    ∷ carries Wide (holding false 0 1 (padded 16 (65 ∷ 6 ∷ []))) (nines 31) 6 (nines 31)
    -- n and the messages held as they stand, also where the words for them would wrap round
    ∷ carries Packed (wide (handed_in (plan_of 3 2 4 6) 0 5 false 0 0 (replicate 3 5) [] [] [])) (nines 11) 6 (nines 11)
    ∷ carries Packed (wide (handed_in (plan_of 3 2 4 6) 0 5 false 0 0 (replicate 3 5) [] [] [])) (nines 12) 9 (nines 12)
    ∷ carries Packed (wide (handed_in (plan_of 4611686018427387904 2 4 6) 0 5 false 0 0 [] [] [] [])) (nines 16) 6 (nines 16)
    ∷ carries Wide (handed_in (plan_of 2305843009213693952 2 4 6) 0 5 false 0 0 [] [] [] []) (nines 32) 6 (nines 32)
    ∷ carries Packed (wide (holding false 0 9223372036854775808 (replicate 32 0))) (nines 16) 6 (nines 16)
    ∷ carries Wide (holding false 0 4611686018427387904 (replicate 16 0)) (nines 32) 6 (nines 32)
    -- no run yet, and no words, of which n = 0 wants none
    ∷ carries Packed (wide (lent 0 0)) [] 9 []
    -- unsound: a message sent later than now; the target is not written
    ∷ carries Packed (wide (holding false 0 2 (padded 32 sent_later))) (nines 16) 9 (nines 16)
    ∷ carries Wide (holding false 0 1 (padded 16 (65 ∷ 6 ∷ []))) (nines 32) 9 (nines 32)
    -- unsound: kind 0, which the packed form has no word for; kind 5, either way
    ∷ carries Packed (wide (holding false 0 1 (replicate 32 0))) (nines 16) 9 (nines 16)
    ∷ carries Packed (wide (holding false 0 1 (padded 32 (5 ∷ 0 ∷ 1 ∷ 5 ∷ [])))) (nines 16) 9 (nines 16)
    ∷ carries Wide (holding false 0 1 (padded 16 (257 ∷ 5 ∷ []))) (nines 32) 9 (nines 32)
    -- unsound: too few tally words, too few words of the source, more messages than those are for, a word beyond the last
    ∷ carries Packed (wide (with_tally (replicate 23 0) (holding false 0 4 (padded 32 four_wide)))) (nines 16) 9 (nines 16)
    ∷ carries Packed (wide (holding false 0 4 (padded 31 four_wide))) (nines 16) 9 (nines 16)
    ∷ carries Wide (holding false 0 4 (padded 15 four_packed)) (nines 32) 9 (nines 32)
    ∷ carries Wide (holding false 0 9 (replicate 17 0)) (nines 36) 9 (nines 36)
    ∷ carries Packed (wide (holding false 0 4 (padded 32 (four_wide ++ (1 ∷ []))))) (nines 16) 9 (nines 16)
    -- unsound: the time alone
    ∷ carries Packed (wide (handed_in standard 0 24 false 0 0 (replicate 4 5) zeroes [] [])) (nines 16) 9 (nines 16)
    ∷ []

-- ---- all of them agree

pub packing-hold : agreeing 0 packing ≡ length packing
unfolding packing definitions
packing-hold = refl

pub packed_checks-hold : agreeing 0 packed_checks ≡ length packed_checks
unfolding packed_checks definitions
packed_checks-hold = refl

pub wide_form-hold : agreeing 0 wide_form ≡ length wide_form
unfolding wide_form definitions
wide_form-hold = refl

pub carrying-hold : agreeing 0 carrying ≡ length carrying
unfolding carrying definitions
carrying-hold = refl

pub not_carried-hold : agreeing 0 not_carried ≡ length not_carried
unfolding not_carried definitions
not_carried-hold = refl
