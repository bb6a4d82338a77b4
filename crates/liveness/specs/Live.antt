-- The settling half of demand 3 speaks of something, and of no less than it says. Runs with as many faulty processors as may be, the first
-- leader among them: two, with 3 and 2 views per leader, in which more ticks than the bound are accepted since settling, and there is the
-- certificate; and some, with 2, 3 and 8, in which the bound is not passed, and there is none. Assumes nothing.
use Rattle.std.specs.Prelude.{◌≡◌, refl, Bool, true, not, ◌&&◌, cond, List, [], ◌∷◌, map, ℕ, zero, suc, ◌+◌, ◌*◌, ◌<◌, T, leb, ltb, replicate, take}
use Rattle.std.proofs.Common.{arith, ltb→lt}
use Rattle.base.specs.Tests.{T-left}
use Rattle.base.specs.Scan.{listed}
use Rattle.base.specs.Sets.{member, size}
use Rattle.types.specs.declared.Message.TheVariants.{View, Vote, Vc, Qc}
use Rattle.types.specs.declared.Event.{Event}
use Rattle.types.specs.declared.Event.TheVariants.{Deliver, Settle, Tick}
use Rattle.types.specs.declared.Answer.{Answer}
use Rattle.types.specs.declared.Setup.{Setup}
use Rattle.types.specs.Quantities.{tolerated, per_leader, per_leader_usual, correct}
use Rattle.model.specs.State.{State, view_of, accepted}
use Rattle.model.specs.Opening.{opening}
use Rattle.model.specs.Lists.{after, Since, since_settling, ticks_done, ticks_since, formed_in, formed_during, formed_since}
use Rattle.liveness.specs.Promises.{settling_bound, Certified}
use Rattle.model.specs.Rows.{definitions, plan_with, plan_of, zeroes, setup_of, lent, answers}

all_accepted : List Answer → Bool
all_accepted [] = true
all_accepted (x ∷ xs) = accepted x && all_accepted xs

-- 1 for each view below k whose quorum certificate was formed since settling, 0 for the others
formed_below : ℕ → Since → List ℕ
formed_below k i = listed (λ w. cond (formed_since i w) 1 0) k

-- what holds of processors 1 to 3 holds of every correct one of four, the first of which is faulty
by-correct : (Q : ℕ → Type 0) → Q 1 → Q 2 → Q 3 → (p : ℕ) → T (ltb p 4 && not (member 1 p)) → Q p
unfolding member
by-correct Q a b c zero i = absurd i
by-correct Q a b c (suc zero) i = a
by-correct Q a b c (suc (suc zero)) i = b
by-correct Q a b c (suc (suc (suc zero))) i = c
by-correct Q a b c (suc (suc (suc (suc p)))) i =
    let low : suc (suc (suc (suc p))) < 4 = ltb→lt _ _ (T-left (ltb (suc (suc (suc (suc p)))) 4) _ i) in
    absurd (omega arith)

-- ---- past the bound: each message is delivered as late as the settled network allows

-- the faulty processors: the leader of views 0 to 2 alone
unfoldable pub setup : Setup
setup = setup_of (plan_of 4 1 2 12) 1 zeroes

abbrev pub unopened : State
unopened = lent 48 64

abbrev start : State
start = (opening setup unopened).state

-- no message goes to the faulty leader; all enter view 3 at time 6; from there on, what is sent at one time is delivered at the next
unfoldable pub events : List Event
events =
    Settle ∷ Tick 7
    ∷ Deliver (View 3 1) ∷ Deliver (Vote 3 1) ∷ Deliver (View 3 2) ∷ Deliver (Vote 3 2) ∷ Deliver (View 3 3) ∷ Deliver (Vote 3 3) ∷ Tick 1
    ∷ Deliver (Vc 3 1) ∷ Deliver (Vc 3 2) ∷ Deliver (Vc 3 3) ∷ Deliver (Qc 3 1) ∷ Deliver (Qc 3 2) ∷ Deliver (Qc 3 3) ∷ Tick 1
    ∷ Deliver (Vote 4 1) ∷ Deliver (Vote 4 2) ∷ Deliver (Vote 4 3) ∷ Tick 1
    ∷ Deliver (Qc 4 1) ∷ Deliver (Qc 4 2) ∷ Deliver (Qc 4 3) ∷ Tick 1
    ∷ Deliver (Vote 5 1) ∷ Deliver (Vote 5 2) ∷ Deliver (Vote 5 3) ∷ Tick 1
    ∷ Deliver (Qc 5 1) ∷ Deliver (Qc 5 2) ∷ Deliver (Qc 5 3) ∷ Tick 1
    ∷ Deliver (View 6 1) ∷ Deliver (Vote 6 1) ∷ Deliver (View 6 2) ∷ Deliver (Vote 6 2) ∷ Deliver (View 6 3) ∷ Deliver (Vote 6 3) ∷ Tick 1
    ∷ Deliver (Vc 6 1) ∷ Deliver (Vc 6 2) ∷ Deliver (Vc 6 3) ∷ Deliver (Qc 6 1) ∷ Deliver (Qc 6 2) ∷ Deliver (Qc 6 3) ∷ Tick 1
    ∷ Deliver (Vote 7 1) ∷ Deliver (Vote 7 2) ∷ Deliver (Vote 7 3) ∷ Tick 1
    ∷ Deliver (Qc 7 1) ∷ Deliver (Qc 7 2) ∷ Deliver (Qc 7 3) ∷ Tick 1
    ∷ Deliver (Vote 8 1) ∷ Deliver (Vote 8 2) ∷ Deliver (Vote 8 3) ∷ Tick 1
    ∷ Deliver (Qc 8 1) ∷ Deliver (Qc 8 2) ∷ Deliver (Qc 8 3) ∷ Tick 1
    ∷ []

-- the run is an accepted opening's, and f is t
pub opening-accepted : T (accepted (opening setup unopened).answer)
unfolding setup definitions
opening-accepted = tt

most-faulty : size setup.faulty ≡ tolerated setup.plan
unfolding setup definitions
most-faulty = refl

-- no event is refused
accepted-all : all_accepted (answers start events) ≡ true
unfolding all_accepted setup events definitions
accepted-all = refl

-- 19 ticks since settling: one more than the bound
pub past_bound : ticks_since (since_settling start (take 62 events)) ≡ settling_bound setup + 1
unfolding setup events since_settling ticks_done definitions
past_bound = refl

-- quorum certificates formed since settling: views 3 to 8, of the views 0 to 11
formed-since : formed_below 12 (since_settling start events) ≡ (0 ∷ 0 ∷ 0 ∷ 1 ∷ 1 ∷ 1 ∷ 1 ∷ 1 ∷ 1 ∷ 0 ∷ 0 ∷ 0 ∷ [])
unfolding formed_below setup events since_settling formed_in formed_during definitions
formed-since = refl

-- every correct processor is in view 9
later-views : (p : ℕ) → T (correct setup.plan setup.faulty p) → view_of (after start events).run p ≡ 9
unfolding setup events definitions
later-views = by-correct (λ p. view_of (after start events).run p ≡ 9) refl refl refl

-- so what demand 3 promises is met, by the earliest of these certificates
kept : Certified setup start events (after start events).run
unfolding setup events since_settling formed_in formed_during definitions
kept = record { view = 3; led = tt; formed = tt; later = λ p c. omega (arith, later-views p c) }

-- ---- past it with 2 views per leader, whose slot is 4Δ and no more

-- start clocks as far apart as checks 7 and 8 let them be: the last processor is a tick from view 2, the one before it a slot behind, and the
-- leader of view 2 starts only now
unfoldable tight : Setup
tight = setup_of (plan_with 4 1 4 10 2) 1 (0 ∷ 0 ∷ 3 ∷ 7 ∷ [])

abbrev tight_unopened : State
tight_unopened = lent 40 64

abbrev tight_start : State
tight_start = (opening tight tight_unopened).state

-- the last one enters view 2 at time 1, the one before it at 5 and, by their view certificate, the leader at 7; the leader's vote is heard at 8,
-- a slot and three delays after the first, and at 9 the last one leaves for view 4
unfoldable tight_events : List Event
tight_events =
    Settle ∷ Tick 2
    ∷ Deliver (View 2 3) ∷ Deliver (Vote 2 3) ∷ Tick 4
    ∷ Deliver (View 2 2) ∷ Deliver (Vote 2 2) ∷ Tick 1
    ∷ Deliver (Vc 2 1) ∷ Deliver (Vc 2 2) ∷ Deliver (Vc 2 3) ∷ Tick 1
    ∷ Deliver (View 2 1) ∷ Deliver (Vote 2 1) ∷ Tick 1
    ∷ Deliver (Qc 2 1) ∷ Deliver (Qc 2 2) ∷ Deliver (Qc 2 3) ∷ Tick 1
    ∷ Deliver (Vote 3 1) ∷ Deliver (Vote 3 2) ∷ Deliver (View 4 3) ∷ Deliver (Vote 4 3) ∷ Tick 4
    ∷ Deliver (View 4 1) ∷ Deliver (Vote 4 1) ∷ Deliver (View 4 2) ∷ Deliver (Vote 4 2) ∷ Tick 1
    ∷ Deliver (Vc 4 1) ∷ Deliver (Vc 4 2) ∷ Deliver (Vc 4 3) ∷ Deliver (Qc 4 1) ∷ Deliver (Qc 4 2) ∷ Deliver (Qc 4 3) ∷ Tick 1
    ∷ Deliver (Vote 5 1) ∷ Deliver (Vote 5 2) ∷ Deliver (Vote 5 3) ∷ Tick 1
    ∷ Deliver (Qc 5 1) ∷ Deliver (Qc 5 2) ∷ Deliver (Qc 5 3) ∷ Tick 1
    ∷ Deliver (View 6 1) ∷ Deliver (Vote 6 1) ∷ Deliver (View 6 2) ∷ Deliver (Vote 6 2) ∷ Deliver (View 6 3) ∷ Deliver (Vote 6 3) ∷ Tick 1
    ∷ Deliver (Vc 6 1) ∷ Deliver (Vc 6 2) ∷ Deliver (Vc 6 3) ∷ Deliver (Qc 6 1) ∷ Deliver (Qc 6 2) ∷ Deliver (Qc 6 3) ∷ Tick 1
    ∷ Deliver (Vote 7 1) ∷ Deliver (Vote 7 2) ∷ Deliver (Vote 7 3) ∷ Tick 1
    ∷ Deliver (Qc 7 1) ∷ Deliver (Qc 7 2) ∷ Deliver (Qc 7 3) ∷ Tick 4
    ∷ []

tight-accepted : all_accepted ((opening tight tight_unopened).answer ∷ answers tight_start tight_events) ≡ true
unfolding all_accepted tight tight_events definitions
tight-accepted = refl

tight-most-faulty : size tight.faulty ≡ tolerated tight.plan
unfolding tight definitions
tight-most-faulty = refl

-- 25 ticks since settling: one more than the bound
tight-past-bound : ticks_since (since_settling tight_start tight_events) ≡ settling_bound tight + 1
unfolding tight tight_events since_settling ticks_done definitions
tight-past-bound = refl

-- quorum certificates formed since settling: views 2 and 4 to 7, of the views 0 to 9; view 3 has no vote of the one that left
tight-formed : formed_below 10 (since_settling tight_start tight_events) ≡ (0 ∷ 0 ∷ 1 ∷ 0 ∷ 1 ∷ 1 ∷ 1 ∷ 1 ∷ 0 ∷ 0 ∷ [])
unfolding formed_below tight tight_events since_settling formed_in formed_during definitions
tight-formed = refl

-- every correct processor is in view 8
tight-later : (p : ℕ) → T (correct tight.plan tight.faulty p) → view_of (after tight_start tight_events).run p ≡ 8
unfolding tight tight_events definitions
tight-later = by-correct (λ p. view_of (after tight_start tight_events).run p ≡ 8) refl refl refl

tight-kept : Certified tight tight_start tight_events (after tight_start tight_events).run
unfolding tight tight_events since_settling formed_in formed_during definitions
tight-kept = record { view = 2; led = tt; formed = tt; later = λ p c. omega (arith, tight-later p c) }

-- ---- not past it: the views of two faulty leaders pass by clock alone

-- the faulty ones: of seven processors, the leaders of views 0 to 2k−1; the next leader's k views are the last
unfoldable slow : ℕ → ℕ → Setup
slow k gamma = setup_of (plan_with 7 1 gamma (3 * k) k) 3 []

abbrev slow_unopened : State
slow_unopened = lent 96 64

abbrev slow_start : ℕ → ℕ → State
slow_start k gamma = (opening (slow k gamma) slow_unopened).state

-- all enter view 2k at time 2kΓ, and what they send may still be on its way a tick later
unfoldable slow_events : ℕ → ℕ → List Event
slow_events k gamma = Settle ∷ Tick (2 * k * gamma + 1) ∷ []

abbrev slow_answers : ℕ → ℕ → List Answer
slow_answers k gamma = (opening (slow k gamma) slow_unopened).answer ∷ answers (slow_start k gamma) (slow_events k gamma)

abbrev slow_since : ℕ → ℕ → Since
slow_since k gamma = since_settling (slow_start k gamma) (slow_events k gamma)

-- with 2, 3 and 8 views per leader, and a slot of 4Δ, 3Δ and 2Δ
abbrev each_slow : {A : Type 0} → (ℕ → ℕ → A) → List A
each_slow f = f 2 4 ∷ f 3 3 ∷ f 8 2 ∷ []

slow-accepted : each_slow (λ k gamma. all_accepted (slow_answers k gamma)) ≡ replicate 3 true
unfolding all_accepted slow slow_events definitions
slow-accepted = refl

slow-most-faulty : each_slow (λ k gamma. size (slow k gamma).faulty) ≡ each_slow (λ k gamma. tolerated (slow k gamma).plan)
unfolding slow definitions
slow-most-faulty = refl

-- so many ticks since settling, and no certificate of any view
slow-ticks : each_slow (λ k gamma. ticks_since (slow_since k gamma)) ≡ (17 ∷ 19 ∷ 33 ∷ [])
unfolding slow slow_events since_settling ticks_done definitions
slow-ticks = refl

none_formed : each_slow (λ k gamma. formed_below (3 * k) (slow_since k gamma)) ≡ each_slow (λ k gamma. replicate (3 * k) 0)
unfolding formed_below slow slow_events since_settling formed_in formed_during definitions
none_formed = refl

-- so it must not be due yet: a bound below them would promise too much
not-due : each_slow (λ k gamma. leb (ticks_since (slow_since k gamma)) (settling_bound (slow k gamma))) ≡ replicate 3 true
unfolding slow slow_events since_settling ticks_done definitions
not-due = refl

-- ---- the bound elsewhere: with k views per leader, and nobody, one and two faulty of seven

bounds_with : ℕ → List ℕ
bounds_with k = map (λ faulty. settling_bound (setup_of (plan_with 7 2 9 40 k) faulty [])) (0 ∷ 1 ∷ 3 ∷ [])

bounds : map bounds_with (2 ∷ 3 ∷ 5 ∷ 8 ∷ []) ≡ ((35 ∷ 53 ∷ 71 ∷ []) ∷ (44 ∷ 71 ∷ 98 ∷ []) ∷ (62 ∷ 107 ∷ 152 ∷ []) ∷ (89 ∷ 161 ∷ 233 ∷ []) ∷ [])
unfolding bounds_with definitions
bounds = refl

-- and of every setup with the usual views per leader: (3f+4)Γ + 4Δ
pub usual-bound : (u : Setup) → per_leader u.plan ≡ per_leader_usual → settling_bound u ≡ (3 * size u.faulty + 4) * u.plan.gamma + 4 * u.plan.delta
usual-bound u usual = rw usual (omega arith)
