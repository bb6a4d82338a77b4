-- What is promised: demand 3 first, then what goes with it for every run opened here and altered by events only, then what holds of any
-- run and buffers handed in. proofs/Promises.antt has a proof of each, under its name in small letters with hyphens (`demand-three`).
use Rattle.std.specs.Prelude.{◌≡◌, Bool, true, false, not, ◌&&◌, ◌||◌, cond, ◌≢◌, List, [], ◌++◌, ℕ, ◌+◌, ◌*◌, ◌≤◌, ◌<◌, T, eqb, length, get_or, take}
use Rattle.base.specs.Sets.{member, size}
use Rattle.types.specs.declared.Plan.{Plan}
use Rattle.types.specs.declared.Event.{Event}
use Rattle.types.specs.declared.Event.TheVariants.{Tick}
use Rattle.types.specs.declared.Answer.{Answer}
use Rattle.types.specs.declared.Answer.TheVariants.{Done, Stopped, Refused}
use Rattle.types.specs.declared.Run.{Run}
use Rattle.types.specs.declared.Setup.{Setup}
use Rattle.types.specs.declared.Processor.{Processor}
use Rattle.types.specs.declared.Input.{Input}
use Rattle.types.specs.Quantities.{n_most, per_leader, lead, correct}
use Rattle.types.specs.Messages.{vote_stage}
use Rattle.model.specs.State.{State, clock_of, view_of, marks_word, mark_bit, word, check_of, ticks_of, accepted, refused}
use Rattle.model.specs.Checks.{time_unsound, unsound, unsound_for_good}
use Rattle.model.specs.Opening.{opening}
use Rattle.model.specs.Events.{tick_once, Ticks, ticks, applied}
use Rattle.model.specs.Processors.{stepped}
use Rattle.model.specs.Lists.{after, ClockCondition, Since, since_settling, has_settled, ticks_done, ticks_since, formed_in, formed_since}

-- ---- demand 3

-- "The settling bound becomes k(f+1)Γ + Γ + 4Δ", "f is the mask's ones"; where k is 3 that is (3f+4)Γ + 4Δ (`usual-bound`, in Live)
abbrev pub settling_bound : Setup → ℕ
settling_bound u = per_leader u.plan * (size u.faulty + 1) * u.plan.gamma + u.plan.gamma + 4 * u.plan.delta

-- some correct leader has formed a quorum certificate since settling, and every correct processor is in a later view of r, which es left
pub record Certified (u : Setup) (s : State) (es : List Event) (r : Run) : Type 0 where
  pub view : ℕ
  pub led : T (correct u.plan u.faulty (lead u.plan view))
  pub formed : T (formed_since (since_settling s es) view)
  pub later : (p : ℕ) → T (correct u.plan u.faulty p) → view + 1 ≤ view_of r p

-- For every setup, every run and lent buffers at hand, if the opening is accepted: for every list of events and every number of its first
-- events (none: the opening; all: the whole list), the clock condition holds after them, and if by them more ticks than the settling bound were
-- accepted since settling, there is such a certificate.
abbrev pub DemandThree : Type 0
DemandThree =
    (u : Setup) (before : State) → T (accepted (opening u before).answer) → (es : List Event) (i : ℕ)
    → ClockCondition (after (opening u before).state (take i es)).run
    × (settling_bound u < ticks_since (since_settling (opening u before).state (take i es))
    → Certified u (opening u before).state (take i es) (after (opening u before).state (take i es)).run)

-- ---- what goes with it, from an accepted opening on

-- after any list no event is refused by check 9
abbrev pub StaysSound : Type 0
StaysSound =
    (u : Setup) (before : State) → T (accepted (opening u before).answer) → (es : List Event) (e : Event)
    → check_of (applied e (after (opening u before).state es)).answer ≢ 9

-- a state that some accepted opening and the events after it have left
pub record Reachable (s : State) : Type 0 where
  pub setup : Setup
  pub before : State
  pub opens : T (accepted (opening setup before).answer)
  pub events : List Event
  pub is : s ≡ after (opening setup before).state events

abbrev pub OpeningReaches : Type 0
OpeningReaches = (u : Setup) (before : State) → T (accepted (opening u before).answer) → Reachable (opening u before).state

abbrev pub EventReaches : Type 0
EventReaches = (s : State) → Reachable s → (e : Event) → Reachable (applied e s).state

-- check 9 does not refuse it
abbrev pub ReachableSound : Type 0
ReachableSound = (s : State) → Reachable s → unsound s ≡ false

-- the plan, the faulty set, the lengths of what is lent and the form of the network stay
pub record Same (u : Setup) (before s : State) : Type 0 where
  pub plan : s.run.plan ≡ u.plan
  pub faulty : s.run.faulty ≡ u.faulty
  pub tally : length s.tally ≡ length before.tally
  pub network : length s.network ≡ length before.network
  pub form : s.form ≡ before.form

abbrev pub StaysSame : Type 0
StaysSame =
    (u : Setup) (before : State) → T (accepted (opening u before).answer) → (es : List Event) → Same u before (after (opening u before).state es)

-- views never fall, clocks never run backward
abbrev pub NeverBack : Type 0
NeverBack =
    (u : Setup) (before : State) → T (accepted (opening u before).answer) → (xs ys : List Event) (p : ℕ) → T (correct u.plan u.faulty p)
    → (view_of (after (opening u before).state xs).run p ≤ view_of (after (opening u before).state (xs ++ ys)).run p)
    × (clock_of (after (opening u before).state xs).run p ≤ clock_of (after (opening u before).state (xs ++ ys)).run p)

-- ---- of any run and buffers, opened here or not

-- what xs and then ys leave is what ys leave after xs
abbrev pub ListLaw : Type 0
ListLaw = (s : State) (xs ys : List Event) → after s (xs ++ ys) ≡ after (after s xs) ys

-- a refused call changes nothing
abbrev pub RefusedStays : Type 0
RefusedStays = (e : Event) (s : State) → accepted (applied e s).answer ≡ false → (applied e s).state ≡ s

abbrev pub RefusedOpeningStays : Type 0
RefusedOpeningStays = (u : Setup) (s : State) → accepted (opening u s).answer ≡ false → (opening u s).state ≡ s

-- nor does a refused input to one processor, which then sends nothing
abbrev pub RefusedProcessorStays : Type 0
RefusedProcessorStays =
    (plan : Plan) (c : Processor) (i : Input) → (stepped plan c i).check ≢ 0 → ((stepped plan c i).processor ≡ c) × ((stepped plan c i).sent ≡ [])

-- "those of faulty cabinets and from n on are not read": two setups that are the same but for these start clocks
pub record SameStart (u v : Setup) : Type 0 where
  pub plan : u.plan ≡ v.plan
  pub faulty : u.faulty ≡ v.faulty
  pub clocks : (p : ℕ) → T (correct u.plan u.faulty p) → get_or u.clocks p 0 ≡ get_or v.clocks p 0

-- open alike: answer, run and every lent word
abbrev pub OpensAlike : Type 0
OpensAlike = (u v : Setup) → SameStart u v → (s : State) → opening u s ≡ opening v s

-- the ticks counted, which are those that the events answer, are the time gained
abbrev pub TicksAreTime : Type 0
TicksAreTime = (s : State) (es : List Event) → (after s es).run.time ≡ s.run.time + ticks_done s es

-- an unsettled run is settled by a list exactly where the list has the accepted settle, and has then the settling time of that event: the
-- time is that and the ticks since
pub record Settled (s : State) (es : List Event) (i : Since) : Type 0 where
  pub flag : (after s es).run.settled ≡ has_settled i
  pub time : has_settled i ≡ true → (after s es).run.time ≡ (after s es).run.gst + ticks_since i

abbrev pub SettledSince : Type 0
SettledSince = (s : State) → s.run.settled ≡ false → (es : List Event) → Settled s es (since_settling s es)

-- check 9 is the part of it that lasts, or the time
abbrev pub UnsoundParts : Type 0
UnsoundParts = (s : State) → unsound s ≡ (unsound_for_good s || time_unsound s)

-- the tables have an entry for every processor that there may be
pub record Tabled (r : Run) : Type 0 where
  pub clocks : length r.clocks ≡ n_most
  pub views : length r.views ≡ n_most

-- what that part says of a run no event changes, accepted or refused, whatever the tally holds: of events in turn it need be asked once, and
-- before each of them the time alone
abbrev pub EventsLast : Type 0
EventsLast = (e : Event) (s : State) → Tabled s.run → (unsound_for_good (applied e s).state ≡ unsound_for_good s) × Tabled (applied e s).state.run

-- the mark of a view's quorum certificate
abbrev pub quorum_mark : List ℕ → ℕ → Bool
quorum_mark t w = member (word t w marks_word) (mark_bit vote_stage)

-- an event turns it exactly where rule 5 forms the certificate
abbrev pub MarksAreFormed : Type 0
MarksAreFormed = (s : State) (e : Event) (w : ℕ) → formed_in e s w ≡ (not (quorum_mark s.tally w) && quorum_mark (applied e s).state.tally w)

-- what the answer to m ticks says, a being what they leave: all were done; or some, and the next single tick is refused by the check answered; or
-- none, and the first is
abbrev pub TickAnswer : ℕ → State → State → Answer → Type 0
TickAnswer m s a (Done c h) = (c ≡ m) × (h ≡ a.run.held) × (a.run.time ≡ s.run.time + c)
TickAnswer m s a (Stopped c h r) = (0 < c) × (c < m) × (h ≡ a.run.held) × (a.run.time ≡ s.run.time + c) × (tick_once a ≡ refused a r)
TickAnswer m s a (Refused r) = (a ≡ s) × (tick_once s ≡ refused s r)

abbrev pub TicksAnswered : Type 0
TicksAnswered = (m : ℕ) (s : State) → 0 < m → unsound s ≡ false → TickAnswer m s (applied (Tick m) s).state (applied (Tick m) s).answer

-- a run of a + b ticks is one of a ticks and then, unless a check ended that, one of b
abbrev pub counted_from : ℕ → Ticks → Ticks
counted_from a x = record { state = x.state; count = a + x.count; check = x.check }

abbrev pub TicksAdd : Type 0
TicksAdd =
    (a b : ℕ) (s : State)
    → ((ticks a s).check ≡ 0 → ticks (a + b) s ≡ counted_from a (ticks b (ticks a s).state)) × ((ticks a s).check ≢ 0 → ticks (a + b) s ≡ ticks a s)

-- the answer that a check, the ticks done and the messages held tell
abbrev pub answer_from : ℕ → ℕ → ℕ → Answer
answer_from check done held = cond (eqb check 0) (Done done held) (cond (eqb done 0) (Refused check) (Stopped done held check))

-- the numbers of an event's answer, with the messages held after it, tell the answer
abbrev pub AnswersTold : Type 0
AnswersTold = (e : Event) (s : State) → let a = applied e s in answer_from (check_of a.answer) (ticks_of a.answer) a.state.run.held ≡ a.answer
