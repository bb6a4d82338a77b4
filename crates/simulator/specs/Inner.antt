-- What the contracts of the inner functions cite: the parts of a change, and what a run must have for it to be made.
use Rattle.std.specs.Prelude.{◌≡◌, Bool, true, false, ◌&&◌, cond, List, [], ◌∷◌, Result, Ok, Err, ℕ, zero, suc, ◌+◌, ◌-◌, ◌*◌, ◌^◌, ◌≤◌, ◌<◌, ltb, length}
use Rattle.types.specs.declared.Plan.{Plan}
use Rattle.types.specs.declared.Message.{Message}
use Rattle.types.specs.declared.Message.TheVariants.{View, Vote, Vc, Qc}
use Rattle.types.specs.declared.Event.{Event}
use Rattle.types.specs.declared.Run.{Run}
use Rattle.types.specs.declared.Answer.{Answer}
use Rattle.types.specs.declared.Traffic.{Traffic}
use Rattle.types.specs.declared.Processor.{Processor}
use Rattle.types.specs.declared.Input.TheVariants.{Tick}
use Rattle.types.specs.declared.Sends.{Sends}
use Rattle.types.specs.declared.Sends.TheVariants.{Nothing, Vote as VoteFor, ViewAndVote}
use Rattle.types.specs.declared.Form.TheVariants.{Packed}
use Rattle.types.specs.Quantities.{n_most, correct}
use Rattle.base.specs.Members.{Every}
use Rattle.base.specs.Scan.{some}
use Rattle.types.specs.Traffic.{traffic_delivered}
use Rattle.types.specs.Messages.{processor_in, view_in, stage_of, lacks_form}
use Rattle.model.specs.State.{State, After, state_of, with_run, with_network, with_held, with_gst, with_traffic, clock_of, view_of, is_correct, entered_word, added, posted, capacity, room_in, check_of, refused, done}
use Rattle.model.specs.Moves.{Change, to_correct, moved_to, formed_messages, heard_change, stay, entries, handling, advanced, arrival, arrivals, made}
use Rattle.model.specs.Checks.{judged, plan_outside, faulty_outside, unsound, clock_outside, at_end, reaches_end}
use Rattle.model.specs.Events.{outcome_checks, named_checks, wait_since, tick_once, Ticks, tick_run, applied}
use Rattle.model.specs.Processors.{Moved, messages_of, moving, moving_by}
use Rattle.simulator.specs.declared.Move.{Move}
use Rattle.simulator.specs.declared.Reaction.{Reaction}
use Rattle.simulator.specs.declared.Reaction.TheVariants.{Heard, Moved as MovedBy}
use Rattle.simulator.specs.declared.Task.{Task}
use Rattle.simulator.specs.declared.Task.TheVariants.{Finish, Settle as SettleRun, Handle, Run as RunTicks}
use Rattle.buffers.specs.Network.{packable, taken}

-- what a call left of the run that was lent to it, its answer, and the buffers as it left them
abbrev pub left_as : Run → Answer → List ℕ → List ℕ → After
left_as run answer tally network = record { state = state_of run tally network; answer = answer }

-- ---- messages sent

-- that a function posted ms behind the messages held: how many are held then, and the network's words
pub record Posts (ms : List Message) (held time : ℕ) (ws : List ℕ) (held' : ℕ) (ws' : List ℕ) : Type 0 where
  pub number : held' ≡ held + length ms
  pub words : ws' ≡ posted Packed ws held time ms

-- what goes into the network of what p sends in one move
abbrev pub sent_by : Plan → ℕ → ℕ → Sends → List Message
sent_by plan faulty p x = to_correct plan faulty (messages_of p x)

-- the tally with the entry that they show
abbrev pub entered_by : List ℕ → ℕ → Sends → List ℕ
entered_by t p Nothing = t
entered_by t p (VoteFor w) = added t w entered_word p
entered_by t p (ViewAndVote w) = added t w entered_word p

-- that each message has a packed word
abbrev pub AllPackable : List Message → Type 0
AllPackable ms = Every (λ (m : Message). packable m ≡ true) ms

-- that the network has room for it, and words
abbrev pub CanEnter : Plan → ℕ → ℕ → Sends → ℕ → List ℕ → Type 0
CanEnter plan faulty p x held ws =
    (0 < plan.n) × (p < 64) × (held + length (sent_by plan faulty p x) ≤ capacity Packed ws) × AllPackable (sent_by plan faulty p x)

-- that both are done: how many messages are held then, the network's words and the tally
abbrev pub Enters : Plan → ℕ → ℕ → Sends → ℕ → ℕ → List ℕ → List ℕ → ℕ → List ℕ → List ℕ → Type 0
Enters plan faulty p x held time t ws held' t' ws' = Posts (sent_by plan faulty p x) held time ws held' ws' × (t' ≡ entered_by t p x)

-- so many view messages, and as many votes
abbrev pub pairs : ℕ → List Message
pairs zero = []
pairs (suc k) = View 0 0 ∷ Vote 0 0 ∷ pairs k

-- ---- a reaction

-- that it is what an input makes of a processor: rules 1 to 3, or check 17
abbrev pub Reacts : Plan → Processor → Moved → Result Move ℕ → Type 0
Reacts plan c m (Ok x) = (at_end plan m.processor.clock ≡ false) × (x.processor ≡ m.processor) × (messages_of c.number x.sends ≡ m.sent)
Reacts plan c m (Err k) = (at_end plan m.processor.clock ≡ true) × (k ≡ 17)

-- a tick's move of a processor that may be faulty, which then stays as it is
abbrev pub arrival_move : Plan → ℕ → Processor → Moved
arrival_move plan faulty c = cond (correct plan faulty c.number) (moving_by plan c Tick) (moving plan c.number c.clock c.view stay)

-- whether it ends its clock
abbrev pub arrival_ends : Plan → ℕ → Processor → Bool
arrival_ends plan faulty c = correct plan faulty c.number && at_end plan (c.clock + 1)

-- that it is what a tick makes of the processor, or check 17
abbrev pub Arrives : Plan → ℕ → Processor → Result Move ℕ → Type 0
Arrives plan faulty c (Ok x) = (arrival_ends plan faulty c ≡ false) × (x.processor ≡ (arrival_move plan faulty c).processor)
    × (messages_of c.number x.sends ≡ (arrival_move plan faulty c).sent)
Arrives plan faulty c (Err k) = (arrival_ends plan faulty c ≡ true) × (k ≡ 17)

-- the change of a processor that moves
abbrev pub moved_change : Run → List ℕ → ℕ → Move → Change
moved_change r t p x = moved_to r (entered_by t p x.sends) p x.processor.clock x.processor.view (messages_of p x.sends)

-- what it changes, the message being m
abbrev pub change_by : Run → List ℕ → Message → Reaction → Change
change_by r t m (Heard formed) = heard_change (stage_of m) r t (view_in m) (processor_in m) formed
change_by r t m (MovedBy x) = moved_change r t (processor_in m) x

-- ---- what a run has that check 9 passed, as far as moves need it

pub record Fit (r : Run) : Type 0 where
  pub plan : plan_outside r.plan ≡ false
  pub faulty : faulty_outside r.plan r.faulty ≡ false
  pub clocks : (p : ℕ) → is_correct r p ≡ true → clock_outside r.plan (clock_of r p) (view_of r p) ≡ false

-- the tables have an entry for each processor
pub record Whole (r : Run) : Type 0 where
  pub clocks : r.plan.n ≤ length r.clocks
  pub views : r.plan.n ≤ length r.views

-- ---- a single tick

-- the processor as it stands in the run
abbrev pub seat : Run → ℕ → Processor
seat r k = record { number = k; clock = clock_of r k; view = view_of r k }

-- what the entries of the processors below k leave
abbrev pub arrived_below : State → ℕ → Change
arrived_below s k = entries (arrival (advanced s).run) (advanced s).run s.tally k

-- check 17 for one processor
abbrev pub ends_at : Run → ℕ → Bool
ends_at r q = is_correct r q && at_end r.plan (clock_of r q + 1)

-- a tick sends at most two messages for each processor
abbrev pub sent_most : ℕ
sent_most = 2 * n_most

-- a run that check 9 passed, of which a tick brings no clock to the end
pub record GoesOn (r : Run) : Type 0 where
  pub fit : Fit r
  pub whole : Whole r
  pub goes_on : some (ends_at r) r.plan.n ≡ false

-- what a tick needs that no check refuses: clocks that go on, room for what is sent, and a time that fits
pub record CanTick (r : Run) (t ws : List ℕ) : Type 0 where
  pub fit : Fit r
  pub whole : Whole r
  pub goes_on : some (ends_at r) r.plan.n ≡ false
  pub room : r.held + length (arrived_below (state_of r t ws) r.plan.n).sent ≤ capacity Packed ws
  pub time : r.time + 1 < 2 ^ 64

-- that the tick was done: time and clocks, then the entries
abbrev pub TickMade : State → State → Type 0
TickMade s s' = s' ≡ made (advanced s) (arrivals (advanced s))

-- what a tick that was done has left; a clock that enters may gain more than the tick
pub record Went (s s' : State) : Type 0 where
  pub fit : Fit s'.run
  pub room : s'.run.held ≤ room_in s'
  pub time : s'.run.time ≡ s.run.time + 1
  pub clock : (p : ℕ) → is_correct s.run p ≡ true → (is_correct s'.run p ≡ true) × (clock_of s.run p + 1 ≤ clock_of s'.run p)

-- that a function did the tick of s, or met the check that refuses it
pub record TickedTo (s s' : State) (check : ℕ) : Type 0 where
  pub state : s' ≡ (tick_once s).state
  pub number : check ≡ check_of (tick_once s).answer
  pub went : check ≡ 0 → Went s s'

-- how many were done
abbrev pub count_ticked : Result ℕ ℕ → ℕ
count_ticked (Ok x) = x
count_ticked (Err k) = 0

-- so many ticks, ended by this check
abbrev pub ran_to : State → ℕ → ℕ → Ticks
ran_to s count check = record { state = s; count = count; check = check }

-- ---- the events

-- the first of checks 10 and 11 that refuses what is named, or 0
abbrev pub named_check : Plan → Message → ℕ
named_check plan m = judged (λ r. r) (named_checks plan m) 0

-- a certificate reaches a correct processor
abbrev pub ReachesCorrect : Run → Message → Type 0
ReachesCorrect r (View w p) = Unit {0}
ReachesCorrect r (Vote w p) = Unit {0}
ReachesCorrect r (Vc w p) = is_correct r p ≡ true
ReachesCorrect r (Qc w p) = is_correct r p ≡ true

-- what a processor sends that moves has packed words
abbrev pub MovePacks : Plan → ℕ → Message → Reaction → Type 0
MovePacks plan faulty m (Heard formed) = Unit {0}
MovePacks plan faulty m (MovedBy x) = AllPackable (sent_by plan faulty (processor_in m) x.sends)

-- that it is what the message makes of whom it reaches, or check 17
abbrev pub Decides : Run → List ℕ → Message → Result Reaction ℕ → Type 0
Decides r t m (Ok x) = (reaches_end r (handling r t m) ≡ false) × (change_by r t m x ≡ handling r t m) × MovePacks r.plan r.faulty m x
Decides r t m (Err k) = (reaches_end r (handling r t m) ≡ true) × (k ≡ 17)

-- the messages of a reaction
abbrev pub sent_for : Plan → ℕ → Message → Reaction → List Message
sent_for plan faulty m (Heard formed) = formed_messages plan faulty (stage_of m) (view_in m) formed
sent_for plan faulty m (MovedBy x) = sent_by plan faulty (processor_in m) x.sends

-- a change of s', what an event leaves of s before it changes anything, judged by checks 17 and 18 and made
abbrev pub finished : State → State → Change → After
finished s s' c = judged (refused s) (outcome_checks s' c) (done (made s' c))

-- how many are held without the message at place i, where one of the h that are held is there
abbrev pub held_without : ℕ → ℕ → ℕ
held_without h i = cond (ltb i h) (h - 1) h

-- the sums then: m, which was there, is delivered
abbrev pub traffic_without : Traffic → Message → ℕ → ℕ → ℕ → Traffic
traffic_without x m wait h i = cond (ltb i h) (traffic_delivered x m wait) x

abbrev pub leaving : State → Message → ℕ → State
leaving s m i =
    let x = traffic_without s.run.traffic m (wait_since s.run.time s.form s.network i) s.run.held i in
    with_run (with_traffic x (with_held (held_without s.run.held i) s.run)) (with_network (taken s.form s.network s.run.held i) s)

-- m, held at place i or not held, is handled
abbrev pub handled : State → Message → ℕ → After
handled s m i = finished s (leaving s m i) (handling (leaving s m i).run s.tally m)

-- what it needs: a run that check 9 passed, names within their limits, and, of a certificate, a correct receiver
pub record CanHandle (s : State) (m : Message) : Type 0 where
  pub sound : unsound s ≡ false
  pub named : named_check s.run.plan m ≡ 0
  pub reaches : ReachesCorrect s.run m

-- that checks 1 and 9 do not refuse the event
abbrev pub Admitted : Event → State → Type 0
Admitted e s = (lacks_form e ≡ false) × (unsound s ≡ false)

-- that doing the task, or the refusal by a check, is applying the event
abbrev pub Tasks : Event → State → Result Task ℕ → Type 0
Tasks e s (Err k) = refused s k ≡ applied e s
Tasks e s (Ok Finish) = done s ≡ applied e s
Tasks e s (Ok SettleRun) = done (with_run (with_gst s.run.time s.run) s) ≡ applied e s
Tasks e s (Ok (Handle m i)) = CanHandle s m × (handled s m i ≡ applied e s)
Tasks e s (Ok (RunTicks m)) = (0 < m) × (unsound s ≡ false) × (tick_run m s ≡ applied e s)
