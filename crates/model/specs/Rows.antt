-- Rows of tables: what the definitions give, as numbers, beside what document 01 says. The tables here, in liveness and in lines are built of these.
use Rattle.std.specs.Prelude.{Bool, true, false, ◌&&◌, cond, List, [], ◌∷◌, ◌++◌, map, ℕ, zero, suc, ◌+◌, ◌-◌, eqb, length, replicate}
use Rattle.types.specs.declared.Plan.{Plan}
use Rattle.types.specs.declared.Message.{Message}
use Rattle.types.specs.declared.Event.{Event}
use Rattle.types.specs.declared.Form.TheVariants.{Wide}
use Rattle.types.specs.declared.Run.{Run}
use Rattle.types.specs.declared.Traffic.{Traffic}
use Rattle.types.specs.declared.Setup.{Setup}
use Rattle.types.specs.declared.Input.{Input}
use Rattle.types.specs.declared.Answer.{Answer}
use Rattle.types.specs.declared.Answer.TheVariants.{Done, Stopped, Refused}
use Rattle.std.specs.Int.Count.{ones, ones_in}
use Rattle.base.specs.Count.{count}
use Rattle.base.specs.Scan.{some, first, listed}
use Rattle.base.specs.Sets.{member}
use Rattle.types.specs.Quantities.{table_clocks, per_leader, per_leader_usual, width}
use Rattle.types.specs.Traffic.{count_numbers, no_traffic, counts_more}
use Rattle.types.specs.Messages.{kind_of, view_in, processor_in}
use Rattle.model.specs.State.{State, After, state_of, run_of, clock_of, view_of, is_correct, posted, removed}
use Rattle.model.specs.Moves.{to_correct, entering, taking, entries, ripe, to_each, hearing, handling, clocks_on, arrivals, made}
use Rattle.model.specs.Checks.{start_too_high, too_far_ahead, message_unsound, unsound, unsound_for_good, exists, overdue, reaches_end}
use Rattle.model.specs.Opening.{blank, opened, opening}
use Rattle.model.specs.Events.{without, delivering, signing, now_settled, tick_once, ticks, tick_run, checks, effect, applied}
use Rattle.model.specs.Processors.{Moved, stepped}
use Rattle.model.specs.Lists.{after}
use Rattle.model.specs.Carrying.{carried_over}

-- names all that has to unfold for a row to compute
unfoldable pub definitions : ℕ
unfolding carried_over counts_more stepped applied checks effect tick_run ticks tick_once now_settled signing delivering without after opening opened blank reaches_end overdue exists unsound unsound_for_good message_unsound too_far_ahead start_too_high made arrivals clocks_on handling hearing to_each ripe entries taking entering to_correct removed posted count some first listed member ones ones_in
definitions = 0

-- ---- what is put in

abbrev pub plan_with : ℕ → ℕ → ℕ → ℕ → ℕ → Plan
plan_with n delta gamma views k = record { n = n; delta = delta; gamma = gamma; views = views; k = k }

-- with document 01's views per leader
abbrev pub plan_of : ℕ → ℕ → ℕ → ℕ → Plan
plan_of n delta gamma views = plan_with n delta gamma views per_leader_usual

-- "n=4, Δ=2, Γ=4, V=6, mask 0 unless said."
abbrev pub standard : Plan
standard = plan_of 4 2 4 6

-- the numbers given, and 0 up to k of them
abbrev pub padded : ℕ → List ℕ → List ℕ
padded k xs = xs ++ replicate (k - length xs) 0

abbrev pub table : List ℕ → List ℕ
table xs = padded table_clocks xs

abbrev pub zeroes : List ℕ
zeroes = replicate 4 0

-- k times the same numbers
abbrev pub copies : ℕ → List ℕ → List ℕ
copies zero xs = []
copies (suc k) xs = xs ++ copies k xs

abbrev pub setup_of : Plan → ℕ → List ℕ → Setup
setup_of plan faulty clocks = record { plan = plan; faulty = faulty; clocks = table clocks }

-- buffers of so many tally and network words, lent before any run
abbrev pub lent : ℕ → ℕ → State
lent t w = state_of (run_of (plan_of 0 0 0 0) 0 0 false 0 0 (table []) (table []) no_traffic) (replicate t 0) (replicate w 0)

-- longer ones than most rows need: words for 15 views and 32 messages
abbrev pub buffers : State
buffers = lent 60 64

-- a run handed in: plan, faulty set, time, whether settled and when, messages held, clocks, views; then the first words of the 24 of the tally
-- and of the 32 of the network
abbrev pub handed_in : Plan → ℕ → ℕ → Bool → ℕ → ℕ → List ℕ → List ℕ → List ℕ → List ℕ → State
handed_in plan faulty time settled gst held clocks views tally network =
    state_of (run_of plan faulty time settled gst held (table clocks) (table views) no_traffic) (padded 24 tally) (padded 32 network)

-- the same words in the wide form: "four 64-bit words each"
abbrev pub wide : State → State
wide s = record { run = s.run; tally = s.tally; network = s.network; form = Wide }

-- ---- what comes out, as numbers

-- "(done a h)", "(stopped a h r)", "(refused r)"
abbrev pub numbers_of : Answer → List ℕ
numbers_of (Done a h) = a ∷ h ∷ []
numbers_of (Stopped a h r) = a ∷ h ∷ r ∷ []
numbers_of (Refused r) = r ∷ []

-- the answers to events in turn
abbrev pub answers : State → List Event → List Answer
answers s [] = []
answers s (e ∷ es) = let a = applied e s in a.answer ∷ answers a.state es

-- "(cabinet p view clock)" for each correct p below k
abbrev pub positions_below : Run → ℕ → List (List ℕ)
positions_below r zero = []
positions_below r (suc k) = positions_below r k ++ cond (is_correct r k) ((k ∷ view_of r k ∷ clock_of r k ∷ []) ∷ []) []

abbrev pub positions : State → List (List ℕ)
positions s = positions_below s.run s.run.plan.n

-- sent, by kind; delivered, by kind; the sum of waits
abbrev pub traffic_numbers : Traffic → List (List ℕ)
traffic_numbers x = count_numbers x.sent ∷ count_numbers x.delivered ∷ (x.waits ∷ []) ∷ []

-- every number of a run and of its buffers, and the words of a message
abbrev pub everything : State → List (List ℕ)
everything s =
    let r = s.run in
    (r.plan.n ∷ r.plan.delta ∷ r.plan.gamma ∷ r.plan.views ∷ per_leader r.plan ∷ r.faulty ∷ r.time ∷ cond r.settled 1 0 ∷ r.gst ∷ r.held ∷ [])
    ∷ r.clocks ∷ r.views ∷ s.tally ∷ s.network ∷ (width s.form ∷ []) ∷ traffic_numbers r.traffic

-- kind, view and processor of a message
abbrev pub fields_of : Message → List ℕ
fields_of m = kind_of m ∷ view_in m ∷ processor_in m ∷ []

-- the check, or 0; the processor's number, view and clock; the messages that it sends
abbrev pub moved_numbers : Moved → List (List ℕ)
moved_numbers m = (m.check ∷ []) ∷ (m.processor.number ∷ m.processor.view ∷ m.processor.clock ∷ []) ∷ map fields_of m.sent

-- ---- rows

-- what the definitions give, and what document 01 says
abbrev pub Row : Type 0
Row = List (List ℕ) × List (List ℕ)

abbrev pub same_numbers : List ℕ → List ℕ → Bool
same_numbers [] [] = true
same_numbers [] (y ∷ ys) = false
same_numbers (x ∷ xs) [] = false
same_numbers (x ∷ xs) (y ∷ ys) = eqb x y && same_numbers xs ys

abbrev pub same_groups : List (List ℕ) → List (List ℕ) → Bool
same_groups [] [] = true
same_groups [] (y ∷ ys) = false
same_groups (x ∷ xs) [] = false
same_groups (x ∷ xs) (y ∷ ys) = same_numbers x y && same_groups xs ys

-- k, and how many rows agree before the first that does not
abbrev pub agreeing : ℕ → List Row → ℕ
agreeing k [] = k
agreeing k (r ∷ rs) = cond (same_groups r.0 r.1) (agreeing (k + 1) rs) k

abbrev pub number : ℕ → ℕ → Row
number x y = ((x ∷ []) ∷ [], (y ∷ []) ∷ [])

-- whether a sentence holds
abbrev pub truth : Bool → Bool → Row
truth b c = number (cond b 1 0) (cond c 1 0)

abbrev pub words : List ℕ → List ℕ → Row
words xs ys = (xs ∷ [], ys ∷ [])

-- an opening into lent buffers and the events after it: the answers
abbrev pub schedule : State → Setup → List Event → List Answer → Row
schedule s u es xs = let o = opening u s in (map numbers_of (o.answer ∷ answers o.state es), map numbers_of xs)

-- the same, and the positions at the end
abbrev pub full_schedule : State → Setup → List Event → List Answer → List (List ℕ) → Row
full_schedule s u es xs ps =
    let o = opening u s in
    (map numbers_of (o.answer ∷ answers o.state es) ++ positions (after o.state es), map numbers_of xs ++ ps)

-- events on a run handed in
abbrev pub handed_row : State → List Event → List Answer → Row
handed_row s es xs = (map numbers_of (answers s es), map numbers_of xs)

-- "A refusal answers its number alone and changes nothing"
abbrev pub unchanged : State → After → ℕ → Row
unchanged s a r = (numbers_of a.answer ∷ everything a.state, (r ∷ []) ∷ everything s)

abbrev pub refused_whole : State → Event → ℕ → Row
refused_whole s e r = unchanged s (applied e s) r

abbrev pub refused_opening : State → Setup → ℕ → Row
refused_opening s u r = unchanged s (opening u s) r

-- one processor with a number, a view and a clock, and what reaches it
abbrev pub move_by : Plan → ℕ → ℕ → ℕ → Input → List (List ℕ) → Row
move_by plan p view clock i xs = (moved_numbers (stepped plan (record { number = p; clock = clock; view = view }) i), xs)

abbrev pub one_move : ℕ → ℕ → ℕ → Input → List (List ℕ) → Row
one_move p view clock i xs = move_by standard p view clock i xs
