-- A reader of a load, with whatever run and with buffers as long, accepts every line and stands where the load does. Assumes nothing.
use mathlib.Core.Path.{◌≡◌, refl, sym, ap, ◌∙◌, subst}
use mathlib.Core.Bool.{Bool, true, false, ◌||◌, cond}
use mathlib.Core.Logic.{◌≢◌, inl, inr}
use mathlib.Core.List.{List, [], map}
use Prim.Native.Nat.{ℕ, ◌-◌, ◌≤◌, ◌<◌}
use native.Mathlib.Omega.{arith}
use lib.Dec.{T, eqb}
use lib.ListN.{length, replicate, get_or-append}
use lib.Seq.{get_or-take, length-take-le}
use borrow.Author.Tests.{lt-ltb}
use Rattle.base.specs.Choice.{or-second}
use Rattle.base.specs.Tests.{by_cond, eq→eqb, fails}
use Rattle.types.specs.declared.Event.{Event}
use Rattle.types.specs.declared.Event.TheVariants.{Deliver, Sign, Show, Settle, Tick}
use Rattle.types.specs.declared.Answer.{Answer}
use Rattle.types.specs.declared.Answer.TheVariants.{Done, Stopped, Refused}
use Rattle.types.specs.declared.Setup.{Setup}
use Rattle.types.specs.Quantities.{table_clocks}
use Rattle.model.specs.State.{State, After, check_of, ticks_of, accepted, refused, done}
use Rattle.model.specs.Checks.{unsound}
use Rattle.model.specs.Opening.{opened, opening_checks, opening}
use Rattle.model.specs.Events.{applied}
use Rattle.liveness.specs.Promises.{Reachable, answer_from}
use Rattle.liveness.specs.Unread.{AsLong, SameWithin}
use Rattle.liveness.proofs.Judging.{by-judged}
use Rattle.liveness.proofs.Link.{Planned, correct_below}
use Rattle.liveness.proofs.Opens.{planned}
use Rattle.liveness.proofs.Soundness.{sound-of}
use Rattle.liveness.proofs.Answers.{no-yes}
use Rattle.liveness.proofs.Promises.{opened-so, opening-reaches, event-reaches, reachable-sound, opens-alike, answers-told, beyond-unread, opens-within}
use Rattle.lines.specs.Forms.{event_form, line_clocks, setup_form, setup_fields, Below, EventLine, SetupLine, trimmed}
use Rattle.lines.specs.Clauses.{Reading}
use Rattle.lines.specs.Splitting.{Cut, ended, input_lines, cut_read}
use Rattle.lines.specs.Promises.{Formed, AllFormed, schedule_of}
use Rattle.reader.specs.Lines.{reading}
use Rattle.lines.proofs.Schedules.{cuts_back}
use Rattle.reader.proofs.RoundTrip.{line-back}
use Rattle.printout.specs.Printout.{Standing, leaving, Reply, refused_reply, ticks_printed, printed_answer, event_reply, opening_reply, reply, line_accepted}
use Rattle.loads.specs.Loads.{Point, point_of, Load, halted, line_then, line_bytes, turned, load_from, turn}
use Rattle.loads.proofs.Turns.{by-load, by_whole}
use Rattle.loads.proofs.Choices.{turn-line}
use Rattle.workload.proofs.Making.{setup-formed}
use Rattle.workload.specs.Promises.{AllAccepted, standing_after, LoadAccepted, StandsAt, LoadLeads}

-- ---- an event

-- an accepted answer is printed as it is
printed-accepted : (e : Event) (h : ℕ) (a : Answer) → accepted a ≡ true → printed_answer e h a ≡ a
unfolding printed_answer ticks_printed
printed-accepted (Deliver m) h a y = refl
printed-accepted (Sign m) h a y = refl
printed-accepted (Show m) h a y = refl
printed-accepted Settle h a y = refl
printed-accepted (Tick m) h (Done c k) y = refl
printed-accepted (Tick m) h (Stopped c k r) y = refl
printed-accepted (Tick m) h (Refused r) y = no-yes (sym y)

-- and is that of an accepted line: ticks that were stopped did some
from-accepted : (check done' held : ℕ) → accepted (answer_from check done' held) ≡ true → line_accepted (answer_from check done' held) ≡ true
from-accepted check done' held = by_cond Q (eqb check 0) (Done done' held) _ (λ t y. refl)
    (λ t. by_cond Q (eqb done' 0) (Refused check) (Stopped done' held check) (λ u y. no-yes (sym y))
    (λ u y. let some' : done' ≢ 0 = λ (e : done' ≡ 0). u (eq→eqb done' 0 e) in lt-ltb 0 done' (omega (arith, some'))))
  where
    Q : Answer → Type 0
    Q a = accepted a ≡ true → line_accepted a ≡ true

event-accepted : (e : Event) (s : State) → accepted (applied e s).answer ≡ true → line_accepted (applied e s).answer ≡ true
event-accepted e s = subst (λ (a : Answer). accepted a ≡ true → line_accepted a ≡ true) (answers-told e s)
    (from-accepted (check_of (applied e s).answer) (ticks_of (applied e s).answer) (applied e s).state.run.held)

-- what a reader with an open run makes of an accepted event
replied : (e : Event) (y : Standing) → y.opened ≡ true → accepted (applied e y.state).answer ≡ true
    → event_reply e y ≡ record { standing = leaving true (applied e y.state).state; answer = (applied e y.state).answer }
unfolding event_reply
replied e y o a =
    let s : After = applied e y.state in
    ap (λ (c : Bool). cond c (record { standing = leaving true s.state; answer = printed_answer e s.state.run.held s.answer }) (refused_reply 9 y)) o
    ∙ ap (λ (b : Answer). record { standing = leaving true s.state; answer = b }) (printed-accepted e s.state.run.held s.answer a)

-- ---- all events

-- a reader that stands at y follows the load
record Follows (y : Standing) (l : Load) : Type 0 where
  formed : AllFormed l.forms
  accepts : AllAccepted y (map ended l.forms)
  led : StandsAt l.point (standing_after y (map ended l.forms))

follows-more : (f : List ℕ) (y : Standing) (l : Load) → Formed f → line_accepted (reply (cut_read reading (ended f)) y).answer ≡ true
    → Follows (reply (cut_read reading (ended f)) y).standing l → Follows y (line_then f l)
follows-more f y l k a z = record { formed = (k, z.formed); accepts = (a, z.accepts); led = z.led }

follows_none : (x : Point) (full : Bool) (y : Standing) → StandsAt x y → Follows y (halted x full)
follows_none x full y w = record { formed = tt; accepts = tt; led = w }

follows-turn : (settle : ℕ) (x : Point) → accepted (applied (turn settle x).event x.state).answer ≡ true → Reachable x.state → (y : Standing) → StandsAt x y
    → (l : Load) → ((z : Standing) → StandsAt (turned (turn settle x) x) z → Follows z l) → Follows y (line_then (event_form (turn settle x).event) l)
follows-turn settle x a r y w l next =
    let e : Event = (turn settle x).event in
    let k : EventLine (event_form e) e = turn-line settle x (sound-of x.state (fails (unsound x.state) (reachable-sound x.state r))) in
    let b = beyond-unread e x.state y.state w.state in
    let a' : accepted (applied e y.state).answer ≡ true = ap accepted (sym b.0) ∙ a in
    let q : reply (cut_read reading (ended (event_form e))) y
    ≡ record { standing = leaving true (applied e y.state).state; answer = (applied e y.state).answer } =
    ap (λ (v : Reading). reply v y) (line-back (event_form e) (inl (e, k))) ∙ replied e y w.opened a' in
    follows-more (event_form e) y l (inl (e, k)) (ap (λ (v : Reply). line_accepted v.answer) q ∙ event-accepted e y.state a')
    (subst (λ (v : Reply). Follows v.standing l) (sym q) (next (leaving true (applied e y.state).state) (record { opened = refl; state = b.1 })))

from-follows : (steps settle : ℕ) (x : Point) (room : ℕ) → Reachable x.state → (y : Standing) → StandsAt x y → Follows y (load_from settle (steps - x.step) x room)
from-follows steps settle = by-load steps settle (λ x room l. Reachable x.state → (y : Standing) → StandsAt x y → Follows y l)
    (λ x room h r. follows_none x false) (λ x room h k r. follows_none x true) (λ x room h k r. follows_none x false)
    (λ x room h k a l z r y w. follows-turn settle x a r y w l (z (event-reaches x.state r (turn settle x).event)))

-- ---- the opening

-- it reads no start clock from n on
trimmed-opens : (u : Setup) (s : State) → u.plan.n ≤ length u.clocks → opening (trimmed u) s ≡ opening u s
unfolding trimmed
trimmed-opens u s h = opens-alike (trimmed u) u (record {
  plan = refl;
  faulty = refl;
  clocks = λ p c.
      let l : p < u.plan.n = correct_below u.plan u.faulty p c in
      get_or-append (line_clocks u) (replicate (table_clocks - u.plan.n) 0) 0 p (omega (arith, length-take-le u.plan.n u.clocks h))
      ∙ get_or-take u.plan.n u.clocks p 0 l;
}) s

opening-accepted : (u : Setup) (s : State) → accepted (opening u s).answer ≡ true → line_accepted (opening u s).answer ≡ true
unfolding opening
opening-accepted u s = by-judged (λ (a : After). accepted a.answer ≡ true → line_accepted a.answer ≡ true) (refused s) (opening_checks u s) (done (opened u s))
    (λ r y. no-yes (sym y)) (λ c y. refl)

module _ (u : Setup) (before : State) (table : length u.clocks ≡ table_clocks) (below : Below (setup_fields u)) (a : accepted (opening u before).answer ≡ true) where
  reached : T (accepted (opening u before).answer)
  reached = rw a tt

  plan_fits : Planned u.plan u.faulty
  plan_fits = planned u before (opened-so u before reached).0

  setup-line : SetupLine (setup_form u) u
  setup-line =
      record {
        formed = setup-formed u before reached;
        below = below;
        table = table;
        bytes = inl refl;
      }

  module _ (x : Standing) (long : AsLong before x.state) where
    within : SameWithin (opening u before).state (opening u x.state).state
    within = (opens-within u before x.state long).1 a

    accepts_there : accepted (opening u x.state).answer ≡ true
    accepts_there = ap accepted (sym (opens-within u before x.state long).0) ∙ a

    opened_there : reply (cut_read reading (ended (setup_form u))) x
        ≡ record { standing = leaving true (opening u x.state).state; answer = (opening u x.state).answer }
    unfolding opening_reply
    opened_there =
        ap (λ (v : Reading). reply v x) (line-back (setup_form u) (inr (u, setup-line)))
        ∙ ap (λ (v : After). record { standing = leaving (x.opened || accepted v.answer) v.state; answer = v.answer })
        (trimmed-opens u x.state (omega (arith, plan_fits.n_at_most, table)))
        ∙ ap (λ (o : Bool). record { standing = leaving o (opening u x.state).state; answer = (opening u x.state).answer })
        (or-second x.opened (accepted (opening u x.state).answer) accepts_there)

    whole_follows : (steps settle seed room : ℕ) → Follows x (line_then (setup_form u) (load_from settle (steps - 0) (point_of (opening u before).state seed 0) room))
    whole_follows steps settle seed room =
        let y : Point = point_of (opening u before).state seed 0 in
        let l : Load = load_from settle (steps - 0) y room in
        follows-more (setup_form u) x l (inr (u, setup-line))
        (ap (λ (v : Reply). line_accepted v.answer) opened_there ∙ opening-accepted u x.state accepts_there)
        (subst (λ (v : Reply). Follows v.standing l) (sym opened_there)
        (from-follows steps settle y room (opening-reaches u before reached) (leaving true (opening u x.state).state)
        (record { opened = refl; state = within })))

-- ---- whole loads

follows-cut : (x : Standing) (l : Load) → Follows x l
    → AllAccepted x (input_lines (schedule_of l.forms)) × StandsAt l.point (standing_after x (input_lines (schedule_of l.forms)))
follows-cut x l f = subst (λ (cs : List Cut). AllAccepted x cs × StandsAt l.point (standing_after x cs)) (sym (cuts_back l.forms f.formed)) (f.accepts, f.led)

none-cut : (x : Standing) → AllAccepted x (input_lines [])
unfolding input_lines
none-cut x = tt

pub load-accepted : LoadAccepted
load-accepted u before steps settle seed room table below x long =
    by_whole (λ (l : Load). AllAccepted x (input_lines (schedule_of l.forms))) u before steps settle seed room (λ a. none-cut x) (λ a h. none-cut x)
    (λ a h. (follows-cut x _ (whole_follows u before table below a x long steps settle seed (room - line_bytes (setup_form u)))).0)

pub load-leads : LoadLeads
load-leads u before steps settle seed room table below x long =
    by_whole (λ (l : Load). l.forms ≢ [] → StandsAt l.point (standing_after x (input_lines (schedule_of l.forms)))) u before steps settle seed room
    (λ a n. absurd (n refl)) (λ a h n. absurd (n refl))
    (λ a h n. (follows-cut x _ (whole_follows u before table below a x long steps settle seed (room - line_bytes (setup_form u)))).1)
