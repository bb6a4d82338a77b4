-- Every event of a run that the protocol tracks pays for the messages that it posts. Assumes nothing.
use mathlib.Core.Bool.{Bool, true, false, ◌&&◌, cond}
use mathlib.Core.List.{[], ◌++◌}
use Prim.Native.Nat.{ℕ, zero, suc, ◌+◌, ◌/◌, ◌%◌, ◌≤◌, ◌<◌}
use native.Mathlib.Omega.{arith}
use native.Mathlib.Nat.{lt_of_mul-lt-mul_right}
use lib.Dec.{T, eqb, leb, ltb, leb→le, ltb→lt}
use Rattle.base.specs.Tests.{T-right, not-not, by_cond}
use Rattle.types.specs.declared.Plan.{Plan}
use Rattle.types.specs.declared.Message.{Message}
use Rattle.types.specs.declared.Message.TheVariants.{View, Vote, Vc, Qc}
use Rattle.types.specs.declared.Event.{Event}
use Rattle.types.specs.declared.Event.TheVariants.{Deliver, Sign, Show, Settle, Tick}
use Rattle.types.specs.declared.Run.{Run}
use Rattle.types.specs.declared.Traffic.{Traffic}
use Rattle.types.specs.Quantities.{initial, lead}
use Rattle.types.specs.Messages.{kind_of, view_in, processor_in, addressee, is_signature}
use Rattle.model.specs.State.{State, After, with_held, with_traffic, clock_of, view_of, is_correct, check_of, accepted, refused}
use Rattle.model.specs.Moves.{Change, still, stay, into, by_clock, taking, entries, handling, advanced, arrival, arrivals, made}
use Rattle.model.specs.Checks.{reaches_end}
use Rattle.model.specs.Events.{without, delivering, signing, now_settled, tick_checks, tick_once, continued, ticks, ticks_answer, tick_run, effect, applied}
use Rattle.model.specs.Traffic.{ticks_posted, posting, posted_in}
use Rattle.liveness.proofs.Judging.{Passed, by-judged-each, by-applied, named-within}
use Rattle.liveness.proofs.Link.{Planned, correct_below}
use Rattle.liveness.proofs.Soundness.{InsideRun}
use Rattle.liveness.proofs.Clocks.{view_low, up, Arrived, arrived, stands, in_row}
use Rattle.liveness.proofs.Tracks.{Tracked, tracked_inside}
use Rattle.liveness.proofs.Ticks.{tick_leads}
use Rattle.liveness.proofs.Events.{at-own-plan}
use Rattle.liveness.proofs.Marks.{addressed}
use Rattle.liveness.proofs.Paying.{progress_of, Paid, paid-none, paid-on, paid-less, Pays, Fresh, taking-pays, entries-pays, hearing-pays}

module _ (s : State) (ok : Planned s.run.plan s.run.faulty) (x : Tracked s.run.plan s.run.faulty ok s) where
  abbrev plan : Plan
  plan = s.run.plan

  abbrev faulty : ℕ
  faulty = s.run.faulty

  abbrev inside : InsideRun s.run
  inside = tracked_inside plan faulty ok s x

  -- a view above the present one is not entered
  not_entered : (p u : ℕ) → u < plan.views → view_of s.run p < u → T ((progress_of s.tally).entered u p) → ⊥
  not_entered p u low above t = omega (arith, x.holds.processors.entered_le u p (rw (x.books.entered u p low) t), x.books.view p)

  -- ---- a message reaches whom it is for, and has left the flight or not

  module _ (h : ℕ) (traffic : Traffic) where
    abbrev r : Run
    r = with_traffic traffic (with_held h s.run)

    -- a certificate reaches a correct processor, and makes it enter a view above its own, or none
    certificate-pays : (p u : ℕ) (b : Bool) → T (is_correct s.run p) → (T b → view_of s.run p < u)
        → (T (reaches_end r (taking r s.tally p (cond b (into u) stay))) → ⊥) → Pays r s.tally (taking r s.tally p (cond b (into u) stay))
    unfolding taking
    certificate-pays p u b c above on = taking-pays r s.tally p (cond b (into u) stay) (correct_below plan faulty p c) x.books.rows
        (fresh b above on)
      where
        fresh : (d : Bool) → (T d → view_of s.run p < u) → (T (reaches_end r (taking r s.tally p (cond d (into u) stay))) → ⊥)
            → Fresh plan s.tally p (cond d (into u) stay)
        fresh true above' on' =
            let a : view_of s.run p < u = above' tt in
            let low : u < plan.views = view_low r s.tally ok x.books.clocks_long x.books.views_long inside p u c (omega arith) on' in
            (low, not_entered p u low a)
        fresh false above' on' = tt

    handled-pays : (m : Message) → ((T (is_signature m) → ⊥) → T (is_correct s.run (processor_in m))) → view_in m < plan.views
        → (T (reaches_end r (handling r s.tally m)) → ⊥) → Pays r s.tally (handling r s.tally m)
    unfolding handling
    handled-pays (View w p) c low on = hearing-pays false r s.tally w p low x.books.rows
    handled-pays (Vote w p) c low on = hearing-pays true r s.tally w p low x.books.rows
    handled-pays (Vc w p) c low on = certificate-pays p w (initial plan w && ltb (view_of s.run p) w) (c (λ t. t))
        (λ t. ltb→lt _ _ (T-right (initial plan w) _ t)) on
    handled-pays (Qc w p) c low on = certificate-pays p (w + 1) (leb (view_of s.run p) w) (c (λ t. t))
        (λ t. let l : view_of s.run p ≤ w = leb→le _ _ t in omega arith) on

  -- ---- the events but ticks

  -- what is delivered was for a correct processor, a certificate for the one that it names
  receiver-correct : (m : Message) → T (is_correct s.run (addressee plan (kind_of m) (view_in m) (processor_in m))) → (T (is_signature m) → ⊥)
      → T (is_correct s.run (processor_in m))
  receiver-correct (View w p) c no' = absurd (no' tt)
  receiver-correct (Vote w p) c no' = absurd (no' tt)
  receiver-correct (Vc w p) c no' = c
  receiver-correct (Qc w p) c no' = c

  deliver-pays : (m : Message) → Passed (Deliver m) s → Pays s.run s.tally (delivering s m)
  unfolding delivering without
  deliver-pays m c = handled-pays (without s m).run.held (without s m).run.traffic m
      (receiver-correct m (addressed s m c.sound c.input.1.1.0))
      (named-within plan (processor_in m) (view_in m) c.input.0).1 c.outcome.0

  sign-pays : (m : Message) → Passed (Sign m) s → Pays s.run s.tally (signing s m)
  unfolding signing
  sign-pays m c = by_cond (λ (d : Change). (T (reaches_end s.run d) → ⊥) → Pays s.run s.tally d)
      (is_correct s.run (lead plan (view_in m))) (handling s.run s.tally m) (still s.run s.tally)
      (λ l. handled-pays s.run.held s.run.traffic m (λ no'. absurd (no' (not-not (is_signature m) c.form)))
      (named-within plan (processor_in m) (view_in m) c.input.0).1)
      (λ l on. paid-none plan s.tally) c.outcome.0

  show-pays : (m : Message) → Passed (Show m) s → Pays s.run s.tally (handling s.run s.tally m)
  show-pays m c = handled-pays s.run.held s.run.traffic m (λ no'. not-not (is_correct s.run (processor_in m)) c.input.1.1.0)
      (named-within plan (processor_in m) (view_in m) c.input.0).1 c.outcome.0

  -- ---- a single tick

  module _ (on : T (reaches_end (advanced s).run (arrivals (advanced s))) → ⊥) where
    -- who enters by its clock enters a view above its own
    arrival-fresh : (p : ℕ) → Fresh plan s.tally p (arrival (advanced s).run p)
    arrival-fresh p = by_cond (Fresh plan s.tally p) (is_correct a p) (by_clock plan (clock_of a p)) stay
        (λ c. by_cond (Fresh plan s.tally p) (eqb (clock_of a p % plan.gamma) 0 && initial plan w) (into w) stay
        (λ standing. (low c standing, not_entered p w (low c standing) (above c standing))) (λ t. tt))
        (λ t. tt)
      where
        a : Run
        a = (advanced s).run

        w : ℕ
        w = clock_of a p / plan.gamma

        before : Arrived s ok x.books.clocks_long x.books.views_long inside on p (entries (arrival a) a s.tally p)
        before = arrived s ok x.books.clocks_long x.books.views_long inside on p

        low : (c : T (is_correct a p)) (standing : T (eqb (clock_of a p % plan.gamma) 0 && initial plan w)) → w < plan.views
        low = in_row s ok x.books.clocks_long x.books.views_long inside on p (entries (arrival a) a s.tally p) before

        above : (c : T (is_correct a p)) (standing : T (eqb (clock_of a p % plan.gamma) 0 && initial plan w)) → view_of s.run p < w
        above c standing = lt_of_mul-lt-mul_right plan.gamma (omega (
          arith,
          stands s ok x.books.clocks_long x.books.views_long inside on p (entries (arrival a) a s.tally p) before c standing,
          up s ok x.books.clocks_long x.books.views_long inside on p c,
          (inside p c).low,
        ))

    tick-pays : Pays s.run s.tally (arrivals (advanced s))
    unfolding arrivals
    tick-pays = entries-pays (arrival (advanced s).run) (advanced s).run s.tally x.books.rows arrival-fresh plan.n (omega arith)

  -- ---- a run of ticks, if the run of those that follow the first one pays

  abbrev Ticking : ℕ → State → Type 0
  Ticking m s' = Paid plan s'.tally (ticks m s').state.tally (ticks_posted m s')

  ticking : (m : ℕ) → ((s' : State) → Tracked plan faulty ok s' → Ticking m s') → Ticking (suc m) s
  unfolding ticks ticks_posted tick_once made
  ticking m later = by-judged-each
      (λ (a : After). Paid plan s.tally (continued s (check_of a.answer) (ticks m a.state)).state.tally
      (cond (accepted a.answer) ((arrivals (advanced s)).sent ++ ticks_posted m a.state) []))
      (refused s) (tick_checks s) _
      (λ t. paid-none plan s.tally, (λ t. paid-none plan s.tally, (λ t. paid-none plan s.tally, tt)))
      (λ c. let s' : State = made (advanced s) (arrivals (advanced s)) in
      paid-on plan s.tally s'.tally (ticks m s').state.tally (arrivals (advanced s)).sent (ticks_posted m s')
      (tick-pays c.1.0) (later s' (tick_leads s ok x c.0 c.1.0 c.1.1.0).to))

-- ---- for any name of the run's plan and faulty set

module _ (plan : Plan) (faulty : ℕ) (ok : Planned plan faulty) where
  ticks-pay : (m : ℕ) (s : State) → Tracked plan faulty ok s → Paid plan s.tally (ticks m s).state.tally (ticks_posted m s)
  unfolding ticks ticks_posted
  ticks-pay zero s x = paid-none plan s.tally
  ticks-pay (suc m) s x = at-own-plan
      (λ plan' faulty' ok' s' x'.
      ((s'' : State) → Tracked plan' faulty' ok' s'' → Paid plan' s''.tally (ticks m s'').state.tally (ticks_posted m s''))
      → Paid plan' s'.tally (ticks (suc m) s').state.tally (ticks_posted (suc m) s'))
      (λ s' ok' x'. ticking s' ok' x' m) plan faulty ok s x (λ s' x'. ticks-pay m s' x')

-- an event whose checks all pass
effect-pays : (s : State) (ok : Planned s.run.plan s.run.faulty) → Tracked s.run.plan s.run.faulty ok s → (e : Event) → Passed e s
    → Paid s.run.plan s.tally (effect e s).state.tally (cond (accepted (effect e s).answer) (posting e s) [])
unfolding effect posting made now_settled tick_run
effect-pays s ok x (Deliver m) c = deliver-pays s ok x m c
effect-pays s ok x (Sign m) c = sign-pays s ok x m c
effect-pays s ok x (Show m) c = show-pays s ok x m c
effect-pays s ok x Settle c = paid-none s.run.plan s.tally
effect-pays s ok x (Tick m) c =
    let y = ticks-pay s.run.plan s.run.faulty ok m s x in
    by_cond (Paid s.run.plan s.tally (ticks m s).state.tally) (accepted (ticks_answer (ticks m s))) (ticks_posted m s) []
    (λ t. y) (λ t. paid-less s.run.plan s.tally (ticks m s).state.tally (ticks_posted m s) y)

pub event-pays : (plan : Plan) (faulty : ℕ) (ok : Planned plan faulty) (e : Event) (s : State) → Tracked plan faulty ok s
    → Paid plan s.tally (applied e s).state.tally (posted_in e s)
event-pays plan faulty ok e = at-own-plan (λ plan' faulty' ok' s x. Paid plan' s.tally (applied e s).state.tally (posted_in e s))
    (λ s ok' x. by-applied (λ (a : After). Paid s.run.plan s.tally a.state.tally (cond (accepted a.answer) (posting e s) [])) e s
    (λ r. paid-none s.run.plan s.tally) (effect-pays s ok' x e)) plan faulty ok
