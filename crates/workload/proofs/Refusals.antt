-- What a load does next in a run that was opened here is refused by no check but 17 and 18, so a load from an opening ends by these. Assumes nothing.
use mathlib.Core.Path.{◌≡◌, refl, sym, ap, ◌∙◌, subst}
use mathlib.Core.Bool.{Bool, true, false, not, ◌&&◌}
use mathlib.Core.Logic.{◌⊎◌, inl, inr, ⊎_elim}
use Prim.Native.Nat.{ℕ, ◌-◌, ◌≤◌, ◌<◌}
use native.Mathlib.Omega.{arith}
use lib.Dec.{T, eqb, eqb→eq, leb→le}
use Rattle.base.specs.ScanLaws.{some-by, first_some}
use Rattle.base.specs.Tests.{fails}
use Rattle.base.specs.Choice.{or-second, or-neither, or_parts}
use Rattle.types.specs.declared.Message.{Message}
use Rattle.types.specs.declared.Event.{Event}
use Rattle.types.specs.declared.Event.TheVariants.{Deliver, Settle, Tick}
use Rattle.types.specs.Messages.{view_in, processor_in, stage_of}
use Rattle.model.specs.State.{State, After, check_of, accepted, refused}
use Rattle.model.specs.Checks.{no_processor, no_view, named_outside, not_initial, is_at, place_of, not_held, unsound, unsound_for_good, time_unsound, overdue}
use Rattle.model.specs.Opening.{opening}
use Rattle.model.specs.Events.{tick_checks, tick_once, continued, ticks, ticks_answer, tick_run, checks, effect, applied}
use Rattle.liveness.proofs.Judging.{nor, by-judged-each}
use Rattle.liveness.proofs.Answers.{no-yes}
use Rattle.liveness.proofs.Addressing.{Addressed}
use Rattle.liveness.proofs.Soundness.{SoundRun, sound-of, unsound-parts}
use Rattle.liveness.proofs.Promises.{opening-reaches, reachable-sound, refused-as-overdue}
use Rattle.lines.specs.Forms.{setup_form}
use Rattle.loads.specs.Loads.{Point, point_of, refused_overdue, Load, line_bytes, load_from, turn}
use Rattle.loads.proofs.Turns.{by_whole}
use Rattle.loads.proofs.Choices.{Holding, held, held_delivery, by_turn}
use Rattle.workload.proofs.Stages.{in-place-passes, Staged, staged-at, event-staged, opening-staged}
use Rattle.workload.specs.Promises.{Ends, EndsWhole, LoadEnds, SubstitutesOverdue}
use Rattle.workload.proofs.Endings.{no-room-more, from-ends}
use Rattle.workload.proofs.Lasting.{from-keeps, from-reaches}

-- refused by the end of the views, or for want of room in the network
abbrev pub ByLimits : After → Type 0
ByLimits a = accepted a.answer ≡ false → (check_of a.answer ≡ 17) ⊎ (check_of a.answer ≡ 18)

module _ (s : State) (is-sound : unsound s ≡ false) where
  -- ---- a delivery

  -- check 10
  named : (m : Message) → Addressed s.run.plan s.run.faulty m → T (named_outside s.run.plan (processor_in m) (view_in m)) → ⊥
  named m a = nor (no_processor s.run.plan (processor_in m)) (no_view s.run.plan (view_in m))
      (λ t. let l : s.run.plan.n ≤ processor_in m = leb→le _ _ t in omega (arith, a.processor_low))
      (λ t. let l : s.run.plan.views ≤ view_in m = leb→le _ _ t in omega (arith, a.view_low))

  -- check 13: the message, or one like it, is found
  there : (m : Message) (i : ℕ) → i < s.run.held → T (is_at s.form s.network m i) → T (not_held s m) → ⊥
  there m i l at t =
      let e : place_of s m ≡ s.run.held = eqb→eq _ _ t in
      omega (arith, e, first_some (is_at s.form s.network m) s.run.held (some-by (is_at s.form s.network m) s.run.held i l at))

  delivery-limits : (m : Message) (i : ℕ) → i < s.run.held → T (is_at s.form s.network m i) → Addressed s.run.plan s.run.faulty m
      → (T (not_initial s.run.plan (stage_of m) (view_in m)) → ⊥) → ByLimits (applied (Deliver m) s)
  unfolding applied checks effect
  delivery-limits m i l at a eleven = by-judged-each ByLimits (refused s) (checks (Deliver m) s) (effect (Deliver m) s) (
    λ t. absurd t,
    (
      λ t. absurd (fails (unsound s) is-sound t),
      (
        λ t. absurd (named m a t),
        (
          λ t. absurd (eleven t),
          (
            λ t. absurd (there m i l at t),
            (λ t e. inl refl, (λ t e. inr refl, tt)),
          ),
        ),
      ),
    ),
  )
      (λ c e. no-yes e)

  -- ---- a tick

  tick-limits : overdue s ≡ false → ByLimits (applied (Tick 1) s)
  unfolding applied checks effect tick_run ticks tick_once
  tick-limits o = by-judged-each ByLimits (refused s) (checks (Tick 1) s) (effect (Tick 1) s) (λ t. absurd t, (λ t. absurd (fails (unsound s) is-sound t), tt))
      (λ c. by-judged-each (λ (a : After). ByLimits (alone a)) (refused s) (tick_checks s) _
      (λ t. absurd (fails (overdue s) o t), (λ t e. inl refl, (λ t e. inr refl, tt))) (λ d e. no-yes e))
    where
      -- a run of one tick, which left and answered a
      alone : After → After
      alone a = let x = continued s (check_of a.answer) (ticks 0 a.state) in record { state = x.state; answer = ticks_answer x }

  -- ---- settling

  settle-limits : (T s.run.settled → ⊥) → ByLimits (applied Settle s)
  unfolding applied checks effect
  settle-limits u = by-judged-each ByLimits (refused s) (checks Settle s) (effect Settle s)
      (λ t. absurd t, (λ t. absurd (fails (unsound s) is-sound t), (λ t. absurd (u t), tt))) (λ c e. no-yes e)

-- ---- what comes next

-- where the time is sound, a tick that is not refused as overdue finds nothing overdue
in-time : (s : State) → unsound s ≡ false → refused_overdue s ≡ false → overdue s ≡ false
in-time s is-sound o =
    let t : time_unsound s ≡ false = (or_parts (unsound_for_good s) (time_unsound s) (sym (unsound-parts s) ∙ is-sound)).1 in
    ap (λ (b : Bool). not b && overdue s) (sym t) ∙ o

pub turn-limits : (settle : ℕ) (x : Point) → unsound x.state ≡ false → Staged x.state → ByLimits (applied (turn settle x).event x.state)
turn-limits settle x is-sound staged = by_turn (λ (e : Event). ByLimits (applied e s)) settle x
    (λ i l. let h : Holding s sound i = held s sound i l in
    subst (λ (e : Event). ByLimits (applied e s)) (sym (held_delivery s sound i l))
    (delivery-limits s is-sound h.message i l h.shows h.addressed
    (in-place-passes s.run.plan (stage_of h.message) (view_in h.message) (staged-at s staged h.message i l h.shows))))
    (λ o. tick-limits s is-sound (in-time s is-sound o)) (settle-limits s is-sound)
  where
    s : State
    s = x.state

    sound : SoundRun s
    sound = sound-of s (fails (unsound s) is-sound)

-- ---- a load from its opening

pub load-ends : LoadEnds
load-ends u before steps settle seed room a = by_whole (EndsWhole u before steps settle seed room) u before steps settle seed room
    (λ n. no-yes (sym a ∙ n)) (λ y h. record { full = λ e. inl (refl, h); over = λ e. no-yes e })
    (λ y h.
    let x : Point = point_of (opening u before).state seed 0 in
    let r : ℕ = room - line_bytes (setup_form u) in
    let l : Load = load_from settle (steps - 0) x r in
    let t : T (accepted (opening u before).answer) = rw a tt in
    let n : Ends steps settle r x l = from-ends steps settle x r in
    let sound = reachable-sound l.point.state (from-reaches steps settle x r (opening-reaches u before t)) in
    let staged = from-keeps Staged event-staged steps settle x r (opening-staged u before t) in
    record {
      full = λ e. inr (no-room-more steps settle (setup_form u) room l h (n.full e));
      over = λ e. ⊎_elim (λ d. inl d) (λ d. inr (d, turn-limits settle l.point sound staged d)) (n.over e (omega arith));
    })

-- ---- a tick refused as overdue

-- at a time of VΓ or later 9 refuses it
unsound-tick : (s : State) → unsound s ≡ true → eqb (check_of (applied (Tick 1) s).answer) 16 ≡ false
unfolding applied checks
unsound-tick s u = by-judged-each (λ (a : After). eqb (check_of a.answer) 16 ≡ false) (refused s) (checks (Tick 1) s) (effect (Tick 1) s)
    (λ t. absurd t, (λ t. refl, tt)) (λ c. absurd (c.1.0 (rw u tt)))

pub substitutes-overdue : SubstitutesOverdue
substitutes-overdue s good = by-time (time_unsound s) refl
  where
    by-time : (b : Bool) → time_unsound s ≡ b → eqb (check_of (applied (Tick 1) s).answer) 16 ≡ (not (time_unsound s) && overdue s)
    by-time true t = unsound-tick s (unsound-parts s ∙ or-second (unsound_for_good s) (time_unsound s) t) ∙ ap (λ (b : Bool). not b && overdue s) (sym t)
    by-time false t = refused-as-overdue s (unsound-parts s ∙ or-neither (unsound_for_good s) (time_unsound s) good t) ∙ ap (λ (b : Bool). not b && overdue s) (sym t)
