-- Every event keeps a run sound but for its time. Assumes nothing.
use mathlib.Core.Path.{◌≡◌, sym, ◌∙◌}
use mathlib.Core.Bool.{false, not, ◌&&◌}
use Prim.Native.Nat.{ℕ, zero, suc, ◌+◌, ◌≤◌, ◌<◌}
use native.Mathlib.Omega.{arith}
use lib.Dec.{T, eqb, ltb, ltb→lt}
use Rattle.base.specs.Tests.{not-not}
use Rattle.types.specs.declared.Message.{Message}
use Rattle.types.specs.declared.Event.{Event}
use Rattle.types.specs.declared.Event.TheVariants.{Deliver, Sign, Show, Settle, Tick}
use Rattle.types.specs.Messages.{view_in, processor_in}
use Rattle.model.specs.State.{State, After, is_correct, check_of, refused}
use Rattle.model.specs.Moves.{Change, handling, advanced, arrivals, made}
use Rattle.model.specs.Checks.{named_outside, not_held, reaches_end, overfull, unsound_for_good}
use Rattle.model.specs.Events.{without, delivering, signing, now_settled, tick_checks, tick_once, continued, ticks, tick_run, effect}
use Rattle.liveness.specs.Promises.{Tabled, EventsLast}
use Rattle.liveness.proofs.Judging.{neither, nor, not-ltb, Passed, by-judged, by-applied, named-within}
use Rattle.liveness.proofs.Link.{Planned}
use Rattle.liveness.proofs.TickLaws.{length-clocks}
use Rattle.liveness.proofs.Soundness.{InsideRun, inside_of, of_good, sound-of}
use Rattle.liveness.proofs.Lasting.{Lasts, lasts-of, sound-lasts, lasts-planned, made-lasts, held-addressed, without-lasts}
use Rattle.liveness.proofs.Changes.{Keeps, reached-by, handled-keeps, signed-keeps, shown-keeps, ticked-keeps}

pub record Kept (s : State) : Type 0 where
  pub lasts : Lasts s
  pub inside : InsideRun s.run
  pub tabled : Tabled s.run

-- ---- changes

made_kept : (s : State) → Lasts s → Tabled s.run → (c : Change) → Keeps s c → (T (overfull s c) → ⊥) → Kept (made s c)
unfolding made
made_kept s x tabled c k fits = record {
  lasts = made-lasts s c x k.0 fits;
  inside = k.1;
  tabled = record { clocks = k.0.clocks ∙ tabled.clocks; views = k.0.views ∙ tabled.views };
}

-- ---- events but ticks

module _ (s : State) (x : Kept s) where
  ok : Planned s.run.plan s.run.faulty
  ok = lasts-planned s x.lasts

  left-kept : (m : Message) → (T (not_held s m) → ⊥) → Kept (without s m)
  unfolding without
  left-kept m is_held_lem = record {
    lasts = without-lasts s x.lasts m is_held_lem;
    inside = x.inside;
    tabled = record { clocks = x.tabled.clocks; views = x.tabled.views };
  }

  deliver-kept : (m : Message) → Passed (Deliver m) s → Kept (made (without s m) (delivering s m))
  unfolding delivering without
  deliver-kept m c =
      let h : T (not_held s m) → ⊥ = c.input.1.1.0 in
      let a = held-addressed s x.lasts m h in
      let left = left-kept m h in
      made_kept (without s m) left.lasts left.tabled (delivering s m)
      (handled-keeps (without s m) ok x.inside left.tabled m (reached-by (without s m).run m a) a.view_low c.outcome.0) c.outcome.1.0

  low : (m : Message) → (T (named_outside s.run.plan (processor_in m) (view_in m)) → ⊥) → view_in m < s.run.plan.views
  low m no' = (named-within s.run.plan (processor_in m) (view_in m) no').1

  sign_kept : (m : Message) → Passed (Sign m) s → Kept (made s (signing s m))
  sign_kept m c = made_kept s x.lasts x.tabled (signing s m)
      (signed-keeps s ok x.inside x.tabled m c.form (low m c.input.0)) c.outcome.1.0

  show-kept : (m : Message) → Passed (Show m) s → Kept (made s (handling s.run s.tally m))
  show-kept m c = made_kept s x.lasts x.tabled (handling s.run s.tally m)
      (shown-keeps s ok x.inside x.tabled m c.form (not-not (is_correct s.run (processor_in m)) c.input.1.1.0)
      (low m c.input.0) c.outcome.0)
      c.outcome.1.0

  settle-kept : Kept (now_settled s)
  unfolding now_settled
  settle-kept = record {
    lasts = record {
      limits = x.lasts.limits;
      messages = x.lasts.messages;
      wire = x.lasts.wire;
      fine = x.lasts.fine;
      settling = nor (ltb s.run.time s.run.time) false (λ t. let g : s.run.time < s.run.time = ltb→lt _ _ t in omega arith) (λ t. t);
    };
    inside = x.inside;
    tabled = record { clocks = x.tabled.clocks; views = x.tabled.views };
  }

  -- ---- ticks

  -- time and clocks alone have advanced
  advanced-lasts : Lasts (advanced s)
  advanced-lasts = record {
    limits = x.lasts.limits;
    messages = x.lasts.messages;
    wire = x.lasts.wire;
    fine = λ z i. let f = x.lasts.fine z i in (f.0, omega (arith, f.1));
    settling =
        let y = neither (ltb s.run.time s.run.gst) (not s.run.settled && not (eqb s.run.gst 0)) x.lasts.settling in
        let l : s.run.gst ≤ s.run.time = not-ltb _ _ y.0 in
        nor (ltb (s.run.time + 1) s.run.gst) (not s.run.settled && not (eqb s.run.gst 0))
        (λ t. let g : s.run.time + 1 < s.run.gst = ltb→lt _ _ t in omega arith) y.1;
  }

  ticked-kept : (T (reaches_end (advanced s).run (arrivals (advanced s))) → ⊥) → (T (overfull (advanced s) (arrivals (advanced s))) → ⊥)
      → Kept (made (advanced s) (arrivals (advanced s)))
  ticked-kept on fits = made_kept (advanced s) advanced-lasts
      (record { clocks = length-clocks s.run s.run.plan.n ∙ x.tabled.clocks; views = x.tabled.views })
      (arrivals (advanced s)) (ticked-keeps s ok x.inside x.tabled on) fits

once-kept : (s : State) → Kept s → Kept (tick_once s).state
unfolding tick_once
once-kept s x = by-judged (λ (a : After). Kept a.state) (refused s) (tick_checks s) _ (λ r. x) (λ c. ticked-kept s x c.1.0 c.1.1.0)

ticks-kept : (m : ℕ) (s : State) → Kept s → Kept (ticks m s).state
unfolding ticks
ticks-kept zero s x = x
ticks-kept (suc m) s x = go (check_of (tick_once s).answer) (ticks-kept m (tick_once s).state (once-kept s x))
  where
    go : (r : ℕ) → Kept (ticks m (tick_once s).state).state → Kept (continued s r (ticks m (tick_once s).state)).state
    go zero l = l
    go (suc r) l = x

-- ---- every event

effect-kept : (e : Event) (s : State) → Kept s → Passed e s → Kept (effect e s).state
unfolding effect tick_run
effect-kept (Deliver m) s x c = deliver-kept s x m c
effect-kept (Sign m) s x c = sign_kept s x m c
effect-kept (Show m) s x c = show-kept s x m c
effect-kept Settle s x c = settle-kept s x
effect-kept (Tick m) s x c = ticks-kept m s x

-- a refused one leaves the run, and what no check refused was sound
pub events-last : EventsLast
events-last e s tabled = by-applied (λ (a : After). (unsound_for_good a.state ≡ unsound_for_good s) × Tabled a.state.run) e s
    (λ r. (λ i. unsound_for_good s, tabled)) (λ c.
    let g = sound-of s c.sound in
    let k = effect-kept e s (record { lasts = lasts-of s g; inside = inside_of s g; tabled = tabled }) c in
    (of_good (effect e s).state (sound-lasts (effect e s).state k.lasts k.inside) ∙ sym (of_good s g), k.tabled))
