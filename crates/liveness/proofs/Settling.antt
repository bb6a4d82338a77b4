-- When a list of events has settled a run, of any run and buffers. Assumes nothing.
use mathlib.Core.Path.{◌≡◌, refl, sym, ap, ◌∙◌, subst}
use mathlib.Core.Bool.{Bool, true, false, cond}
use mathlib.Core.Logic.{◌⊎◌, inl, inr}
use mathlib.Core.List.{List, [], ◌∷◌}
use Prim.Native.Nat.{ℕ, zero, suc, ◌+◌}
use Rattle.types.specs.declared.Event.{Event}
use Rattle.types.specs.declared.Event.TheVariants.{Deliver, Sign, Show, Settle, Tick}
use Rattle.model.specs.State.{State, After, check_of, accepted, refused}
use Rattle.model.specs.Moves.{made}
use Rattle.model.specs.Events.{without, now_settled, tick_checks, tick_once, continued, ticks, tick_run, effect, applied}
use Rattle.model.specs.Lists.{after, since, since_settling, ticks_done}
use Rattle.liveness.specs.Promises.{Settled, SettledSince}
use Rattle.liveness.proofs.Judging.{by-judged, by-applied}
use Rattle.liveness.proofs.Events.{Moving}
use Rattle.liveness.proofs.History.{ticks-are-time}
use Rattle.liveness.proofs.Answers.{no-yes, refused-stays}

-- whether and when a run has settled
abbrev Alike : State → State → Type 0
Alike s s' = (s'.run.settled ≡ s.run.settled) × (s'.run.gst ≡ s.run.gst)

alike-once : (s : State) → Alike s (tick_once s).state
unfolding tick_once made
alike-once s = by-judged (λ (a : After). Alike s a.state) (refused s) (tick_checks s) _ (λ r. (refl, refl)) (λ c. (refl, refl))

alike-ticks : (m : ℕ) (s : State) → Alike s (ticks m s).state
unfolding ticks
alike-ticks zero s = (refl, refl)
alike-ticks (suc m) s = go (check_of (tick_once s).answer) (alike-ticks m (tick_once s).state)
  where
    go : (r : ℕ) → Alike (tick_once s).state (ticks m (tick_once s).state).state → Alike s (continued s r (ticks m (tick_once s).state)).state
    go zero y = (y.0 ∙ (alike-once s).0, y.1 ∙ (alike-once s).1)
    go (suc r) y = (refl, refl)

alike-effect : (e : Event) → Moving e → (s : State) → Alike s (effect e s).state
unfolding effect made without tick_run
alike-effect (Deliver m) v s = (refl, refl)
alike-effect (Sign m) v s = (refl, refl)
alike-effect (Show m) v s = (refl, refl)
alike-effect Settle v s = absurd v
alike-effect (Tick m) v s = alike-ticks m s

alike-event : (e : Event) → Moving e → (s : State) → Alike s (applied e s).state
alike-event e v s = by-applied (λ (a : After). Alike s a.state) e s (λ r. (refl, refl)) (λ c. alike-effect e v s)

-- a settled run stays so, with the same settling time
once-settled : (e : Event) (s : State) → s.run.settled ≡ true → Alike s (applied e s).state
once-settled (Deliver m) s z = alike-event (Deliver m) tt s
once-settled (Sign m) s z = alike-event (Sign m) tt s
once-settled (Show m) s z = alike-event (Show m) tt s
once-settled Settle s z = by-applied (λ (a : After). Alike s a.state) Settle s (λ r. (refl, refl)) (λ c. absurd (c.input.0 (rw z tt)))
once-settled (Tick m) s z = alike-event (Tick m) tt s

stays-settled : (es : List Event) (s : State) → s.run.settled ≡ true → Alike s (after s es)
unfolding after
stays-settled [] s z = (refl, refl)
stays-settled (e ∷ es) s z =
    let y = once-settled e s z in
    let x = stays-settled es (applied e s).state (y.0 ∙ z) in
    (x.0 ∙ y.0, x.1 ∙ y.1)

-- a settle is accepted and settles, or is refused
pub settle-cases : (s : State) → ((accepted (applied Settle s).answer ≡ true) × ((applied Settle s).state ≡ now_settled s))
    ⊎ (accepted (applied Settle s).answer ≡ false)
unfolding effect
settle-cases s = by-applied (λ (a : After). ((accepted a.answer ≡ true) × (a.state ≡ now_settled s)) ⊎ (accepted a.answer ≡ false))
    Settle s (λ r. inr refl) (λ c. inl (refl, refl))

now-settled : (s : State) → ((now_settled s).run.settled ≡ true) × ((now_settled s).run.gst ≡ (now_settled s).run.time)
unfolding now_settled
now-settled s = (refl, refl)

pub settled-since : SettledSince
unfolding after since_settling
settled-since s un [] = record { flag = un; time = λ e. no-yes (sym e) }
settled-since s un (Deliver m ∷ es) = let x = settled-since (applied (Deliver m) s).state ((alike-event (Deliver m) tt s).0 ∙ un) es in
    record { flag = x.flag; time = x.time }
settled-since s un (Sign m ∷ es) = let x = settled-since (applied (Sign m) s).state ((alike-event (Sign m) tt s).0 ∙ un) es in
    record { flag = x.flag; time = x.time }
settled-since s un (Show m ∷ es) = let x = settled-since (applied (Show m) s).state ((alike-event (Show m) tt s).0 ∙ un) es in
    record { flag = x.flag; time = x.time }
settled-since s un (Tick m ∷ es) = let x = settled-since (applied (Tick m) s).state ((alike-event (Tick m) tt s).0 ∙ un) es in
    record { flag = x.flag; time = x.time }
settled-since s un (Settle ∷ es) = go (settle-cases s) (λ i. settled-since (applied Settle s).state i es)
  where
    Goal : Bool → Type 0
    Goal b = Settled s (Settle ∷ es) (cond b (since (applied Settle s).state es) (since_settling (applied Settle s).state es))

    go : ((accepted (applied Settle s).answer ≡ true) × ((applied Settle s).state ≡ now_settled s)) ⊎ (accepted (applied Settle s).answer ≡ false)
        → ((applied Settle s).state.run.settled ≡ false → Settled (applied Settle s).state es (since_settling (applied Settle s).state es))
        → Goal (accepted (applied Settle s).answer)
    go (inl y) ih = subst Goal (sym y.0) (record {
      flag = z.0 ∙ now.0;
      time = λ e. ticks-are-time (applied Settle s).state es
          ∙ ap (λ (t : ℕ). t + ticks_done (applied Settle s).state es) (sym (z.1 ∙ now.1));
    })
      where
        now : ((applied Settle s).state.run.settled ≡ true) × ((applied Settle s).state.run.gst ≡ (applied Settle s).state.run.time)
        now = subst (λ (a : State). (a.run.settled ≡ true) × (a.run.gst ≡ a.run.time)) (sym y.1) (now-settled s)

        z : Alike (applied Settle s).state (after (applied Settle s).state es)
        z = stays-settled es (applied Settle s).state now.0
    go (inr y) ih = subst Goal (sym y) (let x = ih (ap (λ (a : State). a.run.settled) (refused-stays Settle s y) ∙ un) in
        record { flag = x.flag; time = x.time })
