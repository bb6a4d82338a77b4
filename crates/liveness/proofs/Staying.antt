-- Nothing that happens changes the form of the network. Assumes nothing.
use mathlib.Core.Path.{◌≡◌, refl, ◌∙◌}
use mathlib.Core.List.{List, [], ◌∷◌}
use Prim.Native.Nat.{ℕ, zero, suc}
use Rattle.types.specs.declared.Event.{Event}
use Rattle.types.specs.declared.Event.TheVariants.{Deliver, Sign, Show, Settle, Tick}
use Rattle.types.specs.declared.Setup.{Setup}
use Rattle.model.specs.State.{State, After, check_of, refused}
use Rattle.model.specs.Moves.{made}
use Rattle.model.specs.Opening.{blank, opened, opening_checks, opening}
use Rattle.model.specs.Events.{without, now_settled, tick_checks, tick_once, continued, ticks, tick_run, effect, applied}
use Rattle.model.specs.Lists.{after}
use Rattle.liveness.proofs.Judging.{by-judged, by-applied}

pub opening-stays : (u : Setup) (s : State) → (opening u s).state.form ≡ s.form
unfolding opening opened blank made
opening-stays u s = by-judged (λ (a : After). a.state.form ≡ s.form) (refused s) (opening_checks u s) _ (λ r. refl) (λ c. refl)

once-stays : (s : State) → (tick_once s).state.form ≡ s.form
unfolding tick_once made
once-stays s = by-judged (λ (a : After). a.state.form ≡ s.form) (refused s) (tick_checks s) _ (λ r. refl) (λ c. refl)

ticks-stay : (m : ℕ) (s : State) → (ticks m s).state.form ≡ s.form
unfolding ticks
ticks-stay zero s = refl
ticks-stay (suc m) s = go (check_of (tick_once s).answer) (ticks-stay m (tick_once s).state ∙ once-stays s)
  where
    go : (r : ℕ) → (ticks m (tick_once s).state).state.form ≡ s.form → (continued s r (ticks m (tick_once s).state)).state.form ≡ s.form
    go zero e = e
    go (suc r) e = refl

effect-stays : (e : Event) (s : State) → (effect e s).state.form ≡ s.form
unfolding effect made without now_settled tick_run
effect-stays (Deliver m) s = refl
effect-stays (Sign m) s = refl
effect-stays (Show m) s = refl
effect-stays Settle s = refl
effect-stays (Tick m) s = ticks-stay m s

pub event-stays : (e : Event) (s : State) → (applied e s).state.form ≡ s.form
event-stays e s = by-applied (λ (a : After). a.state.form ≡ s.form) e s (λ r. refl) (λ c. effect-stays e s)

pub events-stay : (s : State) (es : List Event) → (after s es).form ≡ s.form
unfolding after
events-stay s [] = refl
events-stay s (e ∷ es) = events-stay (applied e s).state es ∙ event-stays e s
