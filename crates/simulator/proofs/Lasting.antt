-- What of check 9 lasts, after an event. Assumes nothing.
use mathlib.Core.Path.{◌≡◌, refl, sym, ap, ◌∙◌}
use mathlib.Core.Bool.{Bool, true, false, ◌||◌}
use Rattle.types.specs.declared.Event.{Event}
use Rattle.model.specs.State.{State, After}
use Rattle.model.specs.Checks.{unsound, unsound_for_good, time_unsound}
use Rattle.model.specs.Events.{applied}
use Rattle.liveness.specs.Promises.{Tabled}
use Rattle.liveness.proofs.Answers.{no-yes}
use Rattle.liveness.proofs.Judging.{by-applied}
use Rattle.liveness.proofs.Promises.{events-last}
use Rattle.liveness.proofs.Soundness.{unsound-parts}

-- what an event leaves: of a run that is broken for good all is as it was
broken-stays : (e : Event) (s : State) → unsound s ≡ true → (applied e s).state ≡ s
broken-stays e s u = by-applied (λ (a : After). a.state ≡ s) e s (λ k. refl) (λ p. absurd (p.sound (rw u tt)))

pub lasts : (e : Event) (s : State) (broken : Bool) → broken ≡ unsound_for_good s → (broken ≡ false → Tabled s.run)
    → (broken ≡ unsound_for_good (applied e s).state) × (broken ≡ false → Tabled (applied e s).state.run)
lasts e s true is full = (is ∙ ap unsound_for_good (sym (broken-stays e s (unsound-parts s ∙ ap (λ (b : Bool). b || time_unsound s) (sym is)))), λ x. no-yes x)
lasts e s false is full = let k = events-last e s (full refl) in (is ∙ sym k.0, λ x. k.1)
