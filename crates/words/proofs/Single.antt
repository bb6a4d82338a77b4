-- One event in words: it is read as what it was, and its answer is told. Assumes nothing.
use mathlib.Core.Path.{◌≡◌, refl, ap, ◌∙◌}
use mathlib.Core.List.{[], ◌∷◌}
use Rattle.types.specs.declared.Event.{Event}
use Rattle.types.specs.declared.Event.TheVariants.{Deliver, Sign, Show, Settle, Tick}
use Rattle.model.specs.State.{State, check_of, ticks_of}
use Rattle.model.specs.Events.{applied}
use Rattle.buffers.proofs.Storing.{stored_back}
use Rattle.words.specs.declared.Numbers.{Numbers}
use Rattle.words.specs.Events.{carried_as, event_of, event_as, event_numbers, four_put, numbers_put}
use Rattle.words.specs.Batches.{answered, words_applied}

-- the numbers of an event are those of no other
pub event-back : (e : Event) → event_as (event_numbers e) ≡ e
unfolding event_of
event-back (Deliver m) = ap (carried_as 1) (stored_back m)
event-back (Sign m) = ap (carried_as 2) (stored_back m)
event-back (Show m) = ap (carried_as 3) (stored_back m)
event-back Settle = refl
event-back (Tick m) = refl

-- put among four words
pub four-numbers : (k : Numbers) → numbers_put (0 ∷ 0 ∷ 0 ∷ 0 ∷ []) 0 k ≡ k.form ∷ k.kind ∷ k.view ∷ k.processor ∷ []
unfolding four_put
four-numbers k = refl

-- what a batch of one leaves
pub one-applied : (e : Event) (s : State) → let a = applied e s in
    words_applied (numbers_put (0 ∷ 0 ∷ 0 ∷ 0 ∷ []) 0 (event_numbers e)) s
    ≡ record { state = a.state; words = (event_numbers e).form ∷ check_of a.answer ∷ ticks_of a.answer ∷ a.state.run.held ∷ [] }
unfolding words_applied
one-applied e s =
    let k : Numbers = event_numbers e in
    ap (λ ws. words_applied ws s) (four-numbers k)
    ∙ ap (λ (x : Event). answered k.form (applied x s) (record { state = (applied x s).state; words = [] })) (event-back e)
