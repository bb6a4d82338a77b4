use Rattle.words.specs.Events.{events_in, event_at, answer_put}
use Rattle.model.specs.Events.{applied}
use Rattle.model.specs.Checks.{unsound_for_good}
use Rattle.model.specs.State.{State, After, state_of}
use mathlib.Core.List.{List}
use Rattle.types.specs.declared.Event.{Event}
use mathlib.Core.Path.{◌≡◌, sym, ap, ap₂, subst, ◌∙◌}
use Prim.Native.Nat.{ℕ, ◌+◌, ◌<◌}
use native.Mathlib.Omega.{arith}
use Rattle.simulator.specs.Inner.{left_as}
use Rattle.words.proofs.Turning.{words_applied_from, first-turn, next-turn, last_turn}
use Rattle.liveness.specs.Promises.{Tabled}
use Rattle.simulator.proofs.Lasting.{lasts}
use Rattle.simulator.proofs.apply_words.Goals as goal

pub loop-i-init : goal.loop-i-init
loop-i-init c = (first-turn _ _, c.requires.0, c.requires.1)

pub loop-i-preserved : goal.loop-i-preserved
loop-i-preserved c =
    let s : State = state_of c.loop-i.run c.loop-i.tally c.loop-i.network in
    let i : ℕ = c.loop-i.i in
    let l : i < events_in c.loop-i.events = omega arith in
    let a : left_as _ c.apply_judged-answer.result _ _ ≡ applied (event_at c.loop-i.events i) s = c.apply_judged-answer.ensures ∙ ap (λ (e : Event). applied e s) c.event_at-event.ensures in
    let kept = lasts (event_at c.loop-i.events i) s c.args.broken c.loop-i.invariant.1 c.loop-i.invariant.2 in (
      ap₂ (λ (ws : List ℕ) (x : State). words_applied_from (i + 1) ws x) (c.put_answer.ensures ∙ ap (λ (x : After). answer_put c.loop-i.events i x.answer x.state.run.held) a) (ap (λ (x : After). x.state) a)
          ∙ next-turn c.loop-i.events i s l ∙ c.loop-i.invariant.0,
      kept.0 ∙ ap (λ (x : After). unsound_for_good x.state) (sym a),
      λ e. subst (λ (x : After). Tabled x.state.run) (sym a) (kept.1 e),
    )

pub returns : goal.returns
returns c = sym (last_turn _ _ _ (omega arith)) ∙ c.loop-i.invariant.0
