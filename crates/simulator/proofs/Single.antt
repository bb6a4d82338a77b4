-- An event applied as a batch of one, and whether it was accepted. Assumes nothing.
use mathlib.Core.Path.{◌≡◌, refl, ap, ◌∙◌}
use mathlib.Core.Bool.{Bool, true, false}
use mathlib.Core.Logic.{◌≢◌, ⊎_elim}
use mathlib.Core.List.{List, [], ◌∷◌}
use Prim.Native.Nat.{ℕ, ◌≤◌, ◌<◌}
use native.Mathlib.Omega.{arith}
use lib.Dec.{eqb, ltb}
use lib.ListN.{get_or}
use borrow.Author.Tests.{eq-eqb, ne_eqb, lt-ltb, le-ltb}
use Rattle.base.specs.Tests.{le?}
use Rattle.types.specs.declared.Event.{Event}
use Rattle.model.specs.State.{State, After, check_of, ticks_of, accepted}
use Rattle.model.specs.Events.{applied}
use Rattle.liveness.specs.Promises.{answer_from}
use Rattle.liveness.proofs.Promises.{answers-told}
use Rattle.words.specs.declared.Numbers.{Numbers}
use Rattle.words.specs.Events.{event_numbers, numbers_put}
use Rattle.words.specs.Batches.{Worded, words_applied}
use Rattle.words.proofs.Single.{one-applied}
use Rattle.simulator.specs.Clauses.{AppliesAll}

pub told-done : (check ticks held : ℕ) → check ≡ 0 → true ≡ accepted (answer_from check ticks held)
told-done check ticks held e = let y : eqb check 0 ≡ true = eq-eqb check 0 e in rw y refl

pub told-ticks : (check ticks held : ℕ) → check ≢ 0 → ltb 0 ticks ≡ accepted (answer_from check ticks held)
told-ticks check ticks held d =
    let n : eqb check 0 ≡ false = ne_eqb check 0 d in
    ⊎_elim
    (λ (l : 1 ≤ ticks). let m : eqb ticks 0 ≡ false = ne_eqb ticks 0 (λ e. omega arith) in rw (n, m) (lt-ltb 0 ticks l))
    (λ (l : ticks < 1). let m : eqb ticks 0 ≡ true = eq-eqb ticks 0 (omega arith) in rw (n, m) (le-ltb 0 ticks (omega arith)))
    (le? 1 ticks)

-- the event e was put among four words, which became its answer
module _ (e : Event) (s s' : State) (k : Numbers) (put left : List ℕ) (is : k ≡ event_numbers e) (there : put ≡ numbers_put (0 ∷ 0 ∷ 0 ∷ 0 ∷ []) 0 k)
    (done : AppliesAll put s s' left) where
  one : ◌≡◌ {A = Worded} (record { state = s'; words = left }) (record {
    state = (applied e s).state;
    words = (event_numbers e).form ∷ check_of (applied e s).answer ∷ ticks_of (applied e s).answer ∷ (applied e s).state.run.held ∷ [];
  })
  one = done ∙ ap (λ (ws : List ℕ). words_applied ws s) (there ∙ ap (numbers_put (0 ∷ 0 ∷ 0 ∷ 0 ∷ []) 0) is) ∙ one-applied e s

  -- what it left, and answered
  abbrev pub single : After
  single = record { state = s'; answer = (applied e s).answer }

  pub single-is : single ≡ applied e s
  single-is = ap (λ (w : Worded). record { state = w.state; answer = (applied e s).answer }) one

  pub single-accepted : (r : Bool) → ((held : ℕ) → r ≡ accepted (answer_from (get_or left 1 0) (get_or left 2 0) held)) → r ≡ accepted single.answer
  single-accepted r t =
      let h : ℕ = (applied e s).state.run.held in
      t h ∙ ap (λ (w : Worded). accepted (answer_from (get_or w.words 1 0) (get_or w.words 2 0) h)) one ∙ ap accepted (answers-told e s)
