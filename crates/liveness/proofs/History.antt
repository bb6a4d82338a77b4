-- Ticks and time in any list of events, from any run and buffers. Assumes nothing.
use mathlib.Core.Path.{◌≡◌, refl, sym, ap, ◌∙◌, subst}
use mathlib.Core.Logic.{◌⊎◌, inl, inr, ◌≢◌}
use mathlib.Core.List.{[], ◌∷◌}
use Prim.Native.Nat.{◌≤◌, ◌<◌, ℕ, zero, suc, ◌+◌}
use native.Mathlib.Omega.{arith}
use lib.Dec.{eqb, eqb→eq}
use Rattle.base.specs.Tests.{by_cond}
use Rattle.types.specs.declared.Event.{Event}
use Rattle.types.specs.declared.Event.TheVariants.{Deliver, Sign, Show, Settle, Tick}
use Rattle.types.specs.declared.Answer.{Answer}
use Rattle.types.specs.declared.Answer.TheVariants.{Done, Stopped, Refused}
use Rattle.model.specs.State.{State, After, check_of, ticks_of, refused}
use Rattle.model.specs.Moves.{made}
use Rattle.model.specs.Events.{without, now_settled, tick_checks, tick_once, Ticks, continued, ticks, ticks_answer, tick_run, effect, applied}
use Rattle.model.specs.Lists.{after, ticks_done}
use Rattle.liveness.specs.Promises.{ListLaw, TicksAreTime, counted_from, TicksAdd}
use Rattle.liveness.proofs.Judging.{by-judged-each, by-applied}

pub list_law : ListLaw
unfolding after
list_law s [] ys = refl
list_law s (e ∷ xs) ys = list_law (applied e s).state xs ys

-- ---- ticks

-- a single tick is done and adds 1 to the time, or is refused by a check from 16 to 18
pub once : (s : State) → ((check_of (tick_once s).answer ≡ 0) × ((tick_once s).state.run.time ≡ s.run.time + 1))
    ⊎ ((r : ℕ) × (check_of (tick_once s).answer ≡ suc r) × (suc r ≢ 9) × (tick_once s ≡ refused s (suc r)))
unfolding tick_once made
once s = by-judged-each
    (λ (a : After). ((check_of a.answer ≡ 0) × (a.state.run.time ≡ s.run.time + 1))
    ⊎ ((r : ℕ) × (check_of a.answer ≡ suc r) × (suc r ≢ 9) × (a ≡ refused s (suc r))))
    (refused s) (tick_checks s) _
    (λ t. inr (15, refl, omega arith, refl), (λ t. inr (16, refl, omega arith, refl), (λ t. inr (17, refl, omega arith, refl), tt))) (λ c. inl (refl, refl))

-- up to m single ticks, x being what they leave: how many were done, and why no more
pub record TickCount (m : ℕ) (s : State) (x : Ticks) : Type 0 where
  pub at_most : x.count ≤ m
  pub gained : x.state.run.time ≡ s.run.time + x.count
  -- with no reason to stop all were done
  pub all_done : x.check ≡ 0 → x.count ≡ m
  -- with a reason fewer were, and the next single tick is refused by that check
  pub next_refused : x.check ≢ 0 → (x.count < m) × (tick_once x.state ≡ refused x.state x.check)
  pub none_done : x.count ≡ 0 → x.state ≡ s

ticks-went : (m : ℕ) (s : State) → check_of (tick_once s).answer ≡ 0 → ticks (suc m) s ≡ continued s 0 (ticks m (tick_once s).state)
unfolding ticks
ticks-went m s e = ap (λ (k : ℕ). continued s k (ticks m (tick_once s).state)) e

ticks-ended : (m : ℕ) (s : State) (r : ℕ) → check_of (tick_once s).answer ≡ suc r → ticks (suc m) s ≡ record { state = s; count = 0; check = suc r }
unfolding ticks
ticks-ended m s r e = ap (λ (k : ℕ). continued s k (ticks m (tick_once s).state)) e

pub ticks-counted : (m : ℕ) (s : State) → TickCount m s (ticks m s)
unfolding ticks
ticks-counted zero s = record {
  at_most = omega arith;
  gained = omega arith;
  all_done = λ e. refl;
  next_refused = λ ne. absurd (ne refl);
  none_done =
      λ e. refl;
}
ticks-counted (suc m) s = go (ticks-counted m (tick_once s).state) (once s)
  where
    go : TickCount m (tick_once s).state (ticks m (tick_once s).state)
        → ((check_of (tick_once s).answer ≡ 0) × ((tick_once s).state.run.time ≡ s.run.time + 1))
        ⊎ ((r : ℕ) × (check_of (tick_once s).answer ≡ suc r) × (suc r ≢ 9) × (tick_once s ≡ refused s (suc r)))
        → TickCount (suc m) s (continued s (check_of (tick_once s).answer) (ticks m (tick_once s).state))
    go ih (inl w) = subst (λ (k : ℕ). TickCount (suc m) s (continued s k (ticks m (tick_once s).state))) (sym w.0) (record {
      at_most = omega (arith, ih.at_most);
      gained = omega (arith, ih.gained, w.1);
      all_done = λ e. omega (arith, ih.all_done e);
      next_refused = λ ne. let y = ih.next_refused ne in (omega (arith, y.0), y.1);
      none_done = λ e. absurd (omega arith);
    })
    go ih (inr w) = subst (λ (k : ℕ). TickCount (suc m) s (continued s k (ticks m (tick_once s).state))) (sym w.1) (record {
      at_most = omega arith;
      gained = omega arith;
      all_done = λ e. absurd (omega arith);
      next_refused = λ ne. (omega arith, w.3);
      none_done = λ e. refl;
    })

one_later : (a : ℕ) (s : State) (x : Ticks) → continued s 0 (counted_from a x) ≡ counted_from (suc a) x
one_later a s x = let e : a + x.count + 1 ≡ suc a + x.count = omega arith in ap (λ (k : ℕ). record { state = x.state; count = k; check = x.check }) e

pub ticks-add : TicksAdd
unfolding ticks
ticks-add zero b s =
    let z : zero + b ≡ b = omega arith in
    let y : Ticks = ticks b s in
    let c : zero + y.count ≡ y.count = omega arith in
    (λ e. ap (λ (k : ℕ). ticks k s) z ∙ sym (ap (λ (k : ℕ). record { state = y.state; count = k; check = y.check }) c), λ ne. absurd (ne refl))
ticks-add (suc a) b s = go (ticks-add a b (tick_once s).state) (once s)
  where
    sum : suc a + b ≡ suc (a + b)
    sum = omega arith

    go : ((ticks a (tick_once s).state).check ≡ 0 → ticks (a + b) (tick_once s).state ≡ counted_from a (ticks b (ticks a (tick_once s).state).state))
        × ((ticks a (tick_once s).state).check ≢ 0 → ticks (a + b) (tick_once s).state ≡ ticks a (tick_once s).state)
        → ((check_of (tick_once s).answer ≡ 0) × ((tick_once s).state.run.time ≡ s.run.time + 1))
        ⊎ ((r : ℕ) × (check_of (tick_once s).answer ≡ suc r) × (suc r ≢ 9) × (tick_once s ≡ refused s (suc r)))
        → ((ticks (suc a) s).check ≡ 0 → ticks (suc a + b) s ≡ counted_from (suc a) (ticks b (ticks (suc a) s).state))
        × ((ticks (suc a) s).check ≢ 0 → ticks (suc a + b) s ≡ ticks (suc a) s)
    go ih (inl w) =
        let t : ticks (suc a) s ≡ continued s 0 (ticks a (tick_once s).state) = ticks-went a s w.0 in
        let u : ticks (suc a + b) s ≡ continued s 0 (ticks (a + b) (tick_once s).state) = ap (λ (k : ℕ). ticks k s) sum ∙ ticks-went (a + b) s w.0 in (
          λ e. u ∙ ap (continued s 0) (ih.0 (sym (ap (λ (x : Ticks). x.check) t) ∙ e)) ∙ one_later a s (ticks b (ticks a (tick_once s).state).state)
              ∙ ap (λ (x : Ticks). counted_from (suc a) (ticks b x.state)) (sym t),
          λ ne. u ∙ ap (continued s 0) (ih.1 (λ (e : (ticks a (tick_once s).state).check ≡ 0). ne (ap (λ (x : Ticks). x.check) t ∙ e))) ∙ sym t,
        )
    go ih (inr w) =
        let t : ticks (suc a) s ≡ record { state = s; count = 0; check = suc w.0 } = ticks-ended a s w.0 w.1 in
        let u : ticks (suc a + b) s ≡ record { state = s; count = 0; check = suc w.0 } = ap (λ (k : ℕ). ticks k s) sum
        ∙ ticks-ended (a + b) s w.0 w.1 in
        (λ e. absurd (omega (arith, sym (ap (λ (x : Ticks). x.check) t) ∙ e)), λ ne. u ∙ sym t)

-- no run of ticks is ended by check 9
pub ticks-not-nine : (m : ℕ) (s : State) → (ticks m s).check ≢ 9
unfolding ticks
ticks-not-nine zero s = omega arith
ticks-not-nine (suc m) s = go (ticks-not-nine m (tick_once s).state) (once s)
  where
    go : (ticks m (tick_once s).state).check ≢ 9
        → ((check_of (tick_once s).answer ≡ 0) × ((tick_once s).state.run.time ≡ s.run.time + 1))
        ⊎ ((r : ℕ) × (check_of (tick_once s).answer ≡ suc r) × (suc r ≢ 9) × (tick_once s ≡ refused s (suc r)))
        → (continued s (check_of (tick_once s).answer) (ticks m (tick_once s).state)).check ≢ 9
    go ih (inl w) = subst (λ (k : ℕ). (continued s k (ticks m (tick_once s).state)).check ≢ 9) (sym w.0) ih
    go ih (inr w) = subst (λ (k : ℕ). (continued s k (ticks m (tick_once s).state)).check ≢ 9) (sym w.1) w.2

-- the count is what is answered, and the reason too
pub answered : (x : Ticks) → ticks_of (ticks_answer x) ≡ x.count
answered x = by_cond (λ (a : Answer). ticks_of a ≡ x.count) (eqb x.count 0) (Refused x.check) _
    (λ t. sym (eqb→eq x.count 0 t))
    (λ t. by_cond (λ (a : Answer). ticks_of a ≡ x.count) (eqb x.check 0) (Done x.count x.state.run.held)
    (Stopped x.count x.state.run.held x.check) (λ t'. refl) (λ t'. refl))

pub answered-check : (x : Ticks) → check_of (ticks_answer x) ≡ x.check
answered-check x = by_cond (λ (a : Answer). check_of a ≡ x.check) (eqb x.count 0) (Refused x.check) _
    (λ t. refl)
    (λ t. by_cond (λ (a : Answer). check_of a ≡ x.check) (eqb x.check 0) (Done x.count x.state.run.held)
    (Stopped x.count x.state.run.held x.check)
    (λ t'. sym (eqb→eq x.check 0 t')) (λ t'. refl))

-- ---- time

gains : (e : Event) (s : State) → (effect e s).state.run.time ≡ s.run.time + ticks_of (effect e s).answer
unfolding effect made without now_settled tick_run
gains (Deliver m) s = omega arith
gains (Sign m) s = omega arith
gains (Show m) s = omega arith
gains Settle s = omega arith
gains (Tick m) s = omega (arith, (ticks-counted m s).gained, answered (ticks m s))

pub event-time : (e : Event) (s : State) → (applied e s).state.run.time ≡ s.run.time + ticks_of (applied e s).answer
event-time e s = by-applied (λ (a : After). a.state.run.time ≡ s.run.time + ticks_of a.answer) e s (λ r. omega arith) (λ c. gains e s)

pub ticks-are-time : TicksAreTime
unfolding after ticks_done
ticks-are-time s [] = omega arith
ticks-are-time s (e ∷ es) = omega (arith, ticks-are-time (applied e s).state es, event-time e s)
