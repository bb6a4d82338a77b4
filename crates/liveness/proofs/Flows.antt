-- What events post and deliver: a rule for runs of ticks, and one for every event. Of any run and buffers. Assumes nothing.
use mathlib.Core.Path.{◌≡◌, refl, sym, subst}
use mathlib.Core.Bool.{Bool, true, false, cond}
use mathlib.Core.Logic.{◌⊎◌, inl, inr}
use mathlib.Core.List.{List, [], ◌++◌}
use Prim.Native.Nat.{ℕ, zero, suc}
use Rattle.types.specs.declared.Message.{Message}
use Rattle.types.specs.declared.Event.{Event}
use Rattle.types.specs.declared.Answer.TheVariants.{Done}
use Rattle.model.specs.State.{State, After, accepted, check_of, refused}
use Rattle.model.specs.Moves.{advanced, arrivals, made}
use Rattle.model.specs.Events.{tick_checks, tick_once, continued, ticks, effect, applied}
use Rattle.model.specs.Traffic.{ticks_posted, posting, posted_in, delivered_by, delivered_in, wait_by, wait_in}
use Rattle.liveness.proofs.Judging.{Passes, Passed, by-judged-each, by-applied}
use Rattle.liveness.proofs.Answers.{no-yes, refused-stays}

-- ---- ticks

-- what a single tick leaves where no check refuses it
abbrev pub ticked : State → State
ticked s = made (advanced s) (arrivals (advanced s))

-- a says that it is done, or that a check refuses it
abbrev Goes : State → After → Type 0
Goes s a = Passes (tick_checks s) × (a ≡ record { state = ticked s; answer = Done 1 (ticked s).run.held })

abbrev Ends : State → After → Type 0
Ends s a = (r : ℕ) × (a ≡ refused s (suc r))

goes-or-ends : (s : State) → Goes s (tick_once s) ⊎ Ends s (tick_once s)
unfolding tick_once
goes-or-ends s = by-judged-each (λ (a : After). Goes s a ⊎ Ends s a) (refused s) (tick_checks s) _
    (λ t. inr (15, refl), (λ t. inr (16, refl), (λ t. inr (17, refl), tt))) (λ c. inl (c, refl))

-- what holds where no tick is done, and of one tick before those of which it holds, holds of any number of ticks and what they post
pub by-ticks : (Q : State → State → List Message → Type 0) → ((s : State) → Q s s [])
    → ((s : State) → Passes (tick_checks s) → (s' : State) (ms : List Message) → Q (ticked s) s' ms → Q s s' ((arrivals (advanced s)).sent ++ ms))
    → (m : ℕ) (s : State) → Q s (ticks m s).state (ticks_posted m s)
unfolding ticks ticks_posted
by-ticks Q none more zero s = none s
by-ticks Q none more (suc m) s = go (goes-or-ends s) (by-ticks Q none more m (ticked s))
  where
    Goal : After → Type 0
    Goal a = Q s (continued s (check_of a.answer) (ticks m a.state)).state
        (cond (accepted a.answer) ((arrivals (advanced s)).sent ++ ticks_posted m a.state) [])

    go : Goes s (tick_once s) ⊎ Ends s (tick_once s) → Q (ticked s) (ticks m (ticked s)).state (ticks_posted m (ticked s)) → Goal (tick_once s)
    go (inl w) ih = subst Goal (sym w.1) (more s w.0 (ticks m (ticked s)).state (ticks_posted m (ticked s)) ih)
    go (inr w) ih = subst Goal (sym w.1) (none s)

-- ---- events

module _ (e : Event) (s : State) where
  abbrev taken : Bool
  taken = accepted (applied e s).answer

  -- it is accepted and has its effect, or leaves the run
  abbrev Acts : Type 0
  Acts = Passed e s × (taken ≡ true) × ((applied e s).state ≡ (effect e s).state)

  abbrev Stays : Type 0
  Stays = (taken ≡ false) × ((applied e s).state ≡ s)

  acts-or-stays : Acts ⊎ Stays
  acts-or-stays = go taken refl
    where
      go : (b : Bool) → taken ≡ b → Acts ⊎ Stays
      go true i = by-applied (λ (a : After). accepted a.answer ≡ true
          → (Passed e s × (taken ≡ true) × (a.state ≡ (effect e s).state)) ⊎ Stays) e s
          (λ r j. no-yes (sym j)) (λ c j. inl (c, i, refl)) i
      go false i = inr (i, refused-stays e s i)

  -- what holds of the run as it is, and of the effect where it is accepted, holds of any event
  by-taken : (Q : Bool → State → Type 0) → Q false s → (Passed e s → Q true (effect e s).state) → Q taken (applied e s).state
  by-taken Q none some' = go acts-or-stays
    where
      go : Acts ⊎ Stays → Q taken (applied e s).state
      go (inl w) = subst (Q taken) (sym w.2) (subst (λ (b : Bool). Q b (effect e s).state) (sym w.1) (some' w.0))
      go (inr w) = subst (Q taken) (sym w.1) (subst (λ (b : Bool). Q b s) (sym w.0) none)

  -- so does what holds where nothing is posted or delivered, and of what an accepted event posts and delivers
  pub by-flow : (Q : State → List Message → List Message → ℕ → Type 0) → Q s [] [] 0
      → (Passed e s → Q (effect e s).state (posting e s) (delivered_by e) (wait_by e s))
      → Q (applied e s).state (posted_in e s) (delivered_in e s) (wait_in e s)
  by-flow Q = by-taken (λ b s'. Q s' (cond b (posting e s) []) (cond b (delivered_by e) []) (cond b (wait_by e s) 0))
