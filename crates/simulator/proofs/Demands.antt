-- What `open` and `apply` hand back is what the definitions make of the opening and the list, so that demand 3 holds of it. Assumes nothing.
use mathlib.Core.Path.{◌≡◌, refl, sym, ap, ◌∙◌, subst}
use mathlib.Core.Bool.{false}
use mathlib.Core.List.{List, [], ◌∷◌}
use Prim.Native.Nat.{ℕ, zero, suc, ◌<◌}
use lib.Dec.{T}
use lib.ListN.{length, take}
use Rattle.types.specs.declared.Plan.{Plan}
use Rattle.model.specs.State.{State, After, check_of, accepted}
use Rattle.model.specs.Checks.{too_far_ahead}
use Rattle.model.specs.Opening.{opening}
use Rattle.model.specs.Events.{applied}
use Rattle.model.specs.Lists.{after, ClockCondition, since_settling, ticks_since}
use Rattle.liveness.specs.Promises.{settling_bound, Certified, Same}
use Rattle.liveness.proofs.Promises.{demand-three, stays-sound, stays_same}
use Rattle.words.specs.Batches.{Worded, answered, words_applied, events_of}
use Rattle.simulator.specs.Demands.{Fed, handed, answers_in, BatchIsFed, Demanded, DemandThreeOfCode, NeverUnsound, HandedIsAfter, EveryListFed}

pub handed-is-after : HandedIsAfter
unfolding after
handed-is-after s es hs f zero = refl
handed-is-after s [] [] f (suc i) = refl
handed-is-after s [] (h ∷ hs) f (suc i) = absurd f
handed-is-after s (e ∷ es) [] f (suc i) = absurd f
handed-is-after s (e ∷ es) (h ∷ hs) f (suc i) =
    handed-is-after h.state es hs f.1 i ∙ ap (λ (a : After). after a.state (take i es)) f.0

pub every-list-fed : EveryListFed
every-list-fed s [] = ([], tt)
every-list-fed s (e ∷ es) = let r = every-list-fed (applied e s).state es in (applied e s ∷ r.0, (refl, r.1))

pub demand-three-of-code : DemandThreeOfCode
demand-three-of-code u before o opens ok es hs fed i = subst (λ (a : State). Demanded u before o.state (take i es) a) (sym left)
    (record {
      clocks = subst (λ (p : Plan). too_far_ahead p u.faulty last.run.clocks ≡ false) kept.plan
          (subst (λ (m : ℕ). too_far_ahead last.run.plan m last.run.clocks ≡ false) kept.faulty said.0);
      certified = said.1;
      same = kept;
    })
  where
    last : State
    last = after o.state (take i es)

    left : handed o.state hs i ≡ last
    left = handed-is-after o.state es hs fed i

    is-accepted : T (accepted (opening u before).answer)
    is-accepted = subst (λ (a : After). T (accepted a.answer)) opens ok

    said : (ClockCondition (after o.state (take i es)).run)
        × (settling_bound u < ticks_since (since_settling o.state (take i es)) → Certified u o.state (take i es) (after o.state (take i es)).run)
    said = subst (λ (a : After). (ClockCondition (after a.state (take i es)).run)
        × (settling_bound u < ticks_since (since_settling a.state (take i es)) → Certified u a.state (take i es) (after a.state (take i es)).run))
        (sym opens) (demand-three u before is-accepted es i)

    kept : Same u before (after o.state (take i es))
    kept = subst (λ (a : After). Same u before (after a.state (take i es))) (sym opens) (stays_same u before is-accepted (take i es))

pub never-unsound : NeverUnsound
never-unsound u before o opens ok es hs fed i e h applies nine =
    stays-sound u before (subst (λ (a : After). T (accepted a.answer)) opens ok) (take i es) e
    (sym (ap (λ (a : After). check_of a.answer) (applies ∙ ap (applied e) (handed-is-after o.state es hs fed i)
    ∙ ap (λ (a : After). applied e (after a.state (take i es))) opens)) ∙ nine)

-- what the words leave, by what the events handed back
turned : (ws : List ℕ) (s : State) (hs : List After) → Fed s (events_of ws) hs
    → words_applied ws s ≡ record { state = handed s hs (length hs); words = answers_in ws hs }
unfolding words_applied events_of answers_in
turned [] s [] f = refl
turned [] s (h ∷ hs) f = absurd f
turned (a ∷ []) s [] f = refl
turned (a ∷ []) s (h ∷ hs) f = absurd f
turned (a ∷ b ∷ []) s [] f = refl
turned (a ∷ b ∷ []) s (h ∷ hs) f = absurd f
turned (a ∷ b ∷ c ∷ []) s [] f = refl
turned (a ∷ b ∷ c ∷ []) s (h ∷ hs) f = absurd f
turned (a ∷ b ∷ c ∷ d ∷ ws) s [] f = absurd f
turned (a ∷ b ∷ c ∷ d ∷ ws) s (h ∷ hs) f =
    ap (λ (x : After). answered a x (words_applied ws x.state)) (sym f.0) ∙ ap (answered a h) (turned ws h.state hs f.1)

pub batch-is-fed : BatchIsFed
batch-is-fed ws s s' ws' e hs f = let t = e ∙ turned ws s hs f in (ap (λ (y : Worded). y.state) t, ap (λ (y : Worded). y.words) t)
