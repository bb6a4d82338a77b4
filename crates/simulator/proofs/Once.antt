-- A single tick in each of its cases, and a run of them one tick further. Assumes nothing.
use mathlib.Core.Path.{◌≡◌, refl, sym, ap, ◌∙◌, subst}
use mathlib.Core.Bool.{Bool, true, false}
use mathlib.Core.Logic.{◌≢◌}
use Prim.Native.Nat.{ℕ, zero, suc, ◌+◌, ◌-◌, ◌≤◌, ◌<◌}
use native.Mathlib.Omega.{arith}
use lib.Dec.{ltb, eqb}
use lib.ListN.{length}
use borrow.Author.Tests.{lt-ltb, le-ltb, eq-eqb, ne_eqb}
use Rattle.base.specs.Scan.{some}
use Rattle.base.specs.Choice.{cond_yes, cond_no}
use Rattle.types.specs.declared.Answer.TheVariants.{Done, Stopped, Refused}
use Rattle.types.specs.declared.Answer.{Answer}
use Rattle.model.specs.State.{State, After, room_in, check_of, refused}
use Rattle.model.specs.Moves.{advanced, arrivals, made}
use Rattle.model.specs.Checks.{overdue, reaches_end, overfull}
use Rattle.model.specs.Events.{tick_checks, tick_once, Ticks, continued, ticks, ticks_answer, tick_run}
use Rattle.liveness.specs.Promises.{counted_from}
use Rattle.liveness.proofs.Judging.{by-judged}
use Rattle.simulator.specs.Inner.{arrived_below, ends_at, TickedTo, Went, ran_to}
use Rattle.simulator.proofs.Arrivals.{tick-reaches}

module _ (s : State) where
  abbrev ticked : After
  ticked = record { state = made (advanced s) (arrivals (advanced s)); answer = Done 1 (made (advanced s) (arrivals (advanced s))).run.held }

  abbrev late : Bool
  late = overdue s

  abbrev ends : Bool
  ends = some (ends_at s.run) s.run.plan.n

  stays_at : (check : ℕ) → refused s check ≡ tick_once s → (z : check ≡ 0 → Went s s) → TickedTo s s check
  stays_at check e z = record { state = ap (λ (a : After). a.state) e; number = ap (λ (a : After). check_of a.answer) e; went = z }

  none-went : (check : ℕ) → 0 < check → check ≡ 0 → Went s s
  none-went check l z = absurd (omega arith)

  pub once-overdue : late ≡ true → TickedTo s s 16
  unfolding tick_once overdue
  once-overdue e = stays_at 16 (cond_yes late (refused s 16) (refused s 16) _ e refl) (none-went 16 (omega arith))

module _ (s : State) (long : s.run.plan.n ≤ length s.run.clocks) where
  pub once-ends : late s ≡ false → ends s ≡ true → TickedTo s s 17
  unfolding tick_once overdue
  once-ends e f = stays_at s 17 (cond_no (late s) (refused s 17) (refused s 16) _ e
      (cond_yes (reaches_end (advanced s).run (arrivals (advanced s))) (refused s 17) (refused s 17) _ (tick-reaches s long ∙ f) refl)) (none-went s 17 (omega arith))

  module _ (e : late s ≡ false) (f : ends s ≡ false) (sent : ℕ) (is_sent : sent ≡ length (arrived_below s s.run.plan.n).sent) where
    pub once-full : room_in s < s.run.held + sent → TickedTo s s 18
    unfolding tick_once overdue arrivals
    once-full l = stays_at s 18 (cond_no (late s) (refused s 18) (refused s 16) _ e
        (cond_no (reaches_end (advanced s).run (arrivals (advanced s))) (refused s 18) (refused s 17) _ (tick-reaches s long ∙ f)
        (cond_yes (overfull (advanced s) (arrivals (advanced s))) (refused s 18) (refused s 18) _
        (ap (λ (n : ℕ). ltb (room_in s) (s.run.held + n)) (sym is_sent) ∙ lt-ltb _ _ l) refl))) (none-went s 18 (omega arith))

    pub once-done : s.run.held + sent ≤ room_in s → (s' : State) → s' ≡ made (advanced s) (arrivals (advanced s)) → Went s (made (advanced s) (arrivals (advanced s)))
        → TickedTo s s' 0
    unfolding tick_once overdue arrivals
    once-done l s' is w =
        let x : ticked s ≡ tick_once s = cond_no (late s) (ticked s) (refused s 16) _ e
        (cond_no (reaches_end (advanced s).run (arrivals (advanced s))) (ticked s) (refused s 17) _ (tick-reaches s long ∙ f)
        (cond_no (overfull (advanced s) (arrivals (advanced s))) (ticked s) (refused s 18) (ticked s)
        (ap (λ (n : ℕ). ltb (room_in s) (s.run.held + n)) (sym is_sent) ∙ le-ltb _ _ l) refl)) in
        record {
          state = is ∙ ap (λ (a : After). a.state) x;
          number = ap (λ (a : After). check_of a.answer) x;
          went = λ _. subst (Went s) (sym is) w;
        }

-- ---- the run of ticks

-- a refused tick leaves the state
once-stays : (s : State) (c : ℕ) → check_of (tick_once s).answer ≡ suc c → (tick_once s).state ≡ s
unfolding tick_once
once-stays s c = by-judged (λ (a : After). check_of a.answer ≡ suc c → a.state ≡ s) (refused s) (tick_checks s) _ (λ r e. refl) (λ p e. absurd (omega arith))

-- a run of ticks that a check ended
pub ticks-ended : (m count check : ℕ) (s₀ s s' : State) → count < m → ticks m s₀ ≡ counted_from count (ticks (m - count) s) → TickedTo s s' check → 0 < check
    → (ticks m s₀ ≡ ran_to s' count check)
unfolding ticks
ticks-ended m count check s₀ s s' l e t positive = go check t.number positive
  where
    n : m - count ≡ suc (m - (count + 1))
    n = omega arith

    go : (c : ℕ) → c ≡ check_of (tick_once s).answer → 0 < c → ticks m s₀ ≡ ran_to s' count c
    go zero q z = absurd (omega arith)
    go (suc c) q z =
        e ∙ ap (λ (k : ℕ). counted_from count (ticks k s)) n
        ∙ ap (λ (d : ℕ). counted_from count (continued s d (ticks (m - (count + 1)) (tick_once s).state))) (sym q)
        ∙ ap (λ (y : State). ran_to y (count + 0) (suc c)) (stayed (sym q))
        ∙ ap (λ (k : ℕ). ran_to s' k (suc c)) (omega arith)
      where
        stayed : check_of (tick_once s).answer ≡ suc c → s ≡ s'
        stayed x = sym (t.state ∙ once-stays s c x)

-- ---- what the run of ticks leaves and answers

after-by : (a b : After) → a.state ≡ b.state → a.answer ≡ b.answer → a ≡ b
after-by a b e f = λ i. record { state = e i; answer = f i }

pub run-ended : (m count check : ℕ) (s₀ s' : State) (a : Answer) → ticks m s₀ ≡ ran_to s' count check → a ≡ ticks_answer (ran_to s' count check)
    → record { state = s'; answer = a } ≡ tick_run m s₀
unfolding tick_run
run-ended m count check s₀ s' a e is = after-by _ _ (sym (ap (λ (y : Ticks). y.state) e)) (is ∙ sym (ap ticks_answer e))

pub run-done : (m count : ℕ) (s₀ s : State) → 0 < m → count ≡ m → ticks m s₀ ≡ ran_to s count 0 → record { state = s; answer = Done count s.run.held } ≡ tick_run m s₀
run-done m count s₀ s positive all e =
    let n : count ≢ 0 = λ y. absurd (omega (arith, y)) in
    run-ended m count 0 s₀ s (Done count s.run.held) e (cond_no (eqb count 0) (Done count s.run.held) (Refused 0) (Done count s.run.held) (ne_eqb count 0 n) refl)

-- the answer to ticks that a check ended
pub stopped_none : (s : State) (count check : ℕ) → count ≡ 0 → Refused check ≡ ticks_answer (ran_to s count check)
stopped_none s count check e = cond_yes (eqb count 0) (Refused check) (Refused check) _ (eq-eqb count 0 e) refl

pub stopped-some : (s : State) (count check : ℕ) → count ≢ 0 → 0 < check → Stopped count s.run.held check ≡ ticks_answer (ran_to s count check)
stopped-some s count check ne l =
    let z : check ≢ 0 = λ y. absurd (omega (arith, y)) in
    cond_no (eqb count 0) (Stopped count s.run.held check) (Refused check) _ (ne_eqb count 0 ne)
    (cond_no (eqb check 0) (Stopped count s.run.held check) (Done count s.run.held) _ (ne_eqb check 0 z) refl)
