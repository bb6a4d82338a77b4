-- What the answers to ticks say, that an answer is told by its numbers, and that a refused call changes nothing, of any run and buffers.
-- Assumes nothing.
use mathlib.Core.Path.{◌≡◌, refl, sym, ap, ◌∙◌, subst}
use mathlib.Core.Bool.{true, false}
use mathlib.Core.Logic.{◌≢◌}
use Prim.Native.Nat.{ℕ, zero, suc}
use native.Mathlib.Omega.{arith}
use lib.Dec.{T, eqb, eqb→eq}
use Rattle.base.specs.Tests.{T_true, T_false, fails, eq→eqb, by_cond}
use Rattle.types.specs.declared.Event.{Event}
use Rattle.types.specs.declared.Event.TheVariants.{Deliver, Sign, Show, Settle, Tick}
use Rattle.types.specs.declared.Answer.{Answer}
use Rattle.types.specs.declared.Answer.TheVariants.{Done, Stopped, Refused}
use Rattle.types.specs.Messages.{lacks_form}
use Rattle.model.specs.State.{State, After, check_of, ticks_of, accepted, refused, done}
use Rattle.model.specs.Moves.{advanced, arrivals}
use Rattle.model.specs.Checks.{unsound, overdue}
use Rattle.model.specs.Opening.{opened, opening_checks, opening}
use Rattle.model.specs.Events.{outcome_checks, tick_once, Ticks, continued, ticks, ticks_answer, tick_run, checks, effect, applied}
use Rattle.liveness.specs.Promises.{TickAnswer, TicksAnswered, answer_from, AnswersTold, RefusedStays, RefusedOpeningStays}
use Rattle.liveness.specs.Unread.{RefusedAsOverdue}
use Rattle.liveness.proofs.Judging.{by-judged, by-judged-each, by-applied, by-applied-each}
use Rattle.liveness.proofs.History.{TickCount, ticks-counted, answered-check}

pub no-yes : {A : Type 0} → true ≡ false → A
no-yes e = absurd (subst T e tt)

pub ticks-answered : TicksAnswered
unfolding applied effect tick_run checks
ticks-answered m s positive is-sound = by-judged-each (λ (a : After). TickAnswer m s a.state a.answer) (refused s) (checks (Tick m) s) (effect (Tick m) s)
    (λ t. absurd (omega (arith, eqb→eq m 0 t)), (λ t. absurd (subst T is-sound t), tt)) (λ c. says)
  where
    x : Ticks
    x = ticks m s

    k : TickCount m s x
    k = ticks-counted m s

    stopped : (x.count ≡ 0 → ⊥) → (x.check ≡ 0 → ⊥) → TickAnswer m s x.state (Stopped x.count x.state.run.held x.check)
    stopped some' ended = let y = k.next_refused ended in (omega (arith, some'), y.0, refl, k.gained, y.1)

    none' : x.count ≡ 0 → TickAnswer m s x.state (Refused x.check)
    none' e =
        let ended : x.check ≢ 0 = λ (z : x.check ≡ 0). omega (arith, k.all_done z) in
        (k.none_done e, subst (λ (a : State). tick_once a ≡ refused a x.check) (k.none_done e) (k.next_refused ended).1)

    says : TickAnswer m s x.state (ticks_answer x)
    says = by_cond (TickAnswer m s x.state) (eqb x.count 0) (Refused x.check) _
        (λ t. none' (eqb→eq x.count 0 t))
        (λ t. by_cond (TickAnswer m s x.state) (eqb x.check 0) (Done x.count x.state.run.held)
        (Stopped x.count x.state.run.held x.check)
        (λ u. (k.all_done (eqb→eq x.check 0 u), refl, k.gained))
        (λ u. stopped (λ e. t (eq→eqb x.count 0 e)) (λ e. u (eq→eqb x.check 0 e))))

-- ---- a single tick

once-overdue : (s : State) → eqb (check_of (tick_once s).answer) 16 ≡ overdue s
unfolding tick_once
once-overdue s = by_cond (λ (a : After). eqb (check_of a.answer) 16 ≡ overdue s) (overdue s) (refused s 16) _
    (λ t. sym (T_true (overdue s) t))
    (λ t. let no' : false ≡ overdue s = sym (T_false (overdue s) t) in
    by-judged-each (λ (a : After). eqb (check_of a.answer) 16 ≡ overdue s) (refused s) (outcome_checks (advanced s) (arrivals (advanced s))) _
    (λ u. no', (λ u. no', tt)) (λ c. no'))

one-check : (s : State) (r : ℕ) (x : Ticks) → x.check ≡ 0 → (continued s r x).check ≡ r
one-check s zero x e = e
one-check s (suc r) x e = refl

pub refused-as-overdue : RefusedAsOverdue
unfolding applied effect tick_run ticks checks
refused-as-overdue s is-sound = by-judged-each (λ (a : After). eqb (check_of a.answer) 16 ≡ overdue s) (refused s) (checks (Tick 1) s) (effect (Tick 1) s)
    (λ t. absurd t, (λ t. absurd (fails (unsound s) is-sound t), tt)) (λ c.
    ap (λ (k : ℕ). eqb k 16) (answered-check (ticks 1 s) ∙ one-check s (check_of (tick_once s).answer) (ticks 0 (tick_once s).state) refl) ∙ once-overdue s)

-- ---- the numbers of an answer

abbrev Told : After → Type 0
Told a = answer_from (check_of a.answer) (ticks_of a.answer) a.state.run.held ≡ a.answer

refusal-told : (s : State) (r : ℕ) → r ≢ 0 → Told (refused s r)
refusal-told s r some' = by_cond (λ (y : Answer). y ≡ Refused r) (eqb r 0) (Done 0 s.run.held) (Refused r)
    (λ t. absurd (some' (eqb→eq r 0 t))) (λ t. refl)

ticks-told : (m : ℕ) (s : State) → m ≢ 0 → Told (tick_run m s)
unfolding tick_run
ticks-told m s some' = by_cond (λ (y : Answer). answer_from (check_of y) (ticks_of y) held ≡ y) (eqb x.count 0) (Refused x.check) _
    (λ t. refusal-told x.state x.check (λ (z : x.check ≡ 0). some' (sym ((ticks-counted m s).all_done z) ∙ eqb→eq x.count 0 t)))
    (λ t. by_cond (λ (y : Answer). answer_from (check_of y) (ticks_of y) held ≡ y) (eqb x.check 0) (Done x.count held) (Stopped x.count held x.check)
    (λ u. refl)
    (λ u. by_cond (λ (y : Answer). y ≡ Stopped x.count held x.check) (eqb x.check 0) (Done x.count held) _ (λ v. absurd (u v))
    (λ v. by_cond (λ (y : Answer). y ≡ Stopped x.count held x.check) (eqb x.count 0) (Refused x.check) (Stopped x.count held x.check)
    (λ k. absurd (t k)) (λ k. refl))))
  where
    x : Ticks
    x = ticks m s

    held : ℕ
    held = x.state.run.held

effect-told : (e : Event) (s : State) → (T (lacks_form e) → ⊥) → Told (effect e s)
unfolding effect
effect-told (Deliver m) s f = refl
effect-told (Sign m) s f = refl
effect-told (Show m) s f = refl
effect-told Settle s f = refl
effect-told (Tick m) s f = ticks-told m s (λ (z : m ≡ 0). f (eq→eqb m 0 z))

pub answers-told : AnswersTold
answers-told e s = by-applied-each Told e s (λ t. refl) (λ t. refl) (λ r l. refusal-told s r (omega arith)) (λ c. effect-told e s c.form)

-- ---- refused calls

idle : (x : Ticks) → accepted (ticks_answer x) ≡ false → x.count ≡ 0
idle x = by_cond (λ (a : Answer). accepted a ≡ false → x.count ≡ 0) (eqb x.count 0) (Refused x.check) _
    (λ t e. eqb→eq x.count 0 t)
    (λ t. by_cond (λ (a : Answer). accepted a ≡ false → x.count ≡ 0) (eqb x.check 0) (Done x.count x.state.run.held)
    (Stopped x.count x.state.run.held x.check)
    (λ u e. no-yes e) (λ u e. no-yes e))

refused-effect : (e : Event) (s : State) → accepted (effect e s).answer ≡ false → (effect e s).state ≡ s
unfolding effect tick_run
refused-effect (Deliver m) s i = no-yes i
refused-effect (Sign m) s i = no-yes i
refused-effect (Show m) s i = no-yes i
refused-effect Settle s i = no-yes i
refused-effect (Tick m) s i = (ticks-counted m s).none_done (idle (ticks m s) i)

pub refused-stays : RefusedStays
refused-stays e s = by-applied (λ (a : After). accepted a.answer ≡ false → a.state ≡ s) e s (λ r i. refl) (λ c. refused-effect e s)

pub refused-opening-stays : RefusedOpeningStays
unfolding opening
refused-opening-stays u s = by-judged (λ (a : After). accepted a.answer ≡ false → a.state ≡ s) (refused s) (opening_checks u s) (done (opened u s))
    (λ r i. refl) (λ c i. no-yes i)
