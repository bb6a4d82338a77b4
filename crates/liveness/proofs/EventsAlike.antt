-- One event on two networks that hold the same messages is answered alike and leaves such networks, where neither is full. Assumes nothing.
use mathlib.Core.Path.{◌≡◌, refl, sym, ap, ◌∙◌, subst}
use mathlib.Core.Bool.{Bool, true, false, cond}
use mathlib.Core.Logic.{◌⊎◌, inl, inr}
use mathlib.Core.List.{List, [], ◌∷◌, ◌++◌}
use Prim.Native.Nat.{ℕ, zero, suc, ◌+◌, ◌≤◌, ◌<◌}
use lib.Dec.{T, eqb}
use Rattle.types.specs.declared.Message.{Message}
use Rattle.types.specs.declared.Event.{Event}
use Rattle.types.specs.declared.Event.TheVariants.{Deliver, Sign, Show, Settle, Tick}
use Rattle.types.specs.declared.Form.{Form}
use Rattle.types.specs.declared.Answer.TheVariants.{Done}
use Rattle.types.specs.Quantities.{n_most}
use Rattle.types.specs.Messages.{view_in, processor_in, lacks_form}
use Rattle.model.specs.State.{State, After, with_run, with_gst, posted, check_of, refused}
use Rattle.model.specs.Moves.{Change, handling, advanced, arrivals, made}
use Rattle.model.specs.Checks.{Check, judged, unsound, named_outside, not_held, overdue, reaches_end, overfull}
use Rattle.model.specs.Events.{named_checks, outcome_checks, without, delivering, signing, now_settled, tick_checks, tick_once, Ticks, continued, ticks, ticks_answer, tick_run, input_checks, change_checks, checks, effect, applied}
use Rattle.liveness.specs.Carrying.{full_check}
use Rattle.liveness.proofs.Judging.{Passes, by-judged, by-judged-two, judged-both, named-within}
use Rattle.liveness.proofs.Addressing.{Names, handling-names, signing-names, arrivals-names}
use Rattle.liveness.proofs.Soundness.{sound-of}
use Rattle.liveness.proofs.Lasting.{lasts-of, lasts-planned}
use Rattle.liveness.proofs.History.{answered-check}
use Rattle.liveness.proofs.Level.{other, Level, unsound-same, place_same, overdue-same, level-with, made-level, without_other, without-level}

-- ---- calls with the same answer, that leave level states

pub record LevelAfter (x y : After) : Type 0 where
  pub answer : x.answer ≡ y.answer
  pub form : Form
  pub words : List ℕ
  pub state : y.state ≡ other x.state form words
  pub level : Level x.state form words

-- two calls are in a relation where neither is answered by a check that stands apart
module _ (Rel : After → After → Type 0) (Apart : ℕ → Type 0) where
  abbrev Not : After → Type 0
  Not x = Apart (check_of x.answer) → ⊥

  abbrev pub Unless : After → After → Type 0
  Unless x y = Not x → Not y → Rel x y

  -- a check that gives the same in both, or stands apart
  pub by-check : (a b : State) → ((r : ℕ) → Rel (refused a r) (refused b r)) → (r : ℕ) (p q : Bool) (x y : After) → (p ≡ q) ⊎ Apart r
      → ((T p → ⊥) → (T q → ⊥) → Unless x y) → Unless (cond p (refused a r) x) (cond q (refused b r) y)
  by-check a b refusals r true true x y e go s t = refusals r
  by-check a b refusals r true false x y (inl e) go s t = absurd (subst T e tt)
  by-check a b refusals r true false x y (inr e) go s t = absurd (s e)
  by-check a b refusals r false true x y (inl e) go s t = absurd (subst T (sym e) tt)
  by-check a b refusals r false true x y (inr e) go s t = absurd (t e)
  by-check a b refusals r false false x y e go s t = go (λ v. v) (λ v. v) s t

abbrev pub LevelUnless : (ℕ → Type 0) → After → After → Type 0
LevelUnless = Unless LevelAfter

pub refused-same : {a : State} {f : Form} {ws : List ℕ} (l : Level a f ws) (r : ℕ) → LevelAfter (refused a r) (refused (other a f ws) r)
refused-same {a} {f} {ws} l r = record { answer = refl; form = f; words = ws; state = refl; level = l }

abbrev Full : ℕ → Type 0
Full r = r ≡ full_check

-- ---- a change made

-- with so many ticks answered
abbrev pub making : ℕ → State → Change → After
making j s c = record { state = made s c; answer = Done j (made s c).run.held }

module _ {a : State} {f : Form} {ws : List ℕ} (l : Level a f ws) (most : a.run.plan.n ≤ n_most) (j : ℕ) (c : Change)
    (names : Names a.run.plan.n c.sent) where
  pub making-same : (T (overfull a c) → ⊥) → (T (overfull (other a f ws) c) → ⊥) → LevelAfter (making j a c) (making j (other a f ws) c)
  unfolding made
  making-same x y = record {
    answer = refl;
    form = f;
    words = posted f ws a.run.held a.run.time c.sent;
    state = refl;
    level = made-level l c most names x y;
  }

  -- behind checks 17 and 18
  outcome-same : (s s' : State) → ((r : ℕ) → LevelAfter (refused s r) (refused s' r))
      → LevelUnless Full (judged (refused s) (outcome_checks a c) (making j a c))
      (judged (refused s') (outcome_checks (other a f ws) c) (making j (other a f ws) c))
  outcome-same s s' refusals = by-check LevelAfter Full s s' refusals 17 (reaches_end a.run c) (reaches_end a.run c) _ _ (inl refl)
      (λ _ _. by-check LevelAfter Full s s' refusals 18 (overfull a c) (overfull (other a f ws) c) _ _ (inr refl) (λ x y _ _. making-same x y))

-- ---- the events but ticks

few : (a : State) → (T (unsound a) → ⊥) → a.run.plan.n ≤ n_most
few a sound = (lasts-planned a (lasts-of a (sound-of a sound))).n_at_most

abbrev first_checks : Event → State → List Check
first_checks e s = (1, lacks_form e) ∷ (9, unsound s) ∷ input_checks e s

-- where these pass, the others and the effect
abbrev rest : Event → State → After
rest e s = judged (refused s) (change_checks e s) (effect e s)

in-turn : (e : Event) (s : State) → applied e s ≡ judged (refused s) (first_checks e s) (rest e s)
unfolding applied checks
in-turn e s = judged-both (refused s) (first_checks e s) (change_checks e s) (effect e s)

module _ {a : State} {f : Form} {ws : List ℕ} (l : Level a f ws) where
  abbrev b : State
  b = other a f ws

  first-same : (e : Event) → first_checks e a ≡ first_checks e b
  first-same (Deliver m) = λ i.
      (1, lacks_form (Deliver m)) ∷ (9, unsound-same l i) ∷ (named_checks a.run.plan m ++ ((13, eqb (place_same l m i) a.run.held) ∷ []))
  first-same (Sign m) = λ i. (1, lacks_form (Sign m)) ∷ (9, unsound-same l i) ∷ input_checks (Sign m) a
  first-same (Show m) = λ i. (1, lacks_form (Show m)) ∷ (9, unsound-same l i) ∷ input_checks (Show m) a
  first-same Settle = λ i. (1, false) ∷ (9, unsound-same l i) ∷ input_checks Settle a
  first-same (Tick m) = λ i. (1, lacks_form (Tick m)) ∷ (9, unsound-same l i) ∷ []

  low : (m : Message) → (T (named_outside a.run.plan (processor_in m) (view_in m)) → ⊥) → processor_in m < a.run.plan.n
  low m no' = (named-within a.run.plan (processor_in m) (view_in m) no').0

  deliver-same : (m : Message) → Passes (first_checks (Deliver m) a) → LevelUnless Full (rest (Deliver m) a) (rest (Deliver m) b)
  unfolding effect delivering without
  deliver-same m c =
      let is_held : T (not_held a m) → ⊥ = c.1.1.1.1.0 in
      subst (λ (x : State). LevelUnless Full (rest (Deliver m) a)
      (judged (refused b) (outcome_checks x (handling x.run a.tally m)) (making 0 x (handling x.run a.tally m))))
      (sym (without_other l m is_held))
      (outcome-same (without-level l m is_held) (few a c.1.0) 0 (delivering a m)
      (handling-names (without a m).run a.tally m (low m c.1.1.0)) a b (refused-same l))

  sign_same : (m : Message) → Passes (first_checks (Sign m) a) → LevelUnless Full (rest (Sign m) a) (rest (Sign m) b)
  unfolding effect signing
  sign_same m c = outcome-same l (few a c.1.0) 0 (signing a m) (signing-names a m (low m c.1.1.0)) a b (refused-same l)

  show-same : (m : Message) → Passes (first_checks (Show m) a) → LevelUnless Full (rest (Show m) a) (rest (Show m) b)
  unfolding effect
  show-same m c = outcome-same l (few a c.1.0) 0 (handling a.run a.tally m) (handling-names a.run a.tally m (low m c.1.1.0)) a b
      (refused-same l)

  settle-same : LevelUnless Full (rest Settle a) (rest Settle b)
  unfolding effect now_settled
  settle-same _ _ = record {
    answer = refl;
    form = f;
    words = ws;
    state = refl;
    level = level-with l (with_gst a.run.time a.run) refl refl;
  }

-- ---- ticks

module _ {a : State} {f : Form} {ws : List ℕ} (l : Level a f ws) (most : a.run.plan.n ≤ n_most) where
  advanced-level : Level (advanced a) f ws
  advanced-level = level-with l (advanced a).run refl refl

  once-same : LevelUnless Full (tick_once a) (tick_once (other a f ws))
  unfolding tick_once arrivals
  once-same = by-check LevelAfter Full a (other a f ws) (refused-same l) 16 (overdue a) (overdue (other a f ws)) _ _ (inl (overdue-same l))
      (λ _ _. outcome-same advanced-level most 1 (arrivals (advanced a)) (arrivals-names (advanced a)) a (other a f ws) (refused-same l))

  once-most : (tick_once a).state.run.plan.n ≤ n_most
  unfolding tick_once made
  once-most = by-judged (λ (x : After). x.state.run.plan.n ≤ n_most) (refused a) (tick_checks a) _ (λ r. most) (λ p. most)

-- what two runs of ticks leave
record LevelTicks (x y : Ticks) : Type 0 where
  count : x.count ≡ y.count
  check : x.check ≡ y.check
  form : Form
  words : List ℕ
  state : y.state ≡ other x.state form words
  level : Level x.state form words

ticks-same : (m : ℕ) {a : State} {f : Form} {ws : List ℕ} → Level a f ws → a.run.plan.n ≤ n_most → (Full (ticks m a).check → ⊥)
    → (Full (ticks m (other a f ws)).check → ⊥) → LevelTicks (ticks m a) (ticks m (other a f ws))
unfolding ticks
ticks-same zero {a} {f} {ws} l most x y = record { count = refl; check = refl; form = f; words = ws; state = refl; level = l }
ticks-same (suc m) {a} {f} {ws} l most x y = go (check_of (tick_once a).answer) refl
    (λ (k : Level (tick_once a).state once.form once.words). ticks-same m k (once-most l most))
  where
    b : State
    b = other a f ws

    -- the ticks after one that the check r refused, or none
    on : State → ℕ → Ticks
    on s r = continued s r (ticks m (tick_once s).state)

    once : LevelAfter (tick_once a) (tick_once b)
    once = once-same l most (λ e. x (ap (λ (r : ℕ). (on a r).check) e)) (λ e. y (ap (λ (r : ℕ). (on b r).check) e))

    check-same : check_of (tick_once b).answer ≡ check_of (tick_once a).answer
    check-same = sym (ap check_of once.answer)

    at-check : (r : ℕ) → check_of (tick_once a).answer ≡ r → LevelTicks (on a r) (on b r)
        → LevelTicks (on a (check_of (tick_once a).answer)) (on b (check_of (tick_once b).answer))
    at-check r e z = subst (λ (k : ℕ). LevelTicks (on a k) (on b (check_of (tick_once b).answer))) (sym e)
        (subst (λ (k : ℕ). LevelTicks (on a r) (on b k)) (sym (check-same ∙ e)) z)

    go : (r : ℕ) → check_of (tick_once a).answer ≡ r
        → (Level (tick_once a).state once.form once.words → (Full (ticks m (tick_once a).state).check → ⊥)
        → (Full (ticks m (other (tick_once a).state once.form once.words)).check → ⊥)
        → LevelTicks (ticks m (tick_once a).state) (ticks m (other (tick_once a).state once.form once.words)))
        → LevelTicks (on a (check_of (tick_once a).answer)) (on b (check_of (tick_once b).answer))
    go zero e ih =
        let x' : Full (ticks m (tick_once a).state).check → ⊥ = λ g. x (ap (λ (r : ℕ). (on a r).check) e ∙ g) in
        let y' : Full (ticks m (tick_once b).state).check → ⊥ = λ g. y (ap (λ (r : ℕ). (on b r).check) (check-same ∙ e) ∙ g) in
        let z : LevelTicks (ticks m (tick_once a).state) (ticks m (tick_once b).state) =
        subst (λ (s : State). (Full (ticks m s).check → ⊥) → LevelTicks (ticks m (tick_once a).state) (ticks m s)) (sym once.state)
        (ih once.level x') y' in
        at-check 0 e (record { count = ap (λ (k : ℕ). k + 1) z.count; check = z.check; form = z.form; words = z.words; state = z.state; level = z.level })
    go (suc r) e ih = at-check (suc r) e (record { count = refl; check = refl; form = f; words = ws; state = refl; level = l })

answer-same : (x y : Ticks) → LevelTicks x y → ticks_answer x ≡ ticks_answer y
answer-same x y z =
    let run : x.state.run ≡ y.state.run = sym (ap (λ (s : State). s.run) z.state) in
    λ i. ticks_answer (record { state = with_run (run i) x.state; count = z.count i; check = z.check i })

tick-same : {a : State} {f : Form} {ws : List ℕ} (l : Level a f ws) → a.run.plan.n ≤ n_most → (m : ℕ)
    → LevelUnless Full (tick_run m a) (tick_run m (other a f ws))
unfolding tick_run
tick-same {a} {f} {ws} l most m x y =
    let b : State = other a f ws in
    let z : LevelTicks (ticks m a) (ticks m b) =
    ticks-same m l most (λ e. x (answered-check (ticks m a) ∙ e)) (λ e. y (answered-check (ticks m b) ∙ e)) in
    record { answer = answer-same (ticks m a) (ticks m b) z; form = z.form; words = z.words; state = z.state; level = z.level }

-- ---- every event

module _ {a : State} {f : Form} {ws : List ℕ} (l : Level a f ws) where
  rest-same : (e : Event) → Passes (first_checks e a) → LevelUnless Full (rest e a) (rest e (other a f ws))
  unfolding effect
  rest-same (Deliver m) c = deliver-same l m c
  rest-same (Sign m) c = sign_same l m c
  rest-same (Show m) c = show-same l m c
  rest-same Settle c = settle-same l
  rest-same (Tick m) c = tick-same l (few a c.1.0) m

  pub event-same : (e : Event) → LevelUnless Full (applied e a) (applied e (other a f ws))
  event-same e =
      let b : State = other a f ws in
      subst (λ (x : After). LevelUnless Full x (applied e b)) (sym (in-turn e a))
      (subst (λ (y : After). LevelUnless Full (judged (refused a) (first_checks e a) (rest e a)) y) (sym (in-turn e b))
      (subst (λ (cs : List Check). LevelUnless Full (judged (refused a) (first_checks e a) (rest e a)) (judged (refused b) cs (rest e b))) (first-same l e)
      (by-judged-two (LevelUnless Full) (refused a) (refused b) (first_checks e a) (rest e a) (rest e b) (λ r _ _. refused-same l r) (rest-same e))))

-- ---- on unsound runs

-- "9. The run handed in is unsound", and 1 before it
pub refused-unsound : (e : Event) (s : State) → unsound s ≡ true → applied e s ≡ refused s (cond (lacks_form e) 1 9)
unfolding applied checks
refused-unsound e s x =
    ap (λ (b : Bool). cond (lacks_form e) (refused s 1) (cond b (refused s 9) (judged (refused s) (input_checks e s ++ change_checks e s) (effect e s)))) x
    ∙ go (lacks_form e)
  where
    go : (c : Bool) → cond c (refused s 1) (refused s 9) ≡ refused s (cond c 1 9)
    go true = refl
    go false = refl
