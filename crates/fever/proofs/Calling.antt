-- What the definitions leave, told in words. Assumes nothing.
use mathlib.Core.Path.{◌≡◌, refl, sym, ap, ap₂, ◌∙◌, subst}
use mathlib.Core.Bool.{Bool, true, false, ◌||◌}
use mathlib.Core.Logic.{inl, inr, ◌≢◌}
use mathlib.Core.List.{List, [], ◌∷◌}
use Prim.Native.Nat.{ℕ, ◌≤◌, ◌<◌}
use native.Mathlib.Omega.{arith}
use lib.ListN.{length, get_or}
use lib.Dec.{T, eqb, ltb}
use borrow.Author.Tests.{lt-ltb, le-ltb, eq-eqb, ne_eqb}
use Rattle.base.specs.Choice.{cond_yes, cond_no, or-first, or-second, or-neither}
use Rattle.base.specs.Tests.{T_true, T_false, by_cond}
use Rattle.types.specs.declared.Run.{Run}
use Rattle.types.specs.declared.Event.{Event}
use Rattle.types.specs.declared.Answer.{Answer}
use Rattle.types.specs.declared.Answer.TheVariants.{Refused}
use Rattle.types.specs.declared.Setup.{Setup}
use Rattle.types.specs.Messages.{lacks_form}
use Rattle.model.specs.State.{State, After, state_of, check_of, ticks_of, accepted, refused, done}
use Rattle.model.specs.Opening.{opened, opening_checks, opening}
use Rattle.model.specs.Events.{checks, applied}
use Rattle.liveness.specs.Promises.{answer_from}
use Rattle.liveness.proofs.Judging.{by-judged}
use Rattle.liveness.proofs.Promises.{answers-told, refused-stays}
use Rattle.simulator.specs.Inner.{left_as}
use Rattle.simulator.specs.Clauses.{AppliesAll}
use Rattle.words.specs.Events.{event_of}
use Rattle.words.specs.Batches.{Worded, answered, words_applied}
use Rattle.fever.specs.Layout.{setup_length, setup_in, run_length, settled_word, run_in, run_over, OfNoRun, neither_settled}
use Rattle.fever.specs.Clauses.{Lent, lent_of, lent_state, Called, called, run_left, told, opening_words, applying_words, called_all, told_all, applying_all}
use Rattle.fever.proofs.ReadBack.{run-words-back}

-- of two, the one that may pass
pub or-true : (a b : Bool) → a ≡ false → T (a || b) → T b
or-true a b e t = subst (λ (c : Bool). T (c || b)) e t

-- an event with a check and no ticks was refused
pub unaccepted : (e : Event) (s : State) → 0 < check_of (applied e s).answer → ticks_of (applied e s).answer ≡ 0 → accepted (applied e s).answer ≡ false
unaccepted e s some' none' =
    let k = check_of (applied e s).answer in
    let d = ticks_of (applied e s).answer in
    let h = (applied e s).state.run.held in
    let ne : k ≢ 0 = λ z. absurd (omega (arith, z)) in
    let is : answer_from k d h ≡ Refused k = sym (cond_no (eqb k 0) (Refused k) _ _ (ne_eqb k 0 ne) (cond_yes (eqb d 0) (Refused k) _ _ (eq-eqb d 0 none') refl)) in
    ap accepted (sym (answers-told e s) ∙ is)

-- what a function left, told in words: the check it answered, and the run's words written so
pub record Tells (before : List ℕ) (a : Answer) (g : Run) (r : ℕ) (ws : List ℕ) : Type 0 where
  pub check : r ≡ check_of a
  pub words : ws ≡ run_left before a g

handed : (before ws t n : List ℕ) (a : Answer) (g : Run) (b : After) (r : ℕ) → left_as g a t n ≡ b → Tells before a g r ws → called r (lent_of ws t n) ≡ told before b
handed before ws t n a g b r h w = rw (w.check, w.words) (ap (told before) h)

-- ---- opening

-- an opening is done or refused
pub refused-opening : (u : Setup) (s : State) → check_of (opening u s).answer ≢ 0 → accepted (opening u s).answer ≡ false
unfolding opening
refused-opening u s = by-judged (λ (a : After). check_of a.answer ≢ 0 → accepted a.answer ≡ false) (refused s) (opening_checks u s) (done (opened u s))
    (λ r n. refl) (λ c n. absurd (n refl))

pub opening-short : (setup : List ℕ) (x : Lent) → length setup < setup_length → called 1 x ≡ opening_words setup x
unfolding opening_words
opening-short setup x l = cond_yes _ _ _ _ (or-first _ _ (lt-ltb _ _ l)) refl

pub opening-run-short : (setup : List ℕ) (x : Lent) → length x.run < run_length → called 1 x ≡ opening_words setup x
unfolding opening_words
opening-run-short setup x l = cond_yes _ _ _ _ (or-second (ltb (length setup) setup_length) _ (lt-ltb _ _ l)) refl

pub opening-done : (setup : List ℕ) (x : Lent) (u : Setup) (g g' : Run) (a : Answer) (r : ℕ) (ws t n : List ℕ)
    → setup_length ≤ length setup → run_length ≤ length x.run → u ≡ setup_in setup → g ≡ run_in x.run
    → left_as g' a t n ≡ opening u (state_of g x.tally x.network) → Tells x.run a g' r ws → called r (lent_of ws t n) ≡ opening_words setup x
unfolding opening_words
opening-done setup x u g g' a r ws t n l k e p h w =
    cond_no _ _ _ _ (or-neither _ _ (le-ltb _ _ l) (le-ltb _ _ k))
    (handed x.run ws t n a g' (opening (setup_in setup) (lent_state x)) r (h ∙ ap₂ (λ (z : Setup) (y : Run). opening z (state_of y x.tally x.network)) e p) w)

-- ---- an event

-- check 1 is of the event alone, and makes no difference to what is lent
lacking-told : (e : Event) (x : Lent) → lacks_form e ≡ true → told x.run (applied e (lent_state x)) ≡ called 1 x
unfolding applied checks
lacking-told e x l = ap (told x.run) (sym (cond_yes (lacks_form e) (refused (lent_state x) 1) (refused (lent_state x) 1) _ l refl))

applying-short : (e : Event) (x : Lent) → length x.run < run_length → called 1 x ≡ applying_words e x
unfolding applying_words
applying-short e x l = cond_yes _ _ _ _ (or-first _ _ (lt-ltb _ _ l)) refl

pub applying-lacking : (e f : Event) (x : Lent) (b : Bool) → f ≡ e → b ≡ lacks_form f → b ≡ true → called 1 x ≡ applying_words e x
unfolding applying_words
applying-lacking e f x b q r l = cond_yes _ _ _ _ (or-second (ltb (length x.run) run_length) (lacks_form e) (ap lacks_form (sym q) ∙ sym r ∙ l)) refl

applying-neither : (e f : Event) (x : Lent) (b : Bool) → f ≡ e → b ≡ lacks_form f → b ≡ false → run_length ≤ length x.run → 1 < get_or x.run settled_word 0
    → called 9 x ≡ applying_words e x
unfolding applying_words
applying-neither e f x b q r l k s =
    cond_no _ _ _ _ (or-neither (ltb (length x.run) run_length) (lacks_form e) (le-ltb _ _ k) (ap lacks_form (sym q) ∙ sym r ∙ l)) (cond_yes _ _ _ _ (lt-ltb _ _ s) refl)

pub applying-no-run : (e f : Event) (x : Lent) (b : Bool) (k : ℕ) → f ≡ e → b ≡ lacks_form f → b ≡ false → OfNoRun x.run k → called k x ≡ applying_words e x
applying-no-run e f x b k q r l (inl h) = rw h.0 (applying-short e x h.1)
applying-no-run e f x b k q r l (inr h) = rw h.0 (applying-neither e f x b q r l h.1 h.2)

-- a run that has all of its words and a settled word
pub applying-told : (e : Event) (x : Lent) → run_length ≤ length x.run → neither_settled x.run ≡ false → told x.run (applied e (lent_state x)) ≡ applying_words e x
unfolding applying_words
applying-told e x k s =
    by_cond (λ (c : Called). told x.run (applied e (lent_state x)) ≡ c) (ltb (length x.run) run_length || lacks_form e) (called 1 x) _
    (λ t. lacking-told e x (T_true _ (or-true (ltb (length x.run) run_length) (lacks_form e) (le-ltb _ _ k) t))) (λ f. cond_no _ _ _ _ s refl)

pub applying-done : (e : Event) (x : Lent) (c : Called) → run_length ≤ length x.run → get_or x.run settled_word 0 ≤ 1 → c ≡ told x.run (applied e (lent_state x)) → c ≡ applying_words e x
applying-done e x c k s h = h ∙ applying-told e x k (le-ltb _ _ s)

-- ---- what its words say when it has been applied

module _ (x : Lent) (g : Run) (p : g ≡ run_in x.run) (form kind view processor : ℕ) (g' : Run) (t n ws : List ℕ)
    (applies : AppliesAll (form ∷ kind ∷ view ∷ processor ∷ []) (state_of g x.tally x.network) (state_of g' t n) ws) where
  abbrev e : Event
  e = event_of form kind view processor

  abbrev a : After
  a = applied e (lent_state x)

  worded : record { state = state_of g' t n; words = ws } ≡ answered form a (record { state = a.state; words = [] })
  unfolding words_applied
  worded = applies ∙ ap (λ (r : Run). words_applied (form ∷ kind ∷ view ∷ processor ∷ []) (state_of r x.tally x.network)) p

  state-is : state_of g' t n ≡ a.state
  state-is = ap (λ (y : Worded). y.state) worded

  check-is : get_or ws 1 0 ≡ check_of a.answer
  check-is = ap (λ (y : Worded). get_or y.words 1 0) worded

  ticks-is : get_or ws 2 0 ≡ ticks_of a.answer
  ticks-is = ap (λ (y : Worded). get_or y.words 2 0) worded

  -- refused: the words stay
  pub event-refused : 0 < get_or ws 1 0 → get_or ws 2 0 ≡ 0 → called (get_or ws 1 0) (lent_of x.run t n) ≡ told x.run a
  event-refused some' none' =
      let no : accepted a.answer ≡ false = unaccepted e (lent_state x) (omega (arith, check-is)) (sym ticks-is ∙ none') in
      rw (check-is) (ap (λ (s : State). called (check_of a.answer) (lent_of x.run s.tally s.network)) state-is
      ∙ ap (λ (l : List ℕ). called (check_of a.answer) (lent_of l a.state.tally a.state.network)) (cond_no (accepted a.answer) x.run _ x.run no refl))

  -- written in any case: where it was refused they are the same
  pub event-done : (run : List ℕ) → run_length ≤ length x.run → get_or x.run settled_word 0 ≤ 1 → run ≡ run_over x.run g'
      → called (get_or ws 1 0) (lent_of run t n) ≡ told x.run a
  event-done run k s w =
      let same : run_over x.run a.state.run ≡ run_left x.run a.answer a.state.run =
      by_cond (λ (l : List ℕ). run_over x.run a.state.run ≡ l) (accepted a.answer) (run_over x.run a.state.run) x.run (λ y. refl)
      (λ f. ap (λ (z : State). run_over x.run z.run) (refused-stays e (lent_state x) (T_false _ f)) ∙ run-words-back x.run k (le-ltb _ _ s)) in
      rw (check-is) (ap (λ (l : List ℕ). called (check_of a.answer) (lent_of l t n)) w
      ∙ ap (λ (z : State). called (check_of a.answer) (lent_of (run_over x.run z.run) z.tally z.network)) state-is
      ∙ ap (λ (l : List ℕ). called (check_of a.answer) (lent_of l a.state.tally a.state.network)) same)

-- ---- many events

all_short : (events : List ℕ) (x : Lent) → length x.run < run_length → called_all 1 x events ≡ applying_all events x
unfolding applying_all
all_short events x l = cond_yes _ _ _ _ (lt-ltb _ _ l) refl

all-neither : (events : List ℕ) (x : Lent) → run_length ≤ length x.run → 1 < get_or x.run settled_word 0 → called_all 9 x events ≡ applying_all events x
unfolding applying_all
all-neither events x k s = cond_no _ _ _ _ (le-ltb _ _ k) (cond_yes _ _ _ _ (lt-ltb _ _ s) refl)

pub all-no-run : (events : List ℕ) (x : Lent) (k : ℕ) → OfNoRun x.run k → called_all k x events ≡ applying_all events x
all-no-run events x k (inl h) = rw h.0 (all_short events x h.1)
all-no-run events x k (inr h) = rw h.0 (all-neither events x h.1 h.2)

pub all_told : (events : List ℕ) (x : Lent) → run_length ≤ length x.run → neither_settled x.run ≡ false
    → told_all x.run (words_applied events (lent_state x)) ≡ applying_all events x
unfolding applying_all
all_told events x k s = cond_no _ _ _ _ (le-ltb _ _ k) (cond_no _ _ _ _ s refl)

pub all_done : (events : List ℕ) (x : Lent) (g g' : Run) (t n ws run : List ℕ) → run_length ≤ length x.run → get_or x.run settled_word 0 ≤ 1
    → g ≡ run_in x.run → AppliesAll events (state_of g x.tally x.network) (state_of g' t n) ws → run ≡ run_over x.run g'
    → called_all 0 (lent_of run t n) ws ≡ applying_all events x
all_done events x g g' t n ws run k s p applies w =
    ap (λ (l : List ℕ). called_all 0 (lent_of l t n) ws) w
    ∙ ap (told_all x.run) (applies ∙ ap (λ (r : Run). words_applied events (state_of r x.tally x.network)) p)
    ∙ all_told events x k (le-ltb _ _ s)
