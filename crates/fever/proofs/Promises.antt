-- The promises of specs/Promises.antt, proved: those of calls in turn, of loads, of layouts and of writing are passed on from the files that show them. Assumes nothing.
pub use Rattle.fever.proofs.Demands.{demand-three-of-library, never-nine, never-nine-of-many, library-is-after, settling-told, traffic-of-library}
pub use Rattle.fever.proofs.Turns.{every-call-answered, no-event-nothing, many-in-turn}
pub use Rattle.fever.proofs.LoadCalls.{lines-are-events, generates-after-opening, calls-after-load, refused-load-keeps, refused-more-keeps}
pub use Rattle.fever.proofs.ReadBack.{run-back, run-words-back, setup-back, event-back, read-event-back, read-setup-back}
pub use Rattle.fever.proofs.Writing.{bytes-told}
pub use Rattle.fever.proofs.Carrying.{carried-words-alike, carried-goes-on, carried-words-back, refused-carry-keeps}
use mathlib.Core.Path.{◌≡◌, refl, sym, ap, ◌∙◌, subst}
use mathlib.Core.Bool.{true, false, ◌||◌}
use mathlib.Core.Logic.{◌⊎◌, inl, inr, ◌≢◌}
use mathlib.Core.List.{List}
use Prim.Native.Nat.{ℕ}
use native.Mathlib.Omega.{arith}
use lib.Dec.{T, eqb, ltb}
use lib.ListN.{length, get_or}
use Rattle.base.specs.Choice.{cond_yes, cond_no}
use Rattle.base.specs.Tests.{passes?, T_true, T_false, fails, by_cond}
use Rattle.types.specs.declared.Event.{Event}
use Rattle.types.specs.declared.Answer.{Answer}
use Rattle.types.specs.declared.Answer.TheVariants.{Done, Stopped, Refused}
use Rattle.types.specs.Messages.{lacks_form}
use Rattle.model.specs.State.{State, After, check_of, ticks_of, held_of, accepted}
use Rattle.model.specs.Opening.{opening}
use Rattle.model.specs.Events.{applied}
use Rattle.liveness.specs.Promises.{answer_from}
use Rattle.liveness.proofs.History.{event-time}
use Rattle.liveness.proofs.Promises.{answers-told, refused-stays, refused-opening-stays}
use Rattle.words.specs.Batches.{words_applied}
use Rattle.fever.specs.Layout.{setup_length, setup_in, run_length, run_in, run_over, neither_settled, time_word, held_word}
use Rattle.fever.specs.Clauses.{Lent, lent_of, lent_state, Called, called, told, opening_words, applying_words, CalledAll, called_all, told_all, applying_all}
use Rattle.fever.specs.Promises.{RefusedOpeningKeeps, RefusedKeeps, RefusedAllKeeps, TicksTold}
use Rattle.fever.proofs.Calling.{unaccepted, refused-opening}

-- ---- refused calls

-- what refused calls tell
told_same : (x : Lent) (a : After) → accepted a.answer ≡ false → a.state ≡ lent_state x → (told x.run a).lent ≡ x
told_same x a n q =
    ap (λ (s : State). lent_of (told x.run a).lent.run s.tally s.network) q
    ∙ ap (λ (ws : List ℕ). lent_of ws x.tally x.network) (sym (cond_no _ _ _ _ n refl))

-- the words of an accepted call's run
told-run : (x : Lent) (a : After) (i : ℕ) → accepted a.answer ≡ true → get_or (run_over x.run a.state.run) i 0 ≡ get_or (told x.run a).lent.run i 0
told-run x a i y = ap (λ (ws : List ℕ). get_or ws i 0) (cond_yes _ _ _ _ y refl)

told-refused : (e : Event) (x : Lent) → let a = applied e (lent_state x) in
    (told x.run a).answer ≢ 0 → get_or (told x.run a).lent.run time_word 0 ≡ get_or x.run time_word 0 → (told x.run a).lent ≡ x
unfolding run_in
told-refused e x some' still = by_cases (passes? (accepted a.answer))
  where
    a : After
    a = applied e (lent_state x)

    by_cases : T (accepted a.answer) ⊎ (T (accepted a.answer) → ⊥) → (told x.run a).lent ≡ x
    by_cases (inl y) =
        let time : a.state.run.time ≡ get_or x.run time_word 0 = told-run x a time_word (T_true (accepted a.answer) y) ∙ still in
        let none' : ticks_of a.answer ≡ 0 = omega (arith, event-time e (lent_state x)) in
        let no : accepted a.answer ≡ false = unaccepted e (lent_state x) (omega (arith, some')) none' in
        absurd (fails (accepted a.answer) no y)
    by_cases (inr n) = let no : accepted a.answer ≡ false = T_false (accepted a.answer) n in told_same x a no (refused-stays e (lent_state x) no)

pub refused-keeps : RefusedKeeps
unfolding applying_words
refused-keeps e x =
    by_cond Keeps (ltb (length x.run) run_length || lacks_form e) (called 1 x) _ (λ t n q. refl) (λ t.
    by_cond Keeps (neither_settled x.run) (called 9 x) (told x.run (applied e (lent_state x))) (λ u n q. refl) (λ u. told-refused e x))
  where
    Keeps : Called → Type 0
    Keeps k = k.answer ≢ 0 → get_or k.lent.run time_word 0 ≡ get_or x.run time_word 0 → k.lent ≡ x

pub refused-opening-keeps : RefusedOpeningKeeps
unfolding opening_words
refused-opening-keeps setup x =
    by_cond (λ (k : Called). k.answer ≢ 0 → k.lent ≡ x) (ltb (length setup) setup_length || ltb (length x.run) run_length) (called 1 x)
    (told x.run (opening (setup_in setup) (lent_state x))) (λ t n. refl)
    (λ t n. let r = refused-opening (setup_in setup) (lent_state x) n in
    told_same x (opening (setup_in setup) (lent_state x)) r (refused-opening-stays (setup_in setup) (lent_state x) r))

pub refused-all-keeps : RefusedAllKeeps
unfolding applying_all
refused-all-keeps events x =
    by_cond Keeps (ltb (length x.run) run_length) (called_all 1 x events) _ (λ t n. refl) (λ t.
    by_cond Keeps (neither_settled x.run) (called_all 9 x events) (told_all x.run (words_applied events (lent_state x))) (λ u n. refl) (λ u n. absurd (n refl)))
  where
    Keeps : CalledAll → Type 0
    Keeps c = c.answer ≢ 0 → c ≡ called_all c.answer x events

-- ---- ticks done and messages held

-- the numbers of an answer tell what it holds, if it was accepted
held-from : (c d h : ℕ) → accepted (answer_from c d h) ≡ true → h ≡ held_of (answer_from c d h)
held-from c d h = by_cond Holds (eqb c 0) (Done d h) _ (λ t y. refl) (λ t. by_cond Holds (eqb d 0) (Refused c) (Stopped d h c) (λ u y. absurd (fails true (sym y) tt)) (λ u y. refl))
  where
    Holds : Answer → Type 0
    Holds a = accepted a ≡ true → h ≡ held_of a

applied-held : (e : Event) (s : State) → accepted (applied e s).answer ≡ true → (applied e s).state.run.held ≡ held_of (applied e s).answer
applied-held e s = subst (λ (a : Answer). accepted a ≡ true → (applied e s).state.run.held ≡ held_of a) (answers-told e s)
    (held-from (check_of (applied e s).answer) (ticks_of (applied e s).answer) (applied e s).state.run.held)

pub ticks-told : TicksTold
unfolding run_in
ticks-told e x y =
    record {
      ticks = sym (told-run x (applied e (lent_state x)) time_word y) ∙ event-time e (lent_state x);
      held = sym (told-run x (applied e (lent_state x)) held_word y) ∙ applied-held e (lent_state x) y;
    }
