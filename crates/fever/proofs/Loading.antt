-- Loads told in words: what was made, put back into the words of the run and of the load. Assumes nothing.
use Rattle.std.specs.Prelude.{Result, Ok, Err}
use mathlib.Core.Path.{◌≡◌, refl, sym, ap, ap₂, ◌∙◌, subst}
use mathlib.Core.Bool.{Bool, true, false, cond, ◌||◌}
use mathlib.Core.Logic.{inl, inr, ◌≢◌}
use mathlib.Core.List.{List, [], ◌∷◌, ◌++◌}
use Prim.Native.Nat.{ℕ, ◌≤◌, ◌<◌}
use native.Mathlib.Omega.{arith}
use lib.Dec.{eqb, ltb}
use mir.Val.{bool_byte}
use lib.ListN.{length, get_or, take, drop}
use borrow.Author.Tests.{lt-ltb, le-ltb, eq-eqb, ne_eqb}
use Rattle.base.specs.Choice.{cond_yes, cond_no, or-first, or-second, or-neither, or-rest}
use Rattle.types.specs.declared.Run.{Run}
use Rattle.types.specs.declared.Setup.{Setup}
use Rattle.model.specs.State.{State, state_of, check_of}
use Rattle.model.specs.Checks.{unsound_for_good}
use Rattle.model.specs.Opening.{opening}
use Rattle.lines.specs.Promises.{schedule_of}
use Rattle.writer.specs.Stamps.{stamp, Stamped}
use Rattle.loads.specs.Loads.{Point, point_of, Load}
use Rattle.loads.specs.Clauses.{PutLoad}
use Rattle.workload.specs.declared.Generated.{Generated}
use Rattle.workload.specs.Clauses.{Generates}
use Rattle.fever.specs.Layout.{setup_length, setup_in, run_length, settled_word, run_in, OfNoRun, neither_settled}
use Rattle.fever.specs.Clauses.{Lent, lent_of, lent_state}
use Rattle.fever.specs.Loads.{load_length, seed_word, load_over, run_after, CalledLoad, called_load, told_load, PutsBack, whole_in, generating_words, load_in, generating_more}

-- ---- the words put back

-- the byte of a yes or no is the word that says it
pub byte_is : (b : Bool) → bool_byte b ≡ cond b 1 0
byte_is true = refl
byte_is false = refl

-- the last four words of a load
pub load-laid : (ws after : List ℕ) (seed step bytes word b : ℕ) (full : Bool) → word ≡ cond full 1 0 → Stamped ws seed_word (seed ∷ step ∷ bytes ∷ word ∷ []) b after
    → after ≡ load_over ws seed step bytes full
unfolding stamp
load-laid ws after seed step bytes word b full e s = s.bytes ∙ ap (λ (w : ℕ). take seed_word ws ++ (seed ∷ step ∷ bytes ∷ w ∷ []) ++ drop load_length ws) e

-- ---- what was made of a load, as it is told

module _ (x : Lent) (load out : List ℕ) (l : Load) (check : ℕ) (t n out' : List ℕ) (r : ℕ) (run' load' : List ℕ) where
  -- by where it ended and how many bytes were written
  abbrev told_from : Point → Bool → ℕ → List ℕ → CalledLoad
  told_from y full k bytes =
      called_load 0 (lent_of (run_after x.run k y.state.run) y.state.tally y.state.network) (load_over load y.seed y.step k full) bytes

  abbrev left : CalledLoad
  left = called_load r (lent_of run' t n) load' out'

  made_told : (g : Generated) → Generates check l (lent_state x) out t n (Ok g) out' → PutsBack (Ok g) x.run load r run' load' → left ≡ told_load x load out l
  made_told g made put =
      let p : PutLoad l out (point_of (state_of g.run t n) g.seed g.step) g.full g.bytes out' = made.1 in
      let w : List ℕ = schedule_of l.forms in
      ap (λ (k : ℕ). called_load k (lent_of run' t n) load' out') put.0
      ∙ ap₂ (λ (ws ls : List ℕ). called_load 0 (lent_of ws t n) ls out') put.1 put.2
      ∙ ap₂ (λ (y : Point) (f : Bool). told_from y f g.bytes out') p.point p.full
      ∙ ap (told_from l.point l.full g.bytes) p.put.text
      ∙ ap (λ (k : ℕ). told_from l.point l.full k (w ++ drop k out)) p.put.bytes

  made_none : (k : ℕ) → Generates check l (lent_state x) out t n (Err k) out' → PutsBack (Err k) x.run load r run' load' → left ≡ called_load check x load out
  made_none k made put =
      ap (λ (k : ℕ). called_load k (lent_of run' t n) load' out') (put.0 ∙ made.0)
      ∙ ap₂ (λ (ws ls : List ℕ). called_load check (lent_of ws t n) ls out') put.1 put.2
      ∙ ap₂ (λ (y : State) (bytes : List ℕ). called_load check (lent_of x.run y.tally y.network) load bytes) made.2 made.3

  made-either : (g : Result Generated ℕ) → Generates check l (lent_state x) out t n g out' → PutsBack g x.run load r run' load'
      → left ≡ cond (eqb check 0) (told_load x load out l) (called_load check x load out)
  made-either (Ok g) made put = cond_yes _ _ _ _ (eq-eqb check 0 made.0) (made_told g made put)
  made-either (Err k) made put =
      let some' : check ≢ 0 = λ z. absurd (omega (arith, made.0, made.1, z)) in cond_no _ _ _ _ (ne_eqb check 0 some') (made_none k made put)

-- ---- from the opening on

module _ (setup : List ℕ) (x : Lent) (load out : List ℕ) where
  pub generating-short : length setup < setup_length → called_load 1 x load out ≡ generating_words setup x load out
  unfolding generating_words
  generating-short l = cond_yes _ _ _ _ (or-first _ _ (or-first _ _ (lt-ltb _ _ l))) refl

  pub generating-run-short : length x.run < run_length → called_load 1 x load out ≡ generating_words setup x load out
  unfolding generating_words
  generating-run-short l = cond_yes _ _ _ _ (or-first _ _ (or-second (ltb (length setup) setup_length) _ (lt-ltb _ _ l))) refl

  pub generating-load-short : length load < load_length → called_load 1 x load out ≡ generating_words setup x load out
  unfolding generating_words
  generating-load-short l = cond_yes _ _ _ _ (or-second (ltb (length setup) setup_length || ltb (length x.run) run_length) _ (lt-ltb _ _ l)) refl

  pub generating-done : (u : Setup) (run : Run) (g : Result Generated ℕ) (t n out' : List ℕ) (r : ℕ) (run' load' : List ℕ)
      → setup_length ≤ length setup → run_length ≤ length x.run → load_length ≤ length load → u ≡ setup_in setup → run ≡ run_in x.run
      → Generates (check_of (opening u (state_of run x.tally x.network)).answer)
      (whole_in u load (state_of run x.tally x.network) (length out)) (state_of run x.tally x.network) out t n g out'
      → PutsBack g x.run load r run' load' → called_load r (lent_of run' t n) load' out' ≡ generating_words setup x load out
  unfolding generating_words
  generating-done u run g t n out' r run' load' a b c e q made put =
      cond_no _ _ _ _ (or-neither _ _ (or-neither _ _ (le-ltb _ _ a) (le-ltb _ _ b)) (le-ltb _ _ c))
      (made-either x load out (whole_in (setup_in setup) load (lent_state x) (length out)) (check_of (opening (setup_in setup) (lent_state x)).answer)
      t n out' r run' load' g made' put)
    where
      made' : Generates (check_of (opening (setup_in setup) (lent_state x)).answer)
          (whole_in (setup_in setup) load (lent_state x) (length out)) (lent_state x) out t n g out'
      made' = subst (λ (v : Setup). Generates (check_of (opening v (lent_state x)).answer)
          (whole_in v load (lent_state x) (length out)) (lent_state x) out t n g out') e
          (subst (λ (y : Run). Generates (check_of (opening u (state_of y x.tally x.network)).answer)
          (whole_in u load (state_of y x.tally x.network) (length out)) (state_of y x.tally x.network) out t n g out') q made)

-- ---- from where it stands

module _ (x : Lent) (load out : List ℕ) where
  more-run-short : length x.run < run_length → called_load 1 x load out ≡ generating_more x load out
  unfolding generating_more
  more-run-short l = cond_yes _ _ _ _ (or-first _ _ (lt-ltb _ _ l)) refl

  pub more-load-short : length load < load_length → called_load 1 x load out ≡ generating_more x load out
  unfolding generating_more
  more-load-short l = cond_yes _ _ _ _ (or-second (ltb (length x.run) run_length) _ (lt-ltb _ _ l)) refl

  module _ (b : run_length ≤ length x.run) (c : load_length ≤ length load) where
    long : (ltb (length x.run) run_length || ltb (length load) load_length) ≡ false
    long = or-neither _ _ (le-ltb _ _ b) (le-ltb _ _ c)

    more-neither : 1 < get_or x.run settled_word 0 → called_load 9 x load out ≡ generating_more x load out
    unfolding generating_more
    more-neither s = cond_no _ _ _ _ long (cond_yes _ _ _ _ (or-first _ _ (lt-ltb _ _ s)) refl)

    -- a settled word, by whether the run is sound but for its time
    pub more_by : neither_settled x.run ≡ false → (d : Bool) → unsound_for_good (lent_state x) ≡ d
        → generating_more x load out ≡ cond d (called_load 9 x load out) (told_load x load out (load_in load (lent_state x) (length out)))
    unfolding generating_more
    more_by s d e = sym (cond_no _ _ _ _ long
        (ap (λ (f : Bool). cond f (called_load 9 x load out) (told_load x load out (load_in load (lent_state x) (length out))))
        (or-rest (neither_settled x.run) (unsound_for_good (lent_state x)) d s (sym e))))

    pub more-done : (run : Run) (g : Result Generated ℕ) (t n out' : List ℕ) (r : ℕ) (run' load' : List ℕ) → get_or x.run settled_word 0 ≤ 1 → run ≡ run_in x.run
        → Generates (cond (unsound_for_good (state_of run x.tally x.network)) 9 0) (load_in load (state_of run x.tally x.network) (length out))
        (state_of run x.tally x.network) out t n g out'
        → PutsBack g x.run load r run' load' → called_load r (lent_of run' t n) load' out' ≡ generating_more x load out
    more-done run g t n out' r run' load' s q made put =
        made-either x load out l (cond unsound 9 0) t n out' r run' load' g made' put ∙ shown unsound ∙ sym (more_by (le-ltb _ _ s) unsound refl)
      where
        l : Load
        l = load_in load (lent_state x) (length out)

        unsound : Bool
        unsound = unsound_for_good (lent_state x)

        made' : Generates (cond unsound 9 0) l (lent_state x) out t n g out'
        made' = subst (λ (y : Run). Generates (cond (unsound_for_good (state_of y x.tally x.network)) 9 0)
            (load_in load (state_of y x.tally x.network) (length out)) (state_of y x.tally x.network) out t n g out') q made

        shown : (f : Bool) → cond (eqb (cond f 9 0) 0) (told_load x load out l) (called_load (cond f 9 0) x load out) ≡ cond f (called_load 9 x load out) (told_load x load out l)
        shown true = refl
        shown false = refl

  pub more-no-run : load_length ≤ length load → (k : ℕ) → OfNoRun x.run k → called_load k x load out ≡ generating_more x load out
  more-no-run c k (inl h) = rw h.0 (more-run-short h.1)
  more-no-run c k (inr h) = rw h.0 (more-neither h.1 c h.2)
