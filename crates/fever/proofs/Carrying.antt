-- A run carried over in words, in each case of the call. Assumes nothing.
use Rattle.std.proofs.Common.{Result, zero, suc}
use mathlib.Core.Path.{◌≡◌, refl, sym, ap, ap₂, ◌∙◌, subst}
use mathlib.Core.Bool.{Bool, true, false}
use mathlib.Core.Logic.{◌≢◌}
use mathlib.Core.List.{List, [], ◌∷◌}
use Prim.Native.Nat.{ℕ, suc, ◌≤◌, ◌<◌}
use native.Mathlib.Omega.{arith}
use lib.Dec.{ltb}
use lib.ListN.{length, get_or}
use borrow.Author.Tests.{lt-ltb, le-ltb}
use Rattle.base.specs.Tests.{T_false}
use Rattle.types.specs.declared.Form.{Form}
use Rattle.types.specs.declared.Run.{Run}
use Rattle.model.specs.State.{State, state_in}
use Rattle.model.specs.Checks.{Check, unsound, passed, refusal}
use Rattle.model.specs.Carrying.{target_outside, CarriedOver, carried_over}
use Rattle.liveness.specs.Carrying.{HeldAlike}
use Rattle.liveness.proofs.Judging.{by-judged, by-judged-each}
use Rattle.liveness.proofs.Promises.{answered-alike, carried-alike, turns-back, back_fits, refused-carries-nothing}
use Rattle.carrying.specs.Carries.{Carries}
use Rattle.fever.specs.Layout.{run_length, run_in, settled_word, neither_settled}
use Rattle.fever.specs.Clauses.{Lent}
use Rattle.fever.specs.Carrying.{lent_in, called_carry, carrying_words, CarriesWords}
use Rattle.fever.specs.Promises.{on_network, CarriedWordsAlike, CarriedGoesOn, CarriedWordsBack, RefusedCarryKeeps}

module _ (from to : Form) (x : Lent) (target : List ℕ) where
  abbrev outside : Bool
  outside = target_outside to (run_in x.run).plan (run_in x.run).held (length target)

  -- it is asked of the run that was read
  pub outside-run : (g : Run) → g ≡ run_in x.run → (b c : Bool) → b ≡ target_outside to g.plan g.held (length target) → b ≡ c → outside ≡ c
  outside-run g e b c is y = sym (is ∙ ap (λ (z : Run). target_outside to z.plan z.held (length target)) e) ∙ y

  pub carry-short : length x.run < run_length → called_carry 1 target ≡ carrying_words from to x target
  unfolding carrying_words
  carry-short l = rw (lt-ltb _ _ l) refl

  module _ (whole : run_length ≤ length x.run) where
    -- a settled word that is of no run
    module _ (neither : 1 < get_or x.run settled_word 0) where
      pub carry-outside : outside ≡ true → called_carry 6 target ≡ carrying_words from to x target
      unfolding carrying_words
      carry-outside o = rw (le-ltb _ _ whole, o) refl

      pub carry-neither : outside ≡ false → called_carry 9 target ≡ carrying_words from to x target
      unfolding carrying_words
      carry-neither o = rw (le-ltb _ _ whole, o, lt-ltb _ _ neither) refl

  refusal-passed : (k : ℕ) → refusal (passed k) ≡ k
  refusal-passed zero = refl
  refusal-passed (suc k) = refl

  -- no check of words refuses: the definition's answer is told
  by-target : (b : Bool) → outside ≡ b → ltb (length x.run) run_length ≡ false → neither_settled x.run ≡ false
      → carried_over to (lent_in from x) target ≡ carrying_words from to x target
  unfolding carrying_words carried_over
  by-target true o long sorted = rw (long, o) refl
  by-target false o long sorted = rw (long, o, sorted) refl

  pub carry-told : run_length ≤ length x.run → get_or x.run settled_word 0 ≤ 1 → (g : Run) → g ≡ run_in x.run → (r : Result (Unit {0}) ℕ) (after : List ℕ)
      → Carries to (state_in from g x.tally x.network) target r after → called_carry (refusal r) after ≡ carrying_words from to x target
  carry-told whole sorted g p r after carries =
      ap₂ called_carry (ap refusal carries.0 ∙ refusal-passed (carried_over to (state_in from g x.tally x.network) target).check) carries.1
      ∙ ap (λ (z : Run). carried_over to (state_in from z x.tally x.network) target) p
      ∙ by-target outside refl (le-ltb _ _ whole) (le-ltb _ _ sorted)

-- ---- what a call tells

-- one that answers 0
record Accepts (from to : Form) (x : Lent) (target left : List ℕ) : Type 0 where
  long : ltb (length x.run) run_length ≡ false
  sorted : neither_settled x.run ≡ false
  check : (carried_over to (lent_in from x) target).check ≡ 0
  words : (carried_over to (lent_in from x) target).target ≡ left

module _ (from to : Form) (x : Lent) (target : List ℕ) where
  abbrev tests : List Check
  tests = (1, ltb (length x.run) run_length) ∷ (6, target_outside to (run_in x.run).plan (run_in x.run).held (length target)) ∷ (9, neither_settled x.run) ∷ []

  abbrev over : CarriedOver
  over = carried_over to (lent_in from x) target

  accepts : (left : List ℕ) → CarriesWords from to x target 0 left → Accepts from to x target left
  unfolding carrying_words
  accepts left = by-judged-each (λ (c : CarriedOver). called_carry 0 left ≡ c → Accepts from to x target left) (λ r. called_carry r target) tests over
      ((λ t e. no e), ((λ t e. no e), ((λ t e. no e), tt)))
      (λ p e. record {
        long = T_false (ltb (length x.run) run_length) p.0;
        sorted = T_false (neither_settled x.run) p.1.1.0;
        check = sym (ap (λ (c : CarriedOver). c.check) e);
        words = sym (ap (λ (c : CarriedOver). c.target) e);
      })
    where
      no : {r : ℕ} → called_carry 0 left ≡ called_carry (suc r) target → Accepts from to x target left
      no e = absurd (omega (arith, ap (λ (c : CarriedOver). c.check) e))

  pub refused-carry : (carrying_words from to x target).check ≢ 0 → (carrying_words from to x target).target ≡ target
  unfolding carrying_words
  refused-carry = by-judged (λ (c : CarriedOver). c.check ≢ 0 → c.target ≡ target) (λ r. called_carry r target) tests over (λ r n. refl)
      (λ p n. refused-carries-nothing to (lent_in from x) target n)

pub refused-carry-keeps : RefusedCarryKeeps
refused-carry-keeps = refused-carry

pub carried-words-alike : CarriedWordsAlike
carried-words-alike from to x target left c =
    let a = accepts from to x target left c in
    subst (λ (ws : List ℕ). (unsound (lent_in to (on_network ws x)) ≡ false) × HeldAlike (lent_in from x) (lent_in to (on_network ws x))) a.words
    (carried-alike to (lent_in from x) target a.check)

-- the run that was carried over was sound
was-sound : (to : Form) (s : State) (target : List ℕ) → (carried_over to s target).check ≡ 0 → unsound s ≡ false
unfolding carried_over
was-sound to s target = by-judged-each (λ (c : CarriedOver). c.check ≡ 0 → unsound s ≡ false) (λ r. record { check = r; target = target })
    ((6, target_outside to s.run.plan s.run.held (length target)) ∷ (9, unsound s) ∷ []) _ (λ t e. absurd (omega arith), (λ t e. absurd (omega arith), tt))
    (λ c e. T_false (unsound s) c.1.0)

pub carried-goes-on : CarriedGoesOn
carried-goes-on from to x target left c =
    let a = accepts from to x target left c in
    let b = carried-words-alike from to x target left c in
    answered-alike (lent_in from x) (lent_in to (on_network left x)) (was-sound to (lent_in from x) target a.check ∙ sym b.0) b.1

pub carried-words-back : CarriedWordsBack
carried-words-back from to x target left c back same r after' c' =
    let a = accepts from to x target left c in
    let s = lent_in from x in
    let there = on_network (carried_over to s target).target x in
    let z = back_fits to s target back a.check same in
    let e : called_carry r after' ≡ carried_over from (lent_in to there) back =
    c' ∙ ap (λ (ws : List ℕ). carrying_words to from (on_network ws x) back) (sym a.words) ∙ sym (by-target to from there back _ refl a.long a.sorted) in (
      ap (λ (y : CarriedOver). y.check) e ∙ z,
      ap (λ (y : CarriedOver). y.target) e ∙ ap (λ (y : State). y.network) ((turns-back to s target back a.check z).1 same),
    )
