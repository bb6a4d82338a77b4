-- What a tick does to the clocks, and that entries only raise them. Assumes nothing.
use mathlib.Core.Path.{◌≡◌, refl, ap, ◌∙◌}
use mathlib.Core.Logic.{⊎_elim}
use mathlib.Core.List.{List}
use Prim.Native.Nat.{ℕ, zero, suc, ◌+◌, ◌≤◌, ◌<◌}
use native.Mathlib.Omega.{arith}
use lib.Dec.{T}
use lib.ListN.{length, get_or, set, length-set}
use lib.Seq.{get_or-set_same, get_or-set_other, set_out}
use Rattle.base.specs.Tests.{le?, eq?, by_cond}
use Rattle.types.specs.declared.Run.{Run}
use Rattle.model.specs.State.{clock_of, is_correct}
use Rattle.model.specs.Moves.{changed, Entry, stay, into, entry_clock, entering, taking, entries, clocks_on}
use Rattle.liveness.proofs.Enters.{entry-max}

module _ (r : Run) where
  pub length-clocks : (k : ℕ) → length (clocks_on r k) ≡ length r.clocks
  unfolding clocks_on
  length-clocks zero = refl
  length-clocks (suc k) = by_cond (λ (l : List ℕ). length l ≡ length r.clocks) (is_correct r k) (set (clocks_on r k) k (clock_of r k + 1)) (clocks_on r k)
      (λ t. length-set (clocks_on r k) k (clock_of r k + 1) ∙ length-clocks k) (λ t. length-clocks k)

  -- a correct clock has advanced by one
  pub clock_up : (k q : ℕ) → k ≤ length r.clocks → q < k → T (is_correct r q) → get_or (clocks_on r k) q 0 ≡ clock_of r q + 1
  unfolding clocks_on
  clock_up zero q long l c = absurd (omega arith)
  clock_up (suc k) q long l c =
      let below : q < k → get_or (clocks_on r k) q 0 ≡ clock_of r q + 1 = λ h. clock_up k q (omega arith) h c in
      by_cond (λ (x : List ℕ). get_or x q 0 ≡ clock_of r q + 1) (is_correct r k) (set (clocks_on r k) k (clock_of r k + 1)) (clocks_on r k)
      (λ t. ⊎_elim (λ (h : q < k). get_or-set_other (clocks_on r k) k q (clock_of r k + 1) 0 (omega arith) ∙ below h)
      (λ (h : k < suc q). let e : q ≡ k = omega arith in rw e (get_or-set_same (clocks_on r k) k (clock_of r k + 1) 0 (omega (arith, length-clocks k))))
      (le? (suc q) k))
      (λ t. ⊎_elim below (λ (h : k < suc q). let e : q ≡ k = omega arith in absurd (t (rw e at c))) (le? (suc q) k))

set-up : (l : List ℕ) (p x q : ℕ) → get_or l p 0 ≤ x → get_or l q 0 ≤ get_or (set l p x) q 0
set-up l p x q h = ⊎_elim here (λ ne. omega (arith, get_or-set_other l p q x 0 ne)) (eq? q p)
  where
    here : q ≡ p → get_or l q 0 ≤ get_or (set l p x) q 0
    here e = rw e (⊎_elim
        (λ (lt : suc p ≤ length l). omega (arith, get_or-set_same l p x 0 lt))
        (λ (ge : length l < suc p). omega (arith, ap (λ (y : List ℕ). get_or y p 0) (set_out l p x (omega arith))))
        (le? (suc p) (length l)))

taking-up : (r : Run) (t : List ℕ) (p : ℕ) (e : Entry) (q : ℕ) → clock_of r q ≤ get_or (taking r t p e).clocks q 0
unfolding taking entering
taking-up r t p stay q = omega arith
taking-up r t p (into w) q = set-up r.clocks p (entry_clock r.plan (clock_of r p) w) q (omega (arith, entry-max r.plan (clock_of r p) w))

pub entries-up : (e : ℕ → Entry) (r : Run) (t : List ℕ) (k q : ℕ) → clock_of r q ≤ get_or (entries e r t k).clocks q 0
unfolding entries
entries-up e r t zero q = omega arith
entries-up e r t (suc k) q = let c = entries e r t k in omega (arith, entries-up e r t k q, taking-up (changed r c) c.tally k (e k) q)
