-- The first words of a buffer set to 0. Assumes nothing.
use Rattle.std.specs.Prelude.{◌≡◌, refl, cond, List, ◌∷◌, ◌++◌, ℕ, zero, suc, ◌+◌, ◌≤◌, ◌<◌, leb, length, get_or, set, drop, replicate}
use Rattle.std.proofs.Common.{sym, ap, ◌∙◌, append-nil, add-one, arith, le_refl, length-append, length-drop, drop-cons, le-leb}
use Rattle.std.proofs.lemmas.List.{length-replicate, set_at}
use Rattle.std.proofs.Math.Seq.{drop-length}
use Rattle.base.specs.Choice.{cond_yes}

abbrev pub cleared : List ℕ → ℕ → List ℕ
cleared l k = replicate k 0 ++ drop k l

pub cleared_more : (l m : List ℕ) (k : ℕ) → k < length l → m ≡ cleared l k → set m k 0 ≡ cleared l (k + 1)
cleared_more l m k low e =
    ap (λ (x : List ℕ). set x k 0) (e ∙ ap (λ (x : List ℕ). replicate k 0 ++ x) (drop-cons l k 0 low))
    ∙ set_at (replicate k 0) (get_or l k 0) (drop (suc k) l) 0 k (length-replicate {A = ℕ} k 0)
    ∙ shift k (drop (suc k) l)
    ∙ ap (cleared l) (sym (add-one k))
  where
    shift : (j : ℕ) (x : List ℕ) → replicate j 0 ++ 0 ∷ x ≡ replicate (suc j) 0 ++ x
    shift zero x = refl
    shift (suc j) x = ap (λ (y : List ℕ). 0 ∷ y) (shift j x)

pub cleared-all : (l : List ℕ) → cleared l (length l) ≡ replicate (length l) 0
cleared-all l = ap (λ (x : List ℕ). replicate (length l) 0 ++ x) (drop-length l) ∙ append-nil (replicate (length l) 0)

pub cleared-length : (l : List ℕ) (k : ℕ) → k ≤ length l → length (cleared l k) ≡ length l
cleared-length l k low = length-append (replicate k 0) (drop k l) ∙ omega (arith, length-replicate {A = ℕ} k 0, length-drop k l)

-- where there are so many
abbrev pub zeroed : List ℕ → ℕ → List ℕ
zeroed l k = cond (leb k (length l)) (cleared l k) l

pub zeroed-fits : (l : List ℕ) (k : ℕ) → k ≤ length l → zeroed l k ≡ cleared l k
zeroed-fits l k low = sym (cond_yes (leb k (length l)) (cleared l k) (cleared l k) l (le-leb _ _ low) refl)

pub zeroed-all : (l : List ℕ) → zeroed l (length l) ≡ replicate (length l) 0
zeroed-all l = zeroed-fits l (length l) (le_refl (length l)) ∙ cleared-all l
