-- What setting one bit of one word of the tally changes. Assumes nothing.
use mathlib.Core.Path.{◌≡◌, refl, sym, ap, ◌∙◌, subst}
use mathlib.Core.Bool.{Bool, true, false, ◌&&◌, ◌||◌}
use mathlib.Core.Logic.{◌⊎◌, inl, inr, ⊎_elim, ◌≢◌}
use mathlib.Core.List.{List}
use Prim.Native.Nat.{ℕ, suc, ◌^◌, ◌≤◌, ◌<◌}
use native.Mathlib.Omega.{arith}
use lib.Dec.{T, eqb, eqb→eq}
use lib.ListN.{length, get_or, length-set}
use lib.Seq.{get_or-set_same, get_or-set_other, set_out}
use Rattle.base.specs.Tests.{T_and, T-left, T-right, or_left, or_right, or_cases, T-iff, le?, eq?, eq→eqb}
use Rattle.base.specs.Sets.{member, insert}
use Rattle.base.specs.SetLaws.{member-insert, insert-below}
use Rattle.model.specs.State.{heard_word, marks_word, mark_bit, slot, word, added}
use Rattle.model.specs.Moves.{heard_tally}

pub heard-low : (d : Bool) → (0 < heard_word d) × (heard_word d < marks_word)
heard-low false = omega arith
heard-low true = omega arith

pub length-added : (t : List ℕ) (w j p : ℕ) → length (added t w j p) ≡ length t
length-added t w j p = length-set t (slot w j) (insert (word t w j) p)

pub length-heard : (t : List ℕ) (q : Bool) (w p : ℕ) (formed : Bool) → length (heard_tally t q w p formed) ≡ length t
length-heard t q w p true = length-added (added t w (heard_word q) p) w marks_word (mark_bit q) ∙ length-added t w (heard_word q) p
length-heard t q w p false = length-added t w (heard_word q) p

module _ (t : List ℕ) (w j p : ℕ) where
  pub added-same : slot w j < length t → word (added t w j p) w j ≡ insert (word t w j) p
  added-same l = get_or-set_same t (slot w j) (insert (word t w j) p) 0 l

  pub added-other : (u i : ℕ) → slot u i ≢ slot w j → word (added t w j p) u i ≡ word t u i
  added-other u i ne = get_or-set_other t (slot w j) (slot u i) (insert (word t w j) p) 0 ne

  -- a bit that is set was set, or is the one added, whatever the length
  pub added-only : (u i q : ℕ) → T (member (word (added t w j p) u i) q) → T (member (word t u i) q) ⊎ ((slot u i ≡ slot w j) × (q ≡ p))
  added-only u i q x = ⊎_elim here (λ ne. inl (rw (added-other u i ne) at x)) (eq? (slot u i) (slot w j))
    where
      here : slot u i ≡ slot w j → T (member (word t u i) q) ⊎ ((slot u i ≡ slot w j) × (q ≡ p))
      here e = ⊎_elim
          (λ (l : suc (slot w j) ≤ length t). ⊎_elim (λ y. inl (subst (λ (z : ℕ). T (member (get_or t z 0) q)) (sym e) y)) (λ y. inr (e, eqb→eq q p y))
          (or_cases (member (word t w j) q) (eqb q p) (subst T
          (ap (λ (z : ℕ). member z q) (ap (λ (z : ℕ). get_or (added t w j p) z 0) e ∙ added-same l) ∙ member-insert (word t w j) p q) x)))
          (λ (l : length t < suc (slot w j)). inl (subst (λ (z : List ℕ). T (member (word z u i) q))
          (set_out t (slot w j) (insert (word t w j) p) (omega arith)) x))
          (le? (suc (slot w j)) (length t))

  module _ (j-low : j < 4) (long : slot w j < length t) where
    -- bit q of word i of view u is as it was, or it is the one that was set
    pub added-member : (u i q : ℕ) → i < 4 → member (word (added t w j p) u i) q ≡ (member (word t u i) q || (eqb u w && (eqb i j && eqb q p)))
    added-member u i q i-low = ⊎_elim here elsewhere (eq? (slot u i) (slot w j))
      where
        elsewhere : slot u i ≢ slot w j → member (word (added t w j p) u i) q ≡ (member (word t u i) q || (eqb u w && (eqb i j && eqb q p)))
        elsewhere ne = T-iff (member (word (added t w j p) u i) q) (member (word t u i) q || (eqb u w && (eqb i j && eqb q p)))
            (λ x. or_left (member (word t u i) q) (eqb u w && (eqb i j && eqb q p)) (rw (added-other u i ne) at x))
            (λ x. ⊎_elim (λ y. rw (added-other u i ne) y)
            (λ y. let a : u ≡ w = eqb→eq _ _ (T-left (eqb u w) _ y) in let b : i ≡ j = eqb→eq _ _ (T-left (eqb i j) _ (T-right (eqb u w) _ y)) in
            absurd (ne (rw (a, b) refl)))
            (or_cases (member (word t u i) q) (eqb u w && (eqb i j && eqb q p)) x))

        here : slot u i ≡ slot w j → member (word (added t w j p) u i) q ≡ (member (word t u i) q || (eqb u w && (eqb i j && eqb q p)))
        here e =
            let a : u ≡ w = omega arith in
            let b : i ≡ j = omega arith in
            rw (a, b) (ap (λ (x : ℕ). member x q) (added-same long) ∙ member-insert (word t w j) p q ∙ last)
          where
            last : (member (word t w j) q || eqb q p) ≡ (member (word t w j) q || (eqb w w && (eqb j j && eqb q p)))
            last = T-iff (member (word t w j) q || eqb q p) (member (word t w j) q || (eqb w w && (eqb j j && eqb q p)))
                (λ x. ⊎_elim (λ y. or_left (member (word t w j) q) (eqb w w && (eqb j j && eqb q p)) y)
                (λ y. or_right (member (word t w j) q) (eqb w w && (eqb j j && eqb q p))
                (T_and (eqb w w) _ (eq→eqb w w refl) (T_and (eqb j j) _ (eq→eqb j j refl) y)))
                (or_cases (member (word t w j) q) (eqb q p) x))
                (λ x. ⊎_elim (λ y. or_left (member (word t w j) q) (eqb q p) y)
                (λ y. or_right (member (word t w j) q) (eqb q p) (T-right (eqb j j) _ (T-right (eqb w w) _ y)))
                (or_cases (member (word t w j) q) (eqb w w && (eqb j j && eqb q p)) x))

    pub added-below : (k u i : ℕ) → i < 4 → p < k → word t u i < 2 ^ k → word (added t w j p) u i < 2 ^ k
    added-below k u i i-low l h = ⊎_elim
        (λ (e : slot u i ≡ slot w j). let a : u ≡ w = omega arith in let b : i ≡ j = omega arith in
        rw (a, b, added-same long) (insert-below k (word t w j) p l (rw (a, b) at h)))
        (λ ne. rw (added-other u i ne) h)
        (eq? (slot u i) (slot w j))
