-- The same messages in flight, in the words of networks of any two forms: they are read alike, and what is read alike is the same in flight.
-- Assumes nothing.
use mathlib.Core.Path.{◌≡◌, refl, sym, ap, ◌∙◌, subst}
use mathlib.Core.Logic.{inl, inr}
use mathlib.Core.List.{List, [], ◌∷◌}
use Prim.Native.Nat.{ℕ, zero, suc, ◌*◌, ◌≤◌, ◌<◌}
use native.Mathlib.Omega.{arith}
use lib.Dec.{T, ltb, ltb→lt}
use lib.ListN.{length, drop, replicate}
use Rattle.types.specs.declared.Form.{Form}
use Rattle.types.specs.Quantities.{width}
use Rattle.types.proofs.MessageLaws.{same-message}
use Rattle.model.specs.State.{Held, held_at, capacity}
use Rattle.model.specs.FormLaws.{room-of-words}
use Rattle.model.specs.Checks.{some_non_zero}
use Rattle.liveness.proofs.Flight.{Sent, sent_as, numbers, laid, laid-beyond, Named, laid-first, laid_on}
use Rattle.liveness.proofs.Link.{Wire, wire-length}

-- ---- one network

zeros-sound : (z : ℕ) → T (some_non_zero (replicate z 0)) → ⊥
zeros-sound zero t = t
zeros-sound (suc z) t = zeros-sound z t

module _ {form : Form} {ws : List ℕ} {held : ℕ} {xs : List Sent} (wire : Wire form ws held xs) where
  -- no more is held than fits, and beyond it there are zeros
  pub wire-fits : T (ltb (capacity form ws) held) → ⊥
  wire-fits t =
      let g : capacity form ws < held = ltb→lt _ _ t in
      let l : held ≤ capacity form ws = room-of-words form held (length ws) (omega (arith, wire-length wire)) in
      omega arith

  pub wire-tail : T (some_non_zero (drop (width form * held) ws)) → ⊥
  wire-tail t = zeros-sound wire.spare (subst (λ (l : List ℕ). T (some_non_zero l)) beyond t)
    where
      beyond : drop (width form * held) ws ≡ replicate wire.spare 0
      beyond = rw (wire.number, wire.words) (laid-beyond form xs wire.spare)

-- one form and as many words: the same words
pub same-words : {form : Form} {ws vs : List ℕ} {held : ℕ} {xs : List Sent} → Wire form ws held xs → Wire form vs held xs → length ws ≡ length vs → ws ≡ vs
same-words {form} {ws} {vs} {held} {xs} a b e =
    let spare : a.spare ≡ b.spare = omega (arith, wire-length a, wire-length b) in
    a.words ∙ ap (laid form xs) spare ∙ sym b.words

-- ---- two of them

numbers-alone : (x y : Sent) → numbers x ≡ numbers y → x ≡ y
numbers-alone x y e =
    let m : x.message ≡ y.message = same-message x.message y.message (ap (λ (h : Held). h.kind) e) (ap (λ (h : Held). h.view) e)
    (ap (λ (h : Held). h.processor) e) in
    λ i. sent_as (m i) (e i).sent

module _ (f g : Form) where
  laid-alike : (xs : List Sent) (y z i : ℕ) → Named xs → i < length xs → held_at f (laid f xs y) i ≡ held_at g (laid g xs z) i
  laid-alike [] y z i named l = absurd (omega arith)
  laid-alike (x ∷ xs) y z zero named l = laid-first f x xs y (named x (inl refl)) ∙ sym (laid-first g x xs z (named x (inl refl)))
  laid-alike (x ∷ xs) y z (suc i) named l =
      laid_on f x xs y i ∙ laid-alike xs y z i (λ u j. named u (inr j)) (omega arith) ∙ sym (laid_on g x xs z i)

  one-flight : (xs ys : List Sent) (y z : ℕ) → Named xs → Named ys → length xs ≡ length ys
      → ((i : ℕ) → i < length xs → held_at f (laid f xs y) i ≡ held_at g (laid g ys z) i) → xs ≡ ys
  one-flight [] [] y z a b l same = refl
  one-flight [] (v ∷ ys) y z a b l same = absurd (omega arith)
  one-flight (u ∷ xs) [] y z a b l same = absurd (omega arith)
  one-flight (u ∷ xs) (v ∷ ys) y z a b l same =
      let first : u ≡ v = numbers-alone u v
      (sym (laid-first f u xs y (a u (inl refl))) ∙ same 0 (omega arith) ∙ laid-first g v ys z (b v (inl refl))) in
      let others : xs ≡ ys = one-flight xs ys y z (λ x j. a x (inr j)) (λ x j. b x (inr j)) (omega arith)
      (λ i h. sym (laid_on f u xs y i) ∙ same (suc i) (omega arith) ∙ laid_on g v ys z i) in
      λ i. first i ∷ others i

module _ {f g : Form} {ws vs : List ℕ} {held : ℕ} where
  pub read_alike : {xs : List Sent} → Wire f ws held xs → Wire g vs held xs → Named xs → (i : ℕ) → i < held → held_at f ws i ≡ held_at g vs i
  read_alike {xs} a b named i l =
      ap (λ (u : List ℕ). held_at f u i) a.words ∙ laid-alike f g xs a.spare b.spare i named (omega (arith, a.number))
      ∙ sym (ap (λ (u : List ℕ). held_at g u i) b.words)

  pub same-flight : {xs ys : List Sent} → Wire f ws held xs → Wire g vs held ys → Named xs → Named ys
      → ((i : ℕ) → i < held → held_at f ws i ≡ held_at g vs i) → xs ≡ ys
  same-flight {xs} {ys} a b named named' same = one-flight f g xs ys a.spare b.spare named named' (sym a.number ∙ b.number)
      (λ i l. sym (ap (λ (u : List ℕ). held_at f u i) a.words) ∙ same i (omega (arith, a.number)) ∙ ap (λ (u : List ℕ). held_at g u i) b.words)
