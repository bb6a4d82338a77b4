-- Words: what is behind one that is read, and that one that stands there is read. Assumes nothing.
use mathlib.Core.Path.{◌≡◌, refl, sym, ap, ap₂, ◌∙◌, subst}
use mathlib.Core.Bool.{Bool, true, false, ◌&&◌, cond}
use Prim.Native.Nat.{ℕ, ◌+◌, ◌-◌, ◌≤◌}
use native.Mathlib.Omega.{arith}
use mathlib.Core.List.{List, [], ◌∷◌, ◌++◌}
use lib.ListN.{length, drop, length-append, length-drop}
use lib.Seq.{drop-drop, drop_at}
use lib.Dec.{T, eqb, ltb, eqb→eq}
use borrow.Author.Tests.{le-ltb, eq-eqb, ltb-false}
use Rattle.base.specs.Tests.{T-left, T-right, by_cond}
use Rattle.std.specs.Prelude.{Option, Some, None}
use Rattle.reader.specs.Scan.{starts, after_word, on_after}

-- ---- a word that is read stands there

starts-only : (l w : List ℕ) → T (starts l w) → l ≡ w ++ drop (length w) l
starts-only l [] t = refl
starts-only [] (c ∷ w) t = absurd t
starts-only (b ∷ l) (c ∷ w) t =
    ap₂ (λ (x : ℕ) (r : List ℕ). x ∷ r) (eqb→eq b c (T-left (eqb b c) (starts l w) t)) (starts-only l w (T-right (eqb b c) (starts l w) t))

abbrev pub Behind : List ℕ → ℕ → List ℕ → Option ℕ → Type 0
Behind s at w (Some k) = drop at s ≡ w ++ drop k s
Behind s at w None = Unit {0}

pub word-only : (s : List ℕ) (at : ℕ) (w : List ℕ) → Behind s at w (after_word s at w)
unfolding after_word
word-only s at w =
    by_cond (Behind s at w) (ltb (length s) at) None (cond (starts (drop at s) w) (Some (at + length w)) None) (λ _. tt)
    (λ _. by_cond (Behind s at w) (starts (drop at s) w) (Some (at + length w)) None
    (λ t. starts-only (drop at s) w t ∙ ap (λ (r : List ℕ). w ++ r) (drop-drop (length w) at s)) (λ _. tt))

-- what holds of what comes after the word, wherever it stands, and of what comes without it
pub by_word : {A : Type 0} (P : A → Type 0) (s : List ℕ) (at : ℕ) (w : List ℕ) (f : ℕ → A) (z : A)
    → ((k : ℕ) → drop at s ≡ w ++ drop k s → P (f k)) → P z → P (on_after (after_word s at w) f z)
by_word P s at w f z g h = go (after_word s at w) (word-only s at w)
  where
    go : (x : Option ℕ) → Behind s at w x → P (on_after x f z)
    go (Some k) e = g k e
    go None e = h

-- ---- a word that stands there is read

-- r is what is left of s from the place on
pub record Left (s : List ℕ) (at : ℕ) (r : List ℕ) : Type 0 where
  pub within : at ≤ length s
  pub bytes : drop at s ≡ r

pub left-all : (s r : List ℕ) → s ≡ r → Left s 0 r
left-all s r e = record { within = omega arith; bytes = e }

pub left_after : (s w r : List ℕ) (at : ℕ) → Left s at (w ++ r) → Left s (at + length w) r
left_after s w r at h =
    let n : length s - at ≡ length w + length r = sym (length-drop at s) ∙ ap length h.bytes ∙ length-append w r in
    record {
      within = omega (arith, h.within);
      bytes = sym (drop-drop (length w) at s) ∙ ap (drop (length w)) h.bytes ∙ drop_at w r (length w) refl;
    }

pub left-none : (s : List ℕ) (at : ℕ) → Left s at [] → at ≡ length s
left-none s at h = omega (arith, length-drop at s, ap length h.bytes, h.within)

starts-word : (w r : List ℕ) → starts (w ++ r) w ≡ true
starts-word [] r = refl
starts-word (c ∷ w) r = rw (eq-eqb c c refl) (starts-word w r)

pub word-there : {A : Type 0} (P : A → Type 0) (s : List ℕ) (at : ℕ) (w : List ℕ) (f : ℕ → A) (z : A) (r : List ℕ)
    → Left s at (w ++ r) → ((k : ℕ) → Left s k r → P (f k)) → P (on_after (after_word s at w) f z)
unfolding after_word
word-there P s at w f z r h g = rw (le-ltb (length s) at h.within, h.bytes, starts-word w r) (g (at + length w) (left_after s w r at h))

-- another word is not
pub word-away : {A : Type 0} (P : A → Type 0) (s : List ℕ) (at : ℕ) (w : List ℕ) (f : ℕ → A) (z : A) (r : List ℕ)
    → Left s at r → starts r w ≡ false → P z → P (on_after (after_word s at w) f z)
unfolding after_word
word-away P s at w f z r h q g = rw (le-ltb (length s) at h.within, h.bytes, q) g

-- ---- a word of two parts

starts-joined : (l u w : List ℕ) → starts l (u ++ w) ≡ (starts l u && starts (drop (length u) l) w)
starts-joined l [] w = refl
starts-joined [] (c ∷ u) w = refl
starts-joined (b ∷ l) (c ∷ u) w = rw (starts-joined l u w) (go (eqb b c))
  where
    go : (t : Bool) → (t && (starts l u && starts (drop (length u) l) w)) ≡ ((t && starts l u) && starts (drop (length u) l) w)
    go true = refl
    go false = refl

-- one part and then the other
pub word-joined : (s : List ℕ) (at : ℕ) (u w : List ℕ) → after_word s at (u ++ w) ≡ on_after (after_word s at u) (λ a. after_word s a w) None
unfolding after_word
word-joined s at u w = beyond (ltb (length s) at) refl
  where
    reach : starts (drop at s) u ≡ true → length u ≤ length s - at
    reach e = omega (arith, sym (length-drop at s) ∙ ap length (starts-only (drop at s) u (subst T (sym e) tt)) ∙ length-append u (drop (length u) (drop at s)))

    here : ltb (length s) at ≡ false → (t : Bool) → starts (drop at s) u ≡ t
        → cond (t && starts (drop (length u) (drop at s)) w) (Some (at + length (u ++ w))) None
        ≡ on_after (cond t (Some (at + length u)) None) (λ a. cond (ltb (length s) a) None (cond (starts (drop a s) w) (Some (a + length w)) None)) None
    here h true e =
        let l : ltb (length s) (at + length u) ≡ false = le-ltb (length s) (at + length u) (omega (arith, reach e, ltb-false (length s) at h)) in
        let k : at + length (u ++ w) ≡ at + length u + length w = omega (arith, length-append u w) in
        rw (l, drop-drop (length u) at s, k)
    here h false e = refl

    beyond : (t : Bool) → ltb (length s) at ≡ t → after_word s at (u ++ w) ≡ on_after (after_word s at u) (λ a. after_word s a w) None
    beyond true h = rw h
    beyond false h = rw (h, starts-joined (drop at s) u w) (here h (starts (drop at s) u) refl)
