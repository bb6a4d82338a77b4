-- The search for a newline, in words and then place by place. Assumes nothing.
use mathlib.Core.Path.{◌≡◌, refl, sym, ap, ◌∙◌}
use mathlib.Core.Logic.{◌≢◌}
use mathlib.Core.Bool.{Bool, true, false, cond, ◌||◌, true≢false, false≢true}
use Prim.Native.Nat.{ℕ, zero, suc, ◌+◌, ◌-◌, ◌≤◌, ◌<◌}
use native.Mathlib.Numerals.{add-one}
use native.Mathlib.Omega.{arith}
use mathlib.Core.List.{List, [], ◌∷◌}
use lib.Dec.{eqb}
use lib.ListN.{length, get_or, take, drop, length-drop}
use lib.Seq.{drop-cons}
use borrow.Author.Tests.{eq-eqb, ne_eqb}
use Rattle.lines.specs.Forms.{newline}
use Rattle.lines.specs.Splitting.{before_newline}
use Rattle.lines.specs.Search.{word_bytes, bytes_in, some_newline, reported}

pub before-most : (s : List ℕ) → before_newline s ≤ length s
unfolding before_newline
before-most [] = omega arith
before-most (b ∷ s) = go (eqb b newline) (before-most s)
  where
    go : (t : Bool) → before_newline s ≤ length s → cond t 0 (suc (before_newline s)) ≤ suc (length s)
    go true h = omega arith
    go false h = omega arith

before-from : (s : List ℕ) (i : ℕ) → i ≤ before_newline s → before_newline s ≡ i + before_newline (drop i s)
unfolding before_newline
before-from s zero h = omega arith
before-from [] (suc i) h = absurd (omega arith)
before-from (b ∷ s) (suc i) h = go (eqb b newline) h (before-from s i)
  where
    go : (t : Bool) → suc i ≤ cond t 0 (suc (before_newline s)) → (i ≤ before_newline s → before_newline s ≡ i + before_newline (drop i s))
        → cond t 0 (suc (before_newline s)) ≡ suc i + before_newline (drop i s)
    go true l f = absurd (omega arith)
    go false l f = omega (arith, f (omega arith))

-- ---- in words

clear : (k : ℕ) (s : List ℕ) → k ≤ length s → some_newline (take k s) ≡ false → k ≤ before_newline s
unfolding before_newline some_newline
clear zero s h e = omega arith
clear (suc k) [] h e = absurd (omega arith)
clear (suc k) (b ∷ s) h e = go (eqb b newline) e (clear k s (omega arith))
  where
    go : (t : Bool) → (t || some_newline (take k s)) ≡ false → (some_newline (take k s) ≡ false → k ≤ before_newline s) → suc k ≤ cond t 0 (suc (before_newline s))
    go true q f = absurd (true≢false q)
    go false q f = omega (arith, f q)

within : (k : ℕ) (s : List ℕ) → some_newline (take k s) ≡ true → before_newline s < k
unfolding before_newline some_newline
within zero s e = absurd (false≢true e)
within (suc k) [] e = absurd (false≢true e)
within (suc k) (b ∷ s) e = go (eqb b newline) e (within k s)
  where
    go : (t : Bool) → (t || some_newline (take k s)) ≡ true → (some_newline (take k s) ≡ true → before_newline s < k) → cond t 0 (suc (before_newline s)) < suc k
    go true q f = omega arith
    go false q f = omega (arith, f q)

first-within : (k : ℕ) (s : List ℕ) → some_newline (take k s) ≡ true → before_newline (take k s) ≡ before_newline s
unfolding before_newline some_newline
first-within zero s e = absurd (false≢true e)
first-within (suc k) [] e = absurd (false≢true e)
first-within (suc k) (b ∷ s) e = go (eqb b newline) e (first-within k s)
  where
    go : (t : Bool) → (t || some_newline (take k s)) ≡ true → (some_newline (take k s) ≡ true → before_newline (take k s) ≡ before_newline s)
        → cond t 0 (suc (before_newline (take k s))) ≡ cond t 0 (suc (before_newline s))
    go true q f = refl
    go false q f = ap suc (f q)

-- none stands before place i, nor among the k bytes from there on: so none before i + k
pub none-among : (s : List ℕ) (i k : ℕ) → i ≤ before_newline s → i + k ≤ length s → some_newline (take k (drop i s)) ≡ false → i + k ≤ before_newline s
none-among s i k x h e =
    let l : length (drop i s) ≡ length s - i = length-drop i s in
    let c : k ≤ before_newline (drop i s) = clear k (drop i s) (omega arith) e in omega (arith, before-from s i x)

-- one stands among them: so the first stands before i + k
pub some-among : (s : List ℕ) (i k : ℕ) → i ≤ before_newline s → some_newline (take k (drop i s)) ≡ true → before_newline s < i + k
some-among s i k x e = let c : before_newline (drop i s) < k = within k (drop i s) e in omega (arith, before-from s i x)

-- of a word: it has none, or its first one is the first of all
pub none-in-word : (s : List ℕ) (i w : ℕ) → i ≤ before_newline s → i + word_bytes ≤ length s → bytes_in word_bytes w ≡ take word_bytes (drop i s) → reported w ≡ false
    → i + word_bytes ≤ before_newline s
unfolding reported
none-in-word s i w x h e r = none-among s i word_bytes x h (ap some_newline (sym e) ∙ r)

pub first-in-word : (s : List ℕ) (i w k : ℕ) → i ≤ before_newline s → bytes_in word_bytes w ≡ take word_bytes (drop i s) → reported w ≡ true
    → k ≡ before_newline (bytes_in word_bytes w) → (i + k ≡ before_newline s) × (k < word_bytes)
unfolding reported
first-in-word s i w k x e r q =
    let t : some_newline (take word_bytes (drop i s)) ≡ true = ap some_newline (sym e) ∙ r in
    let f : k ≡ before_newline (drop i s) = q ∙ ap before_newline e ∙ first-within word_bytes (drop i s) t in
    (omega (arith, before-from s i x), omega (arith, within word_bytes (drop i s) t))

-- ---- place by place

here : (s : List ℕ) (i : ℕ) → i < length s → get_or s i 0 ≡ newline → before_newline (drop i s) ≡ 0
unfolding before_newline
here s i h e = rw (drop-cons s i 0 h, eq-eqb _ _ e)

later : (s : List ℕ) (i : ℕ) → i < length s → get_or s i 0 ≢ newline → before_newline (drop i s) ≡ suc (before_newline (drop (i + 1) s))
unfolding before_newline
later s i h e = rw (drop-cons s i 0 h, ne_eqb _ _ e, add-one)

-- none stands before place i, nor there
pub none_here : (s : List ℕ) (i : ℕ) → i ≤ before_newline s → i < length s → get_or s i 0 ≢ newline → i + 1 ≤ before_newline s
none_here s i x h e = omega (arith, before-from s i x, later s i h e)

-- it stands there
pub first-here : (s : List ℕ) (i : ℕ) → i ≤ before_newline s → i < length s → get_or s i 0 ≡ newline → i ≡ before_newline s
first-here s i x h e = omega (arith, before-from s i x, here s i h e)
