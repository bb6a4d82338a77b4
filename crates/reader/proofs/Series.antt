-- Numbers, one and in a series: what is read stands there, and what stands there is read. Assumes nothing.
use mathlib.Core.Path.{◌≡◌, refl, sym, ap, ◌∙◌}
use Prim.Native.Nat.{ℕ, zero, suc, ◌+◌, ◌≤◌, ◌<◌}
use native.Mathlib.Omega.{arith}
use mathlib.Core.List.{List, [], ◌∷◌, ◌++◌, append_assoc}
use lib.ListN.{length, drop, get_or}
use Rattle.lines.specs.Decimal.{decimal, field_limit}
use Rattle.lines.specs.Forms.{open_bracket, close_bracket, one_blank, joined, spaced, Below}
use Rattle.std.specs.Prelude.{Option, Some, None}
use Rattle.reader.specs.Bytes.{digit_run}
use Rattle.reader.specs.Scan.{number_at, on_number, next_number_at, Series, ending, following, series_at}
use Rattle.reader.proofs.Numbers.{Counted, number-only, number-back}
use Rattle.reader.proofs.Words.{Left, left_after, by_word, word-there, word-away}

-- ---- a number that is read stands there

pub by_number : {A : Type 0} (P : A → Type 0) (s : List ℕ) (at : ℕ) (f : ℕ → ℕ → A) (z : A)
    → ((n k : ℕ) → n < field_limit → drop at s ≡ decimal n ++ drop k s → P (f n k)) → P z → P (on_number (number_at s at) f z)
by_number P s at f z g h = go (number_at s at) (number-only s at)
  where
    go : (x : Option (ℕ × ℕ)) → Counted s at x → P (on_number x f z)
    go (Some (n, k)) c = g n k c.0 c.1
    go None c = h

pub by_next : {A : Type 0} (P : A → Type 0) (s : List ℕ) (at : ℕ) (f : ℕ → ℕ → A) (z : A)
    → ((n k : ℕ) → n < field_limit → drop at s ≡ one_blank ++ (decimal n ++ drop k s) → P (f n k)) → P z → P (on_number (next_number_at s at) f z)
unfolding next_number_at
by_next P s at f z g h =
    by_word (λ (x : Option (ℕ × ℕ)). P (on_number x f z)) s at one_blank (number_at s) None
    (λ k e. by_number P s k f z (λ n j m d. g n j m (e ∙ ap (λ (r : List ℕ). one_blank ++ r) d)) h) h

-- ---- a number that stands there is read

pub number-there : {A : Type 0} (P : A → Type 0) (s : List ℕ) (at : ℕ) (f : ℕ → ℕ → A) (z : A) (n : ℕ) (r : List ℕ)
    → Left s at (decimal n ++ r) → n < field_limit → digit_run r ≡ [] → ((k : ℕ) → Left s k r → P (f n k)) → P (on_number (number_at s at) f z)
number-there P s at f z n r h m q g = rw (number-back s r at n m q h.bytes) (g (at + length (decimal n)) (left_after s (decimal n) r at h))

pub next-there : {A : Type 0} (P : A → Type 0) (s : List ℕ) (at : ℕ) (f : ℕ → ℕ → A) (z : A) (n : ℕ) (r : List ℕ)
    → Left s at (one_blank ++ (decimal n ++ r)) → n < field_limit → digit_run r ≡ [] → ((k : ℕ) → Left s k r → P (f n k)) → P (on_number (next_number_at s at) f z)
unfolding next_number_at
next-there P s at f z n r h m q g =
    word-there (λ (x : Option (ℕ × ℕ)). P (on_number x f z)) s at one_blank (number_at s) None (decimal n ++ r) h (λ k l. number-there P s k f z n r l m q g)

-- none stands at a bracket, be there a blank before it or not
abbrev NoneAt : Option (ℕ × ℕ) → Type 0
NoneAt x = x ≡ None

pub none-at-table : (s r : List ℕ) (at : ℕ) → Left s at (one_blank ++ (open_bracket ++ r)) → next_number_at s at ≡ None
unfolding next_number_at number_at
none-at-table s r at h = word-there NoneAt s at one_blank (number_at s) None (open_bracket ++ r) h (λ k l. rw l.bytes refl)

pub none-at-end : (s r : List ℕ) (at : ℕ) → Left s at (close_bracket ++ r) → next_number_at s at ≡ None
unfolding next_number_at
none-at-end s r at h = word-away NoneAt s at one_blank (number_at s) None (close_bracket ++ r) h refl refl

-- ---- a series

-- the numbers, each behind a blank, and then r
abbrev pub spaced_before : List ℕ → List ℕ → List ℕ
spaced_before [] r = r
spaced_before (n ∷ ns) r = one_blank ++ (decimal n ++ spaced_before ns r)

pub spaced-before : (ns r : List ℕ) → joined (spaced ns) ++ r ≡ spaced_before ns r
spaced-before [] r = refl
spaced-before (n ∷ ns) r =
    ap (λ (l : List ℕ). one_blank ++ l) (append_assoc (decimal n) (joined (spaced ns)) r ∙ ap (λ (l : List ℕ). decimal n ++ l) (spaced-before ns r))

-- the series stands at the place
pub record Taken (s : List ℕ) (at : ℕ) (x : Series) : Type 0 where
  pub bytes : drop at s ≡ spaced_before x.numbers (drop x.end s)
  pub below : Below x.numbers

pub series-only : (j : ℕ) (s : List ℕ) (at : ℕ) → Taken s at (series_at j s at)
series-only zero s at = record { bytes = refl; below = tt }
series-only (suc j) s at =
    by_next (Taken s at) s at (λ n k. following n (series_at j s k)) (ending at)
    (λ n k m e. taken n k m e (series_at j s k) (series-only j s k)) (record { bytes = refl; below = tt })
  where
    taken : (n k : ℕ) → n < field_limit → drop at s ≡ one_blank ++ (decimal n ++ drop k s) → (x : Series) → Taken s k x → Taken s at (following n x)
    taken n k m e x t = record { bytes = e ∙ ap (λ (r : List ℕ). one_blank ++ (decimal n ++ r)) t.bytes; below = (m, t.below) }

-- a number is followed by no digit where the next stands behind a blank
pub no_digit : (ns r : List ℕ) → digit_run r ≡ [] → digit_run (spaced_before ns r) ≡ []
no_digit [] r q = q
no_digit (n ∷ ns) r q = refl

-- where they stand and no further one does, just these are read
pub series-there : {A : Type 0} (P : A → Type 0) (j : ℕ) (s : List ℕ) (at : ℕ) (f : Series → A) (ns r : List ℕ)
    → Left s at (spaced_before ns r) → length ns ≤ j → Below ns → digit_run r ≡ [] → ((k : ℕ) → Left s k r → next_number_at s k ≡ None)
    → ((k : ℕ) → Left s k r → P (f (record { numbers = ns; end = k }))) → P (f (series_at j s at))
series-there P zero s at f [] r h l b q e g = g at h
series-there P zero s at f (n ∷ ns) r h l b q e g = absurd (omega arith)
series-there P (suc j) s at f [] r h l b q e g = rw (e at h) (g at h)
series-there P (suc j) s at f (n ∷ ns) r h l b q e g =
    next-there (λ (x : Series). P (f x)) s at (λ m k. following m (series_at j s k)) (ending at) n (spaced_before ns r) h b.0 (no_digit ns r q)
    (λ k m. series-there P j s k (λ (x : Series). f (following n x)) ns r m (omega arith) b.1 q e g)

-- ---- the numbers one by one

-- k of them from place i on
abbrev pub picked : ℕ → ℕ → List ℕ → List ℕ
picked zero i ns = []
picked (suc k) i ns = get_or ns i 0 ∷ picked k (suc i) ns

picked-later : (k i n : ℕ) (ns : List ℕ) → picked k (suc i) (n ∷ ns) ≡ picked k i ns
picked-later zero i n ns = refl
picked-later (suc k) i n ns = ap (λ (l : List ℕ). get_or ns i 0 ∷ l) (picked-later k (suc i) n ns)

pub picked_all : (k : ℕ) (ns : List ℕ) → length ns ≡ k → ns ≡ picked k 0 ns
picked_all zero [] h = refl
picked_all zero (n ∷ ns) h = absurd (omega arith)
picked_all (suc k) [] h = absurd (omega arith)
picked_all (suc k) (n ∷ ns) h = ap (λ (l : List ℕ). n ∷ l) (picked_all k ns (omega arith) ∙ sym (picked-later k 0 n ns))
