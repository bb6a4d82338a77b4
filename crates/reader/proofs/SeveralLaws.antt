-- Numbers read one by one into lent words. Assumes nothing.
use mathlib.Core.Path.{◌≡◌, sym, ap, ◌∙◌}
use mathlib.Core.List.{List, [], ◌∷◌, ◌++◌, append-nil, append_assoc}
use Prim.Native.Nat.{ℕ, suc, ◌+◌, ◌-◌, ◌≤◌, ◌<◌}
use native.Mathlib.Numerals.{add-one}
use native.Mathlib.Omega.{arith}
use lib.ListN.{length, take, set, length-set}
use lib.Seq.{take-suc-set, length-take-le, take_all}
use Rattle.std.specs.Prelude.{Some, None}
use Rattle.reader.specs.declared.Several.{Several}
use Rattle.reader.specs.Scan.{next_number_at, Series, ending, following, series_at, ReadsSeveral}

abbrev behind : List ℕ → Series → Series
behind ns x = record { numbers = ns ++ x.numbers; end = x.end }

behind_more : (ns : List ℕ) (n : ℕ) (x : Series) → behind ns (following n x) ≡ behind (ns ++ (n ∷ [])) x
behind_more ns n x = ap (λ (l : List ℕ). record { numbers = l; end = x.end }) (sym (append_assoc ns (n ∷ []) x.numbers))

-- i of j numbers have been read, up to the place
pub record SoFar (s : List ℕ) (at j : ℕ) (numbers : List ℕ) (place i : ℕ) : Type 0 where
  pub most : i ≤ j
  pub rest : series_at j s at ≡ behind (take i numbers) (series_at (j - i) s place)
  pub whole : length numbers ≡ j

module _ (s : List ℕ) (at j : ℕ) (numbers : List ℕ) (place i : ℕ) (x : SoFar s at j numbers place i) where
  pub several-more : i < j → (n k : ℕ) → next_number_at s place ≡ Some (n, k) → SoFar s at j (set numbers i n) k (i + 1)
  several-more h n k e = record {
    most = omega arith;
    rest =
        let q : j - i ≡ suc (j - (i + 1)) = omega arith in
        let t : take (i + 1) (set numbers i n) ≡ take i numbers ++ (n ∷ []) = rw add-one (take-suc-set numbers i n (omega (arith, x.whole))) in
        x.rest ∙ rw (q, t, e) (behind_more (take i numbers) n (series_at (j - (i + 1)) s k));
    whole = length-set numbers i n ∙ x.whole;
  }

  ended : series_at (j - i) s place ≡ ending place → series_at j s at ≡ record { numbers = take i numbers; end = place }
  ended e = x.rest ∙ rw e (ap (λ (l : List ℕ). record { numbers = l; end = place }) (append-nil (take i numbers)))

  pub several-stopped : i < j → next_number_at s place ≡ None → (lent : List ℕ) → length lent ≡ j
      → ReadsSeveral s at lent (record { count = i; end = place }) numbers
  several-stopped h e lent w =
      let q : j - i ≡ suc (j - (i + 1)) = omega arith in
      let n : series_at (j - i) s place ≡ ending place = rw (q, e) in
      record { read = rw w (ended n); within = omega (arith, w); whole = x.whole ∙ sym w }

-- ---- what was read

module _ (s : List ℕ) (at : ℕ) (lent : List ℕ) (r : Several) (after : List ℕ) (x : ReadsSeveral s at lent r after) where
  pub as_many : length (take r.count after) ≡ r.count
  as_many = length-take-le r.count after (omega (arith, x.within, x.whole))

  pub filled-all : r.count ≡ length lent → take r.count after ≡ after
  filled-all h = take_all r.count after (omega (arith, h, x.whole))
