-- The table of an opening: one that is read stands there, and one that stands there is read. Assumes nothing.
use mathlib.Core.Path.{◌≡◌, refl, sym, ap, ◌∙◌, subst}
use Prim.Native.Nat.{ℕ, zero, suc, ◌-◌, ◌≤◌, ◌<◌}
use native.Mathlib.Omega.{arith}
use mathlib.Core.List.{List, [], ◌∷◌, ◌++◌, append_assoc}
use lib.ListN.{length, take, drop, replicate}
use lib.Dec.{eqb, eqb→eq}
use borrow.Author.Tests.{eq-eqb, ne_eqb}
use Rattle.base.specs.Tests.{by_cond}
use Rattle.types.specs.Quantities.{n_most, table_clocks}
use Rattle.lines.specs.Decimal.{decimal, field_limit}
use Rattle.lines.specs.Forms.{open_bracket, close_bracket, one_blank, further_clocks, clocks_form, Below}
use Rattle.std.specs.Prelude.{Option, Some, None}
use Rattle.reader.specs.declared.Several.{Several}
use Rattle.reader.specs.declared.Table.{Table}
use Rattle.reader.specs.Scan.{number_at, on_after, on_number, Series, series_at, ReadsSeveral}
use Rattle.reader.specs.Lines.{first_clock_at, table_end_at, table_of, table_series, table_at}
use Rattle.reader.proofs.Words.{Left, by_word, word-there}
use Rattle.reader.proofs.SeveralLaws.{as_many, filled-all}
use Rattle.reader.proofs.Series.{by_number, number-there, none-at-end, spaced_before, spaced-before, Taken, series-only, no_digit, series-there}

-- ---- the bytes

-- "))", and then r
abbrev ends : List ℕ → List ℕ
ends r = close_bracket ++ (close_bracket ++ r)

-- " (c0 c1 ..))", and then r
abbrev pub table_before : List ℕ → List ℕ → List ℕ
table_before cs r = one_blank ++ (open_bracket ++ (clocks_form cs ++ ends r))

table_before-more : (c : ℕ) (cs r : List ℕ) → table_before (c ∷ cs) r ≡ one_blank ++ (open_bracket ++ (decimal c ++ spaced_before cs (ends r)))
table_before-more c cs r =
    ap (λ (l : List ℕ). one_blank ++ (open_bracket ++ l))
    (append_assoc (decimal c) (further_clocks cs) (ends r) ∙ ap (λ (l : List ℕ). decimal c ++ l) (spaced-before cs (ends r)))

-- ---- what is read is it

-- the n clocks read stand there as a table
pub record TakenTable (s : List ℕ) (at n : ℕ) (cs : List ℕ) (e : ℕ) : Type 0 where
  pub bytes : drop at s ≡ table_before cs (drop e s)
  pub number : length cs ≡ n
  pub below : Below cs

by_first : {A : Type 0} (P : A → Type 0) (s : List ℕ) (at : ℕ) (f : ℕ → ℕ → A) (z : A)
    → ((c k : ℕ) → c < field_limit → drop at s ≡ one_blank ++ (open_bracket ++ (decimal c ++ drop k s)) → P (f c k)) → P z → P (on_number (first_clock_at s at) f z)
unfolding first_clock_at
by_first P s at f z g h =
    by_word Q s at (one_blank ++ open_bracket) (number_at s) None
    (λ b d. by_number P s b f z (λ c k m i. g c k m (d ∙ ap (λ (r : List ℕ). one_blank ++ (open_bracket ++ r)) i)) h) h
  where
    Q : Option (ℕ × ℕ) → Type 0
    Q x = P (on_number x f z)

by_end : {A : Type 0} (P : A → Type 0) (s : List ℕ) (at : ℕ) (f : ℕ → A) (z : A)
    → ((k : ℕ) → drop at s ≡ ends (drop k s) → P (f k)) → P z → P (on_after (table_end_at s at) f z)
unfolding table_end_at
by_end P s at f z g h = by_word P s at (close_bracket ++ close_bracket) f z g h

pub by-table : {A : Type 0} (P : A → Type 0) (s : List ℕ) (at n : ℕ) (f : Option Table → A) → 1 ≤ n
    → ((cs : List ℕ) (e : ℕ) → TakenTable s at n cs e → P (f (Some (table_of cs e)))) → P (f None) → P (f (table_at s at n))
unfolding table_at
by-table P s at n f p g h = by_first Q s at _ None (λ c k m e. further c k m e (series_at (n - 1) s k) (series-only (n - 1) s k)) h
  where
    Q : Option Table → Type 0
    Q x = P (f x)

    further : (c k : ℕ) → c < field_limit → drop at s ≡ one_blank ++ (open_bracket ++ (decimal c ++ drop k s)) → (x : Series) → Taken s k x → Q (table_series s n c x)
    further c k m d x t =
        by_cond Q (eqb (length x.numbers) (n - 1)) _ None
        (λ q. by_end Q s x.end (λ k. Some (table_of (c ∷ x.numbers) k)) None
        (λ e i. g (c ∷ x.numbers) e (record {
          bytes =
              d
              ∙ ap (λ (r : List ℕ). one_blank ++ (open_bracket ++ (decimal c ++ r))) (t.bytes ∙ ap (spaced_before x.numbers) i)
              ∙ sym (table_before-more c x.numbers (drop e s));
          number = omega (arith, eqb→eq (length x.numbers) (n - 1) q);
          below = (m, t.below);
        })) h) (λ _. h)

-- ---- it is read

first-there : {A : Type 0} (P : A → Type 0) (s : List ℕ) (at : ℕ) (f : ℕ → ℕ → A) (z : A) (c : ℕ) (cs r : List ℕ)
    → Left s at (table_before (c ∷ cs) r) → c < field_limit → ((k : ℕ) → Left s k (spaced_before cs (ends r)) → P (f c k)) → P (on_number (first_clock_at s at) f z)
unfolding first_clock_at
first-there P s at f z c cs r h m g =
    word-there Q s at (one_blank ++ open_bracket) (number_at s) None _ (subst (Left s at) (table_before-more c cs r) h)
    (λ b i. number-there P s b f z c (spaced_before cs (ends r)) i m (no_digit cs (ends r) refl) g)
  where
    Q : Option (ℕ × ℕ) → Type 0
    Q x = P (on_number x f z)

end-there : {A : Type 0} (P : A → Type 0) (s : List ℕ) (at : ℕ) (f : ℕ → A) (z : A) (r : List ℕ)
    → Left s at (ends r) → ((k : ℕ) → Left s k r → P (f k)) → P (on_after (table_end_at s at) f z)
unfolding table_end_at
end-there P s at f z r h g = word-there P s at (close_bracket ++ close_bracket) f z r h g

pub table-there : {A : Type 0} (P : A → Type 0) (s : List ℕ) (at n : ℕ) (f : Option Table → A) (cs r : List ℕ)
    → Left s at (table_before cs r) → length cs ≡ n → 1 ≤ n → Below cs → ((e : ℕ) → Left s e r → P (f (Some (table_of cs e)))) → P (f (table_at s at n))
unfolding table_at
table-there P s at n f [] r h c p b g = absurd (omega arith)
table-there P s at n f (d ∷ cs) r h c p b g =
    let Q : Option Table → Type 0 = λ (x : Option Table). P (f x) in
    let few : length cs ≡ n - 1 = omega arith in
    first-there Q s at _ None d cs r h b.0
    (λ k l. series-there Q (n - 1) s k (table_series s n d) cs (ends r) l (omega (arith, few)) b.1 refl (none-at-end s (close_bracket ++ r))
    (λ i m. rw (eq-eqb (length cs) (n - 1) few) (end-there Q s i (λ k. Some (table_of (d ∷ cs) k)) None r m g)))

-- ---- as it is read

abbrev told : List ℕ → ℕ → Table
told cs k = record { clocks = cs; end = k }

drop-zeros : (k m : ℕ) → drop k (replicate {A = ℕ} m 0) ≡ replicate (m - k) 0
drop-zeros zero m = let e : m - 0 ≡ m = omega arith in rw e refl
drop-zeros (suc k) zero = let e : 0 - suc k ≡ 0 = omega arith in rw e refl
drop-zeros (suc k) (suc m) = let e : suc m - suc k ≡ m - k = omega arith in rw e (drop-zeros k m)

pub no-first : (s : List ℕ) (at n : ℕ) → first_clock_at s at ≡ None → None ≡ table_at s at n
unfolding table_at
no-first s at n e = rw e

-- behind the first clock, c, r numbers were read into as many words as there are further clocks
module _ (s : List ℕ) (at n c a : ℕ) (r : Several) (lent after : List ℕ) (e : first_clock_at s at ≡ Some (c, a)) (x : ReadsSeveral s a lent r after)
    (w : length lent ≡ n - 1) where
  counted : length (take r.count after) ≡ r.count
  counted = as_many s a lent r after x

  table_is : table_at s at n ≡ table_series s n c (record { numbers = take r.count after; end = r.end })
  unfolding table_at
  table_is = rw e (ap (table_series s n c) (ap (λ (j : ℕ). series_at j s a) (sym w) ∙ x.read))

  pub no-further : (r.count ≡ n - 1 → ⊥) → None ≡ table_at s at n
  no-further h = sym (table_is ∙ rw (counted, ne_eqb r.count (n - 1) h))

  pub no_end : r.count ≡ n - 1 → table_end_at s r.end ≡ None → None ≡ table_at s at n
  no_end h i = sym (table_is ∙ rw (counted, eq-eqb r.count (n - 1) h, i))

  pub whole-table : 1 ≤ n → n ≤ n_most → r.count ≡ n - 1 → (k : ℕ) → table_end_at s r.end ≡ Some k
      → Some (record { clocks = c ∷ (after ++ drop (n - 1) (replicate (table_clocks - 1) 0)); end = k }) ≡ table_at s at n
  whole-table p m h k i =
      let all : take r.count after ≡ after = filled-all s a lent r after x (h ∙ sym w) in
      let z : table_clocks - 1 - (n - 1) ≡ table_clocks - suc r.count = omega (arith, h) in
      sym (table_is ∙ rw (counted, eq-eqb r.count (n - 1) h, i, all)
      (ap (λ (l : List ℕ). Some (told (c ∷ (after ++ l)) k)) (ap (λ (j : ℕ). replicate j 0) (sym z) ∙ sym (drop-zeros (n - 1) (table_clocks - 1)))))
