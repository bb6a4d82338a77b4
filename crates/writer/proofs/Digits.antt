-- The digits of a number, counted and written from the last to the first. Assumes nothing.
use Rattle.std.proofs.Common.{◌≡◌, ℕ, zero, suc, ◌+◌, ◌-◌, ◌/◌, ◌%◌, ◌^◌, ◌<◌, ◌≤◌, ltb, List, [], ◌∷◌, ◌++◌, length, get_or, take, drop, set, sym, refl, ap, ◌∙◌, subst, zero-lt-suc, div-lt_iff_lt-mul, pow-suc, arith, ltb→lt, length-append, length-drop, length-set, drop-cons, get_or-take, take-take, take_at}
use lib.Seq.{take-length, drop-length, get_or_at}
use Rattle.base.specs.Tests.{by_cond}
use Rattle.lines.specs.Decimal.{digit, digits_in, decimal, field_limit}
use Rattle.lines.proofs.Decimals.{length-small, length-large, length_most}
use Rattle.writer.specs.Stamps.{stamp, Room}
use Rattle.writer.proofs.Stamping.{stamp-none, stamp-before}

-- ---- counting

-- of n's digits so many are counted and those of v left, of which the first is counted too
abbrev pub Counted : ℕ → ℕ → ℕ → Type 0
Counted n digits v = (digits + length (decimal v) ≡ 1 + length (decimal n)) × (v < field_limit)

pub counted-more : (n digits v : ℕ) → Counted n digits v → 10 ≤ v → Counted n (digits + 1) (v / 10)
counted-more n digits v x l = (omega (arith, x.0, length-large v x.1 l), omega (arith, x.1))

pub counted-all : (n digits v : ℕ) → Counted n digits v → v < 10 → (digits ≡ length (decimal n)) × (digits ≤ 20)
counted-all n digits v x l = (omega (arith, x.0, length-small v l), omega (arith, x.0, length-small v l, length_most n))

-- ---- a fixed number of digits

-- i digits of v: the last stands behind those of the tenth part
abbrev pub padded : ℕ → ℕ → List ℕ
padded zero v = []
padded (suc i) v = padded i (v / 10) ++ (digit (v % 10) ∷ [])

padded-length : (i v : ℕ) → length (padded i v) ≡ i
padded-length zero v = refl
padded-length (suc i) v = omega (arith, length-append (padded i (v / 10)) (digit (v % 10) ∷ []), padded-length i (v / 10))

padded-one : (n : ℕ) → n < 10 → digit n ∷ [] ≡ padded 1 n
padded-one n h = let e : n % 10 ≡ n = omega arith in rw e

padded-digits : (k n : ℕ) → n < 10 ^ suc k → digits_in k n ≡ padded (length (digits_in k n)) n
padded-digits zero n h = padded-one n (omega (arith, h))
padded-digits (suc k) n h =
    by_cond (λ (l : List ℕ). l ≡ padded (length l) n) (ltb n 10) (digit n ∷ []) (digits_in k (n / 10) ++ (digit (n % 10) ∷ []))
    (λ t. padded-one n (ltb→lt n 10 t))
    (λ t. ap (λ (l : List ℕ). l ++ (digit (n % 10) ∷ [])) (padded-digits k (n / 10) b) ∙ ap (λ (i : ℕ). padded i n) (sym e))
  where
    b : n / 10 < 10 ^ suc k
    b = (div-lt_iff_lt-mul (zero-lt-suc 9)).1 (rw (pow-suc 10 (suc k)) at h)

    e : length (digits_in k (n / 10) ++ (digit (n % 10) ∷ [])) ≡ suc (length (digits_in k (n / 10)))
    e = omega (arith, length-append (digits_in k (n / 10)) (digit (n % 10) ∷ []))

pub padded-decimal : (n : ℕ) → n < field_limit → decimal n ≡ padded (length (decimal n)) n
unfolding decimal
padded-decimal n h = let b : n < 10 ^ 20 = omega arith in padded-digits 19 n b

-- ---- writing

-- n's digits from `left` on are written, those before are as many of v
abbrev pub Digited : List ℕ → ℕ → ℕ → List ℕ → ℕ → ℕ → Type 0
Digited d at n e left v =
    (left ≤ length (decimal n)) × (take left (decimal n) ≡ padded left v) × (e ≡ stamp d (at + left) (drop left (decimal n))) × (length e ≡ length d)

pub digited-none : (d : List ℕ) (at n left : ℕ) → n < field_limit → left ≡ length (decimal n) → Digited d at n d left n
digited-none d at n left h e =
    rw e (
      omega arith,
      take-length (decimal n) ∙ padded-decimal n h,
      sym (ap (stamp d (at + length (decimal n))) (drop-length (decimal n)) ∙ stamp-none d (at + length (decimal n))),
      refl,
    )

digited-next : (d : List ℕ) (at n : ℕ) (e : List ℕ) (k v : ℕ) → Room d at (decimal n) → Digited d at n e (suc k) v
    → Digited d at n (set e (at + k) (digit (v % 10))) k (v / 10)
digited-next d at n e k v r x =
    let s : List ℕ = decimal n in
    let h : k < length s = omega (arith, x.0) in
    let p : length (padded k (v / 10)) ≡ k = padded-length k (v / 10) in
    let t : take k s ≡ padded k (v / 10) =
    sym (take-take k (suc k) s (omega arith)) ∙ ap (take k) x.1 ∙ take_at (padded k (v / 10)) (digit (v % 10) ∷ []) k p in
    let g : get_or s k 0 ≡ digit (v % 10) =
    sym (get_or-take (suc k) s k 0 (omega arith)) ∙ ap (λ (l : List ℕ). get_or l k 0) x.1 ∙ get_or_at (padded k (v / 10)) (digit (v % 10)) [] 0 k p in
    let u : digit (v % 10) ∷ drop (suc k) s ≡ drop k s = ap (λ (b : ℕ). b ∷ drop (suc k) s) (sym g) ∙ sym (drop-cons s k 0 h) in
    let a : at + suc k ≡ suc (at + k) = omega arith in
    let l : suc (at + k) + length (drop (suc k) s) ≤ length d = omega (arith, length-drop (suc k) s, r.fits) in (
      omega arith,
      t,
      ap (λ (z : List ℕ). set z (at + k) (digit (v % 10))) (x.2 ∙ ap (λ (b : ℕ). stamp d b (drop (suc k) s)) a)
          ∙ stamp-before d (at + k) (digit (v % 10)) (drop (suc k) s) l ∙ ap (stamp d (at + k)) u,
      length-set e (at + k) (digit (v % 10)) ∙ x.3,
    )

-- the next digit stands before place i
pub digited-more : (d : List ℕ) (at n : ℕ) (e : List ℕ) (i v : ℕ) → Room d at (decimal n) → Digited d at n e (i - at) v → at < i
    → Digited d at n (set e (i - 1) (digit (v % 10))) (i - 1 - at) (v / 10)
digited-more d at n e i v r x h =
    let left : i - at ≡ suc (i - 1 - at) = omega arith in
    let place : at + (i - 1 - at) ≡ i - 1 = omega arith in
    subst (λ (j : ℕ). Digited d at n (set e j (digit (v % 10))) (i - 1 - at) (v / 10)) place
    (digited-next d at n e (i - 1 - at) v r (subst (λ (j : ℕ). Digited d at n e j v) left x))
