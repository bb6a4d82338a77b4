-- What the class of a byte says of it, and the digits at a place. Assumes nothing.
use mathlib.Core.Path.{◌≡◌, refl, sym, subst, ◌∙◌}
use mathlib.Core.Bool.{Bool, true, false}
use mathlib.Core.Logic.{⊎_elim}
use mathlib.Core.List.{List, [], ◌∷◌}
use Prim.Native.Nat.{ℕ, ◌+◌, ◌-◌, ◌≤◌, ◌<◌}
use native.Mathlib.Numerals.{add-one}
use native.Mathlib.Omega.{arith}
use lib.ListN.{length, get_or, drop, drop_of_length-le}
use lib.Seq.{drop-cons}
use lib.Dec.{T, eqb, leb, leb→le}
use borrow.Author.Tests.{lt-ltb, le-ltb, le-leb, ne_eqb}
use Rattle.base.specs.Choice.{and_both}
use Rattle.base.specs.Tests.{T-left, T-right, T_false, by_cond, le?}
use Rattle.lines.specs.Decimal.{digit}
use Rattle.lines.specs.Forms.{open_byte, close_byte, blank_byte}
use Rattle.reader.specs.declared.Class.{Class}
use Rattle.reader.specs.declared.Class.TheVariants.{Digit, Mark, Other}
use Rattle.reader.specs.Bytes.{is_digit, is_mark, class_of, class_at, digit_run}

-- ---- a byte

pub record IsDigit (b : ℕ) : Type 0 where
  pub least : digit 0 ≤ b
  pub most : b ≤ digit 9

pub digit-is : (b : ℕ) → T (is_digit b) → IsDigit b
digit-is b t = record { least = leb→le (digit 0) b (T-left (leb (digit 0) b) (leb b (digit 9)) t); most = leb→le b (digit 9) (T-right (leb (digit 0) b) (leb b (digit 9)) t) }

pub is_digit_lem : (b : ℕ) → IsDigit b → is_digit b ≡ true
is_digit_lem b i = and_both _ _ (le-leb (digit 0) b i.least) (le-leb b (digit 9) i.most)

-- what a class says of its byte
abbrev pub Means : Class → ℕ → Type 0
Means (Digit d) b = (d ≤ 9) × (b ≡ digit d)
Means (Mark m) b = (b ≡ m) × (is_digit b ≡ false)
Means Other b = is_digit b ≡ false

digit-means : (b : ℕ) → T (is_digit b) → Means (Digit (b - digit 0)) b
digit-means b t = let i : IsDigit b = digit-is b t in (omega arith, omega arith)

class-means : (b : ℕ) → Means (class_of b) b
unfolding class_of
class-means b =
    by_cond (λ (r : Class). Means r b) (is_digit b) _ _ (digit-means b)
    (λ n. by_cond (λ (r : Class). Means r b) (is_mark b) _ _ (λ _. (refl, T_false (is_digit b) n)) (λ _. T_false (is_digit b) n))

pub digit-few : (b d : ℕ) (r : Class) → r ≡ class_of b → r ≡ Digit d → d ≤ 9
digit-few b d r h e = (subst (λ (x : Class). Means x b) (sym h ∙ e) (class-means b)).0

-- a mark is of its own class
pub mark-class : (m : ℕ) → is_mark m ≡ true → class_of m ≡ Mark m
unfolding class_of
mark-class m e = rw (no-digit (is_digit m) refl, e)
  where
    no-digit : (t : Bool) → is_digit m ≡ t → is_digit m ≡ false
    no-digit false q = q
    no-digit true q =
        let i : IsDigit m = digit-is m (subst T (sym q) tt) in
        let x : eqb m open_byte ≡ false = ne_eqb m open_byte (λ (z : m ≡ open_byte). omega arith) in
        let y : eqb m close_byte ≡ false = ne_eqb m close_byte (λ (z : m ≡ close_byte). omega arith) in
        let w : eqb m blank_byte ≡ false = ne_eqb m blank_byte (λ (z : m ≡ blank_byte). omega arith) in
        let f : false ≡ true = rw (x, y, w) at e in cc

-- no digit is of this class
abbrev pub NoDigit : Class → Type 0
NoDigit r = (d : ℕ) → r ≡ Digit d → ⊥

other-class : (r : Class) (b : ℕ) → Means r b → NoDigit r → is_digit b ≡ false
other-class (Digit d) b m n = absurd (n d refl)
other-class (Mark k) b m n = m.1
other-class Other b m n = m

-- ---- a place

pub class-inside : (s : List ℕ) (i : ℕ) → i < length s → class_at s i ≡ class_of (get_or s i 0)
unfolding class_at
class-inside s i h = rw (lt-ltb i (length s) h)

class-beyond : (s : List ℕ) (i : ℕ) → length s ≤ i → class_at s i ≡ Other
unfolding class_at
class-beyond s i h = rw (le-ltb i (length s) h)

pub beyond-digits : (s : List ℕ) (i : ℕ) → length s ≤ i → NoDigit (class_at s i)
beyond-digits s i h d e = let q : Other ≡ Digit d = sym (class-beyond s i h) ∙ e in cc

-- the classes that only a byte has
abbrev pub Solid : Class → Type 0
Solid (Digit d) = Unit {0}
Solid (Mark m) = Unit {0}
Solid Other = ⊥

pub record Here (s : List ℕ) (i : ℕ) (r : Class) : Type 0 where
  pub inside : i < length s
  pub byte : Means r (get_or s i 0)

pub class-here : (s : List ℕ) (i : ℕ) (r : Class) → class_at s i ≡ r → Solid r → Here s i r
class-here s i r e t = ⊎_elim (λ (h : length s ≤ i). absurd (subst Solid (sym e ∙ class-beyond s i h) t)) inner (le? (length s) i)
  where
    inner : i < length s → Here s i r
    inner h = record { inside = h; byte = subst (λ (q : Class). Means q (get_or s i 0)) (sym (class-inside s i h) ∙ e) (class-means (get_or s i 0)) }

-- ---- digits

pub digit-run : (s : List ℕ) (i d : ℕ) → class_at s i ≡ Digit d → digit_run (drop i s) ≡ (digit d) ∷ digit_run (drop (i + 1) s)
digit-run s i d e =
    let h = class-here s i (Digit d) e tt in
    let x : IsDigit (digit d) = record { least = omega arith; most = omega arith } in
    rw (drop-cons s i 0 h.inside, h.byte.1, is_digit_lem (digit d) x, add-one)

pub no_digit : (s : List ℕ) (i : ℕ) → NoDigit (class_at s i) → digit_run (drop i s) ≡ []
no_digit s i n = ⊎_elim (λ (h : length s ≤ i). rw (drop_of_length-le s h)) inner (le? (length s) i)
  where
    inner : i < length s → digit_run (drop i s) ≡ []
    inner h =
        let o : is_digit (get_or s i 0) ≡ false = other-class (class_of (get_or s i 0)) (get_or s i 0) (class-means (get_or s i 0)) (λ d e. n d (class-inside s i h ∙ e)) in
        rw (drop-cons s i 0 h, o)
