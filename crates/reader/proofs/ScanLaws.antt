-- A word and a number at a place, byte by byte. Assumes nothing.
use mathlib.Core.Path.{◌≡◌, refl, sym, ap, ap₂, ◌∙◌}
use mathlib.Core.Bool.{Bool, true, false, ◌&&◌, cond}
use mathlib.Core.Logic.{⊎_elim, ◌≢◌}
use mathlib.Core.List.{List, [], ◌∷◌}
use Prim.Native.Nat.{ℕ, suc, ◌+◌, ◌-◌, ◌*◌, ◌≤◌, ◌<◌}
use native.Mathlib.Nat.{add-zero}
use native.Mathlib.Omega.{arith}
use lib.ListN.{length, get_or, take, drop, length-drop, drop_of_length-le}
use lib.Seq.{drop-cons, take_all}
use lib.Dec.{eqb, ltb}
use borrow.Author.Tests.{lt-ltb, le-ltb, eq-eqb, ne_eqb}
use Rattle.base.specs.Tests.{le?, eq?}
use Rattle.lines.specs.Decimal.{digit, field_limit}
use Rattle.std.specs.Prelude.{Option, Some, None}
use Rattle.std.specs.List.{starts_with}
use Rattle.reader.specs.declared.Class.TheVariants.{Digit, Mark}
use Rattle.reader.specs.Bytes.{is_mark, class_of, class_at, digit_run, spelled}
use Rattle.reader.specs.Scan.{starts, after_word, fitting, number_at}
use Rattle.reader.proofs.BytesLaws.{class-inside, mark-class, NoDigit, digit-run, no_digit}

-- ---- a word of one byte

pub after-byte : (s : List ℕ) (at b : ℕ) → at < length s → get_or s at 0 ≡ b → Some (at + 1) ≡ after_word s at (b ∷ [])
unfolding after_word
after-byte s at b h e = let l : ltb (length s) at ≡ false = le-ltb (length s) at (omega arith) in rw (l, drop-cons s at 0 h, eq-eqb _ _ e)

pub word-other : (s : List ℕ) (at : ℕ) (w : List ℕ) → starts (drop at s) w ≡ false → None ≡ after_word s at w
unfolding after_word
word-other s at w e = rw e (go (ltb (length s) at))
  where
    go : (t : Bool) → ◌≡◌ {A = Option ℕ} None (cond t None None)
    go true = refl
    go false = refl

pub mark-away : (s : List ℕ) (at m : ℕ) → is_mark m ≡ true → (class_at s at ≡ Mark m → ⊥) → None ≡ after_word s at (m ∷ [])
mark-away s at m y n = word-other s at (m ∷ []) (⊎_elim (λ (h : length s ≤ at). rw (drop_of_length-le s h)) inner (le? (length s) at))
  where
    inner : at < length s → starts (drop at s) (m ∷ []) ≡ false
    inner h =
        let o : eqb (get_or s at 0) m ≡ false = ne_eqb (get_or s at 0) m (λ e. n (class-inside s at h ∙ ap class_of e ∙ mark-class m y)) in
        rw (drop-cons s at 0 h, o)

-- ---- any word

pub word-beyond : (s : List ℕ) (at : ℕ) (w : List ℕ) → length s < at → None ≡ after_word s at w
unfolding after_word
word-beyond s at w h = rw (lt-ltb (length s) at h)

pub word-here : (s : List ℕ) (at : ℕ) (w : List ℕ) → at ≤ length s → starts (drop at s) w ≡ true → Some (at + length w) ≡ after_word s at w
unfolding after_word
word-here s at w h e = rw (le-ltb (length s) at h, e)

turned : (a b : ℕ) → eqb a b ≡ eqb b a
turned a b = ⊎_elim (λ (e : a ≡ b). rw e refl) (λ (n : a ≢ b). ne_eqb a b n ∙ sym (ne_eqb b a (λ q. n (sym q)))) (eq? a b)

-- as the library tests it
starts-is : (s w : List ℕ) → starts_with eqb s w ≡ starts s w
starts-is s [] = refl
starts-is [] (c ∷ w) = refl
starts-is (b ∷ s) (c ∷ w) = ap₂ (λ (x y : Bool). x && y) (turned c b) (starts-is s w)

pub starts-at : (s : List ℕ) (at : ℕ) (w : List ℕ) → starts_with eqb (take (length s - at) (drop at s)) w ≡ starts (drop at s) w
starts-at s at w = let t : take (length s - at) (drop at s) ≡ drop at s = take_all (length s - at) (drop at s) (omega (arith, length-drop at s)) in rw t (starts-is (drop at s) w)

-- ---- a number

-- the digits before place i have been added to v
abbrev pub Spelling : List ℕ → ℕ → ℕ → ℕ → ℕ → Type 0
Spelling s at v value i =
    (value < field_limit)
    × (spelled v (digit_run (drop at s)) ≡ spelled value (digit_run (drop i s)))
    × (at + length (digit_run (drop at s)) ≡ i + length (digit_run (drop i s)))

-- all of them
abbrev pub Spelled : List ℕ → ℕ → ℕ → Option (ℕ × ℕ) → Type 0
Spelled s at v r = r ≡ fitting (spelled v (digit_run (drop at s))) (at + length (digit_run (drop at s)))

spelled-digit : (v d : ℕ) (l : List ℕ) → spelled v ((digit d) ∷ l) ≡ spelled (v * 10 + d) l
spelled-digit v d l = let m : digit d - digit 0 ≡ d = omega arith in ap (λ (x : ℕ). spelled (v * 10 + x) l) m

pub spelling-more : (s : List ℕ) (at v value i d : ℕ) → Spelling s at v value i → class_at s i ≡ Digit d → value * 10 + d < field_limit → Spelling s at v (value * 10 + d) (i + 1)
spelling-more s at v value i d x e h =
    let q : digit_run (drop i s) ≡ (digit d) ∷ digit_run (drop (i + 1) s) = digit-run s i d e in
    (h, x.1 ∙ rw q (spelled-digit value d (digit_run (drop (i + 1) s))), x.2 ∙ rw q (omega arith))

-- what digits spell is no less than what stands before them
pub spelled-least : (v : ℕ) (l : List ℕ) → v ≤ spelled v l
spelled-least v [] = omega arith
spelled-least v (b ∷ l) = omega (arith, spelled-least (v * 10 + (b - digit 0)) l)

pub spelling-large : (s : List ℕ) (at v value i d : ℕ) → Spelling s at v value i → class_at s i ≡ Digit d → field_limit ≤ value * 10 + d → Spelled s at v None
spelling-large s at v value i d x e h =
    let q : digit_run (drop i s) ≡ (digit d) ∷ digit_run (drop (i + 1) s) = digit-run s i d e in
    let z : spelled v (digit_run (drop at s)) ≡ spelled (value * 10 + d) (digit_run (drop (i + 1) s)) = x.1 ∙ rw q (spelled-digit value d (digit_run (drop (i + 1) s))) in
    rw (le-ltb (spelled v (digit_run (drop at s))) field_limit (omega (arith, spelled-least (value * 10 + d) (digit_run (drop (i + 1) s)))))

pub spelling-end : (s : List ℕ) (at v value i : ℕ) → Spelling s at v value i → NoDigit (class_at s i) → Spelled s at v (Some (value, i))
spelling-end s at v value i x n =
    let q : digit_run (drop i s) ≡ [] = no_digit s i n in rw (x.1, x.2, q, lt-ltb value field_limit x.0, add-zero)

pub number-none : (s : List ℕ) (at : ℕ) → NoDigit (class_at s at) → None ≡ number_at s at
unfolding number_at
number-none s at n = rw (no_digit s at n)

pub number-padded : (s : List ℕ) (at d x : ℕ) → class_at s at ≡ Digit d → d ≡ 0 → class_at s (at + 1) ≡ Digit x → None ≡ number_at s at
unfolding number_at
number-padded s at d x e z f =
    let n : eqb (suc (length (digit_run (drop (at + 1 + 1) s)))) 0 ≡ false = ne_eqb _ _ (λ (q : suc (length (digit_run (drop (at + 1 + 1) s))) ≡ 0). omega arith) in
    rw (digit-run s at d e, z, digit-run s (at + 1) x f, n)

pub number-zero : (s : List ℕ) (at d : ℕ) → class_at s at ≡ Digit d → d ≡ 0 → NoDigit (class_at s (at + 1)) → Some (0, at + 1) ≡ number_at s at
unfolding number_at
number-zero s at d e z n = rw (digit-run s at d e, z, no_digit s (at + 1) n)

pub number-other : (s : List ℕ) (at d : ℕ) (r : Option (ℕ × ℕ)) → class_at s at ≡ Digit d → d ≢ 0 → Spelled s (at + 1) d r → r ≡ number_at s at
unfolding number_at
number-other s at d r e n x =
    let o : eqb (digit d) (digit 0) ≡ false = ne_eqb (digit d) (digit 0) (λ (q : digit d ≡ digit 0). n (omega arith)) in
    let k : at + suc (length (digit_run (drop (at + 1) s))) ≡ at + 1 + length (digit_run (drop (at + 1) s)) = omega arith in
    let z : 0 * 10 + d ≡ d = omega arith in
    x ∙ rw (digit-run s at d e, o, spelled-digit 0 d (digit_run (drop (at + 1) s)), z, k)
