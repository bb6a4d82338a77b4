-- Membership of a set with one more, and its size as a count. Assumes nothing.
use Rattle.std.specs.Prelude.{◌≡◌, refl, Bool, false, ◌||◌, ℕ, zero, suc, ◌*◌, ◌/◌, ◌%◌, ◌^◌, ◌≤◌, ◌<◌, max, T, eqb, ltb}
use Rattle.std.proofs.Common.{sym, ap, ◌∙◌, subst, div-one, mod-lt, pow-suc, arith, add-one, eqb→eq, lt-ltb, shr-shr, shr_lt, pow_pos, pow_mono}
use Rattle.std.proofs.Math.Nat.{div_self, div-eq_of_lt, mul-mod_left}
use Rattle.std.specs.Int.Count.{ones, ones_step}
use Rattle.std.proofs.lemmas.Nat.{shl-shr, or_shr, or_lt}
use Rattle.std.proofs.Math.Pow.{pow-lt}
use Rattle.std.proofs.Math.Arith.{lt-one, digits_mod}
use Rattle.std.specs.Int.Bits.{bit_or, or_step}
use Rattle.base.specs.Tests.{T-iff, eq→eqb}
use Rattle.base.specs.Count.{bit, count, count-ext, count_low}
use Rattle.base.specs.Sets.{member, insert, insert_word, size}
use Rattle.base.specs.Choice.{cond_yes}

bit-mod : (w : ℕ) → bit (eqb (w % 2) 1) ≡ w % 2
bit-mod w = go (w % 2) (mod-lt w (omega arith))
  where
    go : (r : ℕ) → r < 2 → bit (eqb r 1) ≡ r
    go zero h = refl
    go (suc zero) h = refl
    go (suc (suc r)) h = absurd (omega arith)

member-first : (w : ℕ) → bit (member w 0) ≡ w % 2
unfolding member
member-first w = ap (λ (x : ℕ). bit (eqb (x % 2) 1)) (div-one w) ∙ bit-mod w

member-next : (w p : ℕ) → member w (suc p) ≡ member (w / 2) p
unfolding member
member-next w p = ap (λ (x : ℕ). eqb (x % 2) 1) (ap (λ (k : ℕ). w / 2 ^ k) (omega arith) ∙ sym (shr-shr w 1 p))

none-of-zero : ones 0 ≡ 0
unfolding ones
none-of-zero = refl

-- a set below 2^k has as many members as processors below k are in it
pub size-count : (k w : ℕ) → w < 2 ^ k → size w ≡ count k (member w)
unfolding count
size-count zero w h = ap ones (lt-one h) ∙ none-of-zero
size-count (suc k) w h =
    let a = count_low k (member w) in
    let b = member-first w in
    let c = size-count k (w / 2) (shr_lt k 1 (subst (λ (x : ℕ). w < 2 ^ x) (sym (add-one k)) h)) in
    let d = count-ext k (λ p. member w (suc p)) (member (w / 2)) (λ p _. member-next w p) in
    let e = ones_step w in
    omega arith

max-digit : (a b : ℕ) → a < 2 → b < 2 → eqb (max a b) 1 ≡ (eqb a 1 || eqb b 1)
max-digit zero zero h k = refl
max-digit zero (suc zero) h k = refl
max-digit (suc zero) zero h k = refl
max-digit (suc zero) (suc zero) h k = refl
max-digit (suc (suc a)) b h k = absurd (omega arith)
max-digit zero (suc (suc b)) h k = absurd (omega arith)
max-digit (suc zero) (suc (suc b)) h k = absurd (omega arith)

member-or : (a b p : ℕ) → member (bit_or a b) p ≡ (member a p || member b p)
unfolding member
member-or a b p =
    let x : ℕ = a / 2 ^ p in
    let y : ℕ = b / 2 ^ p in
    let two : 0 < 2 = omega arith in
    let hx : x % 2 < 2 = mod-lt x two in
    let hy : y % 2 < 2 = mod-lt y two in
    ap (λ (z : ℕ). eqb (z % 2) 1) (or_shr a b p ∙ or_step x y)
    ∙ ap (λ (z : ℕ). eqb z 1) (digits_mod (bit_or (x / 2) (y / 2)) {r = max (x % 2) (y % 2)} (omega arith))
    ∙ max-digit (x % 2) (y % 2) hx hy

pub member-none : (q : ℕ) → T (member 0 q) → ⊥
unfolding member
member-none q t = rw (div-eq_of_lt (pow_pos q)) at t

member-alone : (p : ℕ) → T (member (2 ^ p) p)
unfolding member
member-alone p = rw (div_self (pow_pos p)) tt

first-of-even : (a : ℕ) → T (member (a * 2) 0) → ⊥
unfolding member
first-of-even a t = rw (div-one, mul-mod_left) at t

member-only : (p q : ℕ) → T (member (2 ^ p) q) → q ≡ p
member-only zero zero t = refl
member-only zero (suc q) t = absurd (member-none q (rw (member-next 1 q) at t))
member-only (suc p) zero t = absurd (first-of-even (2 ^ p) (rw pow-suc at t))
member-only (suc p) (suc q) t =
    let half : 2 ^ suc p / 2 ≡ 2 ^ p = ap (λ (x : ℕ). x / 2) (pow-suc 2 p) ∙ shl-shr (2 ^ p) 1 in
    ap suc (member-only p q (subst T (member-next (2 ^ suc p) q ∙ ap (λ (x : ℕ). member x q) half) t))

member-single : (p q : ℕ) → member (2 ^ p) q ≡ eqb q p
member-single p q = T-iff (member (2 ^ p) q) (eqb q p) (λ t. eq→eqb q p (member-only p q t)) (λ t. rw (eqb→eq q p t) (member-alone p))

-- the members of a set with p added
pub member-insert : (s p q : ℕ) → member (insert s p) q ≡ (member s q || eqb q p)
member-insert s p q = member-or s (2 ^ p) q ∙ ap (λ (b : Bool). member s q || b) (member-single p q)

pub insert-below : (k s p : ℕ) → p < k → s < 2 ^ k → insert s p < 2 ^ k
insert-below k s p l h = or_lt k s (2 ^ p) h (pow-lt l)

-- a number that no set can hold is in none
pub member-beyond : (s p : ℕ) → s < 2 ^ 64 → 64 ≤ p → member s p ≡ false
unfolding member
member-beyond s p h l = let b : s < 2 ^ p = omega (arith, pow_mono l) in rw (div-eq_of_lt b) refl

-- one that it can hold is inserted
pub insert-word : (s p : ℕ) → p < 64 → insert_word s p ≡ insert s p
insert-word s p l = sym (cond_yes (ltb p 64) (insert s p) (insert s p) s (lt-ltb p 64 l) refl)
