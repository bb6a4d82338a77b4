-- A product modulo the square of a base, by the two digits of each factor. Assumes nothing.
use Rattle.std.proofs.Common.{◌≡◌, ℕ, ◌+◌, ◌*◌, ◌/◌, ◌%◌, ◌^◌, ◌<◌, sym, refl, ap, ◌∙◌, lt_of_le_of_lt, le_of_lt, add_assoc, mul-le-mul_right, mul_assoc, mul_comm, add-mul, add_comm, mul-add, mul_left_comm, pow_pos}
use native.Mathlib.Nat.{add_left_comm, mul-add-mod_self_right, mul-lt-mul_of_pos_left}
use lib.Pow.{split, mod-mod-pow}

apart : (B a b x y : ℕ) → (a * B + x) * (b * B + y) ≡ a * b * (B * B) + (a * y + x * b) * B + x * y
apart B a b x y = simp (mul-add, add-mul, mul_assoc, mul_comm, mul_left_comm, add_assoc, add_comm, add_left_comm) refl

together : (B h l q r : ℕ) → h * (B * B) + (q * B + r) * B + l ≡ (h + q) * (B * B) + (l + r * B)
together B h l q r = simp (mul-add, add-mul, mul_assoc, mul_comm, mul_left_comm, add_assoc, add_comm, add_left_comm) refl

-- the factors by their digits, c/B and c%B being those of the crossed products
digits : (B a b x y q r : ℕ) → a * y + x * b ≡ q * B + r → (a * B + x) * (b * B + y) ≡ (a * b + q) * (B * B) + (x * y + r * B)
digits B a b x y q r e =
    apart B a b x y
    ∙ ap (λ (c : ℕ). a * b * (B * B) + c * B + x * y) e
    ∙ together B (a * b) (x * y) q r

pub by-halves : (a b : ℕ) → (a % 2 ^ 32 * (b % 2 ^ 32) + (a / 2 ^ 32 * (b % 2 ^ 32) + a % 2 ^ 32 * (b / 2 ^ 32)) % 2 ^ 64 % 2 ^ 32 * 2 ^ 32) % 2 ^ 64 ≡ a * b % 2 ^ 64
by-halves a b =
    let c : ℕ = a / 2 ^ 32 * (b % 2 ^ 32) + a % 2 ^ 32 * (b / 2 ^ 32) in
    ap (λ (z : ℕ). (a % 2 ^ 32 * (b % 2 ^ 32) + z * 2 ^ 32) % 2 ^ 64) (mod-mod-pow c 32 32)
    ∙ sym (mul-add-mod_self_right (a / 2 ^ 32 * (b / 2 ^ 32) + c / 2 ^ 32) (2 ^ 64) (a % 2 ^ 32 * (b % 2 ^ 32) + c % 2 ^ 32 * 2 ^ 32))
    ∙ ap (λ (z : ℕ). z % 2 ^ 64) (sym (digits (2 ^ 32) (a / 2 ^ 32) (b / 2 ^ 32) (a % 2 ^ 32) (b % 2 ^ 32) (c / 2 ^ 32) (c % 2 ^ 32) (sym (split c 32))))
    ∙ (λ i. split a 32 i * split b 32 i % 2 ^ 64)

pub product-below : (x y : ℕ) → x < 2 ^ 32 → y < 2 ^ 32 → x * y < 2 ^ 64
product-below x y l m = lt_of_le_of_lt (mul-le-mul_right y (le_of_lt l)) (mul-lt-mul_of_pos_left m (pow_pos 32))
