-- How numbers below 8,192 are divided by 2 to 8 with a product: the factors, and that they tell the quotient. Assumes nothing.
use Rattle.std.specs.Prelude.{◌≡◌, refl, cond, ℕ, zero, suc, ◌+◌, ◌*◌, ◌/◌, ◌%◌, ◌^◌, ◌≤◌, ◌<◌, ltb}
use Rattle.std.proofs.Common.{ap, ◌∙◌, arith, mul-le-mul}

-- the unit of a factor
abbrev pub factor_unit : ℕ
factor_unit = 65536

-- the word that has the factor of d: one has those of 2 to 4, one those of 5 to 8
abbrev pub factors_of : ℕ → ℕ
factors_of d = cond (ltb d 5) 6149243083004329985 2635497121728700417

-- its sixteen bits there
abbrev pub factor_of : ℕ → ℕ
factor_of d = factors_of d / 2 ^ (d % 4 * 16) % factor_unit

-- the numbers and divisors for which it tells the quotient
abbrev pub FactorTells : ℕ → ℕ → Type 0
FactorTells a d = (a < 8192) × (2 ≤ d) × (d ≤ 8)

-- what holds of each of the divisors
each-divisor : (P : ℕ → Type 0) → P 2 → P 3 → P 4 → P 5 → P 6 → P 7 → P 8 → (d : ℕ) → 2 ≤ d → d ≤ 8 → P d
each-divisor P two three four five six seven eight zero l m = absurd (omega arith)
each-divisor P two three four five six seven eight (suc zero) l m = absurd (omega arith)
each-divisor P two three four five six seven eight (suc (suc zero)) l m = two
each-divisor P two three four five six seven eight (suc (suc (suc zero))) l m = three
each-divisor P two three four five six seven eight (suc (suc (suc (suc zero)))) l m = four
each-divisor P two three four five six seven eight (suc (suc (suc (suc (suc zero))))) l m = five
each-divisor P two three four five six seven eight (suc (suc (suc (suc (suc (suc zero)))))) l m = six
each-divisor P two three four five six seven eight (suc (suc (suc (suc (suc (suc (suc zero))))))) l m = seven
each-divisor P two three four five six seven eight (suc (suc (suc (suc (suc (suc (suc (suc zero)))))))) l m = eight
each-divisor P two three four five six seven eight (suc (suc (suc (suc (suc (suc (suc (suc (suc d))))))))) l m = absurd (omega arith)

-- the factor of d is the unit divided by d, and 1 more
factor-is : (d : ℕ) → 2 ≤ d → d ≤ 8 → factor_of d ≡ factor_unit / d + 1
factor-is = each-divisor (λ (d : ℕ). factor_of d ≡ factor_unit / d + 1) refl refl refl refl refl refl refl

-- what the product is too large by does not reach the next quotient
quotient_is : (a : ℕ) → a < 8192 → (d : ℕ) → 2 ≤ d → d ≤ 8 → a * (factor_unit / d + 1) / factor_unit ≡ a / d
quotient_is a l = each-divisor (λ (d : ℕ). a * (factor_unit / d + 1) / factor_unit ≡ a / d)
    (omega arith) (omega arith) (omega arith) (omega arith) (omega arith) (omega arith) (omega arith)

pub factor-tells : (a d : ℕ) → FactorTells a d → a * factor_of d / factor_unit ≡ a / d
factor-tells a d t = ap (λ (x : ℕ). a * x / factor_unit) (factor-is d t.1 t.2) ∙ quotient_is a t.0 d t.1 t.2

pub product-fits : (a d f : ℕ) → FactorTells a d → f ≡ factor_of d → a * f < 2 ^ 64
product-fits a d f t e =
    let x : a ≤ 8191 = omega (arith, t.0) in
    let y : f ≤ 65535 = omega (arith, e) in
    omega (arith, mul-le-mul x y)
