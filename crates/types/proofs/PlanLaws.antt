-- Multiples of the views per leader, and the next of them above a view; what the least slot gives. Assumes nothing.
use mathlib.Core.Path.{◌≡◌, ap, ◌∙◌}
use mathlib.Core.Bool.{true}
use Prim.Native.Nat.{ℕ, ◌+◌, ◌*◌, ◌/◌, ◌%◌, ◌≤◌, ◌<◌}
use native.Mathlib.Omega.{arith}
use native.Mathlib.Nat.{add-mod_right, mul-mod_left, div-add-mod', mod-lt, zero-div, zero-mod, zero-mul, mul-le-mul_right, lt_of_mul-lt-mul_right}
use lib.Dec.{eqb, eqb→eq}
use borrow.Author.Tests.{eqb-true, eqb-false, eq-eqb}
use Rattle.base.specs.Tests.{T_false, by_cond}
use Rattle.types.specs.declared.Plan.{Plan}
use Rattle.types.specs.Quantities.{delta_least, gamma_least, per_leader, per_leader_least, turn_start, next_initial}

pub per-leader-positive : (p : Plan) → per_leader_least ≤ per_leader p → 0 < per_leader p
per-leader-positive p l = omega arith

-- a slot is two delays or more
pub gamma_twice : (p : Plan) → gamma_least p ≤ p.gamma → 2 * p.delta ≤ p.gamma
gamma_twice p = by_cond (λ (x : ℕ). x ≤ p.gamma → 2 * p.delta ≤ p.gamma) (eqb (per_leader p) 2) (4 * p.delta) (2 * p.delta) (λ _ l. omega arith) (λ _ l. l)

-- behind a leader's first view three delays and more are left of its turn
pub turn-roomy : (p : Plan) → delta_least ≤ p.delta → per_leader_least ≤ per_leader p → gamma_least p ≤ p.gamma → 3 * p.delta + p.gamma < per_leader p * p.gamma
turn-roomy p d least =
    by_cond (λ (x : ℕ). x ≤ p.gamma → 3 * p.delta + p.gamma < per_leader p * p.gamma) (eqb (per_leader p) 2) (4 * p.delta) (2 * p.delta)
    (λ two l. rw (eqb→eq (per_leader p) 2 two) (omega arith))
    (λ more l. let three : 3 ≤ per_leader p = omega (arith, eqb-false (per_leader p) 2 (T_false (eqb (per_leader p) 2) more)) in omega (arith, mul-le-mul_right p.gamma three))

module _ (p : Plan) where
  abbrev k : ℕ
  k = per_leader p

  -- two multiples are a turn apart
  turn_gap : (a b : ℕ) → a * k < b * k → a * k + k ≤ b * k
  turn_gap a b h = let l : a < b = lt_of_mul-lt-mul_right k h in omega (arith, mul-le-mul_right k l)

  -- the next one is above
  pub next-above : (w : ℕ) → 0 < per_leader p → w + 1 ≤ next_initial p w
  next-above w positive = omega (arith, div-add-mod' w k, mod-lt w positive)

  -- none lies between
  pub next-least : (w u : ℕ) → turn_start p u ≡ true → w < u → next_initial p w ≤ u
  next-least w u e h =
      let a : u / k * k ≡ u = omega (arith, div-add-mod' u k, eqb-true (u % k) 0 e) in
      omega (arith, turn_gap (w / k) (u / k) (omega (arith, div-add-mod' w k, a)), a)

  -- it is a multiple
  pub next-initial : (w : ℕ) → turn_start p (next_initial p w) ≡ true
  next-initial w = eq-eqb (next_initial p w % k) 0 (add-mod_right (w / k * k) k ∙ mul-mod_left (w / k) k)

  -- view 0 starts the first turn
  pub zero-starts : turn_start p 0 ≡ true
  zero-starts = eq-eqb (0 % k) 0 (zero-mod k)

  pub next-of-zero : next_initial p 0 ≡ per_leader p
  next-of-zero = ap (λ (x : ℕ). x * k + k) (zero-div k) ∙ omega (arith, zero-mul k)
