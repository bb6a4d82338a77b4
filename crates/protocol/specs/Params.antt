-- The numbers of a run, which views are initial, and who leads a view, with their laws. Assumes nothing.
use Rattle.std.specs.Prelude.{◌≡◌, ◌⊎◌, Bool, ℕ, ◌+◌, ◌*◌, ◌/◌, ◌%◌, ◌≤◌, ◌<◌, T}
use Rattle.std.proofs.Common.{◌∙◌, inl, inr, arith, lt_of_mul-lt-mul_right}
use Rattle.std.proofs.Math.Nat.{add-mod_right, mul-mod_left, div-add-mod', mod-lt, mul-le-mul_right}
use Rattle.base.specs.Tests.{le?}
use Rattle.base.specs.Count.{count}

pub record Params : Type 0 where
  -- the processors are the numbers below n
  pub n : ℕ
  -- how many faulty ones are tolerated at most
  pub t : ℕ
  -- how many are faulty
  pub f : ℕ
  -- how many views in a row have one leader
  pub k : ℕ
  -- what a clock has to advance from one view to the next
  pub gamma : ℕ
  -- how long a message takes at most, once the network has settled
  pub delta : ℕ
  -- which processors are correct
  pub correct : ℕ → Bool
  -- only processors are correct
  pub correct_below : (p : ℕ) → T (correct p) → p < n
  -- the faulty and the correct ones are all
  pub correct_count : f + count n correct ≡ n
  -- no more are faulty than are tolerated
  pub few_faulty : f ≤ t
  -- more than two thirds of the processors are correct
  pub enough : 3 * t + 1 ≤ n
  -- a message may take some time
  pub delta_positive : 0 < delta
  -- each leader has a view
  pub k_positive : 0 < k
  -- a view takes some time
  pub gamma_positive : 0 < gamma
  -- three delays fit into the views of a leader but one: 3Δ < (k − 1)Γ, the one condition on the plan
  pub roomy : 3 * delta + gamma < k * gamma

module _ (π : Params) where
  open π use {n, k, k_positive}

  -- the row of views with one leader in which a view lies
  unfoldable pub row : ℕ → ℕ
  row w = w / k

  -- the leader of a view: rows go round the processors
  unfoldable pub lead : ℕ → ℕ
  unfolding row
  lead w = row w % n

  -- the first view of a row
  unfoldable pub Initial : ℕ → Type 0
  Initial w = w % k ≡ 0

  -- the next initial view
  unfoldable pub next : ℕ → ℕ
  unfolding row
  next w = row w * k + k

  row-le : (w : ℕ) → row w * k ≤ w
  unfolding row
  row-le w = omega (arith, div-add-mod' w k)

  initial-row : (w : ℕ) → Initial w → row w * k ≡ w
  unfolding Initial row
  initial-row w e = omega (arith, div-add-mod' w k)

  -- a row that starts before another ends before it
  row-gap : (a b : ℕ) → a * k < b * k → a * k + k ≤ b * k
  row-gap a b h = let l : a < b = lt_of_mul-lt-mul_right k h in omega (arith, mul-le-mul_right k l)

  -- it is above
  pub next-above : (w : ℕ) → w < next w
  unfolding next
  next-above w = omega (arith, div-add-mod' w k, mod-lt w k_positive)

  -- no initial view lies between
  pub next-least : (w u : ℕ) → Initial u → w < u → next w ≤ u
  unfolding next
  next-least w u e h = omega (arith, row-gap (row w) (row u) (omega (arith, row-le w, initial-row u e)), initial-row u e)

  -- it is initial
  pub next-initial : (w : ℕ) → Initial (next w)
  unfolding Initial next
  next-initial w = add-mod_right (row w * k) k ∙ mul-mod_left (row w) k

  -- from an initial view it is k on
  pub next-of-initial : (w : ℕ) → Initial w → next w ≡ w + k
  unfolding next
  next-of-initial w e = omega (arith, initial-row w e)

  -- initial views are k apart
  pub initial-gap : (v u : ℕ) → Initial v → Initial u → v < u → v + k ≤ u
  initial-gap v u e e' h = omega (arith, next-least v u e' h, next-of-initial v e)

  -- it grows with the view
  pub next-mono : (w u : ℕ) → w ≤ u → next w ≤ next u
  unfolding next row
  next-mono w u h = go (le? (row w) (row u))
    where
      go : (row w ≤ row u) ⊎ (row u < row w) → next w ≤ next u
      go (inl l) = omega (arith, mul-le-mul_right k l)
      go (inr l) = omega (arith, mul-le-mul_right k l, row-le w, div-add-mod' u k, mod-lt u k_positive)
