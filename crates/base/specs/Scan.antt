-- Scans of the numbers below k: whether some passes, the first that passes, and the list of a value for each.
use Rattle.std.specs.Prelude.{Bool, false, ◌||◌, cond, List, [], ◌∷◌, ◌++◌, ℕ, zero, suc, ltb}

unfoldable pub some : (ℕ → Bool) → ℕ → Bool
some f zero = false
some f (suc k) = some f k || f k

-- the first number below k that passes, or k
unfoldable pub first : (ℕ → Bool) → ℕ → ℕ
first f zero = 0
first f (suc k) = cond (ltb (first f k) k) (first f k) (cond (f k) k (suc k))

-- f 0, f 1, .. below k
unfoldable pub listed : (ℕ → ℕ) → ℕ → List ℕ
listed f zero = []
listed f (suc k) = listed f k ++ (f k ∷ [])
