-- What `any` gives over the numbers below k. Assumes nothing.
use Rattle.std.proofs.Common.{◌≡◌, refl, sym, ap, ◌∙◌, Bool, true, false, ◌||◌, ℕ, zero, suc, ◌+◌, arith}
use Rattle.std.proofs.Math.Bool.{or_assoc}
use Rattle.std.specs.List.{list_any, range_with_len}
use Rattle.base.specs.Scan.{some}

or_nothing : (a : Bool) → (a || false) ≡ a
or_nothing true = refl
or_nothing false = refl

-- the last number apart
last-apart : (f : ℕ → Bool) (a k : ℕ) → list_any f (range_with_len a (suc k)) ≡ (list_any f (range_with_len a k) || f (a + k))
last-apart f a zero = or_nothing (f a) ∙ ap f (omega arith)
last-apart f a (suc k) =
    let e : a + 1 + k ≡ a + suc k = omega arith in
    ap (λ (b : Bool). f a || b) (last-apart f (a + 1) k ∙ ap (λ (x : ℕ). list_any f (range_with_len (a + 1) k) || f x) e)
    ∙ sym (or_assoc (f a) (list_any f (range_with_len (a + 1) k)) (f (a + suc k)))

pub any-some : (f : ℕ → Bool) (k : ℕ) → list_any f (range_with_len 0 k) ≡ some f k
unfolding some
any-some f zero = refl
any-some f (suc k) = let e : 0 + k ≡ k = omega arith in last-apart f 0 k ∙ rw (e, any-some f k)
