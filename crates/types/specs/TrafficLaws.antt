-- The sums of messages, computed, and those of one list and then another; a sum and so many more. Assumes nothing.
use Rattle.std.specs.Prelude.{◌≡◌, refl, List, [], ◌∷◌, ◌++◌, ℕ, ◌+◌, ◌%◌, ◌^◌, ◌<◌}
use Rattle.std.proofs.Common.{sym, ap, ◌∙◌, mod-lt, mod-eq_of_lt, arith}
use Rattle.std.proofs.Math.Nat.{mod-add-mod}
use Rattle.types.specs.declared.Message.{Message}
use Rattle.types.specs.declared.Counts.{Counts}
use Rattle.types.specs.declared.Message.TheVariants.{View, Vote, Vc, Qc}
use Rattle.types.specs.Traffic.{counts_of, no_counts, wrapped, count_one, counts_more}

-- one of each kind and a further quorum certificate; the sum of votes was 2^63 - 1, that of view certificates the largest
pub counts-row : counts_more (counts_of 5 9223372036854775807 18446744073709551615 8) (View 0 1 ∷ Vote 0 1 ∷ Vc 0 1 ∷ Qc 0 1 ∷ Qc 0 2 ∷ []) ≡ counts_of 6 9223372036854775808 0 10
unfolding counts_more
counts-row = refl

-- each of the four wraps: all were the largest
pub wraps-row : counts_more (counts_of 18446744073709551615 18446744073709551615 18446744073709551615 18446744073709551615) (View 0 1 ∷ Vote 0 1 ∷ Vc 0 1 ∷ Qc 0 1 ∷ []) ≡ no_counts
unfolding counts_more
wraps-row = refl

pub counts-more-append : (x : Counts) (a b : List Message) → counts_more x (a ++ b) ≡ counts_more (counts_more x a) b
unfolding counts_more
counts-more-append x [] b = refl
counts-more-append x (m ∷ a) b = counts-more-append (count_one x m) a b

-- ---- one sum

-- none more
pub wrapped-none : (x : ℕ) → x < 2 ^ 64 → x ≡ wrapped x 0
wrapped-none x l = sym (mod-eq_of_lt (omega (arith, l))) ∙ ap (λ (z : ℕ). z % 2 ^ 64) (omega arith)

-- j more and then k more
pub wrapped-both : (x j k : ℕ) → wrapped (wrapped x j) k ≡ wrapped x (j + k)
wrapped-both x j k = mod-add-mod (x + j) (2 ^ 64) k ∙ ap (λ (z : ℕ). z % 2 ^ 64) (omega arith)

pub wrapped-low : (x k : ℕ) → wrapped x k < 2 ^ 64
wrapped-low x k = mod-lt (x + k) (omega arith)
