-- The clocks of a setup: the first and the further ones. Assumes nothing.
use Rattle.std.proofs.Common.{◌≡◌, ℕ, ◌+◌, ◌-◌, ◌<◌, List, [], ◌∷◌, ◌++◌, length, get_or, take, drop, sym, ap, arith, take_all}
use Rattle.lines.specs.Decimal.{decimal}
use Rattle.lines.specs.Forms.{further_clocks, clocks_form}

pub clocks-cons : (cs : List ℕ) → 0 < length cs → clocks_form cs ≡ decimal (get_or cs 0 0) ++ further_clocks (take (length cs - 1) (drop 1 cs))
clocks-cons [] h = absurd (omega arith)
clocks-cons (c ∷ cs) h = ap (λ (z : List ℕ). decimal c ++ further_clocks z) (sym (take_all (length (c ∷ cs) - 1) cs (omega arith)))

-- one byte before the first
pub further-length : (cs : List ℕ) → 0 < length cs → length (further_clocks cs) ≡ 1 + length (clocks_form cs)
further-length [] h = absurd (omega arith)
further-length (c ∷ cs) h = omega arith
