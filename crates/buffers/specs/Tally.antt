-- The tally as it is written, for every view and every bit.
use Rattle.std.specs.Prelude.{◌≡◌, refl, cond, List, ℕ, ◌<◌, ltb}
use Rattle.std.proofs.Common.{sym, lt-ltb}
use Rattle.base.specs.Choice.{cond_yes}
use Rattle.model.specs.State.{added}

-- word j of view w with bit p set, where a word of 64 bits has that bit
abbrev pub added_word : List ℕ → ℕ → ℕ → ℕ → List ℕ
added_word t w j p = cond (ltb p 64) (added t w j p) t

pub added-word : (t : List ℕ) (w j p : ℕ) → p < 64 → added_word t w j p ≡ added t w j p
added-word t w j p l = sym (cond_yes (ltb p 64) (added t w j p) (added t w j p) t (lt-ltb p 64 l) refl)
