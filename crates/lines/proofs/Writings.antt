-- What is written, and what is not. Assumes nothing.
use Rattle.std.specs.Prelude.{Err, Ok}
use mathlib.Core.Path.{◌≡◌, refl, ap}
use mathlib.Core.Logic.{◌⊎◌, inl, inr}
use mathlib.Core.Bool.{Bool, true, false, cond}
use mathlib.Core.List.{◌++◌}
use Prim.Native.Nat.{◌≤◌, ◌<◌}
use lib.ListN.{length, drop}
use lib.Dec.{ltb}
use borrow.Author.Tests.{ltb-true, ltb-false}
use Rattle.lines.specs.Clauses.{line, written_as, written_in, written_check}
use Rattle.lines.specs.Promises.{JudgesWriting}

pub judges-writing : JudgesWriting
unfolding written_as written_in
judges-writing true form buffer r after h = inr (ap written_check h.0, inl refl, h.1)
judges-writing false form buffer r after h = by (ltb (length buffer) (length (line form))) refl h
  where
    by : (t : Bool) → ltb (length buffer) (length (line form)) ≡ t
        → (r ≡ cond t (Err 1) (Ok (length (line form)))) × (after ≡ cond t buffer (line form ++ drop (length (line form)) buffer))
        → ((written_check r ≡ 0) × (false ≡ false) × (length (line form) ≤ length buffer) × (after ≡ line form ++ drop (length (line form)) buffer))
        ⊎ ((written_check r ≡ 1) × ((false ≡ true) ⊎ (length buffer < length (line form))) × (after ≡ buffer))
    by true e x = inr (ap written_check x.0, inr (ltb-true _ _ e), x.1)
    by false e x = inl (ap written_check x.0, refl, ltb-false _ _ e, x.1)
