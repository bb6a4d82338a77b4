-- How many of the first messages of a network are of each kind.
use Rattle.std.specs.Prelude.{Bool, List, ℕ, eqb}
use Rattle.base.specs.Count.{count}
use Rattle.types.specs.declared.Form.TheVariants.{Packed}
use Rattle.types.specs.declared.Counts.{Counts}
use Rattle.types.specs.Traffic.{counts_of}
use Rattle.model.specs.State.{held_at}

abbrev pub of_kind : List ℕ → ℕ → ℕ → Bool
of_kind ws kind i = eqb (held_at Packed ws i).kind kind

abbrev pub counts_held : List ℕ → ℕ → Counts
counts_held ws k = counts_of (count k (of_kind ws 1)) (count k (of_kind ws 2)) (count k (of_kind ws 3)) (count k (of_kind ws 4))
