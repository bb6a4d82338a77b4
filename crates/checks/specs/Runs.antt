-- What is said of a run that is handed in.
use Rattle.std.specs.Prelude.{◌≡◌, Bool, false, length}
use Rattle.types.specs.Quantities.{n_most}
use Rattle.model.specs.State.{State}
use Rattle.model.specs.Checks.{unsound_for_good}

-- that r is what check 9 says but for the time; the tables of a run that it passes have their 64 entries
pub record Judges (s : State) (r : Bool) : Type 0 where
  pub says : r ≡ unsound_for_good s
  pub clocks : r ≡ false → length s.run.clocks ≡ n_most
  pub views : r ≡ false → length s.run.views ≡ n_most
