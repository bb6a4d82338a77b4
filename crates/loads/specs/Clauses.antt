-- What writing a load owes to its definition.
use Rattle.std.specs.Prelude.{◌≡◌, ℕ, Bool, List}
use Rattle.lines.specs.Clauses.{Put}
use Rattle.lines.specs.Promises.{schedule_of}
use Rattle.loads.specs.Loads.{Point, Load}

-- that the lines of the load l were written into the lent bytes, k bytes of them, and that it ended at y, for want of bytes or not
pub record PutLoad (l : Load) (out : List ℕ) (y : Point) (short : Bool) (k : ℕ) (after : List ℕ) : Type 0 where
  pub point : y ≡ l.point
  pub full : short ≡ l.full
  pub put : Put (schedule_of l.forms) out k after
