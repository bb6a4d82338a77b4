-- A writer that grows twice grows, and a reader that shrinks twice shrinks; so does one of which nothing was asked.
use Rattle.std.specs.Prelude.{ℕ, List, [], ◌++◌, Option}
use Rattle.std.proofs.KnownBytes.{Appends-nil, Appends-trans, Consumes-nil, Consumes-trans}
use Rattle.transfer.specs.Moves.{Grows, Shrinks}

pub grows-none : (a : Option (List ℕ)) → Grows a a
grows-none a = ([], Appends-nil a)

pub grows-trans : (a b c : Option (List ℕ)) → Grows a b → Grows b c → Grows a c
grows-trans a b c f g = (f.0 ++ g.0, Appends-trans a b c f.0 g.0 f.1 g.1)

pub shrinks-none : (a : Option (List ℕ)) → Shrinks a a
shrinks-none a = ([], Consumes-nil a)

pub shrinks-trans : (a b c : Option (List ℕ)) → Shrinks a b → Shrinks b c → Shrinks a c
shrinks-trans a b c f g = (f.0 ++ g.0, Consumes-trans a b c f.0 g.0 f.1 g.1)
