-- What a call leaves, where it is known, of the bytes that a reader has left and of those that a writer holds: after an error too.
use Rattle.std.specs.Prelude.{ℕ, List, Option}
use Rattle.std.specs.Io.KnownBytes.{Appends, Consumes}

-- that the bytes written before stay, and more or none follow
abbrev pub Grows : Option (List ℕ) → Option (List ℕ) → Type 0
Grows old new = (written : List ℕ) × Appends old new written

-- that of the bytes to be read those at the front are gone, or none
abbrev pub Shrinks : Option (List ℕ) → Option (List ℕ) → Type 0
Shrinks old new = (read : List ℕ) × Consumes old new read
