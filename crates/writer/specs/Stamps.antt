-- Items written at a place of lent ones, bytes or words: what the functions that write ask for and leave.
use Rattle.std.specs.Prelude.{◌≡◌, ℕ, ◌+◌, ◌≤◌, List, ◌++◌, length, take, drop}

-- d with w in it from place a on
unfoldable pub stamp : {A : Type 0} → List A → ℕ → List A → List A
stamp d a w = take a d ++ w ++ drop (a + length w) d

-- d has room for w from place a on
pub record Room {A : Type 0} (d : List A) (a : ℕ) (w : List A) : Type 0 where
  pub fits : a + length w ≤ length d

-- w was written into d from place a on: that left e, and b is the place behind w
pub record Stamped {A : Type 0} (d : List A) (a : ℕ) (w : List A) (b : ℕ) (e : List A) : Type 0 where
  pub behind : b ≡ a + length w
  pub bytes : e ≡ stamp d a w
