-- What every step and every run keeps: the base invariant of a state and, once settled, the timed one. Assumes nothing.
use Rattle.std.specs.Prelude.{ℕ, T}
use Rattle.protocol.specs.Params.{Params}
use Rattle.protocol.specs.Base.{Base}
use Rattle.protocol.specs.Timed.{Timed}
use Rattle.protocol.specs.Runs.{St, st}

-- the base invariant of a state
abbrev pub Holds : Params → St → Type 0
Holds π (st P L F now S b) = Base π P L F now S b

-- the timed invariant of a state that has settled
abbrev pub OnTime : Params → ℕ → ℕ → ℕ → St → Type 0
OnTime π M star v (st P L F now S b) = T b × Timed π P L F now S M star v
