-- What the public functions of the simulator do, by the model's definitions.
use Rattle.std.specs.Prelude.{◌≡◌, true, false, List, Result, Ok, Err, ℕ, length}
use Rattle.types.specs.declared.Event.{Event}
use Rattle.types.specs.declared.Setup.{Setup}
use Rattle.model.specs.State.{State, After}
use Rattle.model.specs.Opening.{opening}
use Rattle.model.specs.Events.{applied}
use Rattle.model.specs.Checks.{unsound_for_good}
use Rattle.words.specs.Batches.{words_applied}
use Rattle.loads.specs.Loads.{Point, point_of, further_load}
use Rattle.loads.specs.Clauses.{PutLoad}
use Rattle.simulator.specs.declared.Piece.{Piece}

-- that an opening of the setup u, with the run and the lent buffers s at hand, left and answered a: the run and every word of both buffers are
-- those of the model's opening, and so is the answer
abbrev pub Opens : Setup → State → After → Type 0
Opens u s a = a ≡ opening u s

-- that the event e, applied to the run and the lent buffers s, whatever they hold, left and answered a
abbrev pub Applies : Event → State → After → Type 0
Applies e s a = a ≡ applied e s

-- that the events in the words ws, applied one after the other to the run and the lent buffers s, whatever they hold, left s' and their answers
-- in their places, ws'
abbrev pub AppliesAll : List ℕ → State → State → List ℕ → Type 0
AppliesAll ws s s' ws' = record { state = s'; words = ws' } ≡ words_applied ws s

-- that a load went on from x, up to so many steps, in the lent bytes `out`: it left the run and the lent buffers s', r and the bytes `after`. A run
-- that is unsound, but for its time, answers 9, and all stays as it was
abbrev pub WritesLoad : ℕ → ℕ → Point → List ℕ → State → Result Piece ℕ → List ℕ → Type 0
WritesLoad steps settle x out s' (Ok r) after =
    (unsound_for_good x.state ≡ false) × PutLoad (further_load steps settle x (length out)) out (point_of s' r.seed r.step) r.full r.bytes after
WritesLoad steps settle x out s' (Err k) after = (unsound_for_good x.state ≡ true) × (k ≡ 9) × (s' ≡ x.state) × (after ≡ out)
