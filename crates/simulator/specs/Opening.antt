-- What the contracts of the opening's inner functions cite.
use Rattle.std.specs.Prelude.{cond, List, ℕ}
use Rattle.types.specs.declared.Plan.{Plan}
use Rattle.types.specs.declared.Setup.{Setup}
use Rattle.types.specs.declared.Sends.{Sends}
use Rattle.types.specs.declared.Sends.TheVariants.{Nothing, ViewAndVote}
use Rattle.types.specs.Quantities.{correct}
use Rattle.model.specs.Moves.{Change, entries}
use Rattle.model.specs.Opening.{blank_run, first_entry}

-- what processor p sends at the opening: "every correct cabinet enters view 0"
abbrev pub first_sends : Plan → ℕ → ℕ → Sends
first_sends plan faulty p = cond (correct plan faulty p) (ViewAndVote 0) Nothing

-- what the first entries of the processors below k leave, t being the tally before
abbrev pub entered_first : Setup → List ℕ → ℕ → Change
entered_first u t k = entries (first_entry u) (blank_run u) t k
