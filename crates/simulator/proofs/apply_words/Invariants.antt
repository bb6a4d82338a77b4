use Rattle.model.specs.Checks.{unsound_for_good}
use Rattle.model.specs.State.{state_of}
use mathlib.Core.Bool.{false}
use mathlib.Core.Path.{◌≡◌}
use Rattle.words.specs.Batches.{words_applied}
use Rattle.words.proofs.Turning.{words_applied_from}
use Rattle.liveness.specs.Promises.{Tabled}
use Rattle.simulator.proofs.apply_words.Given as goal

abbrev pub invariant-loop-i : goal.invariant-loop-i
invariant-loop-i l = (words_applied_from l.i l.events (state_of l.run l.tally l.network)
    ≡ words_applied l.initial.events (state_of l.initial.run l.initial.tally l.initial.network))
    × (l.broken ≡ unsound_for_good (state_of l.run l.tally l.network)) × (l.broken ≡ false → Tabled l.run)
