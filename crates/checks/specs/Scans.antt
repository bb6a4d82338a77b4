-- What the scans of the network look at: the held messages, and the words beyond them.
use Rattle.std.specs.Prelude.{Bool, false, not, ◌||◌, List, [], ℕ, eqb, drop}
use Rattle.types.specs.declared.Plan.{Plan}
use Rattle.types.specs.declared.Form.{Form}
use Rattle.types.specs.Traffic.{no_traffic}
use Rattle.model.specs.State.{State, state_in, run_of}
use Rattle.model.specs.Checks.{some_non_zero}

-- a network, with what the soundness of its messages depends on
abbrev pub flying : Form → Plan → ℕ → ℕ → List ℕ → State
flying form plan faulty time network = state_in form (run_of plan faulty time false 0 0 [] [] no_traffic) [] network

-- what is gathered so far, or one of the words from i on, is not 0
abbrev pub non_zero_from : ℕ → ℕ → List ℕ → Bool
non_zero_from seen i ws = not (eqb seen 0) || some_non_zero (drop i ws)

-- the words that one turn gathers
abbrev pub turn_words : ℕ
turn_words = 8
