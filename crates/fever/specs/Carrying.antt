-- A run carried over in words: what `fever_pack` and `fever_unpack` answer and leave.
use Rattle.std.specs.Prelude.{◌≡◌, List, [], ◌∷◌, ℕ, ltb, length}
use Rattle.types.specs.declared.Form.{Form}
use Rattle.model.specs.State.{State, state_in}
use Rattle.model.specs.Checks.{judged}
use Rattle.model.specs.Carrying.{target_outside, CarriedOver, carried_over}
use Rattle.fever.specs.Layout.{run_length, run_in, neither_settled}
use Rattle.fever.specs.Clauses.{Lent}

-- the run, tally and network that the words lent are, the network being of a form
abbrev pub lent_in : Form → Lent → State
lent_in form x = state_in form (run_in x.run) x.tally x.network

-- a call that answered r, and left these words of the target; all else that is lent is only read
abbrev pub called_carry : ℕ → List ℕ → CarriedOver
called_carry r ws = record { check = r; target = ws }

-- from one form to another: check 1 is of how many words the run has; a settled word above 1 is of no run, which is check 9, asked behind 6 as the
-- definition does
unfoldable pub carrying_words : Form → Form → Lent → List ℕ → CarriedOver
carrying_words from to x target =
    judged (λ (r : ℕ). called_carry r target)
    ((1, ltb (length x.run) run_length) ∷ (6, target_outside to (run_in x.run).plan (run_in x.run).held (length target)) ∷ (9, neither_settled x.run) ∷ [])
    (carried_over to (lent_in from x) target)

abbrev pub CarriesWords : Form → Form → Lent → List ℕ → ℕ → List ℕ → Type 0
CarriesWords from to x before r after = called_carry r after ≡ carrying_words from to x before
