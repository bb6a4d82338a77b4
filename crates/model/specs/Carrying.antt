-- "Held runs are carried over in order, and turning them back gives the same four numbers": a run's messages written anew, in the other form.
use Rattle.std.specs.Prelude.{Bool, ◌||◌, List, [], ◌∷◌, ◌++◌, ℕ, zero, suc, ◌-◌, ◌*◌, ◌/◌, ltb, length, replicate}
use Rattle.types.specs.declared.Plan.{Plan}
use Rattle.types.specs.declared.Form.{Form}
use Rattle.types.specs.Quantities.{width}
use Rattle.model.specs.State.{State, state_in, held_words, held_in}
use Rattle.model.specs.Checks.{judged, network_outside, unsound}

-- "A target that check 6 refuses or that is too short", of so many words, for a run of this plan that holds so many messages
abbrev pub target_outside : Form → Plan → ℕ → ℕ → Bool
target_outside to plan held words = network_outside to plan words || ltb (words / width to) held

-- the words of the first k messages held
abbrev pub laid_out : Form → State → ℕ → List ℕ
laid_out to s zero = []
laid_out to s (suc k) = laid_out to s k ++ held_words to (held_in s k)

-- all of them in a target of so many words, the rest of which is 0
abbrev pub carried_words : Form → State → ℕ → List ℕ
carried_words to s len = laid_out to s s.run.held ++ replicate (len - width to * s.run.held) 0

-- the check that refuses it, or 0; and the target's words
pub record CarriedOver : Type 0 where
  pub check : ℕ
  pub target : List ℕ

-- "answers 6; an unsound run, or one the other form can't hold, 9; nothing is then written"
unfoldable pub carried_over : Form → State → List ℕ → CarriedOver
carried_over to s target =
    judged (λ (r : ℕ). record { check = r; target = target }) ((6, target_outside to s.run.plan s.run.held (length target)) ∷ (9, unsound s) ∷ [])
    (record { check = 0; target = carried_words to s (length target) })

-- the same run and tally, on the target, where that is not refused
abbrev pub carried_to : Form → State → List ℕ → State
carried_to to s target = state_in to s.run s.tally (carried_over to s target).target
