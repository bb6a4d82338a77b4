-- A run carried over, message by message.
use Rattle.model.specs.Checks.{passed}
use Rattle.std.specs.Prelude.{◌≡◌, List, ℕ, zero, suc, None, Option, Some, Result}
use Rattle.types.specs.declared.Form.{Form}
use Rattle.model.specs.State.{State, held_at}
use Rattle.model.specs.Carrying.{carried_over}
use Rattle.buffers.specs.Kinds.{stored}
use Rattle.buffers.specs.Network.{appended}
use Rattle.types.specs.declared.Message.{Message}

-- what a place holds, behind the first i of the target
abbrev pub laid_behind : Form → List ℕ → ℕ → ℕ → Option Message → List ℕ
laid_behind to target i sent (Some m) = appended to target i sent m
laid_behind to target i sent None = target

abbrev pub carried_one : Form → Form → List ℕ → List ℕ → ℕ → List ℕ
carried_one from to network target i = laid_behind to target i (held_at from network i).sent (stored from network i)

-- the first k messages of a network, one after the other
abbrev pub carried_first : Form → Form → List ℕ → List ℕ → ℕ → List ℕ
carried_first from to network target zero = target
carried_first from to network target (suc k) = carried_one from to network (carried_first from to network target k) k

-- r is the answer, and these are the words of the target afterwards
abbrev pub Carries : Form → State → List ℕ → Result (Unit {0}) ℕ → List ℕ → Type 0
Carries to s target r after = (r ≡ passed (carried_over to s target).check) × (after ≡ (carried_over to s target).target)
