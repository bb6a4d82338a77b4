-- Which message the words at a place are: "kind (1 view, 2 vote, 3 view certificate, 4 quorum certificate), view, cabinet, sending time".
use Rattle.std.specs.Prelude.{cond, List, ℕ, eqb, ltb, None, Option, Some}
use Rattle.types.specs.declared.Form.{Form}
use Rattle.types.specs.declared.Message.TheVariants.{View, Vote, Vc, Qc}
use Rattle.model.specs.State.{held_at, capacity}
use Rattle.types.specs.declared.Message.{Message}

-- any other kind is that of no message
abbrev pub stored_as : ℕ → ℕ → ℕ → Option Message
stored_as kind w p =
    cond (eqb kind 1) (Some (View w p))
    (cond (eqb kind 2) (Some (Vote w p))
    (cond (eqb kind 3) (Some (Vc w p))
    (cond (eqb kind 4) (Some (Qc w p)) None)))

-- by the words of message i
abbrev pub stored_here : Form → List ℕ → ℕ → Option Message
stored_here form ws i = let h = held_at form ws i in stored_as h.kind h.view h.processor

-- message i, where so many fit
abbrev pub stored : Form → List ℕ → ℕ → Option Message
stored form ws i = cond (ltb i (capacity form ws)) (stored_here form ws i) None
