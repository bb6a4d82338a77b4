-- The words of a message are those of no other. Assumes nothing.
use Rattle.std.specs.Prelude.{Some}
use mathlib.Core.Path.{◌≡◌, refl, ap, ◌∙◌}
use mathlib.Core.List.{List}
use Prim.Native.Nat.{ℕ, ◌<◌}
use borrow.Author.Tests.{lt-ltb}
use Rattle.types.specs.declared.Message.{Message}
use Rattle.types.specs.declared.Form.{Form}
use Rattle.types.specs.declared.Message.TheVariants.{View, Vote, Vc, Qc}
use Rattle.types.specs.Messages.{kind_of, view_in, processor_in}
use Rattle.model.specs.State.{Held, held_as, held_at, capacity}
use Rattle.buffers.specs.Kinds.{stored_as, stored}

pub stored_back : (m : Message) → stored_as (kind_of m) (view_in m) (processor_in m) ≡ Some m
stored_back (View w p) = refl
stored_back (Vote w p) = refl
stored_back (Vc w p) = refl
stored_back (Qc w p) = refl

-- so what is held as a message is decoded as it
pub held-stored : (form : Form) (ws : List ℕ) (i : ℕ) (m : Message) (sent : ℕ) → i < capacity form ws → held_at form ws i ≡ held_as sent m → stored form ws i ≡ Some m
held-stored form ws i m sent l e = rw (lt-ltb i (capacity form ws) l) (ap (λ (h : Held). stored_as h.kind h.view h.processor) e ∙ stored_back m)
