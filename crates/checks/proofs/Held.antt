-- What check 9 asks of a held message, by what its words decode to. Assumes nothing.
use Rattle.std.specs.Prelude.{None, Some}
use mathlib.Core.Path.{◌≡◌, sym, ap, ◌∙◌}
use mathlib.Core.Bool.{Bool, true, false, ◌||◌}
use mathlib.Core.List.{List}
use Prim.Native.Nat.{ℕ, ◌<◌}
use Rattle.base.specs.Scan.{some}
use Rattle.types.specs.declared.Plan.{Plan}
use Rattle.types.specs.declared.Message.{Message}
use Rattle.types.specs.declared.Form.{Form}
use Rattle.types.specs.declared.Run.{Run}
use Rattle.types.specs.Messages.{kind_of}
use Rattle.types.proofs.MessageLaws.{kind-of-message}
use Rattle.model.specs.State.{state_in, held_as, held_at, capacity}
use Rattle.model.specs.Checks.{kind_outside, held_unsound, message_unsound}
use Rattle.buffers.specs.Kinds.{stored}
use Rattle.buffers.specs.KindLaws.{kind-inside, stored-holds, stored-unknown}
use Rattle.checks.specs.Scans.{flying}

-- a message is of a kind: four tests are left, in turn
module _ (m : Message) (v p a s : Bool) where
  of-kind : kind_outside (kind_of m) ≡ false
  of-kind = kind-inside (kind_of m) (kind-of-message m)

  pub four1 : v ≡ true → true ≡ (kind_outside (kind_of m) || v || p || a || s)
  four1 x = rw (of-kind, x)

  pub four2 : v ≡ false → p ≡ true → true ≡ (kind_outside (kind_of m) || v || p || a || s)
  four2 x y = rw (of-kind, x, y)

  pub four3 : v ≡ false → p ≡ false → a ≡ true → true ≡ (kind_outside (kind_of m) || v || p || a || s)
  four3 x y z = rw (of-kind, x, y, z)

  pub four4 : v ≡ false → p ≡ false → a ≡ false → s ≡ (kind_outside (kind_of m) || v || p || a || s)
  four4 x y z = rw (of-kind, x, y, z)

module _ (form : Form) (plan : Plan) (faulty time : ℕ) (ws : List ℕ) (i : ℕ) where
  -- of no kind
  pub kind-unsound : i < capacity form ws → stored form ws i ≡ None → message_unsound (flying form plan faulty time ws) i ≡ true
  unfolding message_unsound
  kind-unsound l e = rw (stored-unknown form ws i l e)

  -- a message, asked with its sending time
  pub held-unsound : (m : Message) (sent : ℕ) (r : Bool) → stored form ws i ≡ Some m → sent ≡ (held_at form ws i).sent → r ≡ held_unsound plan faulty time (held_as sent m)
      → r ≡ message_unsound (flying form plan faulty time ws) i
  unfolding message_unsound
  held-unsound m sent r e q x =
      x ∙ ap (λ (t : ℕ). held_unsound plan faulty time (held_as t m)) q ∙ ap (held_unsound plan faulty time) (sym (stored-holds form ws i m e))

-- the rest of the run does not matter
pub some-flying : (form : Form) (r : Run) (t ws : List ℕ) (k : ℕ) {plan : Plan} → plan ≡ r.plan
    → some (message_unsound (flying form plan r.faulty r.time ws)) k ≡ some (message_unsound (state_in form r t ws)) k
unfolding message_unsound
some-flying form r t ws k e = ap (λ (p : Plan). some (message_unsound (flying form p r.faulty r.time ws)) k) e
