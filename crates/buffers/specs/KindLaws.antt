-- What a decoded message says of its words, and an unknown one of its kind. Assumes nothing.
use Rattle.std.specs.Prelude.{◌≡◌, refl, Bool, true, false, List, ℕ, zero, suc, ◌<◌, T, eqb, ltb, None, Option, Some}
use Rattle.std.proofs.Common.{subst, arith, eqb→eq, lt-ltb, le-ltb}
use Rattle.base.specs.Choice.{or-second, or-neither}
use Rattle.base.specs.Tests.{by_cond}
use Rattle.types.specs.declared.Message.{Message}
use Rattle.types.specs.declared.Form.{Form}
use Rattle.types.specs.declared.Message.TheVariants.{View, Vote, Vc, Qc}
use Rattle.types.specs.Messages.{kind_least, kind_most, IsKind}
use Rattle.model.specs.State.{Held, held_as, held_at, capacity}
use Rattle.model.specs.Checks.{kind_outside}
use Rattle.buffers.specs.Kinds.{stored_as, stored}

pub kind-inside : (k : ℕ) → IsKind k → kind_outside k ≡ false
kind-inside k x = or-neither (ltb k kind_least) (ltb kind_most k) (le-ltb k kind_least x.0) (le-ltb kind_most k x.1)

-- what the answer says of the numbers that are held
abbrev Says : Held → Option Message → Type 0
Says h (Some m) = h ≡ held_as h.sent m
Says h None = kind_outside h.kind ≡ true

outside : (kind : ℕ) → (T (eqb kind 1) → ⊥) → (T (eqb kind 2) → ⊥) → (T (eqb kind 3) → ⊥) → (T (eqb kind 4) → ⊥) → kind_outside kind ≡ true
outside zero a b c d = refl
outside (suc zero) a b c d = absurd (a tt)
outside (suc (suc zero)) a b c d = absurd (b tt)
outside (suc (suc (suc zero))) a b c d = absurd (c tt)
outside (suc (suc (suc (suc zero)))) a b c d = absurd (d tt)
outside (suc (suc (suc (suc (suc k))))) a b c d =
    let kind : ℕ = suc (suc (suc (suc (suc k)))) in
    let l : kind_most < kind = omega arith in
    or-second (ltb kind kind_least) (ltb kind_most kind) (lt-ltb kind_most kind l)

says : (h : Held) → Says h (stored_as h.kind h.view h.processor)
says h =
    by_cond (Says h) (eqb h.kind 1) (Some (View h.view h.processor)) _ (of-kind 1) λ a.
    by_cond (Says h) (eqb h.kind 2) (Some (Vote h.view h.processor)) _ (of-kind 2) λ b.
    by_cond (Says h) (eqb h.kind 3) (Some (Vc h.view h.processor)) _ (of-kind 3) λ c.
    by_cond (Says h) (eqb h.kind 4) (Some (Qc h.view h.processor)) None (of-kind 4) λ d. outside h.kind a b c d
  where
    of-kind : (k : ℕ) → T (eqb h.kind k) → h ≡ record { kind = k; view = h.view; processor = h.processor; sent = h.sent }
    of-kind k t = λ i. record { kind = eqb→eq h.kind k t i; view = h.view; processor = h.processor; sent = h.sent }

abbrev unknown : Option Message → Bool
unknown (Some m) = false
unknown None = true

-- the words are those of the message
pub stored-holds : (form : Form) (ws : List ℕ) (i : ℕ) (m : Message) → stored form ws i ≡ Some m → held_at form ws i ≡ held_as (held_at form ws i).sent m
stored-holds form ws i m e =
    let h : Held = held_at form ws i in
    by_cond (λ (s : Option Message). s ≡ Some m → Says h (Some m)) (ltb i (capacity form ws)) (stored_as h.kind h.view h.processor) None
    (λ t q. subst (Says h) q (says h)) (λ t q. absurd (subst (λ (s : Option Message). T (unknown s)) q tt)) e

-- the kind is out of range
pub stored-unknown : (form : Form) (ws : List ℕ) (i : ℕ) → i < capacity form ws → stored form ws i ≡ None → kind_outside (held_at form ws i).kind ≡ true
stored-unknown form ws i l e = subst (Says (held_at form ws i)) (rw (lt-ltb i (capacity form ws) l) at e) (says (held_at form ws i))
