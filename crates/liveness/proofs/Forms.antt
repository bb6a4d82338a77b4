-- A held message is read back from its words, in any form of the network, one message behind the other. Assumes nothing.
use mathlib.Core.Path.{◌≡◌, refl, ap}
use mathlib.Core.List.{List, [], ◌∷◌, ◌++◌}
use Prim.Native.Nat.{ℕ, suc, ◌+◌, ◌*◌, ◌≤◌, ◌<◌}
use native.Mathlib.Omega.{arith}
use lib.ListN.{length, drop}
use Rattle.types.specs.declared.Plan.{Plan}
use Rattle.types.specs.declared.Form.{Form}
use Rattle.types.specs.declared.Form.TheVariants.{Wide, Packed}
use Rattle.types.specs.Quantities.{n_most, width, network_least}
use Rattle.types.specs.Messages.{IsKind}
use Rattle.model.specs.State.{Held, held_words, held_at}
use Rattle.model.specs.FormLaws.{kind-unpacked, view-unpacked, processor-unpacked, packed-again}

-- what every form can hold
pub record Holdable (h : Held) : Type 0 where
  pub kind : IsKind h.kind
  pub processor : h.processor < n_most

pub read_back : (form : Form) (h : Held) (ws : List ℕ) → Holdable h → held_at form (held_words form h ++ ws) 0 ≡ h
read_back Wide h ws can = refl
read_back Packed h ws can = λ i. record {
  kind = kind-unpacked h.kind h.view h.processor can.kind can.processor i;
  view = view-unpacked h.kind h.view h.processor can.kind can.processor i;
  processor = processor-unpacked h.kind h.view h.processor can.processor i;
  sent = h.sent;
}

-- the sending time, whatever stands before it
pub time-back : (form : Form) (h : Held) (ws : List ℕ) → (held_at form (held_words form h ++ ws) 0).sent ≡ h.sent
time-back Wide h ws = refl
time-back Packed h ws = refl

pub read-on : (form : Form) (h : Held) (ws : List ℕ) (i : ℕ) → held_at form (held_words form h ++ ws) (suc i) ≡ held_at form ws i
read-on Wide h ws i =
    let e0 : 4 * suc i ≡ suc (suc (suc (suc (4 * i)))) = omega arith in
    let e1 : 4 * suc i + 1 ≡ suc (suc (suc (suc (4 * i + 1)))) = omega arith in
    let e2 : 4 * suc i + 2 ≡ suc (suc (suc (suc (4 * i + 2)))) = omega arith in
    let e3 : 4 * suc i + 3 ≡ suc (suc (suc (suc (4 * i + 3)))) = omega arith in
    rw (e1, e2, e3, e0)
read-on Packed h ws i =
    let e0 : 2 * suc i ≡ suc (suc (2 * i)) = omega arith in
    let e1 : 2 * suc i + 1 ≡ suc (suc (2 * i + 1)) = omega arith in
    rw (e1, e0)

-- what is read is what was laid down
pub laid-back : (form : Form) (ws : List ℕ) → width form ≤ length ws → ws ≡ held_words form (held_at form ws 0) ++ drop (width form) ws
laid-back Wide [] l = absurd (omega arith)
laid-back Wide (k ∷ []) l = absurd (omega arith)
laid-back Wide (k ∷ w ∷ []) l = absurd (omega arith)
laid-back Wide (k ∷ w ∷ p ∷ []) l = absurd (omega arith)
laid-back Wide (k ∷ w ∷ p ∷ t ∷ ws) l = refl
laid-back Packed [] l = absurd (omega arith)
laid-back Packed (x ∷ []) l = absurd (omega arith)
laid-back Packed (x ∷ t ∷ ws) l = ap (λ (y : ℕ). y ∷ t ∷ ws) (packed-again x t)

-- the least network has room for two messages of each processor
pub least-twice : (form : Form) (plan : Plan) → width form * (2 * plan.n) ≡ network_least form plan
least-twice Wide plan = omega arith
least-twice Packed plan = omega arith
