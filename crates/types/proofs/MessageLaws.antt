-- Kind, view and processor are a message. Assumes nothing.
use mathlib.Core.Path.{◌≡◌, refl, ap, ◌∙◌}
use mathlib.Core.Logic.{⊎_elim}
use Prim.Native.Nat.{ℕ}
use native.Mathlib.Omega.{arith}
use Rattle.base.specs.Tests.{eq?}
use Rattle.types.specs.declared.Message.{Message}
use Rattle.types.specs.declared.Message.TheVariants.{View, Vote, Vc, Qc}
use Rattle.types.specs.Messages.{kind_of, view_in, processor_in, IsKind}

pub kind-of-message : (m : Message) → IsKind (kind_of m)
kind-of-message (View w p) = (omega arith, omega arith)
kind-of-message (Vote w p) = (omega arith, omega arith)
kind-of-message (Vc w p) = (omega arith, omega arith)
kind-of-message (Qc w p) = (omega arith, omega arith)

-- three numbers, the first a kind, are those of a message
pub message-of : (k w p : ℕ) → IsKind k → (m : Message) × (k ≡ kind_of m) × (w ≡ view_in m) × (p ≡ processor_in m)
message-of k w p is = ⊎_elim (λ (e : k ≡ 1). (View w p, e, refl, refl)) (λ n1.
    ⊎_elim (λ (e : k ≡ 2). (Vote w p, e, refl, refl)) (λ n2.
    ⊎_elim (λ (e : k ≡ 3). (Vc w p, e, refl, refl)) (λ n3. (Qc w p, omega (arith, is.0, is.1), refl, refl)) (eq? k 3)) (eq? k 2)) (eq? k 1)

-- and of no other
pub same-message : (a b : Message) → kind_of a ≡ kind_of b → view_in a ≡ view_in b → processor_in a ≡ processor_in b → a ≡ b
same-message (View w p) (View v q) k e f = ap (View w) f ∙ ap (λ (x : ℕ). View x q) e
same-message (View w p) (Vote v q) k e f = absurd (omega arith)
same-message (View w p) (Vc v q) k e f = absurd (omega arith)
same-message (View w p) (Qc v q) k e f = absurd (omega arith)
same-message (Vote w p) (View v q) k e f = absurd (omega arith)
same-message (Vote w p) (Vote v q) k e f = ap (Vote w) f ∙ ap (λ (x : ℕ). Vote x q) e
same-message (Vote w p) (Vc v q) k e f = absurd (omega arith)
same-message (Vote w p) (Qc v q) k e f = absurd (omega arith)
same-message (Vc w p) (View v q) k e f = absurd (omega arith)
same-message (Vc w p) (Vote v q) k e f = absurd (omega arith)
same-message (Vc w p) (Vc v q) k e f = ap (Vc w) f ∙ ap (λ (x : ℕ). Vc x q) e
same-message (Vc w p) (Qc v q) k e f = absurd (omega arith)
same-message (Qc w p) (View v q) k e f = absurd (omega arith)
same-message (Qc w p) (Vote v q) k e f = absurd (omega arith)
same-message (Qc w p) (Vc v q) k e f = absurd (omega arith)
same-message (Qc w p) (Qc v q) k e f = ap (Qc w) f ∙ ap (λ (x : ℕ). Qc x q) e
