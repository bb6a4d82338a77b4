-- Words whose kinds are those of messages, with zeros beyond them, are those of a list of messages in flight. Assumes nothing.
use mathlib.Core.Path.{◌≡◌, refl, sym, ap, ap₂, ◌∙◌, subst}
use mathlib.Core.Bool.{not}
use mathlib.Core.Logic.{⊎_elim}
use mathlib.Core.List.{List, [], ◌∷◌, ◌++◌}
use Prim.Native.Nat.{ℕ, zero, suc, ◌+◌, ◌*◌, ◌≤◌, ◌<◌}
use native.Mathlib.Omega.{arith}
use lib.Dec.{T, eqb, eqb→eq}
use lib.ListN.{length, drop, replicate, length-drop}
use lib.Seq.{drop-drop}
use Rattle.base.specs.Members.{Elem}
use Rattle.base.specs.Tests.{not-not}
use Rattle.types.specs.declared.Message.{Message}
use Rattle.types.specs.declared.Form.{Form}
use Rattle.types.specs.Quantities.{width}
use Rattle.types.specs.Messages.{IsKind}
use Rattle.types.proofs.MessageLaws.{message-of}
use Rattle.model.specs.State.{Held, held_as, held_words, held_at}
use Rattle.model.specs.Checks.{some_non_zero}
use Rattle.liveness.proofs.Forms.{read-on, laid-back}
use Rattle.liveness.proofs.Flight.{Sent, sent_as, numbers, laid-front}
use Rattle.liveness.proofs.Link.{Wire}
use Rattle.liveness.proofs.Judging.{neither}

zeros : (ws : List ℕ) → (T (some_non_zero ws) → ⊥) → ws ≡ replicate (length ws) 0
zeros [] no' = refl
zeros (x ∷ ws) no' =
    let n = neither (not (eqb x 0)) (some_non_zero ws) no' in
    let e : x ≡ 0 = eqb→eq x 0 (not-not (eqb x 0) n.0) in
    ap (λ (y : ℕ). y ∷ ws) e ∙ ap (λ (l : List ℕ). 0 ∷ l) (zeros ws n.1)

-- numbers of which the first is a kind are those of a message
named : (h : Held) → IsKind h.kind → (m : Message) × (h ≡ held_as h.sent m)
named h is =
    let m = message-of h.kind h.view h.processor is in
    (m.0, λ i. record { kind = m.1 i; view = m.2 i; processor = m.3 i; sent = h.sent })

-- the messages of which the words are, P holding of each
pub record Seen (P : Sent → Type 0) (form : Form) (h : ℕ) (ws : List ℕ) : Type 0 where
  pub messages : List Sent
  pub wire : Wire form ws h messages
  pub each : (x : Sent) → Elem x messages → P x

-- where P holds of whatever is read at a place
pub seen : (P : Sent → Type 0) (form : Form) (h : ℕ) (ws : List ℕ) → width form * h ≤ length ws → ((i : ℕ) → i < h → IsKind (held_at form ws i).kind)
    → ((i : ℕ) (x : Sent) → i < h → held_at form ws i ≡ numbers x → P x) → (T (some_non_zero (drop (width form * h) ws)) → ⊥) → Seen P form h ws
seen P form zero ws long kinds holds tail = record {
  messages = [];
  wire = record { spare = length ws; words = zeros ws (subst (λ (k : ℕ). T (some_non_zero (drop k ws)) → ⊥) none tail); number = refl };
  each = λ x i. absurd i;
}
  where
    none : width form * 0 ≡ 0
    none = omega arith
seen P form (suc h) ws long kinds holds tail =
    go (seen P form h others (omega (arith, length-drop (width form) ws))
    (λ i l. subst (λ (x : Held). IsKind x.kind) (further i) (kinds (suc i) (omega arith)))
    (λ i x l e. holds (suc i) x (omega arith) (further i ∙ e)) (subst (λ (l : List ℕ). T (some_non_zero l) → ⊥) beyond tail))
    (named (held_at form ws 0) (kinds 0 (omega arith)))
  where
    others : List ℕ
    others = drop (width form) ws

    back : ws ≡ held_words form (held_at form ws 0) ++ others
    back = laid-back form ws (omega arith)

    further : (i : ℕ) → held_at form ws (suc i) ≡ held_at form others i
    further i = ap (λ (l : List ℕ). held_at form l (suc i)) back ∙ read-on form (held_at form ws 0) others i

    beyond : drop (width form * suc h) ws ≡ drop (width form * h) others
    beyond = let e : width form * suc h ≡ width form + width form * h = omega arith in rw e (sym (drop-drop (width form * h) (width form) ws))

    go : Seen P form h others → (m : Message) × (held_at form ws 0 ≡ held_as (held_at form ws 0).sent m) → Seen P form (suc h) ws
    go s m =
        let x : Sent = sent_as m.0 (held_at form ws 0).sent in
        record {
          messages = x ∷ s.messages;
          wire = record {
            spare = s.wire.spare;
            words = back ∙ ap₂ (λ (a : Held) (l : List ℕ). held_words form a ++ l) m.1 s.wire.words ∙ sym (laid-front form x s.messages s.wire.spare);
            number = ap suc s.wire.number;
          };
          each = λ y i. ⊎_elim (λ e. subst P (sym e) (holds 0 x (omega arith) m.1)) (λ j. s.each y j) i;
        }
