-- A processor's step told in the words of its record. Assumes nothing.
use Rattle.std.specs.Prelude.{Ok, Result}
use mathlib.Core.Path.{◌≡◌, refl, sym, ap, ◌∙◌, subst}
use mathlib.Core.List.{List, [], ◌∷◌, ◌++◌}
use Prim.Native.Nat.{ℕ}
use native.Mathlib.Omega.{arith}
use lib.ListN.{length, drop}
use borrow.Author.Tests.{eq-eqb}
use Rattle.base.specs.Choice.{cond_yes}
use Rattle.base.specs.Tests.{by_cond}
use Rattle.types.specs.declared.Plan.{Plan}
use Rattle.types.specs.declared.Message.{Message}
use Rattle.types.specs.declared.Message.TheVariants.{View, Vote}
use Rattle.types.specs.declared.Processor.{Processor}
use Rattle.types.specs.declared.Input.{Input}
use Rattle.types.specs.declared.Sends.{Sends}
use Rattle.types.specs.Quantities.{initial}
use Rattle.model.specs.Moves.{Entry, stay, into}
use Rattle.model.specs.Checks.{Check, judged}
use Rattle.model.specs.Processors.{Moved, Gives, messages_of, moving, clock_at, entry_by, step_checks, refusing, stepped}
use Rattle.writer.specs.Stamps.{Stamped}
use Rattle.fever.specs.Layout.{record_length}
use Rattle.fever.specs.Clauses.{record_words, messages_for, messages_told, StepsWords}
use Rattle.fever.proofs.Laying.{laid}

-- how many messages it sends tells which, for the view that it is in
abbrev Tells : Moved → Type 0
Tells m = messages_for m.processor.number m.processor.view (length m.sent) ≡ m.sent

moving-tells : (plan : Plan) (p clock view : ℕ) (e : Entry) → Tells (moving plan p clock view e)
moving-tells plan p clock view stay = refl
moving-tells plan p clock view (into w) =
    by_cond (λ (l : List Message). messages_for p w (length l) ≡ l) (initial plan w) (View w p ∷ Vote w p ∷ []) (Vote w p ∷ []) (λ t. refl) (λ t. refl)

judged-tells : (c : Processor) (cs : List Check) (m : Moved) → Tells m → Tells (judged (refusing c) cs m)
judged-tells c [] m h = h
judged-tells c (k ∷ ks) m h = by_cond Tells k.1 (refusing c k.0) (judged (refusing c) ks m) (λ t. refl) (λ t. judged-tells c ks m h)

stepped-tells : (plan : Plan) (c : Processor) (i : Input) → messages_for (stepped plan c i).processor.number (stepped plan c i).processor.view (length (stepped plan c i).sent) ≡ (stepped plan c i).sent
unfolding stepped
stepped-tells plan c i =
    let next : Moved = moving plan c.number (clock_at c i) c.view (entry_by plan c i) in
    judged-tells c (step_checks plan c i next.processor.clock) next (moving-tells plan c.number (clock_at c i) c.view (entry_by plan c i))

-- what an accepted step leaves
left : (m : Moved) (c : Processor) (x : Sends) (k : ℕ) → Gives m c (Ok x) → ((p : ℕ) → k ≡ length (messages_of p x))
    → c.number ∷ c.clock ∷ c.view ∷ k ∷ [] ≡ record_words m
left m c x k g n = rw (n c.number, g.sent, g.processor)

sent-steps : (m : Moved) (c : Processor) (x : Sends) (k : ℕ) (d e : List ℕ) (b : ℕ) → Gives m c (Ok x) → ((p : ℕ) → k ≡ length (messages_of p x))
    → messages_for m.processor.number m.processor.view (length m.sent) ≡ m.sent
    → Stamped d 0 (c.number ∷ c.clock ∷ c.view ∷ k ∷ []) b e → StepsWords m d 0 e
sent-steps m c x k d e b g n h s =
    let q : e ≡ record_words m ++ drop record_length d =
    laid d e (c.number ∷ c.clock ∷ c.view ∷ k ∷ []) b record_length refl s ∙ ap (λ (l : List ℕ). l ++ drop record_length d) (left m c x k g n) in
    record {
      check = g.check;
      words = cond_yes _ _ _ _ (eq-eqb _ _ (sym g.check)) q;
      sends = λ z. subst (λ (l : List ℕ). messages_told l ≡ m.sent) (sym q) h;
    }

-- the step of the record q that p was read as
pub takes-sent : (plan : Plan) (p q : Processor) (i : Input) (c : Processor) (y : Result Sends ℕ) (x : Sends) (k : ℕ) (d e : List ℕ) (b : ℕ) → p ≡ q → Gives (stepped plan p i) c y → y ≡ Ok x
    → ((p : ℕ) → k ≡ length (messages_of p x)) → Stamped d 0 (c.number ∷ c.clock ∷ c.view ∷ k ∷ []) b e → StepsWords (stepped plan q i) d 0 e
takes-sent plan p q i c y x k d e b h g z n s =
    subst (λ (r : Processor). StepsWords (stepped plan r i) d 0 e) h
    (sent-steps (stepped plan p i) c x k d e b (subst (Gives (stepped plan p i) c) z g) n (stepped-tells plan p i) s)

-- an input or a record that is none
pub refusing-steps : (c : Processor) (d : List ℕ) → StepsWords (refusing c 1) d 1 d
refusing-steps c d = record { check = refl; words = refl; sends = λ z. absurd (omega arith) }
