-- Which messages the moves send. Assumes nothing.
use mathlib.Core.Path.{◌≡◌, refl, ap}
use mathlib.Core.Bool.{Bool, true, false}
use mathlib.Core.Logic.{◌⊎◌, inl, inr, ⊎_elim}
use mathlib.Core.List.{List, [], ◌∷◌, ◌++◌}
use Prim.Native.Nat.{ℕ, zero, suc, ◌<◌}
use native.Mathlib.Omega.{arith}
use lib.Dec.{T}
use Rattle.base.specs.Members.{Elem, elem-left, elem-right, elem-cases}
use Rattle.base.specs.Tests.{le?, by_cond}
use Rattle.types.specs.declared.Plan.{Plan}
use Rattle.types.specs.declared.Message.{Message}
use Rattle.types.specs.declared.Message.TheVariants.{View, Vote}
use Rattle.types.specs.declared.Run.{Run}
use Rattle.types.specs.Quantities.{lead, initial}
use Rattle.types.specs.Messages.{kind_of, view_in, processor_in, addressee}
use Rattle.model.specs.State.{is_correct}
use Rattle.model.specs.Moves.{to_correct, entry_messages, certificate, to_each}
use Rattle.liveness.proofs.Flight.{sent_as, Sent, In, stamped}

-- what a processor signs at a stage: its view message, or its vote
abbrev pub signature : Bool → ℕ → ℕ → Message
signature false w p = View w p
signature true w p = Vote w p

pub signature_is : (d q : Bool) (w v r p : ℕ) → signature d w r ≡ signature q v p → (d ≡ q) × (w ≡ v) × (r ≡ p)
signature_is false false w v r p e = (refl, ap view_in e, ap processor_in e)
signature_is false true w v r p e = absurd (omega (arith, ap kind_of e))
signature_is true false w v r p e = absurd (omega (arith, ap kind_of e))
signature_is true true w v r p e = (refl, ap view_in e, ap processor_in e)

pub certificate-is : (d q : Bool) (w v r p : ℕ) → certificate d w r ≡ certificate q v p → (d ≡ q) × (w ≡ v) × (r ≡ p)
certificate-is false false w v r p e = (refl, ap view_in e, ap processor_in e)
certificate-is false true w v r p e = absurd (omega (arith, ap kind_of e))
certificate-is true false w v r p e = absurd (omega (arith, ap kind_of e))
certificate-is true true w v r p e = (refl, ap view_in e, ap processor_in e)

pub apart : (d q : Bool) (w v r p : ℕ) → signature d w r ≡ certificate q v p → ⊥
apart false false w v r p e = omega (arith, ap kind_of e)
apart false true w v r p e = omega (arith, ap kind_of e)
apart true false w v r p e = omega (arith, ap kind_of e)
apart true true w v r p e = omega (arith, ap kind_of e)

-- whom a message is for
abbrev pub meant : Plan → Message → ℕ
meant plan m = addressee plan (kind_of m) (view_in m) (processor_in m)

pub signature-meant : (plan : Plan) (d : Bool) (w p : ℕ) → meant plan (signature d w p) ≡ lead plan w
signature-meant plan false w p = refl
signature-meant plan true w p = refl

pub certificate-meant : (plan : Plan) (d : Bool) (w p : ℕ) → meant plan (certificate d w p) ≡ p
certificate-meant plan false w p = refl
certificate-meant plan true w p = refl

-- ---- messages that are sent

pub in-stamped : (m : Message) (s now : ℕ) (ms : List Message) → In m s (stamped now ms) → (s ≡ now) × Elem m ms
in-stamped m s now [] i = absurd i
in-stamped m s now (x ∷ ms) (inl e) = (ap (λ (y : Sent). y.time) e, inl (ap (λ (y : Sent). y.message) e))
in-stamped m s now (x ∷ ms) (inr i) = let r = in-stamped m s now ms i in (r.0, inr r.1)

pub stamped-in : (m : Message) (now : ℕ) (ms : List Message) → Elem m ms → In m now (stamped now ms)
stamped-in m now [] i = absurd i
stamped-in m now (x ∷ ms) (inl e) = inl (ap (λ (y : Message). sent_as y now) e)
stamped-in m now (x ∷ ms) (inr i) = inr (stamped-in m now ms i)

pub elem-correct : (r : Run) (m : Message) (ms : List Message) → Elem m (to_correct r.plan r.faulty ms) → Elem m ms × T (is_correct r (meant r.plan m))
unfolding to_correct
elem-correct r m [] i = absurd i
elem-correct r m (x ∷ ms) i =
    by_cond (λ (l : List Message). Elem m l → Elem m (x ∷ ms) × T (is_correct r (meant r.plan m))) (is_correct r (meant r.plan x))
    (x ∷ to_correct r.plan r.faulty ms) (to_correct r.plan r.faulty ms)
    (λ t j. ⊎_elim (λ e. (inl e, rw e t)) (λ k. let y = elem-correct r m ms k in (inr y.0, y.1)) j)
    (λ t j. let y = elem-correct r m ms j in (inr y.0, y.1)) i

pub correct-elem : (r : Run) (m : Message) (ms : List Message) → Elem m ms → T (is_correct r (meant r.plan m)) → Elem m (to_correct r.plan r.faulty ms)
unfolding to_correct
correct-elem r m [] i c = absurd i
correct-elem r m (x ∷ ms) i c =
    by_cond (λ (l : List Message). Elem m l) (is_correct r (meant r.plan x)) (x ∷ to_correct r.plan r.faulty ms) (to_correct r.plan r.faulty ms)
    (λ t. ⊎_elim (λ e. inl e) (λ k. inr (correct-elem r m ms k c)) i)
    (λ t. ⊎_elim (λ e. absurd (t (rw e at c))) (λ k. correct-elem r m ms k c) i)

-- ---- what is sent on entering a view, and of a certificate

-- the stage takes place at this view
abbrev pub At : Plan → Bool → ℕ → Type 0
At plan false w = T (initial plan w)
At plan true w = Unit {0}

pub entry-sends : (plan : Plan) (d : Bool) (w p : ℕ) → At plan d w → Elem (signature d w p) (entry_messages plan p w)
entry-sends plan false w p i =
    by_cond (Elem (View w p)) (initial plan w) (View w p ∷ Vote w p ∷ []) (Vote w p ∷ []) (λ t. inl refl) (λ t. absurd (t i))
entry-sends plan true w p i =
    by_cond (Elem (Vote w p)) (initial plan w) (View w p ∷ Vote w p ∷ []) (Vote w p ∷ []) (λ t. inr (inl refl)) (λ t. inl refl)

pub entry-sent : (plan : Plan) (m : Message) (w p : ℕ) → Elem m (entry_messages plan p w) → (d : Bool) × (m ≡ signature d w p) × At plan d w
entry-sent plan m w p i =
    by_cond (λ (l : List Message). Elem m l → (d : Bool) × (m ≡ signature d w p) × At plan d w) (initial plan w) (View w p ∷ Vote w p ∷ []) (Vote w p ∷ [])
    (λ t j. ⊎_elim (λ e. (false, e, t)) (λ k. ⊎_elim (λ e. (true, e, tt)) (λ b. absurd b) k) j)
    (λ t j. ⊎_elim (λ e. (true, e, tt)) (λ b. absurd b) j) i

pub each-gets : (d : Bool) (w k q : ℕ) → q < k → Elem (certificate d w q) (to_each d w k)
unfolding to_each
each-gets d w zero q l = absurd (omega arith)
each-gets d w (suc k) q l = go (each-gets d w k q) (le? (suc q) k)
  where
    go : (q < k → Elem (certificate d w q) (to_each d w k)) → (q < k) ⊎ (k < suc q) → Elem (certificate d w q) (to_each d w k ++ (certificate d w k ∷ []))
    go ih (inl h) = elem-left (certificate d w q) (to_each d w k) (certificate d w k ∷ []) (ih h)
    go ih (inr h) = let e : q ≡ k = omega arith in elem-right (certificate d w q) (to_each d w k) (certificate d w k ∷ []) (inl (ap (certificate d w) e))

pub each-got : (d : Bool) (w k : ℕ) (m : Message) → Elem m (to_each d w k) → (q : ℕ) × (q < k) × (m ≡ certificate d w q)
unfolding to_each
each-got d w zero m i = absurd i
each-got d w (suc k) m i = go (each-got d w k m) (elem-cases m (to_each d w k) (certificate d w k ∷ []) i)
  where
    go : (Elem m (to_each d w k) → (q : ℕ) × (q < k) × (m ≡ certificate d w q)) → Elem m (to_each d w k) ⊎ Elem m (certificate d w k ∷ [])
        → (q : ℕ) × (q < suc k) × (m ≡ certificate d w q)
    go ih (inl j) = let r = ih j in (r.0, omega (arith, r.1), r.2)
    go ih (inr (inl e)) = (k, omega arith, e)
    go ih (inr (inr b)) = absurd b
