-- What is posted has packed words. Assumes nothing.
use mathlib.Core.Path.{◌≡◌, refl, sym, subst}
use mathlib.Core.Bool.{Bool, true, false, cond}
use mathlib.Core.List.{List, [], ◌∷◌}
use Prim.Native.Nat.{ℕ, ◌<◌}
use native.Mathlib.Omega.{arith}
use Rattle.base.specs.Members.{every_append, every_of}
use Rattle.base.specs.Tests.{fails, T_true}
use Rattle.types.specs.declared.Plan.{Plan}
use Rattle.types.specs.declared.Message.{Message}
use Rattle.types.specs.declared.Message.TheVariants.{View, Vote}
use Rattle.types.specs.declared.Form.TheVariants.{Packed}
use Rattle.types.specs.declared.Run.{Run}
use Rattle.types.specs.Quantities.{n_most}
use Rattle.model.specs.State.{clock_of, view_of, is_correct}
use Rattle.model.specs.Moves.{Change, to_correct, certificate, stay, into, entry_messages, entering, taking}
use Rattle.model.specs.Checks.{clock_outside}
use Rattle.liveness.proofs.Sending.{signature, elem-correct, entry-sent}
use Rattle.liveness.proofs.Link.{Planned}
use Rattle.liveness.proofs.Soundness.{InsideRun, in-view}
use Rattle.liveness.proofs.Addressing.{Sends}
use Rattle.buffers.specs.Network.{views_packable, packable, is-sayable}
use Rattle.simulator.specs.Inner.{AllPackable, Fit}
use Rattle.simulator.proofs.Sending.{goes, correct-yes, correct-no, correct-append}

-- nothing
pub none-packs : (plan : Plan) (faulty : ℕ) → AllPackable (to_correct plan faulty [])
unfolding to_correct
none-packs plan faulty = tt

-- one message, if it is posted
pub one-packs : (plan : Plan) (faulty : ℕ) (m : Message) → packable m ≡ true → AllPackable (to_correct plan faulty (m ∷ []))
one-packs plan faulty m e = go (goes plan faulty m) refl
  where
    go : (b : Bool) → goes plan faulty m ≡ b → AllPackable (to_correct plan faulty (m ∷ []))
    go true g = subst AllPackable (sym (correct-yes plan faulty m g)) (e, tt)
    go false g = subst AllPackable (sym (correct-no plan faulty m g)) tt

-- the two of an entry into an initial view
pub pair-packs : (plan : Plan) (faulty w p : ℕ) → w < views_packable → p < n_most → AllPackable (to_correct plan faulty (View w p ∷ Vote w p ∷ []))
pair-packs plan faulty w p v l = subst AllPackable (sym (correct-append plan faulty (View w p ∷ []) (Vote w p ∷ [])))
    (every_append (λ (m : Message). packable m ≡ true) (to_correct plan faulty (View w p ∷ [])) (to_correct plan faulty (Vote w p ∷ []))
    (one-packs plan faulty (View w p) (is-sayable Packed (View w p) v l)) (one-packs plan faulty (Vote w p) (is-sayable Packed (Vote w p) v l)))

pub certificate-packs : (plan : Plan) (faulty : ℕ) (stage : Bool) (w p : ℕ) → w < views_packable → p < n_most
    → AllPackable (to_correct plan faulty (certificate stage w p ∷ []))
certificate-packs plan faulty false w p v l = one-packs plan faulty (certificate false w p) (is-sayable Packed (certificate false w p) v l)
certificate-packs plan faulty true w p v l = one-packs plan faulty (certificate true w p) (is-sayable Packed (certificate true w p) v l)

-- what a change sends that names views and processors that there are
pub sends-pack : (r : Run) (t : List ℕ) (c : Change) → Planned r.plan r.faulty → Sends r t c → AllPackable c.sent
sends-pack r t c ok sends = every_of (λ (m : Message). packable m ≡ true) c.sent
    (λ m i. let a = sends.addressed m i in is-sayable Packed m (omega (arith, a.view_low, ok.views_at_most)) (omega (arith, a.processor_low, ok.n_at_most)))

-- what an entry sends, into a view that has packed words
signature-packs : (d : Bool) (w p : ℕ) → w < views_packable → p < n_most → packable (signature d w p) ≡ true
signature-packs false w p v l = is-sayable Packed (signature false w p) v l
signature-packs true w p v l = is-sayable Packed (signature true w p) v l

pub taking-packs : (r : Run) (t : List ℕ) (p w : ℕ) (b : Bool) → p < n_most → w < views_packable → AllPackable (taking r t p (cond b (into w) stay)).sent
unfolding taking entering
taking-packs r t p w false low small = tt
taking-packs r t p w true low small = every_of (λ (m : Message). packable m ≡ true) (to_correct r.plan r.faulty (entry_messages r.plan p w))
    (λ m i. let d = entry-sent r.plan m w p (elem-correct r m (entry_messages r.plan p w) i).0 in
    subst (λ (z : Message). packable z ≡ true) (sym d.1) (signature-packs d.0 w p small low))

pub inside-fit : (r : Run) → Fit r → InsideRun r
inside-fit r fit p c =
    in-view r.plan (clock_of r p) (view_of r p) (fails (clock_outside r.plan (clock_of r p) (view_of r p)) (fit.clocks p (T_true (is_correct r p) c)))
