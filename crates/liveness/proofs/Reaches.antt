-- A signature or a certificate that reaches whom it is for, and leaves the flight or not, is a step of the protocol. Assumes nothing.
use mathlib.Core.Path.{◌≡◌, refl, ◌∙◌}
use mathlib.Core.Bool.{Bool, true, false, ◌&&◌, cond}
use mathlib.Core.Logic.{◌⊎◌, inl, inr, ⊎_elim}
use mathlib.Core.List.{List, [], ◌++◌}
use Prim.Native.Nat.{ℕ, ◌≤◌, ◌<◌}
use native.Mathlib.Omega.{arith}
use lib.Dec.{T, leb, ltb, leb→le, le→leb, ltb→lt, lt→ltb}
use lib.ListN.{length}
use Rattle.base.specs.Members.{elem-left, elem-cases}
use Rattle.base.specs.Tests.{T-right, T_and, le?, by_cond}
use Rattle.protocol.specs.Params.{Params}
use Rattle.protocol.specs.State.{onward, Exists}
use Rattle.protocol.specs.Moves.{Reason, by_certificate}
use Rattle.protocol.specs.Runs.{none, more, hears, enters, passes}
use Rattle.types.specs.declared.Plan.{Plan}
use Rattle.types.specs.declared.Message.{Message}
use Rattle.types.specs.declared.Message.TheVariants.{Vc, Qc}
use Rattle.types.specs.declared.Traffic.{Traffic}
use Rattle.types.specs.Quantities.{lead, initial}
use Rattle.model.specs.State.{State, with_run, with_network, with_held, with_traffic, view_of, is_correct, entered_word}
use Rattle.model.specs.Moves.{Change, still, Entry, stay, into, certificate, entering, taking, hearing, handling, made}
use Rattle.model.specs.Checks.{reaches_end, overfull}
use Rattle.liveness.proofs.TallyLaws.{length-added}
use Rattle.liveness.proofs.Flight.{Sent, In, stamped, sent_as}
use Rattle.liveness.proofs.Sending.{signature, apart, certificate-is, At}
use Rattle.liveness.proofs.Link.{Planned, params, to-starts, Wire, wire-posted, length-posted}
use Rattle.liveness.proofs.Enters.{entrants, enter-books, sent_to, entered}
use Rattle.liveness.proofs.Soundness.{Inside}
use Rattle.liveness.proofs.Clocks.{view_low, entered_inside}
use Rattle.liveness.proofs.Hears.{length_to, hearers, hear-books, sent_of, heard}
use Rattle.liveness.proofs.Tracks.{Tracked, tracked_inside, Leads, arrives}

module _ (s : State) (ok : Planned s.run.plan s.run.faulty) (x : Tracked s.run.plan s.run.faulty ok s) where
  abbrev plan : Plan
  plan = s.run.plan

  abbrev faulty : ℕ
  faulty = s.run.faulty

  abbrev π : Params
  π = params plan faulty ok

  abbrev To : State → Type 1
  To s' = Leads plan faulty ok s x s'

  -- a network with the messages ys, of which none is new
  module _ (h : ℕ) (traffic : Traffic) (ws : List ℕ) (ys : List Sent) (wire : Wire s.form ws h ys) (same_length : length ws ≡ length s.network)
      (kept : (m : Message) (t : ℕ) → In m t ys → In m t x.messages) where
    abbrev s₁ : State
    s₁ = with_run (with_traffic traffic (with_held h s.run)) (with_network ws s)

    -- a leader hears a signature
    pub hear-leads : (q : Bool) (w p : ℕ) → w < plan.views → p < plan.n → ((m : Message) (t : ℕ) → In m t x.messages → In m t ys ⊎ (m ≡ signature q w p))
        → (T (is_correct s.run p) → ⊥) ⊎ ((t : ℕ) × In (signature q w p) t x.messages) → T (is_correct s.run (lead plan w))
        → (T (overfull s₁ (hearing q s₁.run s.tally w p)) → ⊥) → To (made s₁ (hearing q s₁.run s.tally w p))
    unfolding made hearing
    hear-leads q w p w-low p-low gone from led fits =
        arrives plan faulty ok x (made s₁ (hearing q s₁.run s.tally w p)) refl refl refl
        (ys ++ stamped s.run.time (sent_of q s₁.run s.tally ok x.books w p w-low p-low s.run.time x.messages ys kept gone from
        led)) x.processors
        (hearers q s₁.run s.tally ok x.books w p w-low p-low)
        (wire-posted wire s.run.time _ fits)
        (hear-books q s₁.run s.tally ok x.books w p w-low p-low)
        (more none (hears q w p (heard q s₁.run s.tally ok x.books w p w-low p-low s.run.time x.messages ys kept gone from led)))
        x.ready x.below (length_to q s₁.run s.tally ok x.books w p w-low p-low)
        (length-posted wire s.run.time _ fits ∙ same_length)

    -- nothing moves, but certificates may leave the flight at processors that are past them
    pub still-leads : ((m : Message) (t : ℕ) → In m t x.messages → In m t ys
        ⊎ ((d : Bool) × (u : ℕ) × (r : ℕ) × (m ≡ certificate d u r) × (onward d u ≤ view_of s.run r)))
        → (T (overfull s₁ (still s₁.run s.tally)) → ⊥) → To (made s₁ (still s₁.run s.tally))
    unfolding made
    still-leads gone fits =
        arrives plan faulty ok x (made s₁ (still s₁.run s.tally)) refl refl refl (ys ++ []) x.processors x.tally
        (wire-posted wire s.run.time [] fits) x.books
        (more none (passes (record {
          signature_old = λ d u r t i. ⊎_elim (λ y. elem-left (sent_as (signature d u r) t) ys [] y) (λ y. absurd (apart d y.0 u y.1 r y.2 y.3))
              (gone (signature d u r) t i);
          signature_new = λ d u r t i. kept (signature d u r) t (back (signature d u r) t i);
          certificate_old = λ d u r t i. ⊎_elim (λ y. inl (elem-left (sent_as (certificate d u r) t) ys [] y))
              (λ y. let e = certificate-is d y.0 u y.1 r y.2 y.3 in
              inr (rw (e.0, e.1, e.2) (omega (arith, x.books.view y.2, y.4)))) (gone (certificate d u r) t i);
          certificate_new = λ d u r t i. kept (certificate d u r) t (back (certificate d u r) t i);
        })))
        x.ready x.below refl (length-posted wire s.run.time [] fits ∙ same_length)
      where
        back : (m : Message) (t : ℕ) → In m t (ys ++ []) → In m t ys
        back m t i = ⊎_elim (λ y. y) (λ y. absurd y) (elem-cases (sent_as m t) ys [] i)

    -- a certificate that exists reaches a correct processor, which enters a view or is past it
    module _ (q : Bool) (w p : ℕ) (c : T (is_correct s.run p)) (at : At plan q w)
        (exists-here : Exists π x.processors x.tally q w)
        (gone : (m : Message) (t : ℕ) → In m t x.messages → In m t ys ⊎ (m ≡ certificate q w p)) where
      abbrev taken : Entry → Change
      taken e = taking s₁.run s.tally p e

      abbrev Safely : Entry → Type 1
      Safely e = (T (reaches_end s₁.run (taken e)) → ⊥) → (T (overfull s₁ (taken e)) → ⊥) → To (made s₁ (taken e))

      enter-leads : view_of s.run p < onward q w → Safely (into (onward q w))
      unfolding taking made entering
      enter-leads above not_end fits =
          arrives plan faulty ok x (made s₁ (taken (into u))) refl refl refl
          (ys ++ stamped s.run.time (sent_to s₁.run s.tally ok x.books p u c low s.run.time x.messages ys kept lost why))
          (entrants s₁.run s.tally ok x.books p u c low) x.tally
          (wire-posted wire s.run.time _ fits)
          (enter-books s₁.run s.tally ok x.books p u c low)
          (more none (enters p u (entered s₁.run s.tally ok x.books p u c low s.run.time x.messages ys kept lost why)))
          (λ q cq. (inside-to q cq).ready) (λ q cq. (inside-to q cq).below)
          (length-added s.tally u entered_word p)
          (length-posted wire s.run.time _ fits ∙ same_length)
        where
          u : ℕ
          u = onward q w

          low : onward q w < plan.views
          low = view_low s₁.run s.tally ok x.books.clocks_long x.books.views_long (tracked_inside plan faulty ok s x) p (onward q w) c
              (omega arith) not_end

          inside-to : Inside plan faulty (entering s₁.run s.tally p (onward q w)).clocks (entering s₁.run s.tally p (onward q w)).views
          inside-to = entered_inside s₁.run s.tally ok x.books.clocks_long x.books.views_long (tracked_inside plan faulty ok s x) p (onward q w) c
              (omega arith) not_end

          lost : (m : Message) (t : ℕ) → In m t x.messages → In m t ys ⊎ ((d : Bool) × (v : ℕ) × (m ≡ certificate d v p) × (onward d v ≤ onward q w))
          lost m t i = ⊎_elim (λ y. inl y) (λ y. inr (q, w, y, omega arith)) (gone m t i)

          why : Reason π x.processors x.tally p (onward q w)
          why = by_certificate q w refl (omega (arith, x.books.view p)) (to-starts plan faulty ok q w at) exists-here

      pass-leads : onward q w ≤ view_of s.run p → Safely stay
      unfolding taking
      pass-leads past not_end fits = still-leads (λ m t i. ⊎_elim (λ y. inl y) (λ y. inr (q, w, p, y, past)) (gone m t i)) fits

      certificate-leads : (b : Bool) → (T b → view_of s.run p < onward q w) → ((T b → ⊥) → onward q w ≤ view_of s.run p)
          → Safely (cond b (into (onward q w)) stay)
      certificate-leads b above past = by_cond Safely b (into (onward q w)) stay (λ t. enter-leads (above t)) (λ t. pass-leads (past t))

    pub view-certificate-leads : (w p : ℕ) → T (is_correct s.run p) → T (initial plan w) → Exists π x.processors x.tally false w
        → ((m : Message) (t : ℕ) → In m t x.messages → In m t ys ⊎ (m ≡ Vc w p))
        → (T (reaches_end s₁.run (handling s₁.run s.tally (Vc w p))) → ⊥) → (T (overfull s₁ (handling s₁.run s.tally (Vc w p))) → ⊥)
        → To (made s₁ (handling s₁.run s.tally (Vc w p)))
    unfolding handling
    view-certificate-leads w p c i ex gone = certificate-leads false w p c i ex gone (initial plan w && ltb (view_of s.run p) w)
        (λ t. ltb→lt _ _ (T-right (initial plan w) _ t))
        (λ t. ⊎_elim (λ (l : w ≤ view_of s.run p). l) (λ (l : view_of s.run p < w). absurd (t (T_and (initial plan w) _ i (lt→ltb _ _ l))))
        (le? w (view_of s.run p)))

    pub quorum-certificate-leads : (w p : ℕ) → T (is_correct s.run p) → Exists π x.processors x.tally true w
        → ((m : Message) (t : ℕ) → In m t x.messages → In m t ys ⊎ (m ≡ Qc w p))
        → (T (reaches_end s₁.run (handling s₁.run s.tally (Qc w p))) → ⊥) → (T (overfull s₁ (handling s₁.run s.tally (Qc w p))) → ⊥)
        → To (made s₁ (handling s₁.run s.tally (Qc w p)))
    unfolding handling
    quorum-certificate-leads w p c ex gone = certificate-leads true w p c tt ex gone (leb (view_of s.run p) w)
        (λ t. let l : view_of s.run p ≤ w = leb→le _ _ t in omega arith)
        (λ t. ⊎_elim (λ (l : view_of s.run p ≤ w). absurd (t (le→leb _ _ l))) (λ (l : w < view_of s.run p). omega arith) (le? (view_of s.run p) w))
