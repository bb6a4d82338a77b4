-- The messages held by kind: posting adds to them, a delivery takes one away. Of any run and buffers: what check 9 refuses stays. Assumes nothing.
use mathlib.Core.Path.{◌≡◌, refl, ap, ap₂, ◌∙◌}
use mathlib.Core.Bool.{Bool}
use mathlib.Core.Logic.{inl, inr}
use mathlib.Core.List.{List, [], ◌∷◌, ◌++◌}
use Prim.Native.Nat.{ℕ, suc, ◌+◌, ◌≤◌, ◌<◌}
use native.Mathlib.Omega.{arith}
use lib.Dec.{T, eqb}
use lib.ListN.{length}
use Rattle.base.specs.Count.{bit, count, count-ext, count_low, count-start}
use Rattle.types.specs.declared.Message.{Message}
use Rattle.types.specs.declared.Event.{Event}
use Rattle.types.specs.declared.Event.TheVariants.{Deliver, Sign, Show, Settle, Tick}
use Rattle.types.specs.declared.Form.{Form}
use Rattle.types.specs.declared.Setup.{Setup}
use Rattle.types.specs.Quantities.{n_most}
use Rattle.types.specs.Messages.{view_in, processor_in}
use Rattle.model.specs.State.{State, Held, held_at, held_in}
use Rattle.model.specs.Moves.{Change, entries, handling, advanced, arrivals, made}
use Rattle.model.specs.Checks.{named_outside, not_held, overfull, place_of}
use Rattle.model.specs.Opening.{blank, first_entry, opened, opening_checks}
use Rattle.model.specs.Events.{without, now_settled, delivering, signing, ticks, tick_run, effect, applied}
use Rattle.model.specs.Lists.{after}
use Rattle.model.specs.Traffic.{ticks_posted, posting, posted_in, delivered_by, delivered_in, posted_during, delivered_during, posted_first, of_kind, held_of_kind}
use Rattle.liveness.proofs.Flight.{Sent, sent_as, laid, stamped, Named, laid-first, laid_on, Found, rest, rest_in}
use Rattle.liveness.proofs.Link.{Wire, wire-posted, wire-removed, wire-found}
use Rattle.liveness.proofs.Judging.{Passes, Passed, named-within}
use Rattle.liveness.proofs.Opens.{planned, room, first-wire}
use Rattle.liveness.proofs.Soundness.{sound-of}
use Rattle.liveness.proofs.Lasting.{lasts-of, lasts-planned, lasts-named}
use Rattle.liveness.proofs.Addressing.{Names, entries-names, handling-names, signing-names, arrivals-names, named_more}
use Rattle.liveness.proofs.Counting.{kind-append}
use Rattle.liveness.proofs.Flows.{by-ticks, by-flow}

-- ---- the words of a list of messages in flight

abbrev messages_of : List Sent → List Message
messages_of [] = []
messages_of (x ∷ xs) = x.message ∷ messages_of xs

of-stamped : (now : ℕ) (ms : List Message) → messages_of (stamped now ms) ≡ ms
of-stamped now [] = refl
of-stamped now (m ∷ ms) = ap (λ (l : List Message). m ∷ l) (of-stamped now ms)

of-both : (a b : List Sent) → messages_of (a ++ b) ≡ messages_of a ++ messages_of b
of-both [] b = refl
of-both (x ∷ a) b = ap (λ (l : List Message). x.message ∷ l) (of-both a b)

module _ (k : ℕ) where
  -- how many of those in flight are of the kind
  abbrev flying : List Sent → ℕ
  flying xs = of_kind k (messages_of xs)

  flying-both : (a b : List Sent) → flying (a ++ b) ≡ flying a + flying b
  flying-both a b = ap (of_kind k) (of-both a b) ∙ kind-append k (messages_of a) (messages_of b)

  abbrev is_kind : Held → Bool
  is_kind h = eqb h.kind k

  module _ (form : Form) where
    laid-kinds : (xs : List Sent) (z : ℕ) → Named xs → count (length xs) (λ i. is_kind (held_at form (laid form xs z) i)) ≡ flying xs
    laid-kinds [] z named = count-start (λ i. is_kind (held_at form (laid form [] z) i))
    laid-kinds (x ∷ xs) z named =
        count_low (length xs) (λ i. is_kind (held_at form (laid form (x ∷ xs) z) i))
        ∙ ap₂ (λ (b : Bool) (n : ℕ). bit b + n) (ap is_kind (laid-first form x xs z (named x (inl refl))))
        (count-ext (length xs) (λ i. is_kind (held_at form (laid form (x ∷ xs) z) (suc i))) (λ i. is_kind (held_at form (laid form xs z) i))
        (λ i l. ap is_kind (laid_on form x xs z i))
        ∙ laid-kinds xs z (λ y i. named y (inr i)))

  wire-kinds : (s : State) {xs : List Sent} → Wire s.form s.network s.run.held xs → Named xs → held_of_kind s k ≡ flying xs
  wire-kinds s {xs} wire named = rw (wire.words, wire.number) (laid-kinds s.form xs wire.spare named)

  -- ---- posting, and taking out

  module _ (s : State) {xs : List Sent} (wire : Wire s.form s.network s.run.held xs) (named : Named xs) where
    made-kinds : (c : Change) → s.run.plan.n ≤ n_most → Names s.run.plan.n c.sent → (T (overfull s c) → ⊥)
        → held_of_kind (made s c) k ≡ held_of_kind s k + of_kind k c.sent
    unfolding made
    made-kinds c most names fits =
        wire-kinds (made s c) (wire-posted wire s.run.time c.sent fits)
        (named_more xs s.run.time s.run.plan.n c.sent most named names)
        ∙ flying-both xs (stamped s.run.time c.sent) ∙ omega (arith, wire-kinds s wire named, ap (of_kind k) (of-stamped s.run.time c.sent))

    module _ (m : Message) (is_held_lem : T (not_held s m) → ⊥) where
      found : Found xs m (place_of s m)
      found = wire-found s wire named m is_held_lem

      without-wire : Wire (without s m).form (without s m).network (without s m).run.held (rest found)
      unfolding without
      without-wire = wire-removed wire found

      without-named : Named (rest found)
      without-named x i = named x (rest_in found x i)

      without-kinds : held_of_kind (without s m) k + of_kind k (m ∷ []) ≡ held_of_kind s k
      without-kinds = omega (
        arith,
        wire-kinds s wire named,
        wire-kinds (without s m) without-wire without-named,
        ap flying found.split,
        flying-both found.ahead (sent_as m found.time ∷ found.behind),
        flying-both found.ahead found.behind,
      )

  -- ---- every event

  -- from s on, whatever the messages in flight, those of the list are posted until s'
  abbrev Posts : State → State → List Message → Type 0
  Posts s s' ms =
      (xs : List Sent) → Wire s.form s.network s.run.held xs → Named xs → s.run.plan.n ≤ n_most
      → held_of_kind s' k ≡ held_of_kind s k + of_kind k ms

  ticks-kinds : (m : ℕ) (s : State) → Posts s (ticks m s).state (ticks_posted m s)
  unfolding made
  ticks-kinds = by-ticks Posts (λ s xs wire named most. omega arith) (λ s c s' ms ih xs wire named most.
      let a : State = advanced s in
      let d : Change = arrivals a in
      omega (
        arith,
        ih (xs ++ stamped a.run.time d.sent) (wire-posted wire a.run.time d.sent c.1.1.0)
            (named_more xs a.run.time a.run.plan.n d.sent most named (arrivals-names a)) most,
        made-kinds a wire named d most (arrivals-names a) c.1.1.0,
        kind-append k d.sent ms,
      ))

  module _ (s : State) (xs : List Sent) (wire : Wire s.form s.network s.run.held xs) (named : Named xs) (most : s.run.plan.n ≤ n_most) where
    named-low : (m : Message) → (T (named_outside s.run.plan (processor_in m) (view_in m)) → ⊥) → processor_in m < s.run.plan.n
    named-low m no' = (named-within s.run.plan (processor_in m) (view_in m) no').0

    effect-kinds : (e : Event) → Passed e s → held_of_kind (effect e s).state k + of_kind k (delivered_by e) ≡ held_of_kind s k + of_kind k (posting e s)
    unfolding effect posting delivering without now_settled tick_run
    effect-kinds (Deliver m) c =
        let h : T (not_held s m) → ⊥ = c.input.1.1.0 in
        omega (
          arith,
          without-kinds s wire named m h,
          made-kinds (without s m) (without-wire s wire named m h) (without-named s wire named m h) (delivering s m) most
              (handling-names (without s m).run s.tally m (named-low m c.input.0)) c.outcome.1.0,
        )
    effect-kinds (Sign m) c =
        omega (arith, made-kinds s wire named (signing s m) most (signing-names s m (named-low m c.input.0)) c.outcome.1.0)
    effect-kinds (Show m) c =
        omega (
          arith,
          made-kinds s wire named (handling s.run s.tally m) most (handling-names s.run s.tally m (named-low m c.input.0))
              c.outcome.1.0,
        )
    effect-kinds Settle c = refl
    effect-kinds (Tick m) c = omega (arith, ticks-kinds m s xs wire named most)

-- sent and held before is delivered and held afterwards: of one event, and of events in turn
event-kinds : (k : ℕ) (e : Event) (s : State)
    → held_of_kind (applied e s).state k + of_kind k (delivered_in e s) ≡ held_of_kind s k + of_kind k (posted_in e s)
event-kinds k e s = by-flow e s (λ s' ms ds w. held_of_kind s' k + of_kind k ds ≡ held_of_kind s k + of_kind k ms) refl
    (λ c. let x = lasts-of s (sound-of s c.sound) in effect-kinds k s x.messages x.wire (lasts-named s x) (lasts-planned s x).n_at_most e c)

pub kinds-during : (k : ℕ) (es : List Event) (s : State)
    → held_of_kind s k + of_kind k (posted_during s es) ≡ of_kind k (delivered_during s es) + held_of_kind (after s es) k
unfolding after posted_during delivered_during
kinds-during k [] s = omega arith
kinds-during k (e ∷ es) s =
    let s' : State = (applied e s).state in
    omega (
      arith,
      event-kinds k e s,
      kinds-during k es s',
      kind-append k (posted_in e s) (posted_during s' es),
      kind-append k (delivered_in e s) (delivered_during s' es),
    )

-- what an accepted opening leaves is what it has posted
pub opened-kinds : (k : ℕ) (u : Setup) (s : State) → Passes (opening_checks u s) → held_of_kind (opened u s) k ≡ of_kind k (posted_first u s)
unfolding opened blank
opened-kinds k u s c =
    let b : State = blank u s in
    made-kinds k b (first-wire u s c) (λ x i. absurd i) (entries (first_entry u) b.run b.tally u.plan.n) (planned u s c).n_at_most
    (entries-names (first_entry u) b.run b.tally u.plan.n u.plan.n (omega arith)) (room u s c)
    ∙ omega (arith, count-start (λ i. is_kind k (held_in b i)))
