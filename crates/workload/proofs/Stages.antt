-- A run opened here and altered by events only holds no view message, and no view certificate, of a view that is not initial: check 11 refuses the
-- delivery of no message held. Assumes nothing.
use mathlib.Core.Path.{refl, sym, ◌∙◌, subst}
use mathlib.Core.Bool.{Bool, true, false}
use mathlib.Core.Logic.{⊎_elim}
use mathlib.Core.List.{List, [], ◌++◌}
use Prim.Native.Nat.{ℕ, zero, suc, ◌+◌, ◌/◌, ◌≤◌, ◌<◌}
use native.Mathlib.Omega.{arith}
use lib.Dec.{T, ltb, T_not}
use lib.ListN.{length, length-replicate}
use Rattle.base.specs.Members.{Elem, elem-cases}
use Rattle.base.specs.Tests.{not-not, by_cond}
use Rattle.types.specs.declared.Plan.{Plan}
use Rattle.types.specs.declared.Message.{Message}
use Rattle.types.specs.declared.Message.TheVariants.{View, Vote, Vc, Qc}
use Rattle.types.specs.declared.Event.{Event}
use Rattle.types.specs.declared.Event.TheVariants.{Deliver, Sign, Show, Settle, Tick}
use Rattle.types.specs.declared.Run.{Run}
use Rattle.types.specs.declared.Setup.{Setup}
use Rattle.types.specs.Quantities.{n_most, width, lead, initial}
use Rattle.types.specs.Messages.{view_in, processor_in, stage_of}
use Rattle.model.specs.State.{State, After, view_of, is_correct, check_of, accepted, refused}
use Rattle.model.specs.Moves.{Change, changed, still, to_correct, entry_messages, entering, Entry, stay, into, by_quorum, by_view, taking, entries, forms, certificate, to_each, hearing, handling, advanced, arrival, arrivals, made}
use Rattle.model.specs.Checks.{not_initial, is_at, not_held, overfull}
use Rattle.model.specs.Opening.{blank, first_entry, opened, opening_checks, opening}
use Rattle.model.specs.Events.{without, delivering, signing, now_settled, tick_checks, tick_once, continued, ticks, tick_run, effect, applied}
use Rattle.liveness.proofs.Judging.{Passes, Passed, by-judged, by-applied, named-within}
use Rattle.liveness.proofs.Flight.{Sent, sent_as, stamped, Named, found_in, rest, rest_in}
use Rattle.liveness.proofs.Sending.{signature, in-stamped, elem-correct, At, entry-sent, each-got}
use Rattle.liveness.proofs.Wires.{wire-fits}
use Rattle.liveness.proofs.Link.{Wire, wire-found-at, wire-posted, wire-removed, wire-found}
use Rattle.liveness.proofs.Addressing.{Names, entries-names, handling-names, signing-names, arrivals-names, named_more}
use Rattle.liveness.proofs.Opens.{planned, opened-lengths, opened-tracked}
use Rattle.liveness.proofs.Promises.{opened-so}

-- ---- a message of a stage that takes place at its view

abbrev pub InPlace : Plan → Message → Type 0
InPlace plan m = At plan (stage_of m) (view_in m)

signature-in-place : (plan : Plan) (d : Bool) (w p : ℕ) → At plan d w → InPlace plan (signature d w p)
signature-in-place plan false w p a = a
signature-in-place plan true w p a = a

certificate-in-place : (plan : Plan) (d : Bool) (w p : ℕ) → At plan d w → InPlace plan (certificate d w p)
certificate-in-place plan false w p a = a
certificate-in-place plan true w p a = a

-- it is what check 11 asks
pub passed-in-place : (plan : Plan) (d : Bool) (w : ℕ) → (T (not_initial plan d w) → ⊥) → At plan d w
passed-in-place plan false w f = not-not (initial plan w) f
passed-in-place plan true w f = tt

pub in-place-passes : (plan : Plan) (d : Bool) (w : ℕ) → At plan d w → T (not_initial plan d w) → ⊥
in-place-passes plan false w a t = T_not (initial plan w) t a
in-place-passes plan true w a t = t

-- ---- what moves send

abbrev AllInPlace : Plan → List Message → Type 0
AllInPlace plan ms = (m : Message) → Elem m ms → InPlace plan m

module _ (r : Run) (t : List ℕ) where
  entering-in-place : (p w : ℕ) → AllInPlace r.plan (entering r t p w).sent
  unfolding entering
  entering-in-place p w m i =
      let d = entry-sent r.plan m w p (elem-correct r m (entry_messages r.plan p w) i).0 in
      subst (InPlace r.plan) (sym d.1) (signature-in-place r.plan d.0 w p d.2)

  hearing-in-place : (q : Bool) (w p : ℕ) → At r.plan q w → AllInPlace r.plan (hearing q r t w p).sent
  unfolding hearing
  hearing-in-place q w p a m = by_cond (λ (l : List Message). Elem m l → InPlace r.plan m) (forms q r t w p)
      (to_correct r.plan r.faulty (to_each q w r.plan.n)) []
      (λ _ i. let g = each-got q w r.plan.n m (elem-correct r m (to_each q w r.plan.n) i).0 in
      subst (InPlace r.plan) (sym g.2) (certificate-in-place r.plan q w g.0 a))
      (λ _ i. absurd i)

  taking-in-place : (p : ℕ) (e : Entry) → AllInPlace r.plan (taking r t p e).sent
  unfolding taking
  taking-in-place p stay = λ m i. absurd i
  taking-in-place p (into w) = entering-in-place p w

  handling-in-place : (m : Message) → InPlace r.plan m → AllInPlace r.plan (handling r t m).sent
  unfolding handling
  handling-in-place (View w p) a = hearing-in-place false w p a
  handling-in-place (Vote w p) a = hearing-in-place true w p a
  handling-in-place (Vc w p) a = taking-in-place p (by_view r.plan (view_of r p) w)
  handling-in-place (Qc w p) a = taking-in-place p (by_quorum (view_of r p) w)

entries-in-place : (e : ℕ → Entry) (r : Run) (t : List ℕ) (k : ℕ) → AllInPlace r.plan (entries e r t k).sent
unfolding entries
entries-in-place e r t zero m i = absurd i
entries-in-place e r t (suc k) m i =
    let c : Change = entries e r t k in
    ⊎_elim (entries-in-place e r t k m) (taking-in-place (changed r c) c.tally k (e k) m)
    (elem-cases m c.sent (taking (changed r c) c.tally k (e k)).sent i)

-- ---- what is held

pub record Staged (s : State) : Type 0 where
  pub messages : List Sent
  pub wire : Wire s.form s.network s.run.held messages
  pub in_place : (x : Sent) → Elem x messages → InPlace s.run.plan x.message
  pub named : Named messages
  pub few : s.run.plan.n ≤ n_most

-- a message at a place within them
pub staged-at : (s : State) → Staged s → (m : Message) (i : ℕ) → i < s.run.held → T (is_at s.form s.network m i) → InPlace s.run.plan m
staged-at s x m i l t =
    let found = wire-found-at x.wire x.named m i l t in x.in_place (sent_as m found.time) (found_in found)

made-staged : (s : State) (c : Change) → Staged s → AllInPlace s.run.plan c.sent → Names s.run.plan.n c.sent → (T (overfull s c) → ⊥)
    → Staged (made s c)
unfolding made
made-staged s c x sent names fits = record {
  messages = x.messages ++ stamped s.run.time c.sent;
  wire = wire-posted x.wire s.run.time c.sent fits;
  in_place = λ z i. ⊎_elim (x.in_place z) (λ j. sent z.message (in-stamped z.message z.time s.run.time c.sent j).1)
      (elem-cases z x.messages (stamped s.run.time c.sent) i);
  named = named_more x.messages s.run.time s.run.plan.n c.sent x.few x.named names;
  few = x.few;
}

without-staged : (s : State) (m : Message) → Staged s → (T (not_held s m) → ⊥) → Staged (without s m)
unfolding without
without-staged s m x is_held_lem =
    let found = wire-found s x.wire x.named m is_held_lem in
    record {
      messages = rest found;
      wire = wire-removed x.wire found;
      in_place = λ z i. x.in_place z (rest_in found z i);
      named = λ z i. x.named z (rest_in found z i);
      few = x.few;
    }

-- ---- events

once-staged : (s : State) → Staged s → Staged (tick_once s).state
unfolding tick_once arrivals
once-staged s x = by-judged (λ (a : After). Staged a.state) (refused s) (tick_checks s) _ (λ r. x)
    (λ c. made-staged (advanced s) (arrivals (advanced s)) (record { messages = x.messages; wire = x.wire; in_place = x.in_place; named = x.named; few = x.few })
    (entries-in-place (arrival (advanced s).run) (advanced s).run s.tally s.run.plan.n) (arrivals-names (advanced s)) c.1.1.0)

ticks-staged : (m : ℕ) (s : State) → Staged s → Staged (ticks m s).state
unfolding ticks
ticks-staged zero s x = x
ticks-staged (suc m) s x = go (check_of (tick_once s).answer) (ticks-staged m (tick_once s).state (once-staged s x))
  where
    go : (r : ℕ) → Staged (ticks m (tick_once s).state).state → Staged (continued s r (ticks m (tick_once s).state)).state
    go zero y = y
    go (suc r) y = x

effect-staged : (e : Event) (s : State) → Staged s → Passed e s → Staged (effect e s).state
unfolding effect delivering signing now_settled tick_run without
effect-staged (Deliver m) s x c =
    made-staged (without s m) (delivering s m) (without-staged s m x c.input.1.1.0)
    (handling-in-place (without s m).run s.tally m (passed-in-place (without s m).run.plan (stage_of m) (view_in m) c.input.1.0))
    (handling-names (without s m).run s.tally m (named-within s.run.plan (processor_in m) (view_in m) c.input.0).0) c.outcome.1.0
effect-staged (Sign m) s x c =
    made-staged s (signing s m) x
    (by_cond (λ (d : Change). AllInPlace s.run.plan d.sent) (is_correct s.run (lead s.run.plan (view_in m)))
    (handling s.run s.tally m) (still s.run s.tally)
    (λ t. handling-in-place s.run s.tally m (passed-in-place s.run.plan (stage_of m) (view_in m) c.input.1.0)) (λ t z i. absurd i))
    (signing-names s m (named-within s.run.plan (processor_in m) (view_in m) c.input.0).0) c.outcome.1.0
effect-staged (Show m) s x c =
    made-staged s (handling s.run s.tally m) x
    (handling-in-place s.run s.tally m (passed-in-place s.run.plan (stage_of m) (view_in m) c.input.1.0))
    (handling-names s.run s.tally m (named-within s.run.plan (processor_in m) (view_in m) c.input.0).0) c.outcome.1.0
effect-staged Settle s x c = record { messages = x.messages; wire = x.wire; in_place = x.in_place; named = x.named; few = x.few }
effect-staged (Tick m) s x c = ticks-staged m s x

pub event-staged : (s : State) → Staged s → (e : Event) → Staged (applied e s).state
event-staged s x e = by-applied (λ (a : After). Staged a.state) e s (λ r. x) (λ c. effect-staged e s x c)

-- ---- the opening

-- what was posted has room, since it stands there
first-room : (u : Setup) (s : State) → Passes (opening_checks u s)
    → T (overfull (blank u s) (entries (first_entry u) (blank u s).run (blank u s).tally u.plan.n)) → ⊥
unfolding opened blank made
first-room u s c t =
    let all : Change = entries (first_entry u) (blank u s).run (blank u s).tally u.plan.n in
    wire-fits (opened-tracked u s c).wire (subst (λ (n : ℕ). T (ltb (n / width s.form) (0 + length all.sent)))
    (length-replicate {A = ℕ} (length s.network) 0 ∙ sym (opened-lengths u s c).1) t)

blank-staged : (u : Setup) (s : State) → u.plan.n ≤ n_most → Staged (blank u s)
unfolding blank
blank-staged u s few = record {
  messages = [];
  wire = record { spare = length s.network; words = refl; number = refl };
  in_place = λ x i. absurd i;
  named = λ x i. absurd i;
  few = few;
}

opened-staged : (u : Setup) (s : State) → Passes (opening_checks u s) → Staged (opened u s)
unfolding opened blank
opened-staged u s c = made-staged (blank u s) (entries (first_entry u) (blank u s).run (blank u s).tally u.plan.n) (blank-staged u s (planned u s c).n_at_most)
    (entries-in-place (first_entry u) (blank u s).run (blank u s).tally u.plan.n)
    (entries-names (first_entry u) (blank u s).run (blank u s).tally u.plan.n u.plan.n (omega arith)) (first-room u s c)

pub opening-staged : (u : Setup) (s : State) → T (accepted (opening u s).answer) → Staged (opening u s).state
opening-staged u s t = let o = opened-so u s t in subst Staged (sym o.1) (opened-staged u s o.0)
