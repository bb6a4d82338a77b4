-- Each event that does not settle the network is a run of the protocol. Assumes nothing.
use mathlib.Core.Path.{◌≡◌, refl, sym, ◌∙◌, path_j, ap}
use mathlib.Core.Bool.{Bool, true, false, cond}
use mathlib.Core.Logic.{◌⊎◌, inl, inr, ⊎_elim}
use mathlib.Core.List.{List}
use Prim.Native.Nat.{ℕ, zero, suc, ◌+◌, ◌-◌, ◌≤◌, ◌<◌}
use native.Mathlib.Omega.{arith}
use lib.Dec.{T, leb→le}
use lib.ListN.{length}
use Rattle.base.specs.Tests.{not-not, by_cond}
use Rattle.base.specs.Count.{count, count-ext}
use Rattle.base.specs.Sets.{member, size}
use Rattle.base.specs.SetLaws.{size-count}
use Rattle.protocol.specs.Params as proto
use Rattle.protocol.specs.Params.{Params}
use Rattle.protocol.specs.State.{Exists}
use Rattle.types.specs.declared.Plan.{Plan}
use Rattle.types.specs.declared.Message.{Message}
use Rattle.types.specs.declared.Message.TheVariants.{View, Vote, Vc, Qc}
use Rattle.types.specs.declared.Event.{Event}
use Rattle.types.specs.declared.Event.TheVariants.{Deliver, Sign, Show, Settle, Tick}
use Rattle.types.specs.declared.Traffic.{Traffic}
use Rattle.types.specs.Traffic.{traffic_delivered}
use Rattle.types.specs.Quantities.{lead, initial}
use Rattle.model.specs.State.{State, removed, After, is_correct, entered_word, word, check_of, refused}
use Rattle.model.specs.Moves.{Change, still, needed, certificate, hearing, handling, made}
use Rattle.model.specs.Checks.{place_of, not_held, exists, reaches_end, overfull}
use Rattle.model.specs.Events.{wait_of, without, delivering, signing, tick_checks, tick_once, continued, ticks, tick_run, effect, applied}
use Rattle.liveness.proofs.Flight.{Sent, In, sent_as, Found, found_in, rest, rest_in, in_rest}
use Rattle.liveness.proofs.Sending.{signature}
use Rattle.liveness.proofs.Link.{Planned, params, Wire, wire-removed, length_without, wire-found}
use Rattle.liveness.proofs.Hears.{needed-enough}
use Rattle.liveness.proofs.Tracks.{Tracked, Leads, stays, leads_on}
use Rattle.liveness.proofs.Naming.{tracked-named}
use Rattle.liveness.proofs.Reaches.{hear-leads, still-leads, view-certificate-leads, quorum-certificate-leads}
use Rattle.liveness.proofs.Ticks.{tick_leads}
use Rattle.liveness.proofs.Judging.{Passed, by-judged, by-applied, named-within}

module _ (s : State) (ok : Planned s.run.plan s.run.faulty) (x : Tracked s.run.plan s.run.faulty ok s) where
  abbrev plan : Plan
  plan = s.run.plan

  abbrev faulty : ℕ
  faulty = s.run.faulty

  abbrev π : Params
  π = params plan faulty ok

  abbrev To : State → Type 1
  To s' = Leads plan faulty ok s x s'

  same : To s
  same = stays plan faulty ok s x

  -- ---- deliver

  module _ (m : Message) (is_held : T (not_held s m) → ⊥) where
    found : Found x.messages m (place_of s m)
    found = wire-found s x.wire (tracked-named plan faulty ok s x) m is_held

    abbrev left : List Sent
    left = rest found

    kept-left : (m' : Message) (t : ℕ) → In m' t left → In m' t x.messages
    kept-left m' t i = rest_in found (sent_as m' t) i

    gone_one : (m' : Message) (t : ℕ) → In m' t x.messages → In m' t left ⊎ (m' ≡ m)
    gone_one m' t i = ⊎_elim (λ y. inl y) (λ e. inr (ap (λ (y : Sent). y.message) e)) (in_rest found (sent_as m' t) i)

    -- it was in flight
    was-there : In m found.time x.messages
    was-there = found_in found

    -- the run without it, and its network
    abbrev after_it : ℕ
    after_it = s.run.held - 1

    abbrev traffic_after : Traffic
    traffic_after = traffic_delivered s.run.traffic m (wait_of s m)

    abbrev network_after : List ℕ
    network_after = removed s.form s.network s.run.held (place_of s m)

    wire-after : Wire s.form network_after after_it left
    wire-after = wire-removed x.wire found

    length-after : length network_after ≡ length s.network
    length-after = length_without x.wire found

  signature-leads : (q : Bool) (w p : ℕ) (is_held : T (not_held s (signature q w p)) → ⊥) → (p < plan.n) × (w < plan.views)
      → (T (overfull (without s (signature q w p)) (hearing q (without s (signature q w p)).run s.tally w p)) → ⊥)
      → To (made (without s (signature q w p)) (hearing q (without s (signature q w p)).run s.tally w p))
  unfolding without proto.lead proto.row
  signature-leads q w p is_held n fits =
      let m : Message = signature q w p in
      let there = was-there m is_held in
      hear-leads s ok x (after_it m is_held) (traffic_after m is_held) (network_after m is_held) (left m is_held) (wire-after m is_held) (length-after m is_held) (kept-left m is_held)
      q w p n.1 n.0 (gone_one m is_held) (inr ((found m is_held).time, there)) (x.holds.flight.signed q w p (found m is_held).time there).1 fits

  -- a certificate in flight exists
  backed-exists : (q : Bool) (w p t : ℕ) → In (certificate q w p) t x.messages → Exists π x.processors x.tally q w × T (is_correct s.run p)
  backed-exists q w p t i = let b = x.holds.flight.backed q w p t i in (inl (x.holds.tally.formed_led q w b.0, b.0), b.1)

  deliver-leads : (m : Message) → Passed (Deliver m) s → To (made (without s m) (delivering s m))
  unfolding without delivering handling reaches_end
  deliver-leads (View w p) c = signature-leads false w p c.input.1.1.0 (named-within plan p w c.input.0) c.outcome.1.0
  deliver-leads (Vote w p) c = signature-leads true w p c.input.1.1.0 (named-within plan p w c.input.0) c.outcome.1.0
  deliver-leads (Vc w p) c =
      let m : Message = Vc w p in
      let is_held : T (not_held s m) → ⊥ = c.input.1.1.0 in
      let b = backed-exists false w p (found m is_held).time (was-there m is_held) in
      view-certificate-leads s ok x (after_it m is_held) (traffic_after m is_held) (network_after m is_held) (left m is_held) (wire-after m is_held) (length-after m is_held)
      (kept-left m is_held)
      w p b.1 (not-not (initial plan w) c.input.1.0) b.0 (gone_one m is_held) c.outcome.0 c.outcome.1.0
  deliver-leads (Qc w p) c =
      let m : Message = Qc w p in
      let is_held : T (not_held s m) → ⊥ = c.input.1.1.0 in
      let b = backed-exists true w p (found m is_held).time (was-there m is_held) in
      quorum-certificate-leads s ok x (after_it m is_held) (traffic_after m is_held) (network_after m is_held) (left m is_held) (wire-after m is_held) (length-after m is_held)
      (kept-left m is_held)
      w p b.1 b.0 (gone_one m is_held) c.outcome.0 c.outcome.1.0

  -- ---- sign

  -- a faulty processor's signature is heard by a correct leader, or by nobody
  heard-or-not : (q : Bool) (w p : ℕ) → (p < plan.n) × (w < plan.views) → (T (is_correct s.run p) → ⊥)
      → (T (overfull s (cond (is_correct s.run (lead plan w)) (hearing q s.run s.tally w p) (still s.run s.tally))) → ⊥)
      → To (made s (cond (is_correct s.run (lead plan w)) (hearing q s.run s.tally w p) (still s.run s.tally)))
  heard-or-not q w p n faulty-p = by_cond (λ (c : Change). (T (overfull s c) → ⊥) → To (made s c))
      (is_correct s.run (lead plan w)) (hearing q s.run s.tally w p) (still s.run s.tally)
      (λ l. hear-leads s ok x s.run.held s.run.traffic s.network x.messages x.wire refl (λ m t i. i) q w p n.1 n.0 (λ m t i. inl i) (inl faulty-p) l)
      (λ l. still-leads s ok x s.run.held s.run.traffic s.network x.messages x.wire refl (λ m t i. i) (λ m t i. inl i))

  sign-leads : (m : Message) → Passed (Sign m) s → To (made s (signing s m))
  unfolding signing handling
  sign-leads (View w p) c = heard-or-not false w p (named-within plan p w c.input.0) c.input.1.1.0 c.outcome.1.0
  sign-leads (Vote w p) c = heard-or-not true w p (named-within plan p w c.input.0) c.input.1.1.0 c.outcome.1.0
  sign-leads (Vc w p) c = absurd (c.form tt)
  sign-leads (Qc w p) c = absurd (c.form tt)

  -- ---- show

  -- document 01's existence of a certificate is the protocol's
  exists-so : (q : Bool) (w : ℕ) → w < plan.views → T (exists q s.run s.tally w) → Exists π x.processors x.tally q w
  unfolding exists proto.lead proto.row
  exists-so q w low = by_cond (λ (b : Bool). T b → Exists π x.processors x.tally q w) (is_correct s.run (lead plan w)) _ _
      (λ c t. inl (c, rw (x.books.formed q w low) t))
      (λ c t. let l : needed q plan ≤ size s.run.faulty + size (word s.tally w entered_word) = leb→le _ _ t in
      inr (c, needed-enough plan faulty ok q _ (rw counted at l)))
    where
      counted : size (word s.tally w entered_word) ≡ count plan.n (x.processors.entered w)
      counted = size-count plan.n (word s.tally w entered_word) (x.books.sets_below w entered_word low (omega arith))
          ∙ count-ext plan.n (member (word s.tally w entered_word)) (x.processors.entered w) (λ p l. sym (x.books.entered w p low))

  show-leads : (m : Message) → Passed (Show m) s → To (made s (handling s.run s.tally m))
  show-leads (View w p) c = absurd (c.form tt)
  show-leads (Vote w p) c = absurd (c.form tt)
  show-leads (Vc w p) c =
      let n = named-within plan p w c.input.0 in
      view-certificate-leads s ok x s.run.held s.run.traffic s.network x.messages x.wire refl (λ m t i. i) w p
      (not-not (is_correct s.run p) c.input.1.1.0)
      (not-not (initial plan w) c.input.1.0) (exists-so false w n.1 (not-not (exists false s.run s.tally w) c.input.1.1.1.0))
      (λ m t i. inl i)
      c.outcome.0 c.outcome.1.0
  show-leads (Qc w p) c =
      let n = named-within plan p w c.input.0 in
      quorum-certificate-leads s ok x s.run.held s.run.traffic s.network x.messages x.wire refl (λ m t i. i) w p
      (not-not (is_correct s.run p) c.input.1.1.0)
      (exists-so true w n.1 (not-not (exists true s.run s.tally w) c.input.1.1.1.0)) (λ m t i. inl i)
      c.outcome.0 c.outcome.1.0

  once-leads : To (tick_once s).state
  unfolding tick_once
  once-leads = by-judged (λ (a : After). To a.state) (refused s) (tick_checks s) _
      (λ r. same) (λ c. tick_leads s ok x c.0 c.1.0 c.1.1.0)

-- ---- for any name of the run's plan and faulty set

pub at-own-plan {κ} : (Q : (plan : Plan) (faulty : ℕ) (ok : Planned plan faulty) (s : State) → Tracked plan faulty ok s → Type κ)
    → ((s : State) (ok : Planned s.run.plan s.run.faulty) (x : Tracked s.run.plan s.run.faulty ok s) → Q s.run.plan s.run.faulty ok s x)
    → (plan : Plan) (faulty : ℕ) (ok : Planned plan faulty) (s : State) (x : Tracked plan faulty ok s) → Q plan faulty ok s x
at-own-plan Q h _ faulty ok s x =
    path_j (λ (pl : Plan) _. (fa : ℕ) → s.run.faulty ≡ fa → (o : Planned pl fa) (y : Tracked pl fa o s) → Q pl fa o s y)
    (λ fa e. path_j (λ (fa' : ℕ) _. (o : Planned s.run.plan fa') (y : Tracked s.run.plan fa' o s) → Q s.run.plan fa' o s y) (λ o y. h s o y) e)
    x.plan_is faulty x.faulty_is ok x

module _ (plan : Plan) (faulty : ℕ) (ok : Planned plan faulty) where
  tick-once-leads : (s : State) (x : Tracked plan faulty ok s) → Leads plan faulty ok s x (tick_once s).state
  tick-once-leads = at-own-plan (λ plan' faulty' ok' s x. Leads plan' faulty' ok' s x (tick_once s).state) (λ s ok' x. once-leads s ok' x) plan faulty ok

  ticks-lead : (m : ℕ) (s : State) (x : Tracked plan faulty ok s) → Leads plan faulty ok s x (ticks m s).state
  unfolding ticks
  ticks-lead zero s x = stays plan faulty ok s x
  ticks-lead (suc m) s x =
      let a = tick-once-leads s x in
      go (check_of (tick_once s).answer) (leads_on plan faulty ok a (ticks-lead m (tick_once s).state a.to))
    where
      go : (r : ℕ) → Leads plan faulty ok s x (ticks m (tick_once s).state).state
          → Leads plan faulty ok s x (continued s r (ticks m (tick_once s).state)).state
      go zero l = l
      go (suc r) l = stays plan faulty ok s x

-- the events that do not settle
abbrev pub Moving : Event → Type 0
Moving (Deliver m) = Unit {0}
Moving (Sign m) = Unit {0}
Moving (Show m) = Unit {0}
Moving Settle = ⊥
Moving (Tick m) = Unit {0}

-- an event whose checks all pass
effect-leads : (s : State) (ok : Planned s.run.plan s.run.faulty) (x : Tracked s.run.plan s.run.faulty ok s) (e : Event) → Moving e
    → Passed e s → Leads s.run.plan s.run.faulty ok s x (effect e s).state
unfolding effect tick_run
effect-leads s ok x (Deliver m) v c = deliver-leads s ok x m c
effect-leads s ok x (Sign m) v c = sign-leads s ok x m c
effect-leads s ok x (Show m) v c = show-leads s ok x m c
effect-leads s ok x Settle v c = absurd v
effect-leads s ok x (Tick m) v c = ticks-lead s.run.plan s.run.faulty ok m s x

pub event-leads : (plan : Plan) (faulty : ℕ) (ok : Planned plan faulty) (e : Event) → Moving e → (s : State) (x : Tracked plan faulty ok s)
    → Leads plan faulty ok s x (applied e s).state
event-leads plan faulty ok e v = at-own-plan (λ plan' faulty' ok' s x. Leads plan' faulty' ok' s x (applied e s).state)
    (λ s ok' x. by-applied (λ (a : After). Leads s.run.plan s.run.faulty ok' s x a.state) e s (λ r. same s ok' x) (effect-leads s ok' x e v))
    plan faulty ok
