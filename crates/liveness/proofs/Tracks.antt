-- Between events: what holds of a run that the protocol tracks, and where an event leads it. Assumes nothing.
use mathlib.Core.Path.{◌≡◌, refl, ap, ◌∙◌, subst}
use mathlib.Core.Bool.{Bool, false, not, ◌||◌}
use mathlib.Core.List.{List}
use Prim.Native.Nat.{ℕ, ◌*◌, ◌≤◌}
use native.Mathlib.Omega.{arith}
use lib.Dec.{T}
use lib.ListN.{length}
use Rattle.protocol.specs.Params.{Params}
use Rattle.protocol.specs.State.{Processors, Tally}
use Rattle.protocol.specs.Base.{Base}
use Rattle.protocol.specs.Runs.{St, st, Steps, none, steps-trans, steps-kept, steps-flag}
use Rattle.protocol.proofs.RunsUp.{steps-clock-up}
use Rattle.protocol.proofs.RunKeeps.{steps-holds}
use Rattle.types.specs.declared.Plan.{Plan}
use Rattle.types.specs.declared.Form.{Form}
use Rattle.types.specs.Quantities.{correct}
use Rattle.model.specs.State.{State, clock_of}
use Rattle.model.specs.Checks.{plan_outside, faulty_outside, lengths_outside, limits_broken}
use Rattle.liveness.proofs.Flight.{Sent}
use Rattle.liveness.proofs.Link.{Planned, params, flight, Wire, Books, Ready, Below}
use Rattle.liveness.proofs.Soundness.{Inside}

-- the limits of a run, by the lengths of what is lent
abbrev pub limits_for : Form → Plan → ℕ → ℕ → ℕ → Bool
limits_for form p faulty a b = plan_outside p || faulty_outside p faulty || lengths_outside form p a b

module _ (plan : Plan) (faulty : ℕ) (ok : Planned plan faulty) where
  abbrev π : Params
  π = params plan faulty ok

  -- a state of the protocol agrees with the run and the buffers, and the invariants hold
  pub record Tracked (s : State) : Type 0 where
    pub plan_is : s.run.plan ≡ plan
    pub faulty_is : s.run.faulty ≡ faulty
    pub messages : List Sent
    pub processors : Processors
    pub tally : Tally
    pub wire : Wire s.form s.network s.run.held messages
    pub books : Books plan s.run.clocks s.run.views s.tally processors tally
    pub holds : Base π processors tally (flight messages) s.run.time s.run.gst s.run.settled
    pub ready : Ready plan faulty s.run.clocks s.run.views
    pub below : Below plan faulty s.run.clocks
    -- no correct clock is behind the time
    pub early : (p : ℕ) → T (correct plan faulty p) → s.run.time ≤ clock_of s.run p
    -- an unsettled run has the settling time 0
    pub unsettled : T (not s.run.settled) → s.run.gst ≡ 0
    pub limits : limits_broken s ≡ false

  -- its clocks are within their views
  pub tracked_inside : (s : State) → Tracked s → Inside plan faulty s.run.clocks s.run.views
  tracked_inside s x p c = record {
    below = x.below p c;
    low = omega (arith, x.holds.processors.low p c, x.books.clock p, ap (λ (y : ℕ). y * plan.gamma) (x.books.view p));
    ready = x.ready p c;
  }

  abbrev pub tracked_state : (s : State) → Tracked s → St
  tracked_state s x = st x.processors x.tally (flight x.messages) s.run.time s.run.gst s.run.settled

  -- an event that does not settle the network leads from s to s'
  pub record Leads (s : State) (x : Tracked s) (s' : State) : Type 1 where
    pub to : Tracked s'
    pub way : Steps π (tracked_state s x) (tracked_state s' to)
    pub tally_length : length s'.tally ≡ length s.tally
    pub network_length : length s'.network ≡ length s.network

  pub stays : (s : State) (x : Tracked s) → Leads s x s
  stays s x = record { to = x; way = none; tally_length = refl; network_length = refl }

  pub leads_on : {s s' s'' : State} {x : Tracked s} (a : Leads s x s') → Leads s' a.to s'' → Leads s x s''
  leads_on a b = record {
    to = b.to;
    way = steps-trans a.way b.way;
    tally_length = b.tally_length ∙ a.tally_length;
    network_length = b.network_length ∙ a.network_length;
  }

  -- what has to be shown of an event: the rest follows from the run of the protocol
  module _ {s : State} (x : Tracked s) (s' : State) (form-to : s'.form ≡ s.form)
      (plan-to : s'.run.plan ≡ s.run.plan) (faulty-to : s'.run.faulty ≡ s.run.faulty)
      (messages-to : List Sent) (P : Processors) (L : Tally) (wire-to : Wire s'.form s'.network s'.run.held messages-to)
      (books-to : Books plan s'.run.clocks s'.run.views s'.tally P L)
      (way-to : Steps π (tracked_state s x) (st P L (flight messages-to) s'.run.time s'.run.gst s'.run.settled))
      (ready-to : Ready plan faulty s'.run.clocks s'.run.views) (below-to : Below plan faulty s'.run.clocks)
      (tally_to : length s'.tally ≡ length s.tally) (network-to : length s'.network ≡ length s.network) where
    still_early : (p : ℕ) → T (correct plan faulty p) → s'.run.time ≤ clock_of s'.run p
    still_early p c =
        omega (arith, x.early p c, (steps-kept π way-to).0, steps-clock-up π way-to p c, x.books.clock p, books-to.clock p)

    pub arrives : Leads s x s'
    arrives = record {
      to = record {
        plan_is = plan-to ∙ x.plan_is;
        faulty_is = faulty-to ∙ x.faulty_is;
        messages = messages-to;
        processors = P;
        tally = L;
        wire = wire-to;
        books = books-to;
        holds = steps-holds π way-to x.holds;
        ready = ready-to;
        below = below-to;
        early = still_early;
        unsettled = λ t. (steps-kept π way-to).1 ∙ x.unsettled (subst (λ (b : Bool). T (not b)) (steps-flag π way-to) t);
        limits = (λ i. limits_for (form-to i) (plan-to i) (faulty-to i) (tally_to i) (network-to i)) ∙ x.limits;
      };
      way = way-to;
      tally_length = tally_to;
      network_length = network-to;
    }
