-- Two states of one run and tally whose networks, of any forms, hold the same messages: check 9, the place of a message and what is overdue
-- are the same in both, and a change made or a message that leaves keeps them so. Assumes nothing.
use mathlib.Core.Path.{◌≡◌, refl, sym, ap, ◌∙◌}
use mathlib.Core.Bool.{Bool, false, ◌&&◌, ◌||◌}
use mathlib.Core.List.{List, ◌++◌}
use Prim.Native.Nat.{ℕ, ◌-◌, ◌≤◌, ◌<◌}
use lib.Dec.{T}
use lib.ListN.{length}
use Rattle.base.specs.Tests.{T_false}
use Rattle.base.specs.ScanLaws.{some-ext, first-ext}
use Rattle.types.specs.declared.Message.{Message}
use Rattle.types.specs.declared.Form.{Form}
use Rattle.types.specs.declared.Run.{Run}
use Rattle.types.specs.Quantities.{n_most}
use Rattle.types.specs.Traffic.{traffic_delivered}
use Rattle.model.specs.State.{State, Held, held_in, posted, removed, with_run, with_held, with_traffic}
use Rattle.model.specs.Moves.{Change, made}
use Rattle.model.specs.Checks.{network_outside, limits_broken, clocks_unsound, time_unsound, held_too_many, held_unsound, message_unsound, settling_unsound, tail_not_zero, unsound, held_is, is_at, place_of, not_held, late, overdue_at, overdue, overfull}
use Rattle.model.specs.Events.{wait_of, without}
use Rattle.liveness.specs.Carrying.{HeldAlike}
use Rattle.liveness.proofs.Flight.{Sent, stamped, Named, Found, rest, rest_in}
use Rattle.liveness.proofs.Link.{Wire, wire-posted, length-posted, wire-removed, length_without, wire-found}
use Rattle.liveness.proofs.Judging.{place_inside}
use Rattle.liveness.proofs.Addressing.{Names, named_more}
use Rattle.liveness.proofs.Wires.{wire-fits, wire-tail, read_alike}

-- the same run and tally, with another network
abbrev pub other : State → Form → List ℕ → State
other a f ws = record { run = a.run; tally = a.tally; network = ws; form = f }

pub record Level (a : State) (f : Form) (ws : List ℕ) : Type 0 where
  pub messages : List Sent
  pub here : Wire a.form a.network a.run.held messages
  pub there : Wire f ws a.run.held messages
  pub named : Named messages
  -- check 6 passes both
  pub long_here : network_outside a.form a.run.plan (length a.network) ≡ false
  pub long_there : network_outside f a.run.plan (length ws) ≡ false

module _ {a : State} {f : Form} {ws : List ℕ} (l : Level a f ws) where
  abbrev b : State
  b = other a f ws

  held_same : (i : ℕ) → i < a.run.held → held_in a i ≡ held_in b i
  held_same = read_alike l.here l.there l.named

  pub level-alike : HeldAlike a b
  level-alike = record { run = refl; tally = refl; held = held_same }

  -- ---- checks

  pub unsound-same : unsound a ≡ unsound b
  unfolding unsound message_unsound
  unsound-same = λ i.
      limits i || clocks_unsound a || time_unsound a || fits i || some-ext (message_unsound a) (message_unsound b) a.run.held message i
      || settling_unsound a || tail i
    where
      limits : limits_broken a ≡ limits_broken b
      limits = rw (l.long_here, l.long_there)

      fits : held_too_many a ≡ held_too_many b
      fits = T_false (held_too_many a) (wire-fits l.here) ∙ sym (T_false (held_too_many b) (wire-fits l.there))

      message : (i : ℕ) → i < a.run.held → message_unsound a i ≡ message_unsound b i
      message i h = ap (held_unsound a.run.plan a.run.faulty a.run.time) (held_same i h)

      tail : tail_not_zero a ≡ tail_not_zero b
      tail = T_false (tail_not_zero a) (wire-tail l.here) ∙ sym (T_false (tail_not_zero b) (wire-tail l.there))

  pub place_same : (m : Message) → place_of a m ≡ place_of b m
  place_same m = first-ext (is_at a.form a.network m) (is_at f ws m) a.run.held (λ i h. ap (held_is m) (held_same i h))

  pub overdue-same : overdue a ≡ overdue b
  unfolding overdue
  overdue-same = ap (λ (x : Bool). a.run.settled && x) (some-ext (overdue_at a) (overdue_at b) a.run.held
      (λ i h. ap (λ (x : Held). late a.run.gst a.run.plan.delta a.run.time x.sent) (held_same i h)))

  -- ---- a run with other clocks and times

  pub level-with : (r : Run) → r.plan ≡ a.run.plan → r.held ≡ a.run.held → Level (with_run r a) f ws
  level-with r plan held = record {
    messages = l.messages;
    here = rw held l.here;
    there = rw held l.there;
    named = l.named;
    long_here = rw plan l.long_here;
    long_there = rw plan l.long_there;
  }

  -- ---- a change made

  pub made-level : (c : Change) → a.run.plan.n ≤ n_most → Names a.run.plan.n c.sent → (T (overfull a c) → ⊥) → (T (overfull b c) → ⊥)
      → Level (made a c) f (posted f ws a.run.held a.run.time c.sent)
  unfolding made
  made-level c most names x y = record {
    messages = l.messages ++ stamped a.run.time c.sent;
    here = wire-posted l.here a.run.time c.sent x;
    there = wire-posted l.there a.run.time c.sent y;
    named = named_more l.messages a.run.time a.run.plan.n c.sent most l.named names;
    long_here = ap (network_outside a.form a.run.plan) (length-posted l.here a.run.time c.sent x) ∙ l.long_here;
    long_there = ap (network_outside f a.run.plan) (length-posted l.there a.run.time c.sent y) ∙ l.long_there;
  }

  -- ---- a message that leaves

  module _ (m : Message) (is_held_lem : T (not_held a m) → ⊥) where
    abbrev left : List ℕ
    left = removed f ws a.run.held (place_of a m)

    -- it has waited as long
    wait-same : wait_of b m ≡ wait_of a m
    wait-same = sym (ap (λ (h : Held). a.run.time - h.sent) (held_same (place_of a m) (place_inside a m is_held_lem))
        ∙ ap (λ (k : ℕ). a.run.time - (held_in b k).sent) (place_same m))

    pub without_other : without b m ≡ other (without a m) f left
    unfolding without
    without_other = λ i. record {
      run = with_traffic (traffic_delivered a.run.traffic m (wait-same i)) (with_held (a.run.held - 1) a.run);
      tally = a.tally;
      network = removed f ws a.run.held (sym (place_same m) i);
      form = f;
    }

    pub without-level : Level (without a m) f left
    unfolding without
    without-level = record {
      messages = rest found;
      here = wire-removed l.here found;
      there = wire-removed l.there found;
      named = λ x i. l.named x (rest_in found x i);
      long_here = ap (network_outside a.form a.run.plan) (length_without l.here found) ∙ l.long_here;
      long_there = ap (network_outside f a.run.plan) (length_without l.there found) ∙ l.long_there;
    }
      where
        found : Found l.messages m (place_of a m)
        found = wire-found a l.here l.named m is_held_lem
