-- The message that is delivered: where it stands, whom it reaches, and what is left without it. Assumes nothing.
use mathlib.Core.Path.{◌≡◌, refl, ap, ◌∙◌}
use mathlib.Core.Logic.{◌⊎◌, inl, inr}
use mathlib.Core.Bool.{true, false}
use mathlib.Core.List.{List}
use Prim.Native.Nat.{ℕ, ◌-◌, ◌/◌, ◌≤◌, ◌<◌}
use native.Mathlib.Nat.{le_refl}
use native.Mathlib.Omega.{arith}
use borrow.Author.Tests.{eq-eqb, ne_eqb, lt-ltb, le-ltb, le-leb}
use Rattle.base.specs.Tests.{fails, T_true, le?}
use Rattle.base.specs.ScanLaws.{first-le}
use Rattle.types.specs.declared.Message.{Message}
use Rattle.types.specs.declared.Message.TheVariants.{View, Vote, Vc, Qc}
use Rattle.types.specs.declared.Run.{Run}
use Rattle.types.specs.declared.Form.TheVariants.{Packed}
use Rattle.types.specs.Quantities.{width}
use Rattle.types.specs.Traffic.{traffic_delivered}
use Rattle.model.specs.State.{State, state_of, with_run, with_network, with_held, with_traffic, is_correct, capacity, room_in, removed}
use Rattle.model.specs.Checks.{unsound, is_at, place_of, not_held}
use Rattle.model.specs.Events.{wait_since, without}
use Rattle.liveness.proofs.Flight.{length_removed}
use Rattle.liveness.proofs.Marks.{addressed}
use Rattle.buffers.specs.Network.{packable, found, found-fits}
use Rattle.simulator.specs.Inner.{ReachesCorrect, leaving}

-- a run and the buffers lent with it
module _ (r : Run) (t ws : List ℕ) (m : Message) (i : ℕ) (room : r.held ≤ capacity Packed ws) where
  abbrev s : State
  s = state_of r t ws

  module _ (packs : packable m ≡ true) (is_found : i ≡ found ws r.held m) where
    pub place_is : i ≡ place_of s m
    place_is = is_found ∙ found-fits ws r.held m room packs

    pub found_none : r.held ≤ i → not_held s m ≡ true
    found_none l = eq-eqb (place_of s m) r.held (omega (arith, place_is, first-le (is_at Packed ws m) r.held))

    pub found_some : i < r.held → not_held s m ≡ false
    found_some l = ne_eqb (place_of s m) r.held (λ e. absurd (omega (arith, e, place_is)))

    pub leaves-without : i < r.held → leaving s m i ≡ without s m
    unfolding without
    leaves-without inside = rw (lt-ltb i r.held inside, le-leb r.held (capacity Packed ws) room)
        (ap (λ (k : ℕ). with_run (with_traffic (traffic_delivered r.traffic m (wait_since r.time Packed ws k)) (with_held (r.held - 1) r))
        (with_network (removed Packed ws r.held k) s)) place_is)

  -- without a message there is as much room
  pub room-left : (room_in (leaving s m i) ≡ room_in s) × ((leaving s m i).run.held ≤ r.held)
  room-left = go (le? r.held i)
    where
      go : (r.held ≤ i) ⊎ (i < r.held) → (room_in (leaving s m i) ≡ room_in s) × ((leaving s m i).run.held ≤ r.held)
      go (inl l) = rw (le-ltb i r.held l) (refl, le_refl r.held)
      go (inr l) = rw (lt-ltb i r.held l, le-leb r.held (capacity Packed ws) room)
          (ap (λ (n : ℕ). n / width Packed) (length_removed Packed ws r.held i (omega arith) (omega arith)), omega arith)

-- a certificate that is held goes to a correct processor
pub held-reaches : (s : State) (m : Message) → unsound s ≡ false → not_held s m ≡ false → ReachesCorrect s.run m
held-reaches s (View w p) sound is_held_lem = tt
held-reaches s (Vote w p) sound is_held_lem = tt
held-reaches s (Vc w p) sound is_held_lem = T_true (is_correct s.run p) (addressed s (Vc w p) (fails (unsound s) sound) (fails (not_held s (Vc w p)) is_held_lem))
held-reaches s (Qc w p) sound is_held_lem = T_true (is_correct s.run p) (addressed s (Qc w p) (fails (unsound s) sound) (fails (not_held s (Qc w p)) is_held_lem))
