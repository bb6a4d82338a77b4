-- What the events of a load keep: a run reached by an opening and events stays one, and one that is sound but for its time stays so. Assumes nothing.
use mathlib.Core.Path.{◌≡◌, sym, ◌∙◌}
use mathlib.Core.Bool.{false, ◌||◌}
use Prim.Native.Nat.{ℕ, ◌-◌}
use Rattle.base.specs.Tests.{T_false, fails}
use Rattle.types.specs.declared.Event.{Event}
use Rattle.model.specs.State.{State}
use Rattle.model.specs.Checks.{time_unsound, unsound_for_good}
use Rattle.model.specs.Events.{applied}
use Rattle.liveness.specs.Promises.{Reachable, Tabled}
use Rattle.liveness.proofs.Judging.{neither}
use Rattle.liveness.proofs.Promises.{event-reaches, reachable-sound, unsound-parts, events-last}
use Rattle.loads.specs.Loads.{Point, load_from, turn}
use Rattle.loads.proofs.Turns.{by-load}

-- what each event keeps, the whole load does
pub from-keeps : (Q : State → Type 0) → ((s : State) → Q s → (e : Event) → Q (applied e s).state) → (steps settle : ℕ) (x : Point) (room : ℕ) → Q x.state
    → Q (load_from settle (steps - x.step) x room).point.state
from-keeps Q keeps steps settle = by-load steps settle (λ x room l. Q x.state → Q l.point.state) (λ x room h q. q) (λ x room h k q. q) (λ x room h k q. q)
    (λ x room h k a l z q. z (keeps x.state q (turn settle x).event))

pub from-reaches : (steps settle : ℕ) (x : Point) (room : ℕ) → Reachable x.state → Reachable (load_from settle (steps - x.step) x room).point.state
from-reaches = from-keeps Reachable event-reaches

-- sound but for the time, with whole tables
pub record Lasts (s : State) : Type 0 where
  pub sound : unsound_for_good s ≡ false
  pub tabled : Tabled s.run

pub from-lasts : (steps settle : ℕ) (x : Point) (room : ℕ) → Lasts x.state → Lasts (load_from settle (steps - x.step) x room).point.state
from-lasts = from-keeps Lasts (λ s q e. let k = events-last e s q.tabled in record { sound = k.0 ∙ q.sound; tabled = k.1 })

pub reachable-good : (s : State) → Reachable s → unsound_for_good s ≡ false
reachable-good s r = T_false (unsound_for_good s)
    (neither (unsound_for_good s) (time_unsound s) (fails (unsound_for_good s || time_unsound s) (sym (unsound-parts s) ∙ reachable-sound s r))).0
