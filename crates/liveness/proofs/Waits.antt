-- How long the messages that events deliver have waited: none longer than a sound run has lasted. Of any run and buffers. Assumes nothing.
use mathlib.Core.List.{List, [], ◌∷◌}
use Prim.Native.Nat.{ℕ, ◌*◌, ◌≤◌, ◌<◌}
use native.Mathlib.Omega.{arith}
use native.Mathlib.Nat.{mul-le-mul}
use lib.Dec.{T}
use lib.ListN.{length, length-append}
use Rattle.types.specs.declared.Event.{Event}
use Rattle.types.specs.declared.Event.TheVariants.{Deliver, Sign, Show, Settle, Tick}
use Rattle.types.specs.Quantities.{gamma_most, views_most, end_time}
use Rattle.model.specs.State.{State}
use Rattle.model.specs.Checks.{unsound}
use Rattle.model.specs.Events.{applied}
use Rattle.model.specs.Traffic.{delivered_by, delivered_in, wait_by, wait_in, delivered_during, waits_during}
use Rattle.liveness.proofs.Judging.{not-leb}
use Rattle.liveness.proofs.Soundness.{sound-of, sound-time}
use Rattle.liveness.proofs.Lasting.{lasts-of, lasts-planned}
use Rattle.liveness.proofs.Flows.{by-flow}

-- VΓ at its largest
abbrev pub longest : ℕ
longest = views_most * gamma_most

time-low : (s : State) → (T (unsound s) → ⊥) → s.run.time ≤ longest
time-low s sound =
    let ok = lasts-planned s (lasts-of s (sound-of s sound)) in
    let g : s.run.time < end_time s.run.plan = not-leb _ _ (sound-time s sound) in
    omega (arith, mul-le-mul ok.views_at_most ok.gamma_at_most)

wait-low : (e : Event) (s : State) → (T (unsound s) → ⊥) → wait_by e s ≤ longest * length (delivered_by e)
wait-low (Deliver m) s sound = omega (arith, time-low s sound)
wait-low (Sign m) s sound = omega arith
wait-low (Show m) s sound = omega arith
wait-low Settle s sound = omega arith
wait-low (Tick m) s sound = omega arith

pub waits-low : (es : List Event) (s : State) → waits_during s es ≤ longest * length (delivered_during s es)
unfolding waits_during delivered_during
waits-low [] s = omega arith
waits-low (e ∷ es) s =
    let s' : State = (applied e s).state in
    let one : wait_in e s ≤ longest * length (delivered_in e s) =
    by-flow e s (λ a ms ds w. w ≤ longest * length ds) (omega arith) (λ c. wait-low e s c.sound) in
    omega (arith, waits-low es s', length-append (delivered_in e s) (delivered_during s' es))
