use Rattle.simulator.proofs.Striding.{strides-none, strides-also, strides-rest, strides-ready}
use Rattle.simulator.proofs.Once.{ticks-ended, run-ended, run-done}
use Rattle.simulator.proofs.Fitness.{fit_of, room_of}
use Rattle.simulator.specs.Inner.{ran_to}
use Rattle.model.specs.Events.{ticks}
use Rattle.model.specs.State.{State, state_of}
use native.Mathlib.Omega.{arith}
use Prim.Native.Nat.{ℕ}
use mathlib.Core.List.{[]}
use mathlib.Core.Path.{◌≡◌, refl, subst}
use Rattle.simulator.proofs.ticks.run_ticks.Goals as goal

pub loop-count-init : goal.loop-count-init
loop-count-init c =
    let s : State = state_of c.args.run.now c.args.tally.now c.args.network.now in
    let fit = fit_of s c.requires.1 in
    (omega arith, strides-none s fit (room_of s c.requires.1))

pub advance-requires : goal.advance-requires
advance-requires c = (strides-ready _ _ _ c.requires.1 c.loop-count.invariant.1, omega (arith, c.loop-count-test.true))

pub returns-in-Err : goal.returns-in-Err
returns-in-Err c =
    let a = rw c.in-Err.is at c.advance.ensures in
    let s₀ : State = state_of c.args.run.now c.args.tally.now c.args.network.now in
    let s : State = state_of c.loop-count.run c.loop-count.tally c.loop-count.network in
    run-ended c.args.m c.loop-count.count _ s₀ _ c.stop.result
    (ticks-ended c.args.m c.loop-count.count _ s₀ s _ c.loop-count-test.true (strides-rest c.args.m c.loop-count.count s₀ s c.loop-count.invariant.0 c.loop-count.invariant.1) (a.0.ended a.1) a.1)
    (c.stop.ensures [] [])

pub loop-count-preserved : goal.loop-count-preserved
loop-count-preserved c =
    let a = rw c.in-Ok.is at c.advance.ensures in
    (omega (arith, (a.0.number refl).1, c.loop-count-test.true), strides-also _ _ _ _ _ c.loop-count.invariant.1 (a.0.went refl))

pub returns : goal.returns
returns c =
    let s₀ : State = state_of c.args.run.now c.args.tally.now c.args.network.now in
    let e : c.loop-count.count ≡ c.args.m = omega arith in
    run-done c.args.m c.loop-count.count s₀ (state_of c.loop-count.run c.loop-count.tally c.loop-count.network) c.requires.0 e (subst (λ (k : ℕ). ticks k s₀ ≡ ran_to (state_of c.loop-count.run c.loop-count.tally c.loop-count.network) c.loop-count.count 0) e c.loop-count.invariant.1.ran)
