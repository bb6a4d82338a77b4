use Rattle.simulator.proofs.Ticking.{arrival-packs, seat-kept, next-turn, tally-turn, arrival-fits, posts-turn, tick-made}
use Rattle.simulator.proofs.Posting.{posts-none}
use Rattle.simulator.proofs.Fitness.{seat-sound}
use Rattle.simulator.specs.Inner.{Posts, pairs, Arrives, arrived_below, ends_at, seat}
use Rattle.pacemaker.proofs.LimitLaws.{within}
use Rattle.types.specs.declared.Processor.{Processor}
use Rattle.types.specs.declared.Run.{Run}
use Rattle.types.specs.Traffic.{traffic_sent}
use Rattle.model.specs.Moves.{entries, clocks_on}
use Rattle.model.specs.State.{State, state_of, with_clocks, with_views}
use Rattle.model.specs.Processors.{processor_unsound}
use Rattle.std.specs.Prelude.{Ok, Err}
use Rattle.liveness.proofs.Answers.{no-yes}
use Rattle.base.specs.ScanLaws.{some-not}
use lib.ListN.{length}
use native.Mathlib.Omega.{arith}
use Prim.Native.Nat.{ℕ, ◌+◌, ◌-◌, ◌/◌, ◌≤◌, ◌<◌}
use mathlib.Core.Path.{◌≡◌, refl, sym, ap, ◌∙◌, subst}
use Rattle.simulator.proofs.ticks.arrive_all.Goals as goal

pub loop-q-init : goal.loop-q-init
unfolding entries clocks_on
loop-q-init c = (refl, refl, posts-none _ _ _)

pub arrive-requires : goal.arrive-requires
arrive-requires c =
    let s : State = state_of c.args.run.now c.args.tally.now c.args.network.now in
    let below : c.loop-q.q < s.run.plan.n = omega arith in
    (below, λ e. ap (processor_unsound s.run.plan) (seat-kept s c.loop-q.q c.loop-q.run c.loop-q.invariant.0) ∙ seat-sound s.run c.loop-q.q c.requires.fit e)

pub enter_by_tick-held-requires : goal.enter_by_tick-held-requires
enter_by_tick-held-requires c =
    let s : State = state_of c.args.run.now c.args.tally.now c.args.network.now in
    let below : c.loop-q.q < s.run.plan.n = omega arith in
    let most : s.run.plan.n ≤ length s.run.clocks = c.requires.whole.clocks in
    let a : Arrives s.run.plan s.run.faulty (seat s.run c.loop-q.q) (Ok c.in-Ok.x) = rw c.in-Ok.is at (subst (λ (p : Processor). Arrives s.run.plan s.run.faulty p c.arrive.result) (seat-kept s c.loop-q.q c.loop-q.run c.loop-q.invariant.0) c.arrive.ensures) in
    (omega (arith, (within s.run.plan c.requires.fit.plan).n_at_least), omega (arith, (within s.run.plan c.requires.fit.plan).n_at_most), arrival-fits s most c.loop-q.q below c.in-Ok.x a _ c.requires.room _ _ _ c.loop-q.invariant.2, arrival-packs s most c.loop-q.q below c.in-Ok.x a c.requires.fit c.requires.whole c.requires.goes_on)

pub loop-q-preserved : goal.loop-q-preserved
loop-q-preserved c =
    let s : State = state_of c.args.run.now c.args.tally.now c.args.network.now in
    let below : c.loop-q.q < s.run.plan.n = omega arith in
    let most : s.run.plan.n ≤ length s.run.clocks = c.requires.whole.clocks in
    let a : Arrives s.run.plan s.run.faulty (seat s.run c.loop-q.q) (Ok c.in-Ok.x) = rw c.in-Ok.is at (subst (λ (p : Processor). Arrives s.run.plan s.run.faulty p c.arrive.result) (seat-kept s c.loop-q.q c.loop-q.run c.loop-q.invariant.0) c.arrive.ensures) in (
      next-turn s most c.loop-q.q below c.in-Ok.x a c.loop-q.run c.loop-q.invariant.0,
      tally-turn s most c.loop-q.q below c.in-Ok.x a _ _ c.loop-q.invariant.1 c.enter_by_tick-held.ensures.1,
      posts-turn s most c.loop-q.q below c.in-Ok.x a _ c.requires.room _ _ _ c.loop-q.invariant.2 _ _ c.enter_by_tick-held.ensures.0,
    )

pub loop-q-preserved-in_default : goal.loop-q-preserved-in_default
loop-q-preserved-in_default c =
    let s : State = state_of c.args.run.now c.args.tally.now c.args.network.now in
    let below : c.loop-q.q < s.run.plan.n = omega arith in
    let a : Arrives s.run.plan s.run.faulty (seat s.run c.loop-q.q) (Err c.in_default.field-0) = rw c.in_default.is at (subst (λ (p : Processor). Arrives s.run.plan s.run.faulty p c.arrive.result) (seat-kept s c.loop-q.q c.loop-q.run c.loop-q.invariant.0) c.arrive.ensures) in
    no-yes (sym a.0 ∙ some-not (ends_at s.run) _ c.loop-q.q c.requires.goes_on below)

pub returns : goal.returns
returns c =
    let s : State = state_of c.args.run.now c.args.tally.now c.args.network.now in
    let most : s.run.plan.n ≤ length s.run.clocks = c.requires.whole.clocks in
    let e : c.loop-q.q ≡ s.run.plan.n = omega arith in
    tick-made s.run s.tally s.network most c.loop-q.run c.loop-q.held c.note_pairs-traffic.result _ _
    (c.loop-q.invariant.0 ∙ ap (λ (k : ℕ). with_views (arrived_below s k).views (with_clocks (clocks_on s.run k) s.run)) e)
    (c.loop-q.invariant.1 ∙ ap (λ (k : ℕ). (arrived_below s k).tally) e)
    (subst (λ (k : ℕ). Posts (arrived_below s k).sent s.run.held (s.run.time + 1) s.network c.loop-q.held c.loop-q.network) e c.loop-q.invariant.2)
    (c.note_pairs-traffic.ensures ∙ ap (λ (y : Run). traffic_sent y.traffic (pairs ((c.loop-q.held - s.run.held) / 2))) c.loop-q.invariant.0)
