use mathlib.Core.Path.{◌≡◌, refl, sym, ap, ◌∙◌}
use Prim.Native.Nat.{ℕ, ◌<◌}
use native.Mathlib.Omega.{arith}
use lib.ListN.{length}
use Rattle.base.specs.ScanLaws.{some-not}
use Rattle.model.specs.State.{state_of}
use Rattle.model.specs.Moves.{entries}
use Rattle.types.specs.declared.Run.{Run}
use Rattle.pacemaker.proofs.LimitLaws.{within}
use Rattle.simulator.specs.Inner.{Arrives, arrived_below, ends_at, seat}
use Rattle.std.specs.Prelude.{Ok, Err}
use Rattle.liveness.proofs.Answers.{no-yes}
use Rattle.simulator.proofs.Sending.{sent_few}
use Rattle.simulator.proofs.Ticking.{sent-length}
use Rattle.simulator.proofs.ticks.foretell.Goals as goal

pub loop-q-init : goal.loop-q-init
unfolding entries
loop-q-init c = (λ t ws. refl, omega arith)

pub overflow_add-sent : goal.overflow_add-sent
overflow_add-sent c = omega (arith, c.loop-q.invariant.1, (within c.args.run.now.plan c.requires.fit.plan).n_at_most, c.count_entry-sent.ensures, sent_few c.args.run.now.plan c.args.run.now.faulty c.loop-q.q c.in-Ok.x.sends)

pub loop-q-preserved : goal.loop-q-preserved
loop-q-preserved c =
    let r : Run = c.args.run.now in
    let below : c.loop-q.q < r.plan.n = omega arith in
    let a : Arrives r.plan r.faulty (seat r c.loop-q.q) (Ok c.in-Ok.x) = rw c.in-Ok.is at c.arrive.ensures in (
      (λ t ws. omega (arith, c.loop-q.invariant.0 t ws, c.count_entry-sent.ensures, sent-length (state_of r t ws) c.requires.whole.clocks c.loop-q.q below c.in-Ok.x a)),
      omega (arith, c.loop-q.invariant.1, c.count_entry-sent.ensures, sent_few r.plan r.faulty c.loop-q.q c.in-Ok.x.sends),
    )

pub loop-q-preserved-in_default : goal.loop-q-preserved-in_default
loop-q-preserved-in_default c =
    let r : Run = c.args.run.now in
    let below : c.loop-q.q < r.plan.n = omega arith in
    let a : Arrives r.plan r.faulty (seat r c.loop-q.q) (Err c.in_default.field-0) = rw c.in_default.is at c.arrive.ensures in
    no-yes (sym a.0 ∙ some-not (ends_at r) r.plan.n c.loop-q.q c.requires.goes_on below)

pub returns : goal.returns
returns c =
    let r : Run = c.args.run.now in
    let e : c.loop-q.q ≡ r.plan.n = omega arith in (
      (λ t ws. c.loop-q.invariant.0 t ws ∙ ap (λ (k : ℕ). length (arrived_below (state_of r t ws) k).sent) e),
      omega (arith, c.loop-q.invariant.1, (within r.plan c.requires.fit.plan).n_at_most),
    )
