use Rattle.simulator.proofs.Single.{single-is, single-accepted}
use Rattle.loads.proofs.Going.{going-first, going-over, going-short, going-refused, falls, going_more, turn-most}
use Rattle.loads.specs.Loads.{Point, point_of}
use Rattle.loads.specs.declared.Turn.{Turn}
use Rattle.model.specs.State.{state_of}
use Prim.Native.Nat.{◌≤◌}
use mathlib.Core.Path.{refl, sym, ◌∙◌, subst}
use native.Mathlib.Omega.{arith}
use Rattle.simulator.proofs.write_load.Goals as goal

pub returns-then-broken : goal.returns-then-broken
returns-then-broken c = (sym c.unsound_for_good-broken.ensures.says ∙ c.if-broken.true, refl, refl, refl)

pub loop-next-init : goal.loop-next-init
loop-next-init c =
    going-first c.args.steps c.args.settle _ c.args.out.now (sym c.unsound_for_good-broken.ensures.says ∙ c.if-broken.false)
    (record { clocks = c.unsound_for_good-broken.ensures.clocks c.if-broken.false; views = c.unsound_for_good-broken.ensures.views c.if-broken.false })

pub returns-then-out-at : goal.returns-then-out-at
returns-then-out-at c = (sym c.unsound_for_good-broken.ensures.says ∙ c.if-broken.false, going-short c.loop-next.invariant c.loop-next-test.true c.next_turn-turn.result (c.next_turn-turn.ensures c.loop-next.tally) c.event_bytes-bytes.result c.event_bytes-bytes.ensures c.if-out-at.true)

pub overflow_add-next : goal.overflow_add-next
overflow_add-next c =
    let x : Point = point_of (state_of c.loop-next.run c.loop-next.tally c.loop-next.network) c.loop-next.last c.loop-next.next in
    let k : c.next_turn-turn.result.steps ≤ 1 = subst (λ (t : Turn). t.steps ≤ 1) (sym (c.next_turn-turn.ensures c.loop-next.tally)) (turn-most c.args.settle x) in
    omega (arith, k, c.loop-next-test.true, c.ranges.steps.fits)

pub loop-next-smaller : goal.loop-next-smaller
loop-next-smaller c = falls c.loop-next.invariant c.loop-next-test.true c.next_turn-turn.result (c.next_turn-turn.ensures c.loop-next.tally) c.event_bytes-bytes.result c.event_bytes-bytes.ensures c.if-out-at.false _ (single-is c.next_turn-turn.result.event _ _ c.numbers_of.result _ _ c.numbers_of.ensures c.put_numbers.ensures c.apply_words.ensures) (sym (single-accepted c.next_turn-turn.result.event _ _ c.numbers_of.result _ _ c.numbers_of.ensures c.put_numbers.ensures c.apply_words.ensures c.is_accepted.result c.is_accepted.ensures) ∙ c.if-is_accepted.true)

pub loop-next-preserved : goal.loop-next-preserved
loop-next-preserved c =
    going_more c.loop-next.invariant c.loop-next-test.true c.next_turn-turn.result (c.next_turn-turn.ensures c.loop-next.tally) c.event_bytes-bytes.result c.event_bytes-bytes.ensures c.if-out-at.false _ (single-is c.next_turn-turn.result.event _ _ c.numbers_of.result _ _ c.numbers_of.ensures c.put_numbers.ensures c.apply_words.ensures) (sym (single-accepted c.next_turn-turn.result.event _ _ c.numbers_of.result _ _ c.numbers_of.ensures c.put_numbers.ensures c.apply_words.ensures c.is_accepted.result c.is_accepted.ensures) ∙ c.if-is_accepted.true) c.write_event.result _ c.write_event.ensures c.write_event.auto.out

pub returns-else-is_accepted : goal.returns-else-is_accepted
returns-else-is_accepted c = (sym c.unsound_for_good-broken.ensures.says ∙ c.if-broken.false, going-refused c.loop-next.invariant c.loop-next-test.true c.next_turn-turn.result (c.next_turn-turn.ensures c.loop-next.tally) c.event_bytes-bytes.result c.event_bytes-bytes.ensures c.if-out-at.false _ (single-is c.next_turn-turn.result.event _ _ c.numbers_of.result _ _ c.numbers_of.ensures c.put_numbers.ensures c.apply_words.ensures) (sym (single-accepted c.next_turn-turn.result.event _ _ c.numbers_of.result _ _ c.numbers_of.ensures c.put_numbers.ensures c.apply_words.ensures c.is_accepted.result c.is_accepted.ensures) ∙ c.if-is_accepted.false))

pub returns : goal.returns
returns c = (sym c.unsound_for_good-broken.ensures.says ∙ c.if-broken.false, going-over c.loop-next.invariant c.loop-next-test.false)
