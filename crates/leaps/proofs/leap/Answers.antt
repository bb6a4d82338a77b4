use Rattle.leaps.proofs.Clocks.{by-more}
use Rattle.leaps.specs.Leaps.{clocks_by, more_word}
use Rattle.model.specs.State.{with_clocks}
use Rattle.types.specs.declared.Run.{Run}
use Rattle.types.specs.Quantities.{correct}
use Rattle.std.proofs.Common.{ℕ, cond, List, get_or, set, refl, ap, ◌∙◌}
use Rattle.leaps.proofs.leap.Goals as goal

pub loop-q-init : goal.loop-q-init
unfolding clocks_by
loop-q-init c = refl

pub loop-q-preserved : goal.loop-q-preserved
loop-q-preserved c =
    let run = c.args.run.now in
    let on = more_word c.args.count in
    let q = c.loop-q.q in
    let x = c.go_on.result in
    let same = c.loop-q.invariant in
    ap (λ (r : Run). with_clocks (set r.clocks q x) r) same
    ∙ ap (λ (l : List ℕ). with_clocks l run)
    (by-more run.plan run.faulty run.clocks on q x (c.go_on.ensures ∙ ap (λ (r : Run). cond (correct run.plan run.faulty q) (on (get_or r.clocks q 0)) (get_or r.clocks q 0)) same))
