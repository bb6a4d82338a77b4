use Rattle.leaps.proofs.Resting.{of_tables, rest-tables, rest_more, rest-none}
use Rattle.leaps.specs.Leaps.{rest_below, seated}
use Rattle.types.specs.declared.Run.{Run}
use Rattle.std.proofs.Common.{◌≡◌, ◌+◌, sym, refl, ap, ◌∙◌, arith}
use Rattle.leaps.proofs.rest.Goals as goal

pub loop-q-init : goal.loop-q-init
unfolding rest_below
loop-q-init c = refl

pub returns-then-quiet-eq0 : goal.returns-then-quiet-eq0
returns-then-quiet-eq0 c r p f k v =
    let x : Run = of_tables c.args.plan c.args.faulty c.args.clocks.now c.args.views.now in
    rest-none x _ (c.loop-q.q + 1) _ (omega (arith, c.loop-q-test.true, c.min-n.ensures, c.min.ensures))
    (sym c.if-quiet-eq0.true ∙ rest_more x _ _ _ _ c.loop-q.invariant c.rest_for-quiet.ensures)
    ∙ rest-tables _ _ _ _ _ r p f k v

pub loop-q-preserved : goal.loop-q-preserved
loop-q-preserved c = rest_more (of_tables c.args.plan c.args.faulty c.args.clocks.now c.args.views.now) _ _ _ _ c.loop-q.invariant c.rest_for-quiet.ensures

pub returns : goal.returns
returns c r p f k v =
    let x : Run = of_tables c.args.plan c.args.faulty c.args.clocks.now c.args.views.now in
    let n : c.loop-q.q ≡ seated x = omega (arith, c.loop-q-test.false, c.loop-q.auto.q-end, c.min-n.ensures, c.min.ensures) in
    c.loop-q.invariant ∙ ap (rest_below x c.args.most) n ∙ rest-tables _ _ _ _ _ r p f k v
