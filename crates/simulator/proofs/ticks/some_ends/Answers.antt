use Rattle.std.proofs.Common.{◌≡◌, sym, ◌∙◌, ℕ, ◌+◌, ◌*◌, ◌-◌, ◌<◌, Bool, false, ◌&&◌, leb, get_or, refl, ap, suc, arith, rules, le_refl, mul-pos}
use Rattle.std.proofs.lemmas.Iterator.{YieldsList-from_range}
use Rattle.std.proofs.lemmas.Iterator.Search.{any_from_yields_List}
use Rattle.std.proofs.Math.Dec.{leb-suc-suc}
use Rattle.base.specs.ScanLaws.{some-ext}
use Rattle.types.specs.declared.Plan.{Plan}
use Rattle.types.specs.Quantities.{end_time, correct}
use Rattle.types.specs.PlanFunctions.{clock_time_word}
use Rattle.model.specs.Checks.{plan_outside, at_end}
use Rattle.pacemaker.proofs.LimitLaws.{within, gamma_positive, time-word}
use Rattle.checks.proofs.Ranges.{any-some}
use Rattle.simulator.specs.Inner.{ends_at}
use Rattle.simulator.proofs.ticks.some_ends.Goals as goal

module _ (plan : Plan) (ok : plan_outside plan ≡ false) (e : ℕ) (is : e ≡ clock_time_word plan plan.views) where
  end_is : e ≡ end_time plan
  end_is = is ∙ time-word plan (within plan ok) plan.views (le_refl plan.views)

  end-positive : 0 < e
  end-positive =
      let l = within plan ok in
      let views : 0 < plan.views = omega (arith, l.views_at_least) in
      let product : 0 < plan.views * plan.gamma = mul-pos views (gamma_positive plan l) in
      omega (arith, end_is, product)

  next-ends : (clock : ℕ) → leb (e - 1) clock ≡ at_end plan (clock + 1)
  next-ends clock =
      let a : end_time plan ≡ suc (e - 1) = omega (arith, end_is, end-positive) in
      let b : clock + 1 ≡ suc clock = omega arith in rw (a, b) (sym (leb-suc-suc (e - 1) clock))

pub overflow_sub-last : goal.overflow_sub-last
overflow_sub-last c = omega (arith, end-positive c.args.run.now.plan c.requires c.end_time.result c.end_time.ensures)

pub returns : goal.returns
returns c =
    let plan : Plan = c.args.run.now.plan in
    let last : ℕ = c.end_time.result - 1 in
    let f : ℕ → Bool = λ q. correct plan c.args.run.now.faulty q && leb last (get_or c.args.run.now.clocks q 0) in
    any_from_yields_List f _ _ _ c.any.ensures.ran (YieldsList-from_range 0 plan.n plan.n refl (omega arith)) (λ x b q k. search rules) ∙ any-some f plan.n
    ∙ some-ext f (ends_at c.args.run.now) plan.n
    (λ q l. ap (λ (b : Bool). correct plan c.args.run.now.faulty q && b) (next-ends plan c.requires c.end_time.result c.end_time.ensures (get_or c.args.run.now.clocks q 0)))
