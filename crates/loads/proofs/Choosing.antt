-- What is chosen, found by trying. Assumes nothing.
use Rattle.std.proofs.Common.{◌≡◌, ℕ, ◌%◌, ◌<◌, ◌≤◌, Bool, true, false, cond, not, ◌&&◌, ltb, sym, refl, ap, ◌∙◌, le-ltb, lt-ltb}
use Rattle.base.specs.Scan.{some, first}
use Rattle.base.specs.ScanLaws.{some_first}
use Rattle.base.specs.Choice.{cond_yes, cond_no, and_both, and-not-first, and-not-second}
use Rattle.types.specs.declared.Event.{Event}
use Rattle.types.specs.declared.Event.TheVariants.{Tick}
use Rattle.model.specs.State.{State}
use Rattle.model.specs.Checks.{time_unsound, overdue_at, overdue}
use Rattle.loads.specs.Draws.{next_seed, draw}
use Rattle.loads.specs.Loads.{Point, delivery, refused_overdue, ticking, chosen, delivers, settle_due, settle_turn, step_turn, turn}

-- ---- a tick, or what it becomes

module _ (s : State) (i : ℕ) (e : i ≡ first (overdue_at s) s.run.held) where
  pub tick-overdue : s.run.settled ≡ true → i < s.run.held → cond (time_unsound s) (Tick 1) (delivery s i) ≡ ticking s
  unfolding ticking overdue
  tick-overdue y l =
      let q : overdue s ≡ true = and_both _ _ y (some_first (overdue_at s) s.run.held ∙ lt-ltb _ _ (rw e at l)) in by-time (time_unsound s) (overdue s) q
    where
      by-time : (b o : Bool) → o ≡ true → cond b (Tick 1) (delivery s i) ≡ cond (not b && o) (delivery s (first (overdue_at s) s.run.held)) (Tick 1)
      by-time true o q = refl
      by-time false o q = cond_yes o (delivery s i) _ (Tick 1) q (ap (delivery s) e)

  pub tick-none : s.run.held ≤ i → Tick 1 ≡ ticking s
  unfolding ticking overdue
  tick-none l =
      let o : overdue s ≡ false = and-not-second s.run.settled _ (some_first (overdue_at s) s.run.held ∙ le-ltb _ _ (rw e at l)) in
      let q : refused_overdue s ≡ false = and-not-second (not (time_unsound s)) _ o in
      cond_no (refused_overdue s) _ (delivery s (first (overdue_at s) s.run.held)) _ q refl

pub tick-unsettled : (s : State) → s.run.settled ≡ false → Tick 1 ≡ ticking s
unfolding ticking overdue
tick-unsettled s n =
    let o : overdue s ≡ false = and-not-first _ (some (overdue_at s) s.run.held) n in
    let q : refused_overdue s ≡ false = and-not-second (not (time_unsound s)) _ o in
    cond_no (refused_overdue s) _ (delivery s (first (overdue_at s) s.run.held)) _ q refl

-- ---- a step

abbrev pub delivers_by : ℕ → ℕ → Bool
delivers_by once held = ltb (draw once % 4) 2 && ltb 0 held

-- d being what the new seed draws
pub draws-delivery : (once d held : ℕ) → d ≡ draw once → d % 4 < 2 → 0 < held → delivers_by once held ≡ true
draws-delivery once d held e l h =
    and_both (ltb (draw once % 4) 2) (ltb 0 held) (ap (λ (k : ℕ). ltb (k % 4) 2) (sym e) ∙ lt-ltb (d % 4) 2 l) (lt-ltb 0 held h)

pub draws-tick : (once d held : ℕ) → d ≡ draw once → 2 ≤ d % 4 → delivers_by once held ≡ false
draws-tick once d held e l = and-not-first (ltb (draw once % 4) 2) (ltb 0 held) (ap (λ (k : ℕ). ltb (k % 4) 2) (sym e) ∙ le-ltb (d % 4) 2 l)

pub none-held : (once held : ℕ) → held ≤ 0 → delivers_by once held ≡ false
none-held once held l = and-not-second (ltb (draw once % 4) 2) (ltb 0 held) (le-ltb 0 held l)

module _ (x : Point) (once : ℕ) (is : once ≡ next_seed x.seed) where
  pub step-delivers : (twice : ℕ) (e : Event) → twice ≡ next_seed once → delivers_by once x.state.run.held ≡ true
      → e ≡ delivery x.state (draw twice % x.state.run.held) → record { event = e; seed = twice; steps = 1 } ≡ step_turn x
  unfolding chosen
  step-delivers twice e again y q =
      let d : delivers x ≡ true = rw (sym is) y in
      let m : twice ≡ next_seed (next_seed x.seed) = again ∙ ap next_seed is in
      rw (d, sym m, sym q) refl

  pub step_ticks : (e : Event) → delivers_by once x.state.run.held ≡ false → e ≡ ticking x.state → record { event = e; seed = once; steps = 1 } ≡ step_turn x
  unfolding chosen
  step_ticks e n q = let d : delivers x ≡ false = rw (sym is) n in rw (d, sym is, sym q) refl

-- ---- a turn

module _ (settle : ℕ) (x : Point) where
  pub turn-settles : settle_due settle x ≡ true → settle_turn x ≡ turn settle x
  unfolding turn
  turn-settles y = rw y refl

  pub turn-steps : settle_due settle x ≡ false → step_turn x ≡ turn settle x
  unfolding turn
  turn-steps n = rw n refl
