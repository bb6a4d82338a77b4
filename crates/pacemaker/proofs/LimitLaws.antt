-- What checks 2 to 4 and 9 let pass at one processor's own face. Assumes nothing.
use mathlib.Core.Path.{◌≡◌, refl, sym}
use mathlib.Core.Logic.{⊎_elim}
use mathlib.Core.Bool.{Bool, true, false, not, ◌||◌, cond}
use Prim.Native.Nat.{ℕ, ◌≤◌, ◌<◌}
use Rattle.std.specs.Prelude.{Err, Ok, Result}
use native.Mathlib.Omega.{arith}
use native.Mathlib.Nat.{mul-le-mul, mul-le-mul_right, lt_of_mul-lt-mul_right}
use lib.Dec.{leb, ltb}
use borrow.Author.Tests.{ltb-false, leb-false, not-false, lt-ltb, le-leb}
use Rattle.base.specs.Tests.{le?}
use Rattle.base.specs.Choice.{or-first, or-second, or_parts}
use Rattle.types.specs.declared.Plan.{Plan}
use Rattle.types.specs.declared.Processor.{Processor}
use Rattle.types.specs.Quantities.{n_least, n_most, delta_least, delta_most, gamma_least, gamma_most, views_least, views_most, per_leader, per_leader_least, per_leader_most, turn_start, next_initial, clock_time, end_time}
use Rattle.types.specs.PlanFunctions.{next_initial_word, clock_time_word}
use Rattle.model.specs.Checks.{n_outside, delays_outside, per_leader_outside, views_outside, plan_outside, at_end, clock_outside}
use Rattle.model.specs.Processors.{processor_unsound}
use Rattle.types.proofs.PlanWords.{time-fits, next_fits}
use Rattle.types.proofs.PlanLaws.{gamma_twice, next-least, next-of-zero}
use Rattle.pacemaker.specs.Limits.{plan_check, Within, Sound, time_most}

-- ---- checks 2 to 4

pub check-passes : (p : Plan) → plan_check p ≡ Ok tt → plan_outside p ≡ false
check-passes p e = go (n_outside p) (delays_outside p) (views_outside p) e
  where
    go : (a b c : Bool) → cond {A = Result (Unit {0}) ℕ} a (Err 2) (cond b (Err 3) (cond c (Err 4) (Ok tt))) ≡ Ok tt → (a || b || c) ≡ false
    go true b c e = absurd cc
    go false true c e = absurd cc
    go false false true e = absurd cc
    go false false false e = refl

pub within : (p : Plan) → plan_outside p ≡ false → Within p
within p e =
    let a = or_parts (n_outside p || delays_outside p) (views_outside p) e in
    let b = or_parts (n_outside p) (delays_outside p) a.0 in
    let n = or_parts (ltb p.n n_least) (ltb n_most p.n) b.0 in
    let d = or_parts (ltb p.delta delta_least || ltb delta_most p.delta || ltb p.gamma (gamma_least p)) (ltb gamma_most p.gamma) b.1 in
    let g = or_parts (ltb p.delta delta_least || ltb delta_most p.delta) (ltb p.gamma (gamma_least p)) d.0 in
    let h = or_parts (ltb p.delta delta_least) (ltb delta_most p.delta) g.0 in
    let v = or_parts (per_leader_outside p || ltb p.views views_least || ltb views_most p.views) (not (turn_start p p.views)) a.1 in
    let w = or_parts (per_leader_outside p || ltb p.views views_least) (ltb views_most p.views) v.0 in
    let u = or_parts (per_leader_outside p) (ltb p.views views_least) w.0 in
    let k = or_parts (ltb (per_leader p) per_leader_least) (ltb per_leader_most (per_leader p)) u.0 in
    record {
      n_at_least = ltb-false _ _ n.0;
      n_at_most = ltb-false _ _ n.1;
      delta_at_least = ltb-false _ _ h.0;
      delta_at_most = ltb-false _ _ h.1;
      gamma_twice = gamma_twice p (ltb-false _ _ g.1);
      gamma_at_most = ltb-false _ _ d.1;
      per_leader_at_least = ltb-false _ _ k.0;
      views_at_least = ltb-false _ _ u.1;
      views_at_most = ltb-false _ _ w.1;
      views_multiple = not-false _ v.1;
    }

-- ---- clock times

pub gamma_positive : (p : Plan) → Within p → 0 < p.gamma
gamma_positive p s = omega (arith, s.delta_at_least, s.gamma_twice)

pub time-small : (p : Plan) → Within p → (w : ℕ) → w ≤ p.views → clock_time p w ≤ time_most
time-small p s w l = let a : w ≤ views_most = omega (arith, s.views_at_most) in mul-le-mul a s.gamma_at_most

pub time-word : (p : Plan) → Within p → (w : ℕ) → w ≤ p.views → clock_time_word p w ≡ clock_time p w
time-word p s w l = sym (time-fits p w (omega (arith, time-small p s w l)))

-- the next initial view is no further than the end, a multiple of the views per leader too
pub next-within : (p : Plan) → Within p → (w : ℕ) → w < p.views → next_initial p w ≤ p.views
next-within p s w l = next-least p w p.views s.views_multiple l

-- so a leader's turn fits
pub turn-within : (p : Plan) → Within p → per_leader p ≤ p.views
turn-within p s = omega (arith, next-within p s 0 (omega (arith, s.views_at_least)), next-of-zero p)

pub next_word : (p : Plan) → Within p → (w : ℕ) → w < p.views → next_initial_word p w ≡ next_initial p w
next_word p s w l = sym (next_fits p w (omega (arith, next-within p s w l, s.views_at_most)))

pub next-before-end : (p : Plan) → Within p → (w : ℕ) → w < p.views → clock_time p (next_initial p w) ≤ end_time p
next-before-end p s w l = mul-le-mul_right p.gamma (next-within p s w l)

-- from the view limit on, a clock at the view's time has reached the end
pub past-views : (p : Plan) (clock view : ℕ) → p.views ≤ view → clock_outside p clock view ≡ true
past-views p clock view l =
    let late : end_time p ≤ clock_time p view = mul-le-mul_right p.gamma l in
    or-first _ (leb (clock_time p (next_initial p view)) clock) (⊎_elim
    (λ (h : end_time p ≤ clock). or-first (at_end p clock) (ltb clock (clock_time p view)) (le-leb _ _ h))
    (λ (h : clock < end_time p). or-second (at_end p clock) (ltb clock (clock_time p view)) (lt-ltb clock (clock_time p view) (omega arith)))
    (le? (end_time p) clock))

-- ---- check 9

pub sound : (p : Plan) (c : Processor) → processor_unsound p c ≡ false → Sound p c
sound p c e =
    let a = or_parts (plan_outside p) (clock_outside p c.clock c.view) e in
    let b = or_parts (at_end p c.clock || ltb c.clock (clock_time p c.view)) (leb (clock_time p (next_initial p c.view)) c.clock) a.1 in
    let d = or_parts (at_end p c.clock) (ltb c.clock (clock_time p c.view)) b.0 in
    record {
      within = within p a.0;
      before_end = leb-false _ _ d.0;
      reached = ltb-false _ _ d.1;
      not_next = leb-false _ _ b.1;
    }

-- its view is below the view limit
pub view-below : (p : Plan) (c : Processor) → Sound p c → c.view < p.views
view-below p c s = lt_of_mul-lt-mul_right p.gamma (omega (arith, s.reached, s.before_end))
