-- Rule 1 of a sound processor: a tick brings its clock to the next initial view's clock time, or to no initial view's. Assumes nothing.
use mathlib.Core.Path.{◌≡◌, refl, sym, ap, ◌∙◌}
use mathlib.Core.Bool.{Bool, true, ◌&&◌}
use mathlib.Core.List.{[]}
use Prim.Native.Nat.{ℕ, ◌+◌, ◌*◌, ◌/◌, ◌%◌, ◌≤◌, ◌<◌}
use native.Mathlib.Omega.{arith}
use native.Mathlib.Nat.{div-add-mod', lt_of_mul-lt-mul_right, mul-div_cancel, mul-mod_left}
use lib.Dec.{T, eqb, eqb→eq}
use borrow.Author.Tests.{lt-ltb, le-ltb, lt-leb, eq-eqb}
use Rattle.base.specs.Tests.{T-left, T-right, T_true, T_false}
use Rattle.base.specs.Choice.{cond_yes, cond_no, and_both}
use Rattle.types.specs.declared.Plan.{Plan}
use Rattle.types.specs.declared.Processor.{Processor}
use Rattle.types.specs.declared.Input.TheVariants.{Tick}
use Rattle.types.specs.Quantities.{initial, next_initial, clock_time, end_time}
use Rattle.types.proofs.PlanLaws.{next-least, next-initial}
use Rattle.model.specs.Moves.{stay, into, entry_clock, entry_messages, by_clock}
use Rattle.model.specs.Processors.{sending}
use Rattle.pacemaker.specs.Limits.{Sound}
use Rattle.pacemaker.specs.Steps.{ending, entry_into, stepping}
use Rattle.pacemaker.proofs.LimitLaws.{gamma_positive, next-before-end, view-below}
use Rattle.pacemaker.proofs.StepLaws.{goes_on, ticked}

-- a clock between its view's time and the next initial view's comes to no initial view
pub no-arrival : (plan : Plan) (clock view : ℕ) → clock_time plan view ≤ clock → clock + 1 < clock_time plan (next_initial plan view) → by_clock plan (clock + 1) ≡ stay
no-arrival plan clock view low high = sym (cond_no due stay (into w) stay (T_false due here) refl)
  where
    w : ℕ
    w = (clock + 1) / plan.gamma

    due : Bool
    due = eqb ((clock + 1) % plan.gamma) 0 && initial plan w

    here : T due → ⊥
    here t =
        let m : (clock + 1) % plan.gamma ≡ 0 = eqb→eq _ _ (T-left (eqb ((clock + 1) % plan.gamma) 0) (initial plan w) t) in
        let i : initial plan w ≡ true = T_true (initial plan w) (T-right (eqb ((clock + 1) % plan.gamma) 0) (initial plan w) t) in
        let g : w * plan.gamma ≡ clock + 1 = omega (arith, div-add-mod' (clock + 1) plan.gamma) in
        let above : view < w = lt_of_mul-lt-mul_right plan.gamma (omega arith) in
        let below : w < next_initial plan view = lt_of_mul-lt-mul_right plan.gamma (omega arith) in
        omega (arith, next-least plan view w i above)

-- a clock at the next initial view's time comes to that view
pub arrives : (plan : Plan) (clock view : ℕ) → 0 < plan.gamma → clock ≡ clock_time plan (next_initial plan view) → by_clock plan clock ≡ into (next_initial plan view)
arrives plan clock view pos is =
    ap (by_clock plan) is ∙ sym (cond_yes _ _ _ _ (and_both _ _ (eq-eqb (time % plan.gamma) 0 (mul-mod_left next plan.gamma))
    (ap (initial plan) slot ∙ next-initial plan view)) (ap into (sym slot)))
  where
    next : ℕ
    next = next_initial plan view

    time : ℕ
    time = clock_time plan next

    slot : time / plan.gamma ≡ next
    slot = mul-div_cancel next pos

-- an entry by the clock finds it one before the view's time, or at it
same-clock : (plan : Plan) (clock w : ℕ) → clock + 1 ≡ clock_time plan w → entry_clock plan clock w ≡ entry_clock plan (clock + 1) w
same-clock plan clock w is =
    sym (cond_yes _ _ (clock_time plan w) clock (lt-ltb clock (clock_time plan w) (omega arith)) is)
    ∙ cond_no _ _ (clock_time plan w) (clock + 1) (le-ltb (clock + 1) (clock_time plan w) (omega arith)) refl

module _ (plan : Plan) (c : Processor) (s : Sound plan c) where
  pub tick-passes : c.clock + 1 < clock_time plan (next_initial plan c.view)
      → sending (record { number = c.number; clock = c.clock + 1; view = c.view }) [] ≡ stepping plan c Tick
  tick-passes l =
      let before : c.clock + 1 < end_time plan = omega (arith, next-before-end plan s.within c.view (view-below plan c s)) in
      goes_on plan c _ (lt-leb _ _ before) ∙ ticked plan c stay (sym (no-arrival plan c.clock c.view s.reached l))

  pub tick-arrives : clock_time plan (next_initial plan c.view) ≤ c.clock + 1 → entry_into plan c (next_initial plan c.view) ≡ stepping plan c Tick
  tick-arrives l =
      let w = next_initial plan c.view in
      let is : c.clock + 1 ≡ clock_time plan w = omega (arith, s.not_next) in
      ap (λ (x : ℕ). ending plan c (sending (record { number = c.number; clock = x; view = w }) (entry_messages plan c.number w))) (same-clock plan c.clock w is)
      ∙ ticked plan c (into w) (sym (arrives plan (c.clock + 1) c.view (gamma_positive plan s.within) is))
