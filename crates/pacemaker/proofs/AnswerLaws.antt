-- For callers: what a step does of a sound processor below n, and what its answer says. Assumes nothing.
use Rattle.std.specs.Prelude.{Err, Ok}
use mathlib.Core.Path.{◌≡◌, refl, sym, ap, ◌∙◌}
use mathlib.Core.Bool.{Bool, true, false, ◌&&◌}
use Prim.Native.Nat.{ℕ, ◌+◌, ◌/◌, ◌%◌, ◌<◌}
use native.Mathlib.Omega.{arith}
use native.Mathlib.Nat.{div-mul-le_self}
use lib.Dec.{eqb}
use borrow.Author.Tests.{le-ltb, eqb-false}
use Rattle.base.specs.Tests.{by_cond}
use Rattle.base.specs.Choice.{cond_no}
use Rattle.types.specs.declared.Plan.{Plan}
use Rattle.types.specs.declared.Processor.{Processor}
use Rattle.types.specs.declared.Input.{Input}
use Rattle.types.specs.declared.Input.TheVariants.{Tick, Vc, Qc}
use Rattle.types.specs.declared.Sends.{Sends}
use Rattle.types.specs.Quantities.{initial, clock_time}
use Rattle.model.specs.Moves.{Entry, stay, into}
use Rattle.model.specs.Checks.{at_end}
use Rattle.model.specs.Processors.{Moved, Gives, messages_of, moving, moving-check, moving_by, clock_at, entry_by, processor_unsound, refusing, stepped}
use Rattle.pacemaker.specs.Steps.{ending, stepping, Named}
use Rattle.pacemaker.proofs.StepLaws.{ends, goes_on, certified, voted, is-stepping}

-- ---- what an answer says

pub sent-check : {m : Moved} {c : Processor} {x : Sends} → Gives m c (Ok x) → m.check ≡ 0
sent-check g = sym g.check

pub sent-messages : {m : Moved} {c : Processor} {x : Sends} → Gives m c (Ok x) → messages_of c.number x ≡ m.sent
sent-messages g = g.sent

pub refused-check : {m : Moved} {c : Processor} {r : ℕ} → Gives m c (Err r) → r ≡ m.check
refused-check g = g.check

pub refused-some : {m : Moved} {c : Processor} {r : ℕ} → Gives m c (Err r) → 0 < m.check
refused-some {m = m} g = let ne : m.check ≡ 0 → ⊥ = eqb-false m.check 0 (sym g.accepted) in omega arith

-- ---- a step of a sound processor below n

is-ending : (plan : Plan) (c : Processor) (i : Input) → Named plan i → ending plan c (moving_by plan c i) ≡ stepping plan c i
is-ending plan c Tick named = refl
is-ending plan c (Vc w) named = certified plan c w _ named.0 named.1 refl
is-ending plan c (Qc w) named = voted plan c w _ named refl

module _ (plan : Plan) (c : Processor) (i : Input) (sound : processor_unsound plan c ≡ false) (below-n : c.number < plan.n) (named : Named plan i) where
  -- it makes its move where the clock stays before the end
  pub steps : at_end plan (moving_by plan c i).processor.clock ≡ false → stepped plan c i ≡ moving_by plan c i
  steps e = sym (goes_on plan c (moving_by plan c i) e ∙ is-ending plan c i named ∙ is-stepping plan c i sound below-n)

  -- and is refused by 17 elsewhere
  pub stops : at_end plan (moving_by plan c i).processor.clock ≡ true → stepped plan c i ≡ refusing c 17
  stops e = sym (ends plan c (moving_by plan c i) e ∙ is-ending plan c i named ∙ is-stepping plan c i sound below-n)

  -- so the answer tells which
  pub sent-before-end : (d : Processor) (x : Sends) → Gives (stepped plan c i) d (Ok x) → at_end plan (moving_by plan c i).processor.clock ≡ false
  sent-before-end d x g = go (at_end plan (moving_by plan c i).processor.clock) refl
    where
      go : (t : Bool) → at_end plan (moving_by plan c i).processor.clock ≡ t → t ≡ false
      go true e = let z : (stepped plan c i).check ≡ 17 = ap (λ (m : Moved). m.check) (stops e) in absurd (omega (arith, sent-check g))
      go false e = refl

  pub refused-at-end : (d : Processor) (r : ℕ) → Gives (stepped plan c i) d (Err r) → (r ≡ 17) × (at_end plan (moving_by plan c i).processor.clock ≡ true)
  refused-at-end d r g = go (at_end plan (moving_by plan c i).processor.clock) refl
    where
      go : (t : Bool) → at_end plan (moving_by plan c i).processor.clock ≡ t → (r ≡ 17) × (t ≡ true)
      go true e = (refused-check g ∙ ap (λ (m : Moved). m.check) (stops e), refl)
      go false e =
          let z : (stepped plan c i).check ≡ 0 =
          ap (λ (m : Moved). m.check) (steps e) ∙ moving-check plan c.number (clock_at c i) c.view (entry_by plan c i) in
          absurd (omega (arith, refused-some g))

-- a tick adds 1 to the clock, whether or not a view is entered
pub tick-clock : (plan : Plan) (c : Processor) → (moving_by plan c Tick).processor.clock ≡ c.clock + 1
tick-clock plan c = by_cond (λ (e : Entry). (moving plan c.number (c.clock + 1) c.view e).processor.clock ≡ c.clock + 1)
    (eqb ((c.clock + 1) % plan.gamma) 0 && initial plan w) (into w) stay
    (λ t. sym (cond_no _ _ _ _ (le-ltb (c.clock + 1) (clock_time plan w) (div-mul-le_self (c.clock + 1) plan.gamma)) refl)) (λ t. refl)
  where
    w : ℕ
    w = (c.clock + 1) / plan.gamma
