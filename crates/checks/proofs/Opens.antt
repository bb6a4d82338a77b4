-- What a list of checks gives, by the number of the first that refuses, and the checks of an opening so. Assumes nothing.
use Rattle.std.specs.Prelude.{Err, Ok, Result}
use mathlib.Core.Path.{◌≡◌, refl, sym, ◌∙◌}
use mathlib.Core.Bool.{Bool, true, false, cond}
use mathlib.Core.List.{List, [], ◌∷◌}
use Prim.Native.Nat.{ℕ}
use Rattle.types.specs.declared.Plan.{Plan}
use Rattle.types.specs.declared.Form.TheVariants.{Packed}
use Rattle.types.specs.declared.Setup.{Setup}
use Rattle.model.specs.State.{State, After, refused}
use Rattle.model.specs.Checks.{Check, judged, n_outside, delays_outside, views_outside, plan_outside, faulty_outside, lengths_outside, start_too_high, too_far_ahead}
use Rattle.model.specs.Opening.{opening_checks}
use Rattle.pacemaker.specs.Limits.{plan_check}
use Rattle.pacemaker.proofs.LimitLaws.{check-passes}
use Rattle.checks.specs.Setups.{setup_check, opening_check}

-- what a check's refusal, or its passing, gives
abbrev pub by_result : {A : Type 0} → (ℕ → A) → A → Result (Unit {0}) ℕ → A
by_result refusal a (Err r) = refusal r
by_result refusal a (Ok t) = a

-- judged by the first check that refuses, as an error
judged-result : {A : Type 0} (refusal : ℕ → A) (cs : List Check) (a : A) → judged refusal cs a ≡ by_result refusal a (judged (λ r. Err r) cs (Ok tt))
judged-result refusal [] a = refl
judged-result {A} refusal (c ∷ cs) a = go c.1 (judged-result refusal cs a)
  where
    go : (b : Bool) → judged refusal cs a ≡ by_result refusal a (judged (λ r. Err r) cs (Ok tt))
        → cond b (refusal c.0) (judged refusal cs a) ≡ by_result refusal a (cond b (Err c.0) (judged (λ r. Err r) cs (Ok tt)))
    go true ih = refl
    go false ih = ih

-- an opening, by the first check that refuses
pub setup-check : (u : Setup) (s : State) (a : After) → judged (refused s) (opening_checks u s) a ≡ by_result (refused s) a (opening_check u s)
unfolding setup_check
setup-check u s a = judged-result (refused s) (opening_checks u s) a

-- a setup that passes checks 2 to 8 with buffers of these lengths
pub record Passed (u : Setup) (tally network : ℕ) : Type 0 where
  pub plan : plan_outside u.plan ≡ false
  pub faulty : faulty_outside u.plan u.faulty ≡ false
  pub lengths : lengths_outside Packed u.plan tally network ≡ false
  pub start : start_too_high u.plan u.faulty u.clocks ≡ false
  pub ahead : too_far_ahead u.plan u.faulty u.clocks ≡ false

module _ (u : Setup) (tally network : ℕ) where
  abbrev plan : Plan
  plan = u.plan

  abbrev faulty : Bool
  faulty = faulty_outside plan u.faulty

  abbrev short : Bool
  short = lengths_outside Packed plan tally network

  abbrev high : Bool
  high = start_too_high plan u.faulty u.clocks

  abbrev ahead : Bool
  ahead = too_far_ahead plan u.faulty u.clocks

  -- checks 5 to 8, of a plan that checks 2 to 4 passed
  abbrev pub turns : Bool → Bool → Bool → Bool → Result (Unit {0}) ℕ
  turns f l s a = cond f (Err 5) (cond l (Err 6) (cond s (Err 7) (cond a (Err 8) (Ok tt))))

  -- checks 2 to 4 together, then 5 to 8
  pub steps : setup_check Packed u tally network ≡ by_result (λ r. Err r) (turns faulty short high ahead) (plan_check plan)
  unfolding setup_check
  steps = judged-result (λ r. Err r) ((2, n_outside plan) ∷ (3, delays_outside plan) ∷ (4, views_outside plan) ∷ []) (turns faulty short high ahead)

  pub setup-passed : setup_check Packed u tally network ≡ Ok tt → Passed u tally network
  setup-passed e = go (plan_check plan) refl (sym steps ∙ e)
    where
      none : (f l s a : Bool) → turns f l s a ≡ Ok tt → (f ≡ false) × (l ≡ false) × (s ≡ false) × (a ≡ false)
      none true l s a e = absurd cc
      none false true s a e = absurd cc
      none false false true a e = absurd cc
      none false false false true e = absurd cc
      none false false false false e = (refl, refl, refl, refl)

      go : (r : Result (Unit {0}) ℕ) → plan_check plan ≡ r → by_result (λ k. Err k) (turns faulty short high ahead) r ≡ Ok tt → Passed u tally network
      go (Err k) p e = absurd cc
      go (Ok t) p e = let h = none faulty short high ahead e in
          record { plan = check-passes plan p; faulty = h.0; lengths = h.1; start = h.2; ahead = h.3 }
