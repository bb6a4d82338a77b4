-- The answer of checks 2 to 4, and what a plan within limits and a sound processor have.
use Rattle.std.specs.Prelude.{◌≡◌, true, Err, Ok, Result, [], ◌∷◌, ℕ, ◌*◌, ◌≤◌, ◌<◌}
use Rattle.types.specs.declared.Plan.{Plan}
use Rattle.types.specs.declared.Processor.{Processor}
use Rattle.types.specs.Quantities.{n_least, n_most, delta_least, delta_most, gamma_most, views_least, views_most, per_leader, per_leader_least, turn_start, next_initial, clock_time, end_time}
use Rattle.model.specs.Checks.{judged, n_outside, delays_outside, views_outside}

-- the first of checks 2 to 4 whose sentence holds, as an error
abbrev pub plan_check : Plan → Result (Unit {0}) ℕ
plan_check p = judged (λ r. Err r) ((2, n_outside p) ∷ (3, delays_outside p) ∷ (4, views_outside p) ∷ []) (Ok tt)

-- no clock time of a plan that passes them is larger
abbrev pub time_most : ℕ
time_most = views_most * gamma_most

-- a plan that passes them
pub record Within (p : Plan) : Type 0 where
  pub n_at_least : n_least ≤ p.n
  pub n_at_most : p.n ≤ n_most
  pub delta_at_least : delta_least ≤ p.delta
  pub delta_at_most : p.delta ≤ delta_most
  pub gamma_twice : 2 * p.delta ≤ p.gamma
  pub gamma_at_most : p.gamma ≤ gamma_most
  pub per_leader_at_least : per_leader_least ≤ per_leader p
  pub views_at_least : views_least ≤ p.views
  pub views_at_most : p.views ≤ views_most
  pub views_multiple : turn_start p p.views ≡ true

-- a processor that passes check 9
pub record Sound (p : Plan) (c : Processor) : Type 0 where
  pub within : Within p
  pub before_end : c.clock < end_time p
  pub reached : clock_time p c.view ≤ c.clock
  pub not_next : c.clock < clock_time p (next_initial p c.view)
