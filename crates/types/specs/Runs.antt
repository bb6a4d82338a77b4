-- A run and its parts: the head, which goes by value, and the two tables, which are lent beside it; a setup of its parts; and a plan as numbers.
use Rattle.std.specs.Prelude.{◌≡◌, refl, Bool, true, false, cond, List, [], ◌∷◌, ◌++◌, ℕ, eqb, get_or}
use Rattle.std.proofs.Common.{ap}
use Rattle.types.specs.declared.Head.{Head}
use Rattle.types.specs.declared.Plan.{Plan}
use Rattle.types.specs.declared.Run.{Run}
use Rattle.types.specs.declared.Setup.{Setup}
use Rattle.types.specs.Quantities.{per_leader, per_leader_usual}

-- whether the network has settled, as a number and back: a head has a number for it, since a flag among numbers is slow to copy
abbrev pub settled_as : Bool → ℕ
settled_as settled = cond settled 1 0

abbrev pub is_settled : ℕ → Bool
is_settled k = eqb k 1

-- the run whose tables are lent beside its head
abbrev pub run_from : Head → List ℕ → List ℕ → Run
run_from h clocks views = record {
  plan = h.plan;
  faulty = h.faulty;
  time = h.time;
  settled = is_settled h.settled;
  gst = h.gst;
  held = h.held;
  clocks = clocks;
  views = views;
  traffic = h.traffic;
}

abbrev pub head_of : Run → Head
head_of r = record { plan = r.plan; faulty = r.faulty; time = r.time; settled = settled_as r.settled; gst = r.gst; held = r.held; traffic = r.traffic }

pub settled_back : (b : Bool) → is_settled (settled_as b) ≡ b
settled_back true = refl
settled_back false = refl

-- a run taken apart is put together again
pub head-back : (r : Run) → run_from (head_of r) r.clocks r.views ≡ r
head-back r = ap (λ (b : Bool). record {
  plan = r.plan;
  faulty = r.faulty;
  time = r.time;
  settled = b;
  gst = r.gst;
  held = r.held;
  clocks = r.clocks;
  views = r.views;
  traffic = r.traffic;
}) (settled_back r.settled)

abbrev pub setup_with : Plan → ℕ → List ℕ → Setup
setup_with plan faulty clocks = record { plan = plan; faulty = faulty; clocks = clocks }

-- "any opening line without it is read as k=3": the numbers of a plan without k
abbrev pub usual_numbers : Plan → List ℕ
usual_numbers p = p.n ∷ p.delta ∷ p.gamma ∷ p.views ∷ []

-- "k, the views per leader, .. written in the opening form after V": all of them
abbrev pub plan_numbers : Plan → List ℕ
plan_numbers p = usual_numbers p ++ (per_leader p ∷ [])

-- the plan with this k whose other numbers are the first four of a list; the one of the first five; and the one of four without k
abbrev pub plan_by : ℕ → List ℕ → Plan
plan_by k ns = record { n = get_or ns 0 0; delta = get_or ns 1 0; gamma = get_or ns 2 0; views = get_or ns 3 0; k = k }

abbrev pub plan_in : List ℕ → Plan
plan_in ns = plan_by (get_or ns 4 0) ns

abbrev pub usual_plan_in : List ℕ → Plan
usual_plan_in ns = plan_by per_leader_usual ns
