-- Where the plan's functions answer document 01's number. Assumes nothing.
use mathlib.Core.Path.{◌≡◌, refl, ap}
use mathlib.Core.Bool.{cond}
use mathlib.Core.Logic.{◌≢◌}
use Prim.Native.Nat.{ℕ, ◌-◌, ◌*◌, ◌^◌, ◌<◌}
use native.Mathlib.Omega.{arith}
use lib.Dec.{leb, ltb}
use borrow.Author.Tests.{lt-ltb, ne_eqb}
use Rattle.base.specs.Choice.{cond_yes}
use Rattle.types.specs.declared.Plan.{Plan}
use Rattle.types.specs.declared.Message.{Message}
use Rattle.types.specs.Quantities.{lead, next_initial, clock_time}
use Rattle.types.specs.Messages.{kind_of, view_in, processor_in, last_signature_kind, addressee}
use Rattle.types.specs.PlanFunctions.{lead_word, addressee_word, next_initial_word, clock_time_word}

pub time-fits : (plan : Plan) (w : ℕ) → w * plan.gamma < 2 ^ 64 → w * plan.gamma ≡ clock_time_word plan w
time-fits plan w l = cond_yes (ltb (clock_time plan w) (2 ^ 64)) (clock_time plan w) (clock_time plan w) (2 ^ 64 - 1) (lt-ltb _ _ l) refl

pub next_fits : (plan : Plan) (w : ℕ) → next_initial plan w < 2 ^ 64 → next_initial plan w ≡ next_initial_word plan w
next_fits plan w l = cond_yes (ltb (next_initial plan w) (2 ^ 64)) (next_initial plan w) (next_initial plan w) (2 ^ 64 - 1) (lt-ltb _ _ l) refl

-- where there are processors one of them leads
pub lead-fits : (plan : Plan) (w : ℕ) → 0 < plan.n → lead_word plan w ≡ lead plan w
lead-fits plan w l = let ne : plan.n ≢ 0 = λ e. absurd (omega (arith, e)) in rw (ne_eqb plan.n 0 ne) refl

pub addressee-fits : (plan : Plan) (m : Message) → 0 < plan.n → addressee_word plan m ≡ addressee plan (kind_of m) (view_in m) (processor_in m)
addressee-fits plan m l = ap (λ (q : ℕ). cond (leb (kind_of m) last_signature_kind) q (processor_in m)) (lead-fits plan (view_in m) l)
