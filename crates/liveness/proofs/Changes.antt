-- What the changes of a run within the limits do, its clocks within their views: they send only what names views and processors that there are,
-- and keep every correct clock within its view. Assumes nothing.
use mathlib.Core.Bool.{Bool, true, false, ◌&&◌, cond}
use Prim.Native.Nat.{ℕ, ◌+◌, ◌≤◌, ◌<◌}
use native.Mathlib.Omega.{arith}
use lib.Dec.{T, leb, ltb, leb→le, ltb→lt}
use lib.ListN.{length}
use Rattle.base.specs.Tests.{T-right, by_cond}
use Rattle.types.specs.declared.Plan.{Plan}
use Rattle.types.specs.declared.Message.{Message}
use Rattle.types.specs.declared.Message.TheVariants.{View, Vote, Vc, Qc}
use Rattle.types.specs.declared.Event.TheVariants.{Sign, Show}
use Rattle.types.specs.declared.Run.{Run}
use Rattle.types.specs.Quantities.{lead, initial}
use Rattle.types.specs.Messages.{view_in, processor_in, lacks_form}
use Rattle.model.specs.State.{State, view_of, is_correct}
use Rattle.model.specs.Moves.{Change, still, stay, into, taking, hearing, handling, advanced, arrivals}
use Rattle.model.specs.Checks.{reaches_end}
use Rattle.model.specs.Events.{signing}
use Rattle.liveness.specs.Promises.{Tabled}
use Rattle.liveness.proofs.Link.{Planned}
use Rattle.liveness.proofs.Soundness.{Inside, InsideRun}
use Rattle.liveness.proofs.Addressing.{Addressed, Sends, still-sends, hearing_sends}
use Rattle.liveness.proofs.Clocks.{entered-sends, entered_inside, ticked_sends, ticked_inside}

abbrev pub Keeps : State → Change → Type 0
Keeps s c = Sends s.run s.tally c × Inside s.run.plan s.run.faulty c.clocks c.views

-- whom a certificate reaches is correct
abbrev pub Reached : Run → Message → Type 0
Reached r (View w p) = Unit {0}
Reached r (Vote w p) = Unit {0}
Reached r (Vc w p) = T (is_correct r p)
Reached r (Qc w p) = T (is_correct r p)

pub reached-by : (r : Run) (m : Message) → Addressed r.plan r.faulty m → Reached r m
reached-by r (View w p) a = tt
reached-by r (Vote w p) a = tt
reached-by r (Vc w p) a = a.for_correct
reached-by r (Qc w p) a = a.for_correct

module _ (s : State) (ok : Planned s.run.plan s.run.faulty) (inside : InsideRun s.run) (tabled : Tabled s.run) where
  abbrev plan : Plan
  plan = s.run.plan

  clocks_long : plan.n ≤ length s.run.clocks
  clocks_long = omega (arith, ok.n_at_most, tabled.clocks)

  views_long : plan.n ≤ length s.run.views
  views_long = omega (arith, ok.n_at_most, tabled.views)

  still-keeps : Keeps s (still s.run s.tally)
  still-keeps = (still-sends s.run s.tally, inside)

  heard-keeps : (q : Bool) (w p : ℕ) → w < plan.views → Keeps s (hearing q s.run s.tally w p)
  unfolding hearing
  heard-keeps q w p low = (hearing_sends s.run s.tally q w p low, inside)

  -- a certificate reaches a correct processor, and makes it enter a view not below its own, or none
  taken-keeps : (p w : ℕ) (b : Bool) → T (is_correct s.run p) → (T b → view_of s.run p ≤ w)
      → (T (reaches_end s.run (taking s.run s.tally p (cond b (into w) stay))) → ⊥) → Keeps s (taking s.run s.tally p (cond b (into w) stay))
  unfolding taking
  taken-keeps p w true c rises on = (
    entered-sends s.run s.tally ok clocks_long views_long inside p w c (rises tt) on,
    entered_inside s.run s.tally ok clocks_long views_long inside p w c (rises tt) on,
  )
  taken-keeps p w false c rises on = still-keeps

  pub handled-keeps : (m : Message) → Reached s.run m → view_in m < plan.views → (T (reaches_end s.run (handling s.run s.tally m)) → ⊥)
      → Keeps s (handling s.run s.tally m)
  unfolding handling
  handled-keeps (View w p) c low on = heard-keeps false w p low
  handled-keeps (Vote w p) c low on = heard-keeps true w p low
  handled-keeps (Vc w p) c low on = taken-keeps p w (initial plan w && ltb (view_of s.run p) w) c
      (λ t. let l : view_of s.run p < w = ltb→lt _ _ (T-right (initial plan w) _ t) in omega arith) on
  handled-keeps (Qc w p) c low on = taken-keeps p (w + 1) (leb (view_of s.run p) w) c
      (λ t. let l : view_of s.run p ≤ w = leb→le _ _ t in omega arith) on

  -- a signature is heard by a correct leader, or by nobody
  heard-or-not : (q : Bool) (w p : ℕ) → w < plan.views
      → Keeps s (cond (is_correct s.run (lead plan w)) (hearing q s.run s.tally w p) (still s.run s.tally))
  heard-or-not q w p low = by_cond (Keeps s) (is_correct s.run (lead plan w)) (hearing q s.run s.tally w p) (still s.run s.tally)
      (λ t. heard-keeps q w p low) (λ t. still-keeps)

  pub signed-keeps : (m : Message) → (T (lacks_form (Sign m)) → ⊥) → view_in m < plan.views → Keeps s (signing s m)
  unfolding signing handling
  signed-keeps (View w p) form low = heard-or-not false w p low
  signed-keeps (Vote w p) form low = heard-or-not true w p low
  signed-keeps (Vc w p) form low = absurd (form tt)
  signed-keeps (Qc w p) form low = absurd (form tt)

  pub shown-keeps : (m : Message) → (T (lacks_form (Show m)) → ⊥) → T (is_correct s.run (processor_in m)) → view_in m < plan.views
      → (T (reaches_end s.run (handling s.run s.tally m)) → ⊥) → Keeps s (handling s.run s.tally m)
  shown-keeps (View w p) form c low on = absurd (form tt)
  shown-keeps (Vote w p) form c low on = absurd (form tt)
  shown-keeps (Vc w p) form c low on = handled-keeps (Vc w p) c low on
  shown-keeps (Qc w p) form c low on = handled-keeps (Qc w p) c low on

  pub ticked-keeps : (T (reaches_end (advanced s).run (arrivals (advanced s))) → ⊥) → Keeps (advanced s) (arrivals (advanced s))
  ticked-keeps on = (ticked_sends s ok clocks_long views_long inside on, ticked_inside s ok clocks_long views_long inside on)
