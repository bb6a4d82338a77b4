-- Check 9 but for the time as a chain of six tests: the first that passes, or the last; and the time. Assumes nothing.
use mathlib.Core.Path.{◌≡◌, sym, ap, ◌∙◌}
use mathlib.Core.Bool.{Bool, true, false, ◌||◌}
use Prim.Native.Nat.{ℕ, ◌≤◌}
use native.Mathlib.Nat.{le_refl}
use lib.Dec.{leb}
use borrow.Author.Tests.{ltb-false}
use Rattle.base.specs.Choice.{or_parts}
use Rattle.base.specs.Scan.{some}
use Rattle.base.specs.Tests.{fails, T_false}
use Rattle.types.specs.declared.Plan.{Plan}
use Rattle.types.specs.PlanFunctions.{clock_time_word}
use Rattle.model.specs.State.{State, room_in}
use Rattle.model.specs.Checks.{plan_outside, faulty_outside, buffers_outside, at_end, time_unsound, unsound}
use Rattle.model.specs.Checks.{limits_broken, clocks_unsound, held_too_many, message_unsound, settling_unsound, tail_not_zero, unsound_for_good}
use Rattle.liveness.proofs.Soundness.{SoundRun, good_of, sound-of, unsound-parts}
use Rattle.pacemaker.proofs.LimitLaws.{within, time-word}
use Rattle.checks.specs.Runs.{Judges}

module _ (a b c d e f : Bool) where
  abbrev chain : Bool
  chain = a || b || c || d || e || f

  stop1 : a ≡ true → true ≡ chain
  stop1 x = rw x

  stop2 : a ≡ false → b ≡ true → true ≡ chain
  stop2 u x = rw (u, x)

  stop3 : a ≡ false → b ≡ false → c ≡ true → true ≡ chain
  stop3 u v x = rw (u, v, x)

  stop4 : a ≡ false → b ≡ false → c ≡ false → d ≡ true → true ≡ chain
  stop4 u v w x = rw (u, v, w, x)

  stop5 : a ≡ false → b ≡ false → c ≡ false → d ≡ false → e ≡ true → true ≡ chain
  stop5 u v w p x = rw (u, v, w, p, x)

  stop6 : a ≡ false → b ≡ false → c ≡ false → d ≡ false → e ≡ false → f ≡ chain
  stop6 u v w p q = rw (u, v, w, p, q)

module _ (s : State) where
  abbrev limits : Bool
  limits = limits_broken s

  abbrev clocks : Bool
  clocks = clocks_unsound s

  abbrev room : Bool
  room = held_too_many s

  abbrev messages : Bool
  messages = some (message_unsound s) s.run.held

  abbrev settling : Bool
  settling = settling_unsound s

  abbrev tail : Bool
  tail = tail_not_zero s

  -- it refuses
  refuses : true ≡ unsound_for_good s → Judges s true
  refuses e = record { says = e; clocks = λ x. absurd (fails true x tt); views = λ x. absurd (fails true x tt) }

  pub by-limits : limits ≡ true → Judges s true
  unfolding unsound_for_good
  by-limits x = refuses (stop1 limits clocks room messages settling tail x)

  pub by-clocks : limits ≡ false → clocks ≡ true → Judges s true
  unfolding unsound_for_good
  by-clocks u x = refuses (stop2 limits clocks room messages settling tail u x)

  pub by-room : limits ≡ false → clocks ≡ false → room ≡ true → Judges s true
  unfolding unsound_for_good
  by-room u v x = refuses (stop3 limits clocks room messages settling tail u v x)

  pub by-messages : limits ≡ false → clocks ≡ false → room ≡ false → messages ≡ true → Judges s true
  unfolding unsound_for_good
  by-messages u v w x = refuses (stop4 limits clocks room messages settling tail u v w x)

  pub by-settling : limits ≡ false → clocks ≡ false → room ≡ false → messages ≡ false → settling ≡ true → Judges s true
  unfolding unsound_for_good
  by-settling u v w p x = refuses (stop5 limits clocks room messages settling tail u v w p x)

  pub by-tail : limits ≡ false → clocks ≡ false → room ≡ false → messages ≡ false → settling ≡ false → tail ≡ unsound_for_good s
  unfolding unsound_for_good
  by-tail = stop6 limits clocks room messages settling tail

  abbrev plan_out : Bool
  plan_out = plan_outside s.run.plan

  abbrev faulty_out : Bool
  faulty_out = faulty_outside s.run.plan s.run.faulty

  abbrev buffers_out : Bool
  buffers_out = buffers_outside s

  -- the plan is within its limits
  pub plan-passes : limits ≡ false → plan_out ≡ false
  plan-passes e = (or_parts plan_out faulty_out (or_parts (plan_out || faulty_out) buffers_out e).0).0

-- ---- and the time

-- the end, as the plan's own function gives it
pub end-reached : (plan : Plan) (time e : ℕ) → plan_outside plan ≡ false → e ≡ clock_time_word plan plan.views → leb e time ≡ at_end plan time
end-reached plan time e ok is = ap (λ (x : ℕ). leb x time) (is ∙ time-word plan (within plan ok) plan.views (le_refl plan.views))

module _ (s : State) (broken : Bool) (is : broken ≡ unsound_for_good s) where
  good-when : broken ≡ false → SoundRun s
  good-when e = good_of s (fails (unsound_for_good s) (sym is ∙ e))

  pub plan-of : broken ≡ false → plan_outside s.run.plan ≡ false
  plan-of e = plan-passes s (T_false (limits_broken s) (good-when e).limits)

  pub nine-is : (nine : Bool) → nine ≡ (broken || time_unsound s) → nine ≡ unsound s
  nine-is nine e = e ∙ ap (λ (b : Bool). b || time_unsound s) is ∙ sym (unsound-parts s)

-- a sound run has no more messages than fit
pub room_of : (s : State) → unsound s ≡ false → s.run.held ≤ room_in s
room_of s sound = ltb-false _ _ (T_false (held_too_many s) (sound-of s (fails (unsound s) sound)).room)
