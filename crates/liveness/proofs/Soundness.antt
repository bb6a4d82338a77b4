-- Check 9 taken apart: what a sound run has, part by part, and which part of the check lasts. Assumes nothing.
use mathlib.Core.Path.{◌≡◌, refl, sym, ◌∙◌, subst}
use mathlib.Core.Bool.{Bool, true, false, ◌&&◌, ◌||◌}
use mathlib.Core.List.{List}
use Prim.Native.Nat.{ℕ, ◌*◌, ◌≤◌, ◌<◌}
use native.Mathlib.Omega.{arith}
use lib.Dec.{T, leb, ltb, leb→le, ltb→lt}
use lib.ListN.{length, get_or}
use Rattle.base.specs.Choice.{or-second}
use Rattle.base.specs.Tests.{T-left, T-right, T_and, T_false}
use Rattle.base.specs.Scan.{some}
use Rattle.base.specs.ScanLaws.{some-by, some-gives}
use Rattle.types.specs.declared.Plan.{Plan}
use Rattle.types.specs.declared.Run.{Run}
use Rattle.types.specs.Quantities.{row_words, next_initial, clock_time, end_time, correct}
use Rattle.model.specs.State.{State, clock_of, view_of, is_correct}
use Rattle.model.specs.Checks.{plan_outside, faulty_outside, buffers_outside, limits_broken, at_end, clock_outside, clocks_unsound, time_unsound, held_too_many, message_unsound, settling_unsound, tail_not_zero, unsound, unsound_for_good}
use Rattle.liveness.specs.Promises.{UnsoundParts}
use Rattle.liveness.proofs.Link.{correct_below}
use Rattle.liveness.proofs.Judging.{neither, nor, or-none, not-ltb, not-leb, lengths-within}

-- ---- check 9 but for the time

pub record SoundRun (s : State) : Type 0 where
  pub limits : T (limits_broken s) → ⊥
  pub clocks : (p : ℕ) → T (is_correct s.run p) → T (clock_outside s.run.plan (clock_of s.run p) (view_of s.run p)) → ⊥
  pub room : T (held_too_many s) → ⊥
  pub messages : (i : ℕ) → i < s.run.held → T (message_unsound s i) → ⊥
  pub settling : T (settling_unsound s) → ⊥
  pub tail : T (tail_not_zero s) → ⊥

module _ (s : State) where
  abbrev outside : ℕ → Bool
  outside p = is_correct s.run p && clock_outside s.run.plan (clock_of s.run p) (view_of s.run p)

  abbrev any_unsound : Bool
  any_unsound = some (message_unsound s) s.run.held

  -- its tests, as far as each goes
  abbrev to_clocks : Bool
  to_clocks = limits_broken s || clocks_unsound s

  abbrev to_room : Bool
  to_room = to_clocks || held_too_many s

  abbrev to_messages : Bool
  to_messages = to_room || any_unsound

  abbrev to_settling : Bool
  to_settling = to_messages || settling_unsound s

  pub good_of : (T (unsound_for_good s) → ⊥) → SoundRun s
  unfolding unsound_for_good
  good_of no' =
      let t = neither to_settling (tail_not_zero s) no' in
      let st = neither to_messages (settling_unsound s) t.0 in
      let ms = neither to_room any_unsound st.0 in
      let r = neither to_clocks (held_too_many s) ms.0 in
      let c = neither (limits_broken s) (clocks_unsound s) r.0 in
      record {
        limits = c.0;
        clocks = λ p i x. c.1 (some-by outside s.run.plan.n p (correct_below s.run.plan s.run.faulty p i) (T_and (is_correct s.run p) _ i x));
        room = r.1;
        messages = λ i l x. ms.1 (some-by (message_unsound s) s.run.held i l x);
        settling = st.1;
        tail = t.1;
      }

  pub of_good : SoundRun s → unsound_for_good s ≡ false
  unfolding unsound_for_good
  of_good x = T_false _
      (nor to_settling (tail_not_zero s) (nor to_messages (settling_unsound s) (nor to_room any_unsound (nor to_clocks (held_too_many s)
      (nor (limits_broken s) (clocks_unsound s) x.limits
      (λ t. let r = some-gives outside s.run.plan.n t in
      x.clocks r.0 (T-left (is_correct s.run r.0) _ r.2) (T-right (is_correct s.run r.0) _ r.2)))
      x.room) (λ t. let r = some-gives (message_unsound s) s.run.held t in x.messages r.0 r.1 r.2))
      x.settling) x.tail)

-- ---- and with it

apart : (a t h m g z : Bool) → (a || t || h || m || g || z) ≡ ((a || h || m || g || z) || t)
apart true t h m g z = refl
apart false true h m g z = sym (or-second (h || m || g || z) true refl)
apart false false h m g z = sym (or-none (h || m || g || z) false (λ x. x))

pub unsound-parts : UnsoundParts
unfolding unsound unsound_for_good
unsound-parts s = apart (limits_broken s || clocks_unsound s) (time_unsound s) (held_too_many s) (some (message_unsound s) s.run.held) (settling_unsound s)
    (tail_not_zero s)

module _ (s : State) where
  parts : (T (unsound s) → ⊥) → (T (unsound_for_good s) → ⊥) × (T (time_unsound s) → ⊥)
  parts no' = neither (unsound_for_good s) (time_unsound s) (subst (λ (b : Bool). T b → ⊥) (unsound-parts s) no')

  pub sound-of : (T (unsound s) → ⊥) → SoundRun s
  sound-of no' = good_of s (parts no').0

  pub sound-time : (T (unsound s) → ⊥) → T (time_unsound s) → ⊥
  sound-time no' = (parts no').1

  pub of-sound : SoundRun s → (T (time_unsound s) → ⊥) → unsound s ≡ false
  of-sound x time = unsound-parts s ∙ rw (of_good s x) (T_false (time_unsound s) time)

-- ---- a clock within its view

pub record InView (plan : Plan) (clock view : ℕ) : Type 0 where
  pub below : clock < end_time plan
  pub low : clock_time plan view ≤ clock
  pub ready : clock < clock_time plan (next_initial plan view)

module _ (plan : Plan) (clock view : ℕ) where
  abbrev early : Bool
  early = ltb clock (clock_time plan view)

  abbrev late : Bool
  late = leb (clock_time plan (next_initial plan view)) clock

  pub in-view : (T (clock_outside plan clock view) → ⊥) → InView plan clock view
  in-view no' =
      let a = neither (at_end plan clock || early) late no' in
      let b = neither (at_end plan clock) early a.0 in
      record { below = not-leb _ _ b.0; low = not-ltb _ _ b.1; ready = not-leb _ _ a.1 }

  pub not_outside : InView plan clock view → T (clock_outside plan clock view) → ⊥
  not_outside x = nor (at_end plan clock || early) late (nor (at_end plan clock) early
      (λ t. let g : end_time plan ≤ clock = leb→le _ _ t in omega (arith, x.below))
      (λ t. let g : clock < clock_time plan view = ltb→lt _ _ t in omega (arith, x.low)))
      (λ t. let g : clock_time plan (next_initial plan view) ≤ clock = leb→le _ _ t in omega (arith, x.ready))

-- every correct one
abbrev pub Inside : Plan → ℕ → List ℕ → List ℕ → Type 0
Inside plan faulty clocks views = (p : ℕ) → T (correct plan faulty p) → InView plan (get_or clocks p 0) (get_or views p 0)

abbrev pub InsideRun : Run → Type 0
InsideRun r = Inside r.plan r.faulty r.clocks r.views

pub inside_of : (s : State) → SoundRun s → InsideRun s.run
inside_of s x p c = in-view s.run.plan (clock_of s.run p) (view_of s.run p) (x.clocks p c)

-- ---- the rows of the tally are there

pub rows_long : (s : State) → (T (limits_broken s) → ⊥) → row_words * s.run.plan.views ≤ length s.tally
rows_long s no' =
    let p : Plan = s.run.plan in
    (lengths-within s.form p (length s.tally) (length s.network)
    (neither (plan_outside p || faulty_outside p s.run.faulty) (buffers_outside s) no').1).rows
