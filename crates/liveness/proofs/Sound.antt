-- A run that the protocol tracks is sound: check 9 does not refuse it. Assumes nothing.
use mathlib.Core.Path.{◌≡◌, subst}
use mathlib.Core.Bool.{◌&&◌, false, not}
use mathlib.Core.Logic.{⊎_elim}
use Prim.Native.Nat.{ℕ, ◌≤◌, ◌<◌}
use native.Mathlib.Omega.{arith}
use lib.Dec.{T, eqb, leb, ltb, leb→le, ltb→lt, T_not, not_T}
use Rattle.base.specs.Tests.{passes?, T-left, T-right, eq→eqb}
use Rattle.protocol.specs.Params.{Params}
use Rattle.protocol.proofs.Quorum.{some-correct}
use Rattle.types.specs.declared.Plan.{Plan}
use Rattle.types.specs.Quantities.{end_time, correct}
use Rattle.model.specs.State.{State}
use Rattle.model.specs.Checks.{unsound}
use Rattle.liveness.proofs.Link.{Planned, params, correct_count, third}
use Rattle.liveness.proofs.Tracks.{Tracked, tracked_inside}
use Rattle.liveness.proofs.Naming.{in-flight-addressed, in-flight-past}
use Rattle.liveness.proofs.Judging.{nor}
use Rattle.liveness.proofs.Soundness.{of-sound}
use Rattle.liveness.proofs.Lasting.{Lasts, sound-lasts}
use Rattle.liveness.proofs.Events.{at-own-plan}

module _ (s : State) (ok : Planned s.run.plan s.run.faulty) (x : Tracked s.run.plan s.run.faulty ok s) where
  abbrev plan : Plan
  plan = s.run.plan

  abbrev faulty : ℕ
  faulty = s.run.faulty

  abbrev π : Params
  π = params plan faulty ok

  time-sound : T (leb (end_time plan) s.run.time) → ⊥
  time-sound t =
      let r = some-correct π (correct plan faulty)
      (omega (arith, correct_count plan faulty ok, ok.faulty_few, third plan faulty ok)) in
      let g : end_time plan ≤ s.run.time = leb→le _ _ t in
      omega (arith, x.early r.0 r.1, x.below r.0 r.1)

  settling-sound : s.run.gst ≤ s.run.time
  settling-sound = ⊎_elim (λ b. x.holds.times.settled b) (λ b. omega (arith, x.unsettled (not_T s.run.settled b))) (passes? s.run.settled)

  lasts : Lasts s
  lasts = record {
    limits = λ t. subst T x.limits t;
    messages = x.messages;
    wire = x.wire;
    fine = λ z i. (in-flight-addressed plan faulty ok s x z.message z.time i, in-flight-past plan faulty ok s x z.message z.time i);
    settling = nor (ltb s.run.time s.run.gst) (not s.run.settled && not (eqb s.run.gst 0))
        (λ t. let g : s.run.time < s.run.gst = ltb→lt _ _ t in omega (arith, settling-sound))
        (λ t. T_not (eqb s.run.gst 0) (T-right (not s.run.settled) _ t)
        (eq→eqb s.run.gst 0 (x.unsettled (T-left (not s.run.settled) _ t))));
  }

  sound : unsound s ≡ false
  sound = of-sound s (sound-lasts s lasts (tracked_inside plan faulty ok s x)) time-sound

pub tracked-sound : (plan : Plan) (faulty : ℕ) (ok : Planned plan faulty) (s : State) → Tracked plan faulty ok s → unsound s ≡ false
tracked-sound = at-own-plan (λ plan' faulty' ok' s' x'. unsound s' ≡ false) sound
