-- Messages in flight of a run that the protocol tracks name views and processors that there are, are for correct processors and were sent by
-- now. Assumes nothing.
use mathlib.Core.Bool.{Bool, true, false}
use mathlib.Core.Logic.{inl}
use Prim.Native.Nat.{ℕ, ◌≤◌, ◌<◌}
use native.Mathlib.Omega.{arith}
use native.Mathlib.Nat.{lt_of_mul-lt-mul_right}
use lib.Dec.{T}
use Rattle.protocol.specs.Params as proto
use Rattle.protocol.proofs.Quorum.{exists-entered}
use Rattle.types.specs.declared.Plan.{Plan}
use Rattle.types.specs.declared.Message.{Message}
use Rattle.types.specs.declared.Message.TheVariants.{View, Vote, Vc, Qc}
use Rattle.types.specs.Quantities.{lead, correct}
use Rattle.model.specs.State.{State}
use Rattle.model.specs.Moves.{certificate}
use Rattle.liveness.proofs.Flight.{In, Named}
use Rattle.liveness.proofs.Sending.{signature}
use Rattle.liveness.proofs.Link.{Planned, correct_below}
use Rattle.liveness.proofs.Addressing.{Addressed}
use Rattle.liveness.proofs.Tracks.{Tracked}

module _ (plan : Plan) (faulty : ℕ) (ok : Planned plan faulty) (s : State) (x : Tracked plan faulty ok s) where
  -- a view that somebody entered is below the limit
  view-below : (w p : ℕ) → T (x.processors.entered w p) → w < plan.views
  view-below w p e =
      let c = x.holds.processors.entered_correct w p e in
      let l : x.processors.view p < plan.views = lt_of_mul-lt-mul_right plan.gamma
      (omega (arith, x.holds.processors.low p c, x.below p c, x.books.clock p)) in
      omega (arith, x.holds.processors.entered_le w p e)

  signature-names : (q : Bool) (w p t : ℕ) → In (signature q w p) t x.messages → (w < plan.views) × (p < plan.n) × T (correct plan faulty (lead plan w))
  unfolding proto.lead proto.row
  signature-names q w p t i =
      let e = x.holds.flight.signed q w p t i in
      (view-below w p e.0, correct_below plan faulty p (x.holds.processors.entered_correct w p e.0), e.1)

  certificate-names : (q : Bool) (w p t : ℕ) → In (certificate q w p) t x.messages → (w < plan.views) × (p < plan.n) × T (correct plan faulty p)
  certificate-names q w p t i =
      let e = x.holds.flight.backed q w p t i in
      let n = exists-entered x.holds.tally q w (inl (x.holds.tally.formed_led q w e.0, e.0)) in
      (view-below w n.0 n.1, correct_below plan faulty p e.1, e.1)

  pub in-flight-addressed : (m : Message) (t : ℕ) → In m t x.messages → Addressed plan faulty m
  in-flight-addressed (View w p) t i = let f = signature-names false w p t i in record { view_low = f.0; processor_low = f.1; for_correct = f.2 }
  in-flight-addressed (Vote w p) t i = let f = signature-names true w p t i in record { view_low = f.0; processor_low = f.1; for_correct = f.2 }
  in-flight-addressed (Vc w p) t i = let f = certificate-names false w p t i in record { view_low = f.0; processor_low = f.1; for_correct = f.2 }
  in-flight-addressed (Qc w p) t i = let f = certificate-names true w p t i in record { view_low = f.0; processor_low = f.1; for_correct = f.2 }

  pub tracked-named : Named x.messages
  tracked-named y i = omega (arith, ok.n_at_most, (in-flight-addressed y.message y.time i).processor_low)

  pub in-flight-past : (m : Message) (t : ℕ) → In m t x.messages → t ≤ s.run.time
  in-flight-past (View w p) t i = x.holds.times.signature_past false w p t i
  in-flight-past (Vote w p) t i = x.holds.times.signature_past true w p t i
  in-flight-past (Vc w p) t i = x.holds.times.certificate_past false w p t i
  in-flight-past (Qc w p) t i = x.holds.times.certificate_past true w p t i
