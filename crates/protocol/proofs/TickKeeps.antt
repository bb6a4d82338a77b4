-- A tick keeps the base invariant. Assumes nothing.
use Rattle.std.specs.Prelude.{Bool, ℕ, ◌+◌, ◌≤◌, T}
use Rattle.std.proofs.Common.{arith}
use Rattle.protocol.specs.Params.{Params}
use Rattle.protocol.specs.State.{Processors, Tally, Flight}
use Rattle.protocol.specs.Base.{BaseProcessors, BaseTally, BaseFlight, BaseTimes, Base}
use Rattle.protocol.proofs.Quorum.{near-mono, allowed-before}
use Rattle.protocol.specs.Moves.{Tick, clocked}

module _ {π : Params} {P : Processors} {c : ℕ → ℕ} {L : Tally} {F : Flight} {now S : ℕ} {b : Bool}
    (h : Tick π P c F now S b) (i : Base π P L F now S b) where
  open π use {gamma, correct}

  pub tick-processors : BaseProcessors π (clocked P c)
  tick-processors = record {
    low = λ p x. omega (arith, i.processors.low p x, h.clock_up p x);
    high = λ p x. omega (arith, h.ready p x, h.clock_up p x);
    here = i.processors.here;
    entered_le = i.processors.entered_le;
    entered_correct = i.processors.entered_correct;
    near = λ p x. omega (arith, i.processors.near p x, near-mono π P (clocked P c) (P.clock p) (c p) (stay p x));
  }
    where
      stay : (p : ℕ) → T (correct p) → (r : ℕ) → T (correct r) → P.clock p ≤ P.clock r + gamma → c p ≤ c r + gamma
      stay p x r y l = omega (arith, h.clock_up p x, h.clock_up r y)

  pub tick-tally : BaseTally π (clocked P c) L
  tick-tally = record {
    heard_entered = i.tally.heard_entered;
    formed_led = i.tally.formed_led;
    formed_enough = i.tally.formed_enough;
    formed_when = λ q w l st m a. i.tally.formed_when q w l st m (allowed-before π P (clocked P c) q w (omega arith) a);
  }

  pub tick-flight : BaseFlight π (clocked P c) L F
  tick-flight = record {
    signed = i.flight.signed;
    backed = i.flight.backed;
    certificate_due = i.flight.certificate_due;
    signature_due = i.flight.signature_due;
  }

  pub tick-times : BaseTimes π F (now + 1) S b
  tick-times = record {
    signature_past = λ d w p s x. omega (arith, i.times.signature_past d w p s x);
    certificate_past = λ d w p s x. omega (arith, i.times.certificate_past d w p s x);
    settled = λ z. omega (arith, i.times.settled z);
    signature_due = λ z d w p s x. omega (arith, h.signature_timely z d w p s x);
    certificate_due = λ z d w p s x. omega (arith, h.certificate_timely z d w p s x);
  }

  pub tick-keeps : Base π (clocked P c) L F (now + 1) S b
  tick-keeps = record { processors = tick-processors; tally = tick-tally; flight = tick-flight; times = tick-times }
