-- A tick keeps the timed invariant: no tick passes a deadline while a message that is to meet it is in flight. Assumes nothing.
use Rattle.std.specs.Prelude.{◌≡◌, Bool, true, false, ℕ, ◌+◌, ◌*◌, ◌≤◌, ◌<◌, T}
use Rattle.std.proofs.Common.{⊎_elim, arith, leb→le}
use Rattle.base.specs.Tests.{le?, T-left, T-right}
use Rattle.base.specs.Count.{count-mono}
use Rattle.protocol.specs.Params.{Params, lead}
use Rattle.protocol.specs.State.{Processors, Tally, Flight, nearby}
use Rattle.protocol.specs.Base.{Base}
use Rattle.protocol.proofs.Quorum.{all-correct, clock-reached}
use Rattle.protocol.specs.Moves.{Tick, clocked}
use Rattle.protocol.specs.Timed.{Target, Waiting, Timed}

module _ {π : Params} {P : Processors} {L : Tally} {c : ℕ → ℕ} {F : Flight} {now S : ℕ} {b : Bool}
    (h : Tick π P c F now S b) (z : T b) (i : Base π P L F now S b) {M star v : ℕ} (g : Target π M star v) where
  open π use {n, gamma, delta, correct, delta_positive}

  module _ (nq : T (L.formed true v) → ⊥) (a : Waiting π P L F now S M star v) where
    -- who has reached v is in it
    at_target : (p : ℕ) → T (correct p) → v ≤ P.view p → T (P.entered v p)
    at_target p x l = let e : P.view p ≡ v = omega (arith, a.not_past p x) in rw e at (i.processors.here p x)

    -- more than t clocks are at v's time for Δ or longer: all of these have been heard
    certified : (r : ℕ) → T (correct r) → v * gamma + gamma + delta ≤ P.clock r → T (L.formed false v)
    certified r x l = i.tally.formed_when false v g.led g.initial
        (omega (arith, i.processors.near r x, count-mono n (nearby π P (P.clock r)) (L.heard false v) each))
        (omega (arith, a.not_past (lead π v) g.led))
      where
        each : (p : ℕ) → p < n → T (nearby π P (P.clock r) p) → T (L.heard false v p)
        each p j y =
            let d : T (correct p) = T-left (correct p) _ y in
            let m : P.clock r ≤ P.clock p + gamma = leb→le _ _ (T-right (correct p) _ y) in
            let there : v ≤ P.view p = clock-reached π P p v g.initial (h.ready p d) (omega arith) in
            ⊎_elim (λ heard. heard)
            (λ s. absurd (omega (arith, a.view_message_age p s.0 s.1, h.signature_timely z false v p s.0 s.1, a.not_ahead r x)))
            (i.flight.signature_due false v p g.led g.initial (at_target p d there))

    -- the view certificate has been out for Δ or longer: all correct ones have it
    all_in : (r : ℕ) → T (correct r) → v * gamma + gamma + 2 * delta ≤ P.clock r → (p : ℕ) → T (correct p) → T (P.entered v p)
    all_in r x l p d =
        ⊎_elim (at_target p d)
        (λ s. absurd (omega (arith, a.certificate_age p s.0 s.1 r x, h.certificate_timely z false v p s.0 s.1, a.not_ahead r x)))
        (i.flight.certificate_due false v p (a.certified_by r x (omega (arith, delta_positive))) d)

    -- all votes have been out for Δ or longer: all have been heard, and the quorum certificate would be formed
    in-time : (r : ℕ) → T (correct r) → P.clock r < v * gamma + gamma + 3 * delta
    in-time r x = ⊎_elim (λ (l : v * gamma + gamma + 3 * delta ≤ P.clock r). absurd (nq (made l))) (λ l. l) (le? (v * gamma + gamma + 3 * delta) (P.clock r))
      where
        made : v * gamma + gamma + 3 * delta ≤ P.clock r → T (L.formed true v)
        made l = i.tally.formed_when true v g.led tt (all-correct π (L.heard true v) (λ p d.
            ⊎_elim (λ heard. heard)
            (λ s. absurd (omega (arith, a.vote_age p s.0 s.1 r x, h.signature_timely z true v p s.0 s.1, a.not_ahead r x)))
            (i.flight.signature_due true v p g.led tt (a.all_in_by r x (omega (arith, delta_positive)) p d)))) tt

    tick-waiting : Waiting π (clocked P c) L F (now + 1) S M star v
    tick-waiting = record {
      star_on = omega (arith, a.star_on, h.clock_up star g.star_correct);
      not_ahead = λ r x. omega (arith, a.not_ahead r x, h.clock_up r x);
      not_past = a.not_past;
      view_message_age = λ p s m. omega (
        arith,
        a.view_message_age p s m,
        h.clock_up p (i.processors.entered_correct v p (i.flight.signed false v p s m).0),
      );
      certified_by = λ r x l. certified r x (omega (arith, h.clock_up r x));
      certificate_age = λ p s m r x. omega (arith, a.certificate_age p s m r x, h.clock_up r x);
      all_in_by = λ r x l. all_in r x (omega (arith, h.clock_up r x));
      vote_age = λ p s m r x. omega (arith, a.vote_age p s m r x, h.clock_up r x);
      not_late = λ r x. omega (arith, in-time r x, h.clock_up r x);
    }

  pub tick-timed : Timed π P L F now S M star v → Timed π (clocked P c) L F (now + 1) S M star v
  tick-timed d = record { waiting = λ nq. tick-waiting nq (d.waiting nq); quorum_sent_by = d.quorum_sent_by }
