-- Settling, and the end: some time after settling a quorum certificate has formed and all correct processors are past its view. Assumes nothing.
use Rattle.std.specs.Prelude.{◌≡◌, refl, Bool, true, false, ℕ, ◌+◌, ◌*◌, ◌≤◌, ◌<◌, T}
use Rattle.std.proofs.Common.{inl, ⊎_elim, arith, lt_of_mul-lt-mul_right}
use Rattle.base.specs.Tests.{passes?}
use Rattle.protocol.specs.Params.{Params}
use Rattle.protocol.specs.State.{Processors, Tally, Flight}
use Rattle.protocol.specs.Base.{Base}
use Rattle.protocol.proofs.Quorum.{exists-entered, entered-clock}
use Rattle.protocol.specs.Timed.{Target, Timed}
use Rattle.protocol.proofs.Target.{max-clock, target}
use Rattle.protocol.specs.Runs.{st, Steps, ticks_in, steps-kept}
use Rattle.protocol.proofs.RunKeeps.{steps-holds, steps-on-time}
use Rattle.protocol.specs.End.{Reached}

module _ {π : Params} {P : Processors} {L : Tally} {F : Flight} {now S : ℕ} {b : Bool} (i : Base π P L F now S b) where
  open π use {gamma, correct}

  pub settle-holds : Base π P L F now now true
  settle-holds = record {
    processors = i.processors;
    tally = i.tally;
    flight = i.flight;
    times = record {
      signature_past = i.times.signature_past;
      certificate_past = i.times.certificate_past;
      settled = λ z. omega arith;
      signature_due = λ z d w p s x. omega arith;
      certificate_due = λ z d w p s x. omega arith;
    };
  }

  module _ {M star v : ℕ} (g : Target π M star v) (at-M : P.clock star ≡ M) (most : (r : ℕ) → T (correct r) → P.clock r ≤ M) (above : M < v * gamma) where
    nobody : (p : ℕ) → T (P.entered v p) → ⊥
    nobody p e = omega (arith, entered-clock i.processors v p e, most p (i.processors.entered_correct v p e))

    unformed : (q : Bool) → T (L.formed q v) → ⊥
    unformed q x = let r = exists-entered i.tally q v (inl (g.led, x)) in nobody r.0 r.1

    -- at settling nothing about the target has happened
    settle-timed : Timed π P L F now now M star v
    settle-timed = record {
      waiting = λ nq. record {
        star_on = omega arith;
        not_ahead = λ r c. omega (arith, most r c);
        not_past = below;
        view_message_age = λ p s x. absurd (nobody p (i.flight.signed false v p s x).0);
        certified_by = λ r c l. absurd (omega (arith, most r c));
        certificate_age = λ p s x. absurd (unformed false (i.flight.backed false v p s x).0);
        all_in_by = λ r c l. absurd (omega (arith, most r c));
        vote_age = λ p s x. absurd (nobody p (i.flight.signed true v p s x).0);
        not_late = λ r c. omega (arith, most r c);
      };
      quorum_sent_by = λ p s x. absurd (unformed true (i.flight.backed true v p s x).0);
    }
      where
        below : (r : ℕ) → T (correct r) → P.view r ≤ v
        below r c = let l : P.view r < v = lt_of_mul-lt-mul_right gamma (omega (arith, i.processors.low r c, most r c)) in omega arith

module _ {π : Params} {P : Processors} {L : Tally} {F : Flight} {now S : ℕ} {b : Bool} (i : Base π P L F now S b) where
  open π use {k, f, gamma, delta, correct}

  module _ {P' : Processors} {L' : Tally} {F' : Flight} {now' S' : ℕ} {b' : Bool}
      (r : Steps π (st P L F now now true) (st P' L' F' now' S' b')) (far : k * (f + 1) * gamma + gamma + 4 * delta < ticks_in π r) where
    -- more than k(f + 1)Γ + Γ + 4Δ ticks after settling
    pub reached : Reached π L P' L'
    reached = go (max-clock π P.clock)
      where
        i' : Base π P' L' F' now' S' b'
        i' = steps-holds π r (settle-holds i)

        when : (now' ≡ now + ticks_in π r) × (S' ≡ now)
        when = steps-kept π r

        finish : (M star v : ℕ) → Target π M star v → (T (L.formed true v) → ⊥) → T b' × Timed π P' L' F' now' S' M star v → Reached π L P' L'
        finish M star v g unformed-then c = record { v = v; led = g.led; formed = formed_now; since = unformed-then; later = past }
          where
            formed_now : T (L'.formed true v)
            formed_now =
                ⊎_elim (λ x. x)
                (λ nq. absurd (let a = c.1.waiting nq in omega (arith, a.star_on, a.not_late star g.star_correct, g.close, when.0, when.1)))
                (passes? (L'.formed true v))

            past : (p : ℕ) → T (correct p) → v < P'.view p
            past p x =
                ⊎_elim (λ (y : v + 1 ≤ P'.view p). omega arith)
                (λ y. absurd (omega (arith, c.1.quorum_sent_by p y.0 y.1, i'.times.certificate_due c.0 true v p y.0 y.1, when.0, when.1)))
                (i'.flight.certificate_due true v p formed_now x)

        go : (p : ℕ) × T (correct p) × ((x : ℕ) → T (correct x) → P.clock x ≤ P.clock p) → Reached π L P' L'
        go (star, c, most) =
            let M : ℕ = P.clock star in
            let x = target π M star c in
            finish M star x.0 x.1 (unformed i x.1 refl most x.2 true)
            (steps-on-time π M star x.0 x.1 r (settle-holds i) (tt, settle-timed i x.1 refl most x.2))
