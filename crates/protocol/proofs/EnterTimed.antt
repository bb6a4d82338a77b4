-- A processor that enters a view keeps the timed invariant. Assumes nothing.
use Rattle.std.specs.Prelude.{◌≡◌, ◌≢◌, Bool, true, false, ℕ, ◌+◌, ◌*◌, ◌≤◌, ◌<◌, max, T}
use Rattle.std.proofs.Common.{⊎_elim, arith, mul-le-mul_right}
use Rattle.base.specs.Tests.{le?, eq?}
use Rattle.protocol.specs.Params.{Params, lead, next-least, initial-gap}
use Rattle.protocol.specs.State.{Processors, Tally, Flight, Starts}
use Rattle.protocol.specs.Base.{Base}
use Rattle.protocol.proofs.Quorum.{exists-entered}
use Rattle.protocol.specs.Moves.{Reason, by_own_clock, by_certificate, Enter}
use Rattle.protocol.proofs.EnterKeeps.{enters-above, clock_up}
use Rattle.protocol.specs.Timed.{Target, Waiting, Timed}

module _ {π : Params} {P P' : Processors} {L : Tally} {F F' : Flight} {now S : ℕ} {b : Bool} {p w : ℕ}
    (h : Enter π P P' L F F' now p w) (z : T b) (i : Base π P L F now S b) {M star v : ℕ} (g : Target π M star v) where
  open π use {gamma, delta, correct, roomy}

  module _ (nq : T (L.formed true v) → ⊥) (a : Waiting π P L F now S M star v) where
    -- a view that somebody entered is not past v
    entered_below : (u r : ℕ) → T (P.entered u r) → u ≤ v
    entered_below u r e = omega (arith, i.processors.entered_le u r e, a.not_past r (i.processors.entered_correct u r e))

    -- nobody goes past v: not by its clock, which is not late, and not by a certificate, as v's quorum certificate does not exist
    not_beyond : w ≤ v
    not_beyond = go h.why
      where
        go : Reason π P L p w → w ≤ v
        go (by_own_clock e l x) =
            ⊎_elim (λ y. y)
            (λ y. absurd (omega (arith, mul-le-mul_right gamma (initial-gap π v w g.initial e y), a.not_late p h.for_a_correct, roomy))) (le? w v)
        go (by_certificate false u e l st x) = let r = exists-entered i.tally false u x in omega (arith, entered_below u r.0 r.1)
        go (by_certificate true u e l st x) =
            let r = exists-entered i.tally true u x in
            let ne : u ≢ v = λ (y : u ≡ v). ⊎_elim (λ formed. nq (rw y at formed.1)) (λ faulty. faulty.0 (rw y g.led)) x in
            omega (arith, entered_below u r.0 r.1)

    -- no clock is moved further than to v's time
    clock-cap : (r : ℕ) → P'.clock r ≤ max (P.clock r) (v * gamma)
    clock-cap r =
        ⊎_elim (λ (e : r ≡ p). rw e (omega (arith, h.clock_to, mul-le-mul_right gamma not_beyond))) (λ ne. omega (arith, h.clock_else r ne)) (eq? r p)

    -- who enters v has exactly v's time
    exact : v ≡ w → P'.clock p ≡ v * gamma
    exact e =
        let there : P'.clock p ≡ max (P.clock p) (v * gamma) = rw e h.clock_to in
        omega (
          arith,
          i.processors.high p h.for_a_correct,
          mul-le-mul_right gamma (next-least π (P.view p) v g.initial (omega (arith, enters-above h))),
        )

    message-age : (r s : ℕ) → F'.signature false v r s → s + P'.clock r ≡ now + v * gamma
    message-age r s x = ⊎_elim old (λ e. rw e.1 (omega (arith, e.2, exact e.0))) (h.signature_new false v r s x)
      where
        old : F.signature false v r s → s + P'.clock r ≡ now + v * gamma
        old y =
            let l : v ≤ P.view r = i.processors.entered_le v r (i.flight.signed false v r s y).0 in
            ⊎_elim (λ (e : r ≡ p). absurd (let l' : v ≤ P.view p = rw e at l in omega (arith, enters-above h, not_beyond)))
            (λ ne. omega (arith, h.clock_else r ne, a.view_message_age r s y)) (eq? r p)

    vote-sent : (x s : ℕ) → F'.signature true v x s → (r : ℕ) → T (correct r) → s + P'.clock r ≤ now + v * gamma + gamma + 2 * delta
    vote-sent x s m r c =
        ⊎_elim (λ y. omega (arith, a.vote_age x s y r c, clock-cap r, i.times.signature_past true v x s y)) new (h.signature_new true v x s m)
      where
        new : (v ≡ w) × (x ≡ p) × (s ≡ now) × T (correct (lead π w)) × Starts π true w → s + P'.clock r ≤ now + v * gamma + gamma + 2 * delta
        new e = ⊎_elim (λ (l : P.clock r ≤ v * gamma + gamma + 2 * delta). omega (arith, clock-cap r, e.2))
            (λ (l : v * gamma + gamma + 2 * delta < P.clock r).
            absurd (omega (arith, i.processors.entered_le v p (a.all_in_by r c l p h.for_a_correct), enters-above h, e.0)))
            (le? (P.clock r) (v * gamma + gamma + 2 * delta))

    enter-waiting : Waiting π P' L F' now S M star v
    enter-waiting = record {
      star_on = omega (arith, a.star_on, clock_up h star);
      not_ahead = λ r c. omega (arith, a.not_ahead r c, clock-cap r, i.times.settled z);
      not_past = λ r c.
          ⊎_elim (λ (e : r ≡ p). rw e (omega (arith, h.view_to, not_beyond))) (λ ne. omega (arith, h.view_else r ne, a.not_past r c)) (eq? r p);
      view_message_age = message-age;
      certified_by = λ r c l. a.certified_by r c (omega (arith, clock-cap r));
      certificate_age = λ x s m r c.
          let y = h.certificate_new false v x s m in
          omega (arith, a.certificate_age x s y r c, clock-cap r, i.times.certificate_past false v x s y);
      all_in_by = λ r c l x d. h.entered_old v x (a.all_in_by r c (omega (arith, clock-cap r)) x d);
      vote_age = vote-sent;
      not_late = λ r c. omega (arith, clock-cap r, a.not_late r c);
    }

  pub enter-timed : Timed π P L F now S M star v → Timed π P' L F' now S M star v
  enter-timed c = record {
    waiting = λ nq. enter-waiting nq (c.waiting nq);
    quorum_sent_by = λ r s x. c.quorum_sent_by r s (h.certificate_new true v r s x);
  }
