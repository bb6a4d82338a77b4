-- Certificates that leave the flight at processors that are past them keep both invariants. Assumes nothing.
use Rattle.std.proofs.Common.{inl, inr, ⊎_elim}
use Rattle.std.specs.Prelude.{Bool, true, false, ℕ}
use Rattle.protocol.specs.Params.{Params}
use Rattle.protocol.specs.State.{Processors, Tally, Flight}
use Rattle.protocol.specs.Base.{BaseFlight, BaseTimes, Base, times-kept}
use Rattle.protocol.specs.Moves.{Pass}
use Rattle.protocol.specs.Timed.{Timed}

module _ {π : Params} {P : Processors} {L : Tally} {F F' : Flight} (h : Pass P F F') where
  module _ {now S : ℕ} {b : Bool} (i : Base π P L F now S b) where
    pub pass-flight : BaseFlight π P L F'
    pass-flight = record {
      signed = λ d u r s x. i.flight.signed d u r s (h.signature_new d u r s x);
      backed = λ d u r s x. i.flight.backed d u r s (h.certificate_new d u r s x);
      certificate_due = λ d u r x c.
          ⊎_elim (λ y. inl y) (λ y. ⊎_elim (λ z. inr (y.0, z)) (λ past. inl past) (h.certificate_old d u r y.0 y.1))
          (i.flight.certificate_due d u r x c);
      signature_due = λ d u r l st x. ⊎_elim (λ y. inl y) (λ y. inr (y.0, h.signature_old d u r y.0 y.1)) (i.flight.signature_due d u r l st x);
    }

    pub pass-times : BaseTimes π F' now S b
    pass-times = times-kept i.times (λ d u r s x. inl (h.signature_new d u r s x)) (λ d u r s x. inl (h.certificate_new d u r s x))

    pub pass-keeps : Base π P L F' now S b
    pass-keeps = record { processors = i.processors; tally = i.tally; flight = pass-flight; times = pass-times }

  pub pass-timed : {now S M star v : ℕ} → Timed π P L F now S M star v → Timed π P L F' now S M star v
  pass-timed {v = v} c = record {
    waiting = λ nq. let a = c.waiting nq in record {
      star_on = a.star_on;
      not_ahead = a.not_ahead;
      not_past = a.not_past;
      view_message_age = λ p s x. a.view_message_age p s (h.signature_new false v p s x);
      certified_by = a.certified_by;
      certificate_age = λ p s x. a.certificate_age p s (h.certificate_new false v p s x);
      all_in_by = a.all_in_by;
      vote_age = λ p s x. a.vote_age p s (h.signature_new true v p s x);
      not_late = a.not_late;
    };
    quorum_sent_by = λ p s x. c.quorum_sent_by p s (h.certificate_new true v p s x);
  }
