-- A leader that hears a signer keeps the base invariant. Assumes nothing.
use Rattle.std.specs.Prelude.{◌≡◌, ◌⊎◌, ◌≢◌, Bool, ℕ, ◌≤◌, T}
use Rattle.std.proofs.Common.{inl, inr, ⊎_elim}
use Rattle.std.proofs.Math.Bool.{Bool-discrete}
use Rattle.base.specs.Tests.{passes?, eq?}
use Rattle.base.specs.Count.{count, count-mono}
use Rattle.protocol.specs.Params.{Params, lead}
use Rattle.protocol.specs.State.{Processors, Tally, Flight, Enough, Starts, Allowed, onward}
use Rattle.protocol.specs.Base.{BaseTally, BaseFlight, BaseTimes, Base, times-kept}
use Rattle.protocol.proofs.Quorum.{enough-mono}
use Rattle.protocol.specs.Moves.{Hear}

module _ {π : Params} {P : Processors} {L L' : Tally} {F F' : Flight} {now S : ℕ} {b q : Bool} {v p : ℕ}
    (h : Hear π P L L' F F' now q v p) (i : Base π P L F now S b) where
  open π use {n, correct}

  -- more are heard
  heard-more : (d : Bool) (w : ℕ) → count n (L.heard d w) ≤ count n (L'.heard d w)
  heard-more d w = count-mono n (L.heard d w) (L'.heard d w) (λ r l x. h.heard_old d w r x)

  -- but at no other stage or view
  heard-else : (d : Bool) (w : ℕ) → ((d ≡ q) × (w ≡ v) → ⊥) → count n (L'.heard d w) ≤ count n (L.heard d w)
  heard-else d w other =
      count-mono n (L'.heard d w) (L.heard d w) (λ r l x. ⊎_elim (λ y. y) (λ e. absurd (other (e.0, e.1))) (h.heard_new d w r x))

  -- the signer, if correct, entered
  signer : T (correct p) → T (P.entered v p)
  signer c = ⊎_elim (λ faulty. absurd (faulty c)) (λ m. (i.flight.signed q v p m.0 m.1).0) h.from

  pub hear-tally : BaseTally π P L'
  hear-tally = record {
    heard_entered = λ d w r x c. ⊎_elim (λ y. i.tally.heard_entered d w r y c) (λ e. rw (e.1, e.2) (signer (rw e.2 at c))) (h.heard_new d w r x);
    formed_led = λ d w x. ⊎_elim (λ y. i.tally.formed_led d w y) (λ e. rw e.1 h.led) (h.formed_new d w x);
    formed_enough = λ d w x.
        ⊎_elim (λ y. enough-mono π d (count n (L.heard d w)) (count n (L'.heard d w)) (heard-more d w) (i.tally.formed_enough d w y))
        (λ e. rw (e.0, e.1) e.2) (h.formed_new d w x);
    formed_when = when;
  }
    where
      when : (d : Bool) (w : ℕ) → T (correct (lead π w)) → Starts π d w → Enough π d (count n (L'.heard d w)) → Allowed π P d w → T (L'.formed d w)
      when d w l st m a = by_place (Bool-discrete d q) (eq? w v)
        where
          other : ((d ≡ q) × (w ≡ v) → ⊥) → T (L'.formed d w)
          other elsewhere =
              h.formed_old d w
              (i.tally.formed_when d w l st (enough-mono π d (count n (L'.heard d w)) (count n (L.heard d w)) (heard-else d w elsewhere) m) a)

          by_place : Dec (d ≡ q) → (w ≡ v) ⊎ (w ≢ v) → T (L'.formed d w)
          by_place (yes e) (inl g) = rw (e, g) (h.formed_now (rw (e, g) at m) (rw (e, g) at a))
          by_place (yes e) (inr ne) = other (λ x. ne x.1)
          by_place (no ne) g = other (λ x. ne x.0)

  pub hear-flight : BaseFlight π P L' F'
  hear-flight = record {
    signed = λ d w r s x. i.flight.signed d w r s (h.signature_new d w r s x);
    backed = λ d w r s x. ⊎_elim
        (λ y. let old = i.flight.backed d w r s y in (h.formed_old d w old.0, old.1))
        (λ e. (rw (e.0, e.1) e.5, e.3)) (h.certificate_new d w r s x);
    certificate_due = due;
    signature_due = λ d w r l st x. ⊎_elim (λ y. inl (h.heard_old d w r y))
        (λ y. ⊎_elim (λ z. inr (y.0, z)) (λ e. inl (rw (e.0, e.1, e.2) h.heard_now)) (h.signature_old d w r y.0 y.1))
        (i.flight.signature_due d w r l st x);
  }
    where
      due : (d : Bool) (w r : ℕ) → T (L'.formed d w) → T (correct r) → (onward d w ≤ P.view r) ⊎ ((s : ℕ) × F'.certificate d w r s)
      due d w r x c = ⊎_elim old new (passes? (L.formed d w))
        where
          old : T (L.formed d w) → (onward d w ≤ P.view r) ⊎ ((s : ℕ) × F'.certificate d w r s)
          old y = ⊎_elim (λ z. inl z) (λ z. inr (z.0, h.certificate_old d w r z.0 z.1)) (i.flight.certificate_due d w r y c)

          new : (T (L.formed d w) → ⊥) → (onward d w ≤ P.view r) ⊎ ((s : ℕ) × F'.certificate d w r s)
          new ny = ⊎_elim (λ y. absurd (ny y))
              (λ e. inr (now, rw (e.0, e.1) (h.sent (rw (e.0, e.1) at ny) (rw (e.0, e.1) at x) r c))) (h.formed_new d w x)

  pub hear-times : BaseTimes π F' now S b
  hear-times = times-kept i.times (λ d w r s x. inl (h.signature_new d w r s x))
      (λ d w r s x. ⊎_elim (λ y. inl y) (λ e. inr e.2) (h.certificate_new d w r s x))

  pub hear-keeps : Base π P L' F' now S b
  hear-keeps = record { processors = i.processors; tally = hear-tally; flight = hear-flight; times = hear-times }
