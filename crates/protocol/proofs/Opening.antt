-- What the opening leaves holds the base invariant. Assumes nothing.
use Rattle.std.specs.Prelude.{false}
use Rattle.std.proofs.Common.{inr, arith}
use Rattle.std.proofs.Math.Nat.{zero-mod}
use Rattle.base.specs.Count.{count, count-some}
use Rattle.protocol.specs.Params.{Params, Initial, next-of-initial}
use Rattle.protocol.specs.State.{Processors, Tally, Flight}
use Rattle.protocol.specs.Base.{Base}
use Rattle.protocol.specs.Opening.{Open}
use Rattle.protocol.proofs.Quorum.{enough-above}

module _ {π : Params} {P : Processors} {L : Tally} {F : Flight} (o : Open π P L F) where
  open π use {n, k}

  zero-initial : Initial π 0
  unfolding Initial
  zero-initial = zero-mod k

  pub open-holds : Base π P L F 0 0 false
  open-holds = record {
    processors = record {
      low = λ p c. rw (o.view_zero p c) (omega arith);
      high = λ p c. rw (o.view_zero p c, next-of-initial π 0 zero-initial) (omega (arith, o.start p c));
      here = λ p c. rw (o.view_zero p c) (o.entered_zero p c);
      entered_le = λ w p x. omega (arith, (o.entered_is w p x).0);
      entered_correct = λ w p x. (o.entered_is w p x).1;
      near = o.near;
    };
    tally = record {
      heard_entered = λ q w p x. absurd (o.none_heard q w p x);
      formed_led = λ q w x. absurd (o.none_formed q w x);
      formed_enough = λ q w x. absurd (o.none_formed q w x);
      formed_when = λ q w l st m a.
          absurd (let r = count-some n (L.heard q w) (omega (arith, enough-above π q (count n (L.heard q w)) m)) in o.none_heard q w r.0 r.2);
    };
    flight = record {
      signed = λ q w p s x. let r = o.signature_is q w p s x in (rw r.0 (o.entered_zero p r.2), rw r.0 r.3);
      backed = λ q w p s x. absurd (o.no_certificate q w p s x);
      certificate_due = λ q w p x. absurd (o.none_formed q w x);
      signature_due = λ q w p l st x. let r = o.entered_is w p x in inr (0, rw r.0 (o.sent q (rw r.0 at l) p r.1));
    };
    times = record {
      signature_past = λ q w p s x. omega (arith, (o.signature_is q w p s x).1);
      certificate_past = λ q w p s x. absurd (o.no_certificate q w p s x);
      settled = λ z. absurd z;
      signature_due = λ z. absurd z;
      certificate_due = λ z. absurd z;
    };
  }
