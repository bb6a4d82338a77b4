-- A leader that hears a signer keeps the timed invariant. Assumes nothing.
use Rattle.std.specs.Prelude.{◌≡◌, Bool, true, false, ℕ, ◌+◌, ◌*◌, ◌≤◌, ◌<◌, T}
use Rattle.std.proofs.Common.{⊎_elim, arith}
use Rattle.base.specs.Tests.{le?}
use Rattle.protocol.specs.Params.{Params}
use Rattle.protocol.specs.State.{Processors, Tally, Flight}
use Rattle.protocol.specs.Moves.{Hear}
use Rattle.protocol.specs.Timed.{Target, Waiting, Timed, formed_by}

module _ {π : Params} {P : Processors} {L L' : Tally} {F F' : Flight} {now : ℕ} {q : Bool} {u p : ℕ} (h : Hear π P L L' F F' now q u p) where
  open π use {gamma, delta, correct}

  -- a certificate that is formed now was not formed before
  unformed-before : (d : Bool) (v : ℕ) → (d ≡ q) × (v ≡ u) → (T (L.formed q u) → ⊥) → T (L.formed d v) → ⊥
  unformed-before d v e ny y = ny (rw (e.0, e.1) at y)

  hear-waiting : {S M star v : ℕ} → Waiting π P L F now S M star v → Waiting π P L' F' now S M star v
  hear-waiting {v = v} a = record {
    star_on = a.star_on;
    not_ahead = a.not_ahead;
    not_past = a.not_past;
    view_message_age = λ r s x. a.view_message_age r s (h.signature_new false v r s x);
    certified_by = λ r c l. h.formed_old false v (a.certified_by r c l);
    certificate_age = age;
    all_in_by = a.all_in_by;
    vote_age = λ r s x. a.vote_age r s (h.signature_new true v r s x);
    not_late = a.not_late;
  }
    where
      age : (x s : ℕ) → F'.certificate false v x s → (r : ℕ) → T (correct r) → s + P.clock r ≤ now + v * gamma + gamma + delta
      age x s m r c = ⊎_elim (λ y. a.certificate_age x s y r c)
          (λ e. ⊎_elim (λ (l : P.clock r ≤ v * gamma + gamma + delta). omega (arith, e.2))
          (λ (l : v * gamma + gamma + delta < P.clock r). absurd (unformed-before false v (e.0, e.1) e.4 (a.certified_by r c l)))
          (le? (P.clock r) (v * gamma + gamma + delta)))
          (h.certificate_new false v x s m)

  pub hear-timed : {S M star v : ℕ} → Target π M star v → Timed π P L F now S M star v → Timed π P L' F' now S M star v
  hear-timed {S = S} {M = M} {star = star} {v = v} g c = record {
    waiting = λ nq. hear-waiting (c.waiting (λ y. nq (h.formed_old true v y)));
    quorum_sent_by = sent-by;
  }
    where
      bound : Waiting π P L F now S M star v → now ≤ S + formed_by π
      bound a = omega (arith, a.star_on, a.not_late star g.star_correct, g.close)

      sent-by : (r s : ℕ) → F'.certificate true v r s → s ≤ S + formed_by π
      sent-by r s x = ⊎_elim (λ y. c.quorum_sent_by r s y)
          (λ e. omega (arith, e.2, bound (c.waiting (unformed-before true v (e.0, e.1) e.4)))) (h.certificate_new true v r s x)
