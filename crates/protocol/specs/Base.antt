-- The base invariant, from the opening on, in four parts: processors, tally, flight and times. Assumes nothing.
use Rattle.std.specs.Prelude.{◌≡◌, ◌⊎◌, Bool, ℕ, ◌+◌, ◌*◌, ◌≤◌, ◌<◌, max, T}
use Rattle.std.proofs.Common.{⊎_elim, arith}
use Rattle.base.specs.Count.{count}
use Rattle.protocol.specs.Params.{Params, lead, next}
use Rattle.protocol.specs.State.{Processors, Tally, Flight, nearby, Enough, Starts, Allowed, onward}

pub record BaseProcessors (π : Params) (P : Processors) : Type 0 where
  -- a clock is at least at its view's time
  pub low : (p : ℕ) → T (π.correct p) → P.view p * π.gamma ≤ P.clock p
  -- a clock is at most at the next initial view's time
  pub high : (p : ℕ) → T (π.correct p) → P.clock p ≤ next π (P.view p) * π.gamma
  -- who is in a view entered it
  pub here : (p : ℕ) → T (π.correct p) → T (P.entered (P.view p) p)
  -- who entered a view is not before it
  pub entered_le : (w p : ℕ) → T (P.entered w p) → w ≤ P.view p
  -- only correct ones are noted as having entered
  pub entered_correct : (w p : ℕ) → T (P.entered w p) → T (π.correct p)
  -- the clock condition: more than t correct clocks are at most Γ behind each correct clock
  pub near : (p : ℕ) → T (π.correct p) → π.t < count π.n (nearby π P (P.clock p))

pub record BaseTally (π : Params) (P : Processors) (L : Tally) : Type 0 where
  -- a correct one whose signature for a view was heard entered that view
  pub heard_entered : (q : Bool) (w p : ℕ) → T (L.heard q w p) → T (π.correct p) → T (P.entered w p)
  -- only correct leaders' certificates are marked as formed
  pub formed_led : (q : Bool) (w : ℕ) → T (L.formed q w) → T (π.correct (lead π w))
  -- a certificate that was formed has enough signers
  pub formed_enough : (q : Bool) (w : ℕ) → T (L.formed q w) → Enough π q (count π.n (L.heard q w))
  -- a correct leader that heard enough and may form the certificate has formed it
  pub formed_when : (q : Bool) (w : ℕ) → T (π.correct (lead π w)) → Starts π q w
      → Enough π q (count π.n (L.heard q w)) → Allowed π P q w → T (L.formed q w)

pub record BaseFlight (π : Params) (P : Processors) (L : Tally) (F : Flight) : Type 0 where
  -- a signature in flight is of one that entered the view, and goes to a correct leader
  pub signed : (q : Bool) (w p s : ℕ) → F.signature q w p s → T (P.entered w p) × T (π.correct (lead π w))
  -- a certificate in flight was formed, and goes to a correct processor
  pub backed : (q : Bool) (w p s : ℕ) → F.certificate q w p s → T (L.formed q w) × T (π.correct p)
  -- a certificate that was formed is in flight to each correct processor that is not past it
  pub certificate_due : (q : Bool) (w p : ℕ) → T (L.formed q w) → T (π.correct p)
      → (onward q w ≤ P.view p) ⊎ ((s : ℕ) × F.certificate q w p s)
  -- who entered a view with a correct leader was heard by it, or its signature is in flight
  pub signature_due : (q : Bool) (w p : ℕ) → T (π.correct (lead π w)) → Starts π q w → T (P.entered w p)
      → T (L.heard q w p) ⊎ ((s : ℕ) × F.signature q w p s)

-- `b`: the network has settled, at the time S
pub record BaseTimes (π : Params) (F : Flight) (now S : ℕ) (b : Bool) : Type 0 where
  -- a signature in flight was not sent later than now
  pub signature_past : (q : Bool) (w p s : ℕ) → F.signature q w p s → s ≤ now
  -- nor was a certificate
  pub certificate_past : (q : Bool) (w p s : ℕ) → F.certificate q w p s → s ≤ now
  -- the network settled not later than now
  pub settled : T b → S ≤ now
  -- once it has settled, no signature in flight is overdue
  pub signature_due : T b → (q : Bool) (w p s : ℕ) → F.signature q w p s → now ≤ max s S + π.delta
  -- nor is a certificate
  pub certificate_due : T b → (q : Bool) (w p s : ℕ) → F.certificate q w p s → now ≤ max s S + π.delta

pub record Base (π : Params) (P : Processors) (L : Tally) (F : Flight) (now S : ℕ) (b : Bool) : Type 0 where
  -- what holds of the processors
  pub processors : BaseProcessors π P
  -- what holds of the tally
  pub tally : BaseTally π P L
  -- what holds of the messages in flight
  pub flight : BaseFlight π P L F
  -- what holds of the times at which they were sent
  pub times : BaseTimes π F now S b

-- the times stay right if what is in flight was so before, or is sent now
pub times-kept : {π : Params} {F F' : Flight} {now S : ℕ} {b : Bool} → BaseTimes π F now S b
    → ((q : Bool) (w p s : ℕ) → F'.signature q w p s → F.signature q w p s ⊎ (s ≡ now))
    → ((q : Bool) (w p s : ℕ) → F'.certificate q w p s → F.certificate q w p s ⊎ (s ≡ now)) → BaseTimes π F' now S b
times-kept {now = now} {S = S} i signatures certificates = record {
  signature_past = λ q w p s x. ⊎_elim (λ y. i.signature_past q w p s y) (λ e. omega (arith, e)) (signatures q w p s x);
  certificate_past = λ q w p s x. ⊎_elim (λ y. i.certificate_past q w p s y) (λ e. omega (arith, e)) (certificates q w p s x);
  settled = i.settled;
  signature_due = λ z q w p s x. ⊎_elim (λ y. i.signature_due z q w p s y) (λ e. omega (arith, e)) (signatures q w p s x);
  certificate_due = λ z q w p s x. ⊎_elim (λ y. i.certificate_due z q w p s y) (λ e. omega (arith, e)) (certificates q w p s x);
}
