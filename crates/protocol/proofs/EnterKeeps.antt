-- A processor that enters a view keeps the base invariant. Assumes nothing.
use Rattle.std.specs.Prelude.{◌≡◌, ◌⊎◌, ◌≢◌, Bool, true, false, ℕ, ◌+◌, ◌*◌, ◌≤◌, ◌<◌, T}
use Rattle.std.proofs.Common.{inl, inr, ⊎_elim, arith, mul-le-mul_right, le→leb}
use Rattle.base.specs.Tests.{le?, eq?, T_and}
use Rattle.base.specs.Count.{count, count-mono}
use Rattle.protocol.specs.Params.{Params, lead, next, next-above, next-mono}
use Rattle.protocol.specs.State.{Processors, Tally, Flight, nearby, onward}
use Rattle.protocol.specs.Base.{BaseProcessors, BaseTally, BaseFlight, BaseTimes, Base, times-kept}
use Rattle.protocol.proofs.Quorum.{exists-entered, quorum-count, entered-clock, near-mono, allowed-before}
use Rattle.protocol.specs.Moves.{Reason, by_own_clock, by_certificate, Enter}

module _ {π : Params} {P P' : Processors} {L : Tally} {F F' : Flight} {now p w : ℕ} (h : Enter π P P' L F F' now p w) where
  open π use {n, t, gamma, correct, gamma_positive}

  -- p goes up
  pub enters-above : P.view p < w
  enters-above = go h.why
    where
      go : Reason π P L p w → P.view p < w
      go (by_own_clock e l g) = l
      go (by_certificate q u e l st x) = l

  -- what holds of p and of the others holds of all
  by-processor : (Q : ℕ → Type 0) → Q p → ((r : ℕ) → r ≢ p → Q r) → (r : ℕ) → Q r
  by-processor Q x others r = ⊎_elim (λ (e : r ≡ p). rw e x) (others r) (eq? r p)

  -- and nobody goes back
  pub view_up : (r : ℕ) → P.view r ≤ P'.view r
  view_up = by-processor (λ r. P.view r ≤ P'.view r) (omega (arith, h.view_to, enters-above)) (λ r ne. omega (arith, h.view_else r ne))

  -- nor does a clock
  pub clock_up : (r : ℕ) → P.clock r ≤ P'.clock r
  clock_up = by-processor (λ r. P.clock r ≤ P'.clock r) (omega (arith, h.clock_to)) (λ r ne. omega (arith, h.clock_else r ne))

  -- the next initial view's time is beyond w's
  after : w * gamma + gamma ≤ next π w * gamma
  after = omega (arith, mul-le-mul_right gamma (next-above π w))

  -- and not before that of the view that p leaves
  later : next π (P.view p) * gamma ≤ next π w * gamma
  later = mul-le-mul_right gamma (next-mono π (P.view p) w (omega (arith, enters-above)))

  -- no clock stands at an initial view that is not entered, once p has entered
  pub ready_up : ((r : ℕ) → T (correct r) → r ≢ p → P.clock r < next π (P.view r) * gamma)
      → (P.clock p < next π (P.view p) * gamma) ⊎ (P.clock p ≡ w * gamma) → (r : ℕ) → T (correct r) → P'.clock r < next π (P'.view r) * gamma
  ready_up others here = by-processor (λ r. T (correct r) → P'.clock r < next π (P'.view r) * gamma)
      (λ c. rw h.view_to (⊎_elim
      (λ (l : P.clock p < next π (P.view p) * gamma). omega (arith, h.clock_to, after, later, gamma_positive))
      (λ (e : P.clock p ≡ w * gamma). omega (arith, h.clock_to, after, gamma_positive)) here))
      (λ r ne c. rw (h.view_else r ne) (omega (arith, h.clock_else r ne, others r c ne)))

  -- more than t correct clocks near x make the clock condition of a clock that is at most x now
  near-from : (r x : ℕ) → t < count n (nearby π P x) → P'.clock r ≤ x → t < count n (nearby π P' (P'.clock r))
  near-from r x m l = omega (arith, near-mono π P P' x (P'.clock r) (λ s c z. omega (arith, clock_up s)))

  module _ {S : ℕ} {b : Bool} (i : Base π P L F now S b) where
    low : (r : ℕ) → T (correct r) → P'.view r * gamma ≤ P'.clock r
    low = by-processor (λ r. T (correct r) → P'.view r * gamma ≤ P'.clock r)
        (λ c. rw h.view_to (omega (arith, h.clock_to)))
        (λ r ne c. rw (h.view_else r ne) (omega (arith, h.clock_else r ne, i.processors.low r c)))

    high : (r : ℕ) → T (correct r) → P'.clock r ≤ next π (P'.view r) * gamma
    high = by-processor (λ r. T (correct r) → P'.clock r ≤ next π (P'.view r) * gamma)
        (λ c. rw h.view_to (omega (arith, h.clock_to, i.processors.high p c, after, later)))
        (λ r ne c. rw (h.view_else r ne) (omega (arith, h.clock_else r ne, i.processors.high r c)))

    -- p's clock has more than t correct ones near it: as before, or near one that entered w, or in a quorum that entered the view before w
    near-here : T (correct p) → t < count n (nearby π P' (P'.clock p))
    near-here c =
        ⊎_elim (λ (l : w * gamma ≤ P.clock p). as_before (omega (arith, h.clock_to))) (λ (l : P.clock p < w * gamma). go l h.why)
        (le? (w * gamma) (P.clock p))
      where
        as_before : P'.clock p ≤ P.clock p → t < count n (nearby π P' (P'.clock p))
        as_before l = near-from p (P.clock p) (i.processors.near p c) l

        go : P.clock p < w * gamma → Reason π P L p w → t < count n (nearby π P' (P'.clock p))
        go l (by_own_clock e g x) = as_before (omega (arith, h.clock_to))
        go l (by_certificate false u e g st x) =
            let r = exists-entered i.tally false u x in
            let at-w : w * gamma ≤ P.clock r.0 = rw e (entered-clock i.processors u r.0 r.1) in
            near-from p (P.clock r.0) (i.processors.near r.0 (i.processors.entered_correct u r.0 r.1)) (omega (arith, h.clock_to))
        go l (by_certificate true u e g st x) =
            near-from p (w * gamma)
            (omega (arith, quorum-count i.tally u x, count-mono n (P.entered u) (nearby π P (w * gamma)) each))
            (omega (arith, h.clock_to))
          where
            each : (r : ℕ) → r < n → T (P.entered u r) → T (nearby π P (w * gamma) r)
            each r j y =
                let near-w : w * gamma ≤ P.clock r + gamma = rw e (omega (arith, entered-clock i.processors u r y)) in
                T_and (correct r) _ (i.processors.entered_correct u r y) (le→leb _ _ near-w)

    pub enter-processors : BaseProcessors π P'
    enter-processors = record {
      low = low;
      high = high;
      here = by-processor (λ r. T (correct r) → T (P'.entered (P'.view r) r)) (λ c. rw h.view_to h.entered_to)
          (λ r ne c. rw (h.view_else r ne) (h.entered_old _ _ (i.processors.here r c)));
      entered_le = λ u r x.
          ⊎_elim (λ y. omega (arith, i.processors.entered_le u r y, view_up r)) (λ e. rw (e.0, e.1) (omega (arith, h.view_to))) (h.entered_new u r x);
      entered_correct = λ u r x. ⊎_elim (λ y. i.processors.entered_correct u r y) (λ e. rw e.1 h.for_a_correct) (h.entered_new u r x);
      near = by-processor (λ r. T (correct r) → t < count n (nearby π P' (P'.clock r))) near-here
          (λ r ne c. near-from r (P.clock r) (i.processors.near r c) (omega (arith, h.clock_else r ne)));
    }

    pub enter-tally : BaseTally π P' L
    enter-tally = record {
      heard_entered = λ q u r x c. h.entered_old u r (i.tally.heard_entered q u r x c);
      formed_led = i.tally.formed_led;
      formed_enough = i.tally.formed_enough;
      formed_when = λ q u l st m a. i.tally.formed_when q u l st m (allowed-before π P P' q u (view_up (lead π u)) a);
    }

    pub enter-flight : BaseFlight π P' L F'
    enter-flight = record {
      signed = λ d u r s x. ⊎_elim
          (λ y. let old = i.flight.signed d u r s y in (h.entered_old u r old.0, old.1))
          (λ e. (rw (e.0, e.1) h.entered_to, rw e.0 e.3)) (h.signature_new d u r s x);
      backed = λ d u r s x. i.flight.backed d u r s (h.certificate_new d u r s x);
      certificate_due = λ d u r x c. ⊎_elim (λ (y : onward d u ≤ P.view r). inl (omega (arith, view_up r)))
          (λ (y : (s : ℕ) × F.certificate d u r s).
          ⊎_elim (λ z. inr (y.0, z)) (λ e. inl (rw e.0 (omega (arith, e.1, h.view_to)))) (h.certificate_old d u r y.0 y.1))
          (i.flight.certificate_due d u r x c);
      signature_due = λ d u r l st x. ⊎_elim
          (λ y. ⊎_elim (λ z. inl z) (λ z. inr (z.0, h.signature_old d u r z.0 z.1)) (i.flight.signature_due d u r l st y))
          (λ e. inr (now, rw (e.0, e.1) (h.sent d (rw e.0 at l) (rw e.0 at st)))) (h.entered_new u r x);
    }

    pub enter-times : BaseTimes π F' now S b
    enter-times = times-kept i.times (λ d u r s x. ⊎_elim (λ y. inl y) (λ e. inr e.2) (h.signature_new d u r s x))
        (λ d u r s x. inl (h.certificate_new d u r s x))

    pub enter-keeps : Base π P' L F' now S b
    enter-keeps = record { processors = enter-processors; tally = enter-tally; flight = enter-flight; times = enter-times }
