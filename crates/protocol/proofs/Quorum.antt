-- What the base invariant says of quorums, certificates and clocks. Assumes nothing.
use Rattle.std.specs.Prelude.{◌⊎◌, Bool, true, false, ◌&&◌, ℕ, ◌+◌, ◌*◌, ◌≤◌, ◌<◌, T}
use Rattle.std.proofs.Common.{inl, inr, arith, mul-le-mul_right, leb→le, le→leb}
use Rattle.base.specs.Tests.{le?, T-left, T-right, T_and}
use Rattle.base.specs.Count.{count, count-mono, count-meet, count-some}
use Rattle.protocol.specs.Params.{Params, lead, Initial, next, next-least}
use Rattle.protocol.specs.State.{Processors, Tally, nearby, Enough, Allowed, Exists}
use Rattle.protocol.specs.Base.{BaseProcessors, BaseTally}

module _ (π : Params) where
  open π use {n, t, gamma, correct, correct_count, few_faulty, enough}

  -- more signers are enough too
  pub enough-mono : (q : Bool) (x y : ℕ) → x ≤ y → Enough π q x → Enough π q y
  enough-mono false x y l h = omega arith
  enough-mono true x y l h = omega arith

  -- enough signers are more than t
  pub enough-above : (q : Bool) (x : ℕ) → Enough π q x → t < x
  enough-above false x h = omega arith
  enough-above true x h = omega (arith, enough)

  -- more than t signers: one is correct
  pub some-correct : (A : ℕ → Bool) → t < count n A → (p : ℕ) × T (A p) × T (correct p)
  some-correct A h =
      let r = count-some n (λ p. A p && correct p) (omega (arith, count-meet n A correct, correct_count, few_faulty)) in
      (r.0, T-left (A r.0) (correct r.0) r.2, T-right (A r.0) (correct r.0) r.2)

  -- n − t signers: more than t are correct
  pub many-correct : (A : ℕ → Bool) → Enough π true (count n A) → t < count n (λ p. A p && correct p)
  many-correct A h = omega (arith, count-meet n A correct, correct_count, few_faulty, enough)

  -- all correct ones make a quorum
  pub all-correct : (A : ℕ → Bool) → ((p : ℕ) → T (correct p) → T (A p)) → Enough π true (count n A)
  all-correct A h = omega (arith, count-mono n correct A (λ p l. h p), correct_count, few_faulty)

  -- clocks that stay near are as many
  pub near-mono : (P P' : Processors) (x y : ℕ) → ((r : ℕ) → T (correct r) → x ≤ P.clock r + gamma → y ≤ P'.clock r + gamma)
      → count n (nearby π P x) ≤ count n (nearby π P' y)
  near-mono P P' x y stay = count-mono n (nearby π P x) (nearby π P' y) each
    where
      each : (r : ℕ) → r < n → T (nearby π P x r) → T (nearby π P' y r)
      each r l z =
          let c : T (correct r) = T-left (correct r) _ z in
          T_and (correct r) _ c (le→leb _ _ (stay r c (leb→le _ _ (T-right (correct r) _ z))))

  -- a leader that may form a certificate might as well while its view was lower
  pub allowed-before : (P P' : Processors) (q : Bool) (w : ℕ) → P.view (lead π w) ≤ P'.view (lead π w) → Allowed π P' q w → Allowed π P q w
  allowed-before P P' false w l a = omega arith
  allowed-before P P' true w l a = tt

module _ {π : Params} {P : Processors} {L : Tally} (i : BaseTally π P L) where
  open π use {n, t, f, correct, few_faulty, enough}

  -- a certificate that exists for w means that some processor entered w
  pub exists-entered : (q : Bool) (w : ℕ) → Exists π P L q w → (p : ℕ) × T (P.entered w p)
  exists-entered q w (inl h) =
      let r = some-correct π (L.heard q w) (enough-above π q (count n (L.heard q w)) (i.formed_enough q w h.1)) in
      (r.0, i.heard_entered q w r.0 r.1 r.2)
  exists-entered q w (inr h) =
      let r = count-some n (P.entered w) (omega (arith, enough-above π q (f + count n (P.entered w)) h.1, few_faulty)) in
      (r.0, r.2)

  -- a quorum certificate that exists for w means that more than t entered w
  pub quorum-count : (w : ℕ) → Exists π P L true w → t < count n (P.entered w)
  quorum-count w (inl h) =
      omega (arith, many-correct π (L.heard true w) (i.formed_enough true w h.1), count-mono n (λ p. L.heard true w p && correct p) (P.entered w) each)
    where
      each : (p : ℕ) → p < n → T (L.heard true w p && correct p) → T (P.entered w p)
      each p l x = i.heard_entered true w p (T-left (L.heard true w p) (correct p) x) (T-right (L.heard true w p) (correct p) x)
  quorum-count w (inr h) = omega (arith, h.1, few_faulty, enough)

module _ {π : Params} {P : Processors} (i : BaseProcessors π P) where
  open π use {gamma}

  -- who entered w has a clock of at least w's time
  pub entered-clock : (w p : ℕ) → T (P.entered w p) → w * gamma ≤ P.clock p
  entered-clock w p e = omega (arith, i.low p (i.entered_correct w p e), mul-le-mul_right gamma (i.entered_le w p e))

-- a clock that has reached an initial view's time, and waits at no view that is not entered: the view is reached
pub clock-reached : (π : Params) (P : Processors) (p w : ℕ) → Initial π w
    → P.clock p < next π (P.view p) * π.gamma → w * π.gamma ≤ P.clock p → w ≤ P.view p
clock-reached π P p w e r h = go (le? w (P.view p))
  where
    go : (w ≤ P.view p) ⊎ (P.view p < w) → w ≤ P.view p
    go (inl l) = l
    go (inr l) = absurd (omega (arith, mul-le-mul_right π.gamma (next-least π (P.view p) w e l)))
