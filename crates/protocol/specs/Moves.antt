-- The small transitions, each as the facts that relate the state before to the state after. Assumes nothing.
use Rattle.std.specs.Prelude.{◌≡◌, ◌⊎◌, ◌≢◌, Bool, ℕ, ◌+◌, ◌*◌, ◌≤◌, ◌<◌, max, T}
use Rattle.base.specs.Count.{count}
use Rattle.protocol.specs.Params.{Params, lead, Initial, next}
use Rattle.protocol.specs.State.{Processors, Tally, Flight, Enough, Starts, Allowed, Exists, onward}

-- The correct leader of v hears p's signature of the stage q, from the flight or from a faulty p, and forms the certificate if it can.
pub record Hear (π : Params) (P : Processors) (L L' : Tally) (F F' : Flight) (now : ℕ) (q : Bool) (v p : ℕ) : Type 0 where
  -- the leader is correct
  pub led : T (π.correct (lead π v))
  -- the signer is faulty, or its signature was in flight
  pub from : (T (π.correct p) → ⊥) ⊎ ((s : ℕ) × F.signature q v p s)
  -- who was heard stays heard
  pub heard_old : (d : Bool) (w r : ℕ) → T (L.heard d w r) → T (L'.heard d w r)
  -- nobody but p is heard anew
  pub heard_new : (d : Bool) (w r : ℕ) → T (L'.heard d w r) → T (L.heard d w r) ⊎ ((d ≡ q) × (w ≡ v) × (r ≡ p))
  -- p is heard
  pub heard_now : T (L'.heard q v p)
  -- what was formed stays formed
  pub formed_old : (d : Bool) (w : ℕ) → T (L.formed d w) → T (L'.formed d w)
  -- nothing is formed anew but this certificate, and only with enough signers
  pub formed_new : (d : Bool) (w : ℕ) → T (L'.formed d w)
      → T (L.formed d w) ⊎ ((d ≡ q) × (w ≡ v) × Enough π q (count π.n (L'.heard q v)))
  -- with enough signers it is formed, if the leader may
  pub formed_now : Enough π q (count π.n (L'.heard q v)) → Allowed π P q v → T (L'.formed q v)
  -- no signature but this one leaves the flight
  pub signature_old : (d : Bool) (w r s : ℕ) → F.signature d w r s → F'.signature d w r s ⊎ ((d ≡ q) × (w ≡ v) × (r ≡ p))
  -- no signature is sent
  pub signature_new : (d : Bool) (w r s : ℕ) → F'.signature d w r s → F.signature d w r s
  -- no certificate leaves the flight
  pub certificate_old : (d : Bool) (w r s : ℕ) → F.certificate d w r s → F'.certificate d w r s
  -- no certificate is sent but this one, now, to a correct processor, if it was formed now
  pub certificate_new : (d : Bool) (w r s : ℕ) → F'.certificate d w r s
      → F.certificate d w r s ⊎ ((d ≡ q) × (w ≡ v) × (s ≡ now) × T (π.correct r) × (T (L.formed q v) → ⊥) × T (L'.formed q v))
  -- if it was formed now it is sent to every correct processor
  pub sent : (T (L.formed q v) → ⊥) → T (L'.formed q v) → (r : ℕ) → T (π.correct r) → F'.certificate q v r now

-- Why the processor p enters w: its clock stands there, or a certificate that exists and leads to w reaches it.
pub data Reason (π : Params) (P : Processors) (L : Tally) (p w : ℕ) : Type 0 where
  by_own_clock : Initial π w → P.view p < w → P.clock p ≡ w * π.gamma → Reason π P L p w
  by_certificate : (q : Bool) (u : ℕ) → w ≡ onward q u → P.view p < w → Starts π q u → Exists π P L q u → Reason π P L p w

-- The correct processor p enters w; certificates for it that lead no further may leave the flight.
pub record Enter (π : Params) (P P' : Processors) (L : Tally) (F F' : Flight) (now p w : ℕ) : Type 0 where
  -- p is correct
  pub for_a_correct : T (π.correct p)
  -- it has a reason to enter
  pub why : Reason π P L p w
  -- it is then in w
  pub view_to : P'.view p ≡ w
  -- its clock is moved up to w's time, and never back
  pub clock_to : P'.clock p ≡ max (P.clock p) (w * π.gamma)
  -- the others stay in their views
  pub view_else : (r : ℕ) → r ≢ p → P'.view r ≡ P.view r
  -- and keep their clocks
  pub clock_else : (r : ℕ) → r ≢ p → P'.clock r ≡ P.clock r
  -- p is noted as having entered w
  pub entered_to : T (P'.entered w p)
  -- who entered stays noted
  pub entered_old : (u r : ℕ) → T (P.entered u r) → T (P'.entered u r)
  -- nothing else is noted
  pub entered_new : (u r : ℕ) → T (P'.entered u r) → T (P.entered u r) ⊎ ((u ≡ w) × (r ≡ p))
  -- p signs in each stage that takes place at w, if the leader is correct
  pub sent : (d : Bool) → T (π.correct (lead π w)) → Starts π d w → F'.signature d w p now
  -- no signature leaves the flight
  pub signature_old : (d : Bool) (u r s : ℕ) → F.signature d u r s → F'.signature d u r s
  -- no other signature is sent
  pub signature_new : (d : Bool) (u r s : ℕ) → F'.signature d u r s
      → F.signature d u r s ⊎ ((u ≡ w) × (r ≡ p) × (s ≡ now) × T (π.correct (lead π w)) × Starts π d w)
  -- a certificate that leaves the flight is one for p that leads no further than w
  pub certificate_old : (d : Bool) (u r s : ℕ) → F.certificate d u r s → F'.certificate d u r s ⊎ ((r ≡ p) × (onward d u ≤ w))
  -- no certificate is sent
  pub certificate_new : (d : Bool) (u r s : ℕ) → F'.certificate d u r s → F.certificate d u r s

-- Certificates leave the flight at processors that are past them.
pub record Pass (P : Processors) (F F' : Flight) : Type 0 where
  -- no signature leaves the flight
  pub signature_old : (d : Bool) (u r s : ℕ) → F.signature d u r s → F'.signature d u r s
  -- no signature is sent
  pub signature_new : (d : Bool) (u r s : ℕ) → F'.signature d u r s → F.signature d u r s
  -- a certificate that leaves the flight leads its receiver no further
  pub certificate_old : (d : Bool) (u r s : ℕ) → F.certificate d u r s → F'.certificate d u r s ⊎ (onward d u ≤ P.view r)
  -- no certificate is sent
  pub certificate_new : (d : Bool) (u r s : ℕ) → F'.certificate d u r s → F.certificate d u r s

-- the processors with other clocks
abbrev pub clocked : Processors → (ℕ → ℕ) → Processors
clocked P c = record { clock = c; view = P.view; entered = P.entered }

-- Time passes, by one.
pub record Tick (π : Params) (P : Processors) (c : ℕ → ℕ) (F : Flight) (now S : ℕ) (b : Bool) : Type 0 where
  -- no clock stands at an initial view that is not entered yet
  pub ready : (p : ℕ) → T (π.correct p) → P.clock p < next π (P.view p) * π.gamma
  -- once the network has settled, no signature in flight becomes overdue
  pub signature_timely : T b → (d : Bool) (w p s : ℕ) → F.signature d w p s → now < max s S + π.delta
  -- nor does a certificate
  pub certificate_timely : T b → (d : Bool) (w p s : ℕ) → F.certificate d w p s → now < max s S + π.delta
  -- every correct clock advances by one
  pub clock_up : (p : ℕ) → T (π.correct p) → c p ≡ P.clock p + 1
