-- The opening. Assumes nothing.
use Rattle.std.specs.Prelude.{◌≡◌, Bool, ℕ, ◌*◌, ◌<◌, T}
use Rattle.base.specs.Count.{count}
use Rattle.protocol.specs.Params.{Params, lead}
use Rattle.protocol.specs.State.{Processors, Tally, Flight, nearby}

pub record Open (π : Params) (P : Processors) (L : Tally) (F : Flight) : Type 0 where
  -- everybody is in view 0
  pub view_zero : (p : ℕ) → T (π.correct p) → P.view p ≡ 0
  -- no clock has reached the next initial view's time
  pub start : (p : ℕ) → T (π.correct p) → P.clock p < π.k * π.gamma
  -- the clock condition
  pub near : (p : ℕ) → T (π.correct p) → π.t < count π.n (nearby π P (P.clock p))
  -- everybody entered view 0
  pub entered_zero : (p : ℕ) → T (π.correct p) → T (P.entered 0 p)
  -- nobody entered another view, and no faulty one is noted
  pub entered_is : (w p : ℕ) → T (P.entered w p) → (w ≡ 0) × T (π.correct p)
  -- nobody was heard
  pub none_heard : (q : Bool) (w p : ℕ) → T (L.heard q w p) → ⊥
  -- no certificate was formed
  pub none_formed : (q : Bool) (w : ℕ) → T (L.formed q w) → ⊥
  -- a signature in flight is for view 0, sent at time 0, of a correct one to a correct leader
  pub signature_is : (q : Bool) (w p s : ℕ) → F.signature q w p s → (w ≡ 0) × (s ≡ 0) × T (π.correct p) × T (π.correct (lead π 0))
  -- no certificate is in flight
  pub no_certificate : (q : Bool) (w p s : ℕ) → F.certificate q w p s → ⊥
  -- everybody has signed in both stages for view 0, if its leader is correct
  pub sent : (q : Bool) → T (π.correct (lead π 0)) → (p : ℕ) → T (π.correct p) → F.signature q 0 p 0
