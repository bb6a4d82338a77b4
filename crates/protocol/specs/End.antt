-- What a run reaches after settling. Assumes nothing.
use Rattle.std.specs.Prelude.{true, ℕ, ◌<◌, T}
use Rattle.protocol.specs.Params.{Params, lead}
use Rattle.protocol.specs.State.{Processors, Tally}

-- what is reached
pub record Reached (π : Params) (L : Tally) (P' : Processors) (L' : Tally) : Type 0 where
  -- a view
  pub v : ℕ
  -- whose leader is correct
  pub led : T (π.correct (lead π v))
  -- and has formed the quorum certificate
  pub formed : T (L'.formed true v)
  -- since settling
  pub since : T (L.formed true v) → ⊥
  -- and every correct processor is in a later view
  pub later : (p : ℕ) → T (π.correct p) → v < P'.view p
