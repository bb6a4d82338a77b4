-- The timed invariant, from settling on, for one fixed target view v. Assumes nothing.
use Rattle.std.specs.Prelude.{◌≡◌, true, false, ℕ, ◌+◌, ◌*◌, ◌≤◌, ◌<◌, T}
use Rattle.protocol.specs.Params.{Params, lead, Initial}
use Rattle.protocol.specs.State.{Processors, Tally, Flight}

-- how long after the largest clock at settling the target's time may lie
abbrev pub wait : Params → ℕ
wait π = π.k * (π.f + 1) * π.gamma

-- how long after settling the target's quorum certificate is formed
abbrev pub formed_by : Params → ℕ
formed_by π = wait π + π.gamma + 3 * π.delta

-- M: the largest correct clock at settling; star: a processor that had it
pub record Target (π : Params) (M star v : ℕ) : Type 0 where
  -- v is initial
  pub initial : Initial π v
  -- its leader is correct
  pub led : T (π.correct (lead π v))
  -- star is correct
  pub star_correct : T (π.correct star)
  -- v's time is not too far above M
  pub close : v * π.gamma ≤ M + wait π

-- what holds while v's quorum certificate is not formed; a clock's x is what it is above v's time
pub record Waiting (π : Params) (P : Processors) (L : Tally) (F : Flight) (now S M star v : ℕ) : Type 0 where
  -- star's clock has gone on since settling
  pub star_on : M + now ≤ P.clock star + S
  -- x is at most the time since settling
  pub not_ahead : (r : ℕ) → T (π.correct r) → P.clock r + S ≤ now + v * π.gamma
  -- nobody is past v
  pub not_past : (r : ℕ) → T (π.correct r) → P.view r ≤ v
  -- a view message for v in flight was sent when its sender's clock stood at v's time
  pub view_message_age : (p s : ℕ) → F.signature false v p s → s + P.clock p ≡ now + v * π.gamma
  -- the view certificate is formed before x is above Γ + Δ
  pub certified_by : (r : ℕ) → T (π.correct r) → v * π.gamma + π.gamma + π.delta < P.clock r → T (L.formed false v)
  -- a view certificate for v in flight was sent while x was at most Γ + Δ
  pub certificate_age : (p s : ℕ) → F.certificate false v p s → (r : ℕ) → T (π.correct r) → s + P.clock r ≤ now + v * π.gamma + π.gamma + π.delta
  -- all correct ones have entered v before x is above Γ + 2Δ
  pub all_in_by : (r : ℕ) → T (π.correct r) → v * π.gamma + π.gamma + 2 * π.delta < P.clock r → (p : ℕ) → T (π.correct p) → T (P.entered v p)
  -- a vote for v in flight was sent while x was at most Γ + 2Δ
  pub vote_age : (p s : ℕ) → F.signature true v p s → (r : ℕ) → T (π.correct r) → s + P.clock r ≤ now + v * π.gamma + π.gamma + 2 * π.delta
  -- x is never above Γ + 3Δ
  pub not_late : (r : ℕ) → T (π.correct r) → P.clock r ≤ v * π.gamma + π.gamma + 3 * π.delta

pub record Timed (π : Params) (P : Processors) (L : Tally) (F : Flight) (now S M star v : ℕ) : Type 0 where
  -- the deadlines, while v's quorum certificate is not formed
  pub waiting : (T (L.formed true v) → ⊥) → Waiting π P L F now S M star v
  -- a quorum certificate for v in flight was sent in time
  pub quorum_sent_by : (p s : ℕ) → F.certificate true v p s → s ≤ S + formed_by π
