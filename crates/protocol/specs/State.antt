-- The state of a run at the level of the protocol, and the certificates that exist in it. Assumes nothing.
-- A stage is a Bool: false is that of view messages and the view certificate, true that of votes and the quorum certificate.
use Rattle.std.specs.Prelude.{◌⊎◌, Bool, true, false, ◌&&◌, ℕ, ◌+◌, ◌≤◌, ◌<◌, T, leb}
use Rattle.base.specs.Count.{count}
use Rattle.protocol.specs.Params.{Params, lead, Initial}

-- what the correct processors have
pub record Processors : Type 0 where
  -- the clock of each
  pub clock : ℕ → ℕ
  -- the view that each is in
  pub view : ℕ → ℕ
  -- by view and processor, who entered
  pub entered : ℕ → ℕ → Bool

-- what the correct leaders have
pub record Tally : Type 0 where
  -- by stage, view and processor, whose signature the leader heard
  pub heard : Bool → ℕ → ℕ → Bool
  -- by stage and view, whether the leader formed the certificate
  pub formed : Bool → ℕ → Bool

-- the messages sent and not delivered
pub record Flight : Type 1 where
  -- a view message or a vote on its way to the leader: stage, view, sender, sending time
  pub signature : Bool → ℕ → ℕ → ℕ → Type 0
  -- a certificate on its way from the leader: stage, view, receiver, sending time
  pub certificate : Bool → ℕ → ℕ → ℕ → Type 0

-- r is correct, and its clock is at most Γ behind x
abbrev pub nearby : Params → Processors → ℕ → ℕ → Bool
nearby π P x r = π.correct r && leb x (P.clock r + π.gamma)

-- how many signers a certificate needs: t + 1 for a view certificate, n − t for a quorum certificate
abbrev pub Enough : Params → Bool → ℕ → Type 0
Enough π false x = π.t < x
Enough π true x = π.n ≤ π.t + x

-- at which views the stage takes place: view messages are sent at initial views, votes at all
abbrev pub Starts : Params → Bool → ℕ → Type 0
Starts π false w = Initial π w
Starts π true w = Unit {0}

-- the view that a certificate for w leads to
abbrev pub onward : Bool → ℕ → ℕ
onward false w = w
onward true w = w + 1

-- when the leader of w forms a certificate: a view certificate only while it is itself not past w
abbrev pub Allowed : Params → Processors → Bool → ℕ → Type 0
Allowed π P false w = P.view (lead π w) ≤ w
Allowed π P true w = Unit {0}

-- a certificate for w exists: a correct leader formed it, or a faulty leader could, with all faulty ones' signatures
abbrev pub Exists : Params → Processors → Tally → Bool → ℕ → Type 0
Exists π P L q w =
    (T (π.correct (lead π w)) × T (L.formed q w)) ⊎ ((T (π.correct (lead π w)) → ⊥) × Enough π q (π.f + count π.n (P.entered w)))
