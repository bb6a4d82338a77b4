-- "messages sent and delivered by kind .. and the sum of waits": the sums of a run, and how a message adds to them. "the sums .. wrap at 2^64".
use Rattle.std.specs.Prelude.{List, [], ◌∷◌, ℕ, ◌+◌, ◌%◌, ◌^◌}
use Rattle.types.specs.declared.Message.{Message}
use Rattle.types.specs.declared.Message.TheVariants.{View, Vote, Vc, Qc}
use Rattle.types.specs.declared.Counts.{Counts}
use Rattle.types.specs.declared.Traffic.{Traffic}

abbrev pub counts_of : ℕ → ℕ → ℕ → ℕ → Counts
counts_of views votes vcs qcs = record { views = views; votes = votes; vcs = vcs; qcs = qcs }

abbrev pub traffic_of : Counts → Counts → ℕ → Traffic
traffic_of sent delivered waits = record { sent = sent; delivered = delivered; waits = waits }

-- the four, by kind
abbrev pub count_numbers : Counts → List ℕ
count_numbers c = c.views ∷ c.votes ∷ c.vcs ∷ c.qcs ∷ []

abbrev pub no_counts : Counts
no_counts = counts_of 0 0 0 0

abbrev pub no_traffic : Traffic
no_traffic = traffic_of no_counts no_counts 0

-- a sum and so many more
abbrev pub wrapped : ℕ → ℕ → ℕ
wrapped x k = (x + k) % 2 ^ 64

-- one message more of its kind
abbrev pub count_one : Counts → Message → Counts
count_one x (View w p) = counts_of (wrapped x.views 1) x.votes x.vcs x.qcs
count_one x (Vote w p) = counts_of x.views (wrapped x.votes 1) x.vcs x.qcs
count_one x (Vc w p) = counts_of x.views x.votes (wrapped x.vcs 1) x.qcs
count_one x (Qc w p) = counts_of x.views x.votes x.vcs (wrapped x.qcs 1)

unfoldable pub counts_more : Counts → List Message → Counts
counts_more x [] = x
counts_more x (m ∷ ms) = counts_more (count_one x m) ms

-- "Sent means posted."
abbrev pub traffic_sent : Traffic → List Message → Traffic
traffic_sent x ms = traffic_of (counts_more x.sent ms) x.delivered x.waits

-- "the sum of waits (delivery less sending time)"
abbrev pub traffic_delivered : Traffic → Message → ℕ → Traffic
traffic_delivered x m wait = traffic_of x.sent (count_one x.delivered m) (wrapped x.waits wait)
