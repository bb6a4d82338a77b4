-- "Quantities": the limits, the plan's own functions, and who is correct.
use Rattle.std.specs.Prelude.{Bool, not, ◌&&◌, cond, ℕ, ◌+◌, ◌-◌, ◌*◌, ◌/◌, ◌%◌, eqb, ltb}
use Rattle.base.specs.Sets.{member}
use Rattle.types.specs.declared.Plan.{Plan}
use Rattle.types.specs.declared.Form.{Form}
use Rattle.types.specs.declared.Form.TheVariants.{Wide, Packed}

-- "n, the cabinets: 4 to 64"
abbrev pub n_least : ℕ
n_least = 4

abbrev pub n_most : ℕ
n_most = 64

-- "The plan gets k, the views per leader, 2 to 8"
abbrev pub per_leader : Plan → ℕ
per_leader p = p.k

abbrev pub per_leader_least : ℕ
per_leader_least = 2

abbrev pub per_leader_most : ℕ
per_leader_most = 8

-- "any opening line without it is read as k=3", document 01's number
abbrev pub per_leader_usual : ℕ
per_leader_usual = 3

-- "Δ, the delay: 1 to 1,000 ticks. Γ, the slot: 2Δ to 10,000 ticks."
abbrev pub delta_least : ℕ
delta_least = 1

abbrev pub delta_most : ℕ
delta_most = 1000

-- check 3 "wants Γ at least 4Δ for k=2, 2Δ otherwise"
abbrev pub gamma_least : Plan → ℕ
gamma_least p = cond (eqb (per_leader p) 2) (4 * p.delta) (2 * p.delta)

abbrev pub gamma_most : ℕ
gamma_most = 10000

-- "V, the view limit: 3 to 6,000"
abbrev pub views_least : ℕ
views_least = 3

abbrev pub views_most : ℕ
views_most = 6000

-- "The ledger: four 64-bit words a view"
abbrev pub row_words : ℕ
row_words = 4

-- "The post: messages .. four 64-bit words each"; "A message now takes two words"
abbrev pub width : Form → ℕ
width Wide = 4
width Packed = 2

-- check 6: "fewer than 8n or more than 524,288"; "A post needs at least 4n words"
abbrev pub network_least : Form → Plan → ℕ
network_least Wide p = 8 * p.n
network_least Packed p = 4 * p.n

abbrev pub network_most : ℕ
network_most = 524288

-- "A table holds 64 start clocks"
abbrev pub table_clocks : ℕ
table_clocks = 64

-- "t = (n−1)/3 rounded down"
abbrev pub tolerated : Plan → ℕ
tolerated p = (p.n - 1) / 3

-- the turns that are over at view w, k views each
abbrev pub turns_over : Plan → ℕ → ℕ
turns_over p w = w / per_leader p

-- "cabinet (w/3 rounded down) mod n leads view w"; "Leader, initial view, the limit on start clocks .. and the multiple in check 4 follow k"
abbrev pub lead : Plan → ℕ → ℕ
lead p w = turns_over p w % p.n

-- a multiple of the views per leader, which a leader's first view is
abbrev pub turn_start : Plan → ℕ → Bool
turn_start p w = eqb (w % per_leader p) 0

-- "A view divisible by 3 is initial."; by k
abbrev pub initial : Plan → ℕ → Bool
initial p w = turn_start p w

-- the first such multiple above w: the next initial view
abbrev pub next_initial : Plan → ℕ → ℕ
next_initial p w = turns_over p w * per_leader p + per_leader p

-- "its clock time is wΓ"
abbrev pub clock_time : Plan → ℕ → ℕ
clock_time p w = w * p.gamma

-- VΓ, which no correct clock reaches
abbrev pub end_time : Plan → ℕ
end_time p = clock_time p p.views

-- "the limit on start clocks (kΓ)" (check 7)
abbrev pub start_limit : Plan → ℕ
start_limit p = clock_time p (per_leader p)

-- "A cabinet is correct if its number is below n and not marked in the mask"
abbrev pub correct : Plan → ℕ → ℕ → Bool
correct p faulty q = ltb q p.n && not (member faulty q)
