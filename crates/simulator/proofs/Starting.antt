-- The opening: the table of start clocks, and the first entries, one processor after the other. Assumes nothing.
use Rattle.std.specs.Prelude.{Err, Ok, Result}
use mathlib.Core.Path.{◌≡◌, refl, sym, ap, ap₂, ◌∙◌, subst}
use mathlib.Core.Bool.{Bool, true, false, cond}
use mathlib.Core.Logic.{◌⊎◌, inl, inr, ◌≢◌}
use mathlib.Core.List.{List}
use Prim.Native.Nat.{ℕ, suc, ◌+◌, ◌*◌, ◌/◌, ◌≤◌, ◌<◌}
use native.Mathlib.Omega.{arith}
use lib.Dec.{ltb}
use lib.ListN.{length, get_or, set, length-set}
use lib.Seq.{get_or-set_same, get_or-set_other, ext_get_or}
use borrow.Author.Tests.{ltb-false}
use Rattle.base.specs.Choice.{or_parts}
use Rattle.base.specs.Tests.{le?, by_cond}
use Rattle.base.specs.ScanLaws.{length-listed, get_or-listed}
use Rattle.types.specs.declared.Plan.{Plan}
use Rattle.types.specs.declared.Run.{Run}
use Rattle.types.specs.declared.Setup.{Setup}
use Rattle.types.specs.declared.Traffic.{Traffic}
use Rattle.types.specs.declared.Sends.{Sends}
use Rattle.types.specs.declared.Sends.TheVariants.{Nothing, ViewAndVote}
use Rattle.types.specs.declared.Form.TheVariants.{Packed}
use Rattle.types.proofs.PlanLaws.{zero-starts}
use Rattle.types.specs.Quantities.{n_most, network_least, network_most, table_clocks, row_words, correct}
use Rattle.types.specs.Traffic.{no_traffic, traffic_sent}
use Rattle.model.specs.State.{state_of, run_of, with_held, with_traffic, clock_of, view_of, posted, capacity, refused, done}
use Rattle.model.specs.Moves.{Change, changed, stay, into, made}
use Rattle.model.specs.Processors.{messages_of, moving}
use Rattle.model.specs.Checks.{network_outside}
use Rattle.model.specs.Opening.{start_clocks, blank_run, blank, first_entry, opened, opening}
use Rattle.liveness.proofs.Link.{Planned}
use Rattle.liveness.proofs.FirstEntries.{Mid, mid_all}
use Rattle.checks.specs.Setups.{setup_check}
use Rattle.checks.proofs.Opens.{Passed, by_result, setup-passed, setup-check}
use Rattle.buffers.specs.Zeros.{cleared, cleared-all, cleared-length}
use Rattle.simulator.specs.declared.Move.{Move}
use Rattle.simulator.specs.Inner.{Posts, AllPackable, pairs, sent_by, entered_by}
use Rattle.simulator.specs.Opening.{first_sends, entered_first}
use Rattle.simulator.specs.Clauses.{Opens}
use Rattle.simulator.proofs.Counting.{Paired, paired-counted, Initially, paired-entries}
use Rattle.simulator.proofs.Entries as entered
use Rattle.simulator.proofs.Fitness.{planned-of}
use Rattle.simulator.proofs.Packing.{none-packs, pair-packs}
use Rattle.simulator.proofs.Ticking.{state-by}

-- ---- the table of start clocks

-- so far: the first k of the table
abbrev pub starts_below : Setup → ℕ → List ℕ → Type 0
starts_below u k l = (length l ≡ table_clocks) × ((i : ℕ) → i < k → get_or l i 0 ≡ get_or (start_clocks u) i 0)

abbrev start : Setup → ℕ → ℕ
start u p = cond (correct u.plan u.faulty p) (get_or u.clocks p 0) 0

pub starts_more : (u : Setup) (k : ℕ) (l : List ℕ) (c : ℕ) → k < table_clocks → starts_below u k l
    → c ≡ cond (correct u.plan u.faulty k) (get_or u.clocks k 0) 0 → starts_below u (k + 1) (set l k c)
starts_more u k l c low h e = (length-set l k c ∙ h.0, λ i lt. go i (le? (suc i) k) lt)
  where
    go : (i : ℕ) → (i < k) ⊎ (k < suc i) → i < k + 1 → get_or (set l k c) i 0 ≡ get_or (start_clocks u) i 0
    go i (inl x) lt = let ne : i ≢ k = λ y. absurd (omega (arith, y)) in get_or-set_other l k i c 0 ne ∙ h.1 i x
    go i (inr x) lt =
        let y : i ≡ k = omega arith in
        let z : k < length l = omega (arith, h.0) in
        subst (λ (j : ℕ). get_or (set l k c) j 0 ≡ get_or (start_clocks u) j 0) (sym y)
        (get_or-set_same l k c 0 z ∙ e ∙ sym (get_or-listed (start u) table_clocks k low))

pub starts-all : (u : Setup) (l : List ℕ) → starts_below u table_clocks l → l ≡ start_clocks u
starts-all u l h = ext_get_or 0 l (start_clocks u) (h.0 ∙ sym (length-listed (start u) table_clocks)) (λ i lt. h.1 i (omega (arith, h.0)))

-- ---- what passed checks 2 to 8

-- what an opening needs of a setup and the lengths of the buffers
pub record Ready (u : Setup) (tally network : ℕ) : Type 0 where
  pub ok : Planned u.plan u.faulty
  pub rows : row_words * u.plan.views ≤ tally
  pub room : network_least Packed u.plan ≤ network

pub ready : (u : Setup) (tally network : ℕ) → setup_check Packed u tally network ≡ Ok tt → Ready u tally network
ready u tally network e =
    let c : Passed u tally network = setup-passed u tally network e in
    let a = or_parts (ltb tally (row_words * u.plan.views)) (network_outside Packed u.plan network) c.lengths in
    let b = or_parts (ltb network (network_least Packed u.plan)) (ltb network_most network) a.1 in
    record {
      ok = planned-of u.plan u.faulty c.plan c.faulty;
      rows = ltb-false tally (row_words * u.plan.views) a.0;
      room = ltb-false network (network_least Packed u.plan) b.0;
    }

-- ---- the first entries

pub first-packs : (plan : Plan) (faulty q : ℕ) → q < n_most → AllPackable (sent_by plan faulty q (first_sends plan faulty q))
first-packs plan faulty q low = go (correct plan faulty q)
  where
    go : (b : Bool) → AllPackable (sent_by plan faulty q (cond b (ViewAndVote 0) Nothing))
    go true = pair-packs plan faulty 0 q (omega arith) low
    go false = none-packs plan faulty

module _ (u : Setup) (t : List ℕ) where
  abbrev below : ℕ → Change
  below = entered_first u t

  module _ (k : ℕ) where
    abbrev sends : Sends
    sends = first_sends u.plan u.faulty k

    abbrev r : Run
    r = changed (blank_run u) (below k)

    -- the messages are those of an entry into view 0, which is initial
    pub first-messages : messages_of k sends ≡ (moving u.plan k (clock_of r k) (view_of r k) (first_entry u k)).sent
    first-messages = go (correct u.plan u.faulty k)
      where
        go : (b : Bool) → messages_of k (cond b (ViewAndVote 0) Nothing) ≡ (moving u.plan k (clock_of r k) (view_of r k) (cond b (into 0) stay)).sent
        go true = rw (zero-starts u.plan) refl
        go false = refl

    abbrev pub reaction : Move
    reaction = record { processor = (moving u.plan k (clock_of r k) (view_of r k) (first_entry u k)).processor; sends = sends }

    -- one processor more
    pub tally-turn : (t' t'' : List ℕ) → t' ≡ (below k).tally → t'' ≡ entered_by t' k sends → t'' ≡ (below (k + 1)).tally
    tally-turn = entered.tally-turn (first_entry u) (blank_run u) t k reaction refl first-messages

    module _ (held : ℕ) (ws ws' : List ℕ) (low : k < u.plan.n) (room : 2 * u.plan.n ≤ capacity Packed ws) (posts : Posts (below k).sent 0 0 ws held ws') where
      enough : 0 + length (below u.plan.n).sent ≤ capacity Packed ws
      enough = omega (arith, room, entered.sent_few (first_entry u) (blank_run u) t u.plan.n)

      pub first_fits : held + length (sent_by u.plan u.faulty k sends) ≤ capacity Packed ws'
      first_fits = entered.entry-fits (first_entry u) (blank_run u) t k reaction refl first-messages u.plan.n 0 0 held ws ws' low enough posts

      pub posts-turn : (held' : ℕ) (ws'' : List ℕ) → Posts (sent_by u.plan u.faulty k sends) held 0 ws' held' ws'' → Posts (below (k + 1)).sent 0 0 ws held' ws''
      posts-turn = entered.posts-turn (first_entry u) (blank_run u) t k reaction refl first-messages u.plan.n 0 0 held ws ws' low enough posts

-- ---- all together

-- room for two messages of each processor
pub first-room : (u : Setup) (ws ws' : List ℕ) → network_least Packed u.plan ≤ length ws → ws' ≡ cleared ws (length ws) → 2 * u.plan.n ≤ capacity Packed ws'
first-room u ws ws' l e = let h : length ws' ≡ length ws = ap length e ∙ cleared-length ws (length ws) (omega arith) in omega arith

-- view 0 is initial
first-paired : (u : Setup) (t : List ℕ) (k : ℕ) → Paired (entered_first u t k).sent
first-paired u t k = paired-entries (first_entry u) (blank_run u) t k
    (λ p. by_cond (Initially u.plan) (correct u.plan u.faulty p) (into 0) stay (λ _. zero-starts u.plan) (λ _. tt))

-- the first entries, made on the blank tally t₁ and network ws₁, leave clocks and views as they are: the opened state
pub start-made : (u : Setup) (t ws : List ℕ) → Ready u (length t) (length ws) → (run : Run) (held : ℕ) (traffic : Traffic) (t₁ t' ws₁ ws' : List ℕ) → run ≡ blank_run u
    → t₁ ≡ cleared t (row_words * u.plan.views) → ws₁ ≡ cleared ws (length ws)
    → Posts (entered_first u t₁ u.plan.n).sent 0 0 ws₁ held ws' × (t' ≡ (entered_first u t₁ u.plan.n).tally)
    → traffic ≡ traffic_sent run.traffic (pairs (held / 2))
    → state_of (with_traffic traffic (with_held held run)) t' ws' ≡ opened u (state_of (blank_run u) t ws)
unfolding opened blank made
start-made u t ws fit run held traffic t₁ t' ws₁ ws' e a b x f =
    let m : Mid u t fit.ok fit.rows u.plan.n (entered_first u (cleared t (row_words * u.plan.views)) u.plan.n) =
    mid_all u t fit.ok fit.rows u.plan.n in
    let h : held ≡ 0 + length (entered_first u (cleared t (row_words * u.plan.views)) u.plan.n).sent =
    x.0.number ∙ ap (λ (y : List ℕ). 0 + length (entered_first u y u.plan.n).sent) a in
    let g : traffic ≡ traffic_sent no_traffic (entered_first u (cleared t (row_words * u.plan.views)) u.plan.n).sent =
    f ∙ ap (λ (y : Run). traffic_sent y.traffic (pairs (held / 2))) e
    ∙ paired-counted (entered_first u (cleared t (row_words * u.plan.views)) u.plan.n).sent held (first-paired u (cleared t (row_words * u.plan.views)) u.plan.n) (omega (arith, h)) no_traffic in
    state-by
    (ap (λ (y : Run). with_traffic traffic (with_held held y)) e ∙ (λ i. run_of u.plan u.faulty 0 false 0 (h i) (sym m.clocks_same i) (sym m.views_same i) (g i)))
    (x.1 ∙ ap (λ (y : List ℕ). (entered_first u y u.plan.n).tally) a)
    (x.0.words ∙ ap₂ (λ (y z : List ℕ). posted Packed z 0 0 (entered_first u y u.plan.n).sent) a (b ∙ cleared-all ws))

-- ---- an opening, by the answer of checks 2 to 8

-- the opened state has nothing of the run handed in
opened-same : (u : Setup) (r r' : Run) (t ws : List ℕ) → opened u (state_of r t ws) ≡ opened u (state_of r' t ws)
unfolding opened blank
opened-same u r r' t ws = refl

module _ (u : Setup) (run : Run) (t ws : List ℕ) where
  abbrev check : Result (Unit {0}) ℕ
  check = setup_check Packed u (length t) (length ws)

  pub opens-done : (next : Run) (t' ws' : List ℕ) → check ≡ Ok tt → state_of next t' ws' ≡ opened u (state_of (blank_run u) t ws)
      → Opens u (state_of run t ws) (done (state_of next t' ws'))
  unfolding opening
  opens-done next t' ws' z e =
      ap done (e ∙ opened-same u (blank_run u) run t ws)
      ∙ ap (by_result (refused (state_of run t ws)) (done (opened u (state_of run t ws)))) (sym z)
      ∙ sym (setup-check u (state_of run t ws) (done (opened u (state_of run t ws))))

  pub opens-refused : (r : ℕ) → check ≡ Err r → Opens u (state_of run t ws) (refused (state_of run t ws) r)
  unfolding opening
  opens-refused r z =
      ap (by_result (refused (state_of run t ws)) (done (opened u (state_of run t ws)))) (sym z)
      ∙ sym (setup-check u (state_of run t ws) (done (opened u (state_of run t ws))))
