-- The two passes of a tick over the processors: what it would send, and what it leaves. Assumes nothing.
use mathlib.Core.Path.{◌≡◌, sym, ap, ap₂, ◌∙◌}
use mathlib.Core.Bool.{false}
use mathlib.Core.List.{List}
use Prim.Native.Nat.{ℕ, ◌+◌, ◌-◌, ◌/◌, ◌≤◌, ◌<◌}
use native.Mathlib.Omega.{arith}
use lib.ListN.{length, set}
use Rattle.base.specs.Scan.{some}
use Rattle.base.specs.Tests.{fails}
use Rattle.types.specs.declared.Run.{Run}
use Rattle.types.specs.declared.Traffic.{Traffic}
use Rattle.types.specs.declared.Form.TheVariants.{Packed}
use Rattle.types.specs.Traffic.{traffic_sent}
use Rattle.model.specs.State.{State, state_of, run_of, with_held, with_time, with_clocks, with_views, with_traffic, clock_of, view_of, capacity}
use Rattle.model.specs.Moves.{Change, changed, Entry, clocks_on, advanced, arrival, arrivals, made}
use Rattle.model.specs.Processors.{messages_of}
use Rattle.simulator.specs.declared.Move.{Move}
use Rattle.std.specs.Prelude.{Ok}
use Rattle.liveness.proofs.Clocks.{arrived}
use Rattle.simulator.specs.Inner.{Posts, AllPackable, Fit, Whole, ends_at, pairs, sent_by, entered_by, Arrives, seat, arrived_below}
use Rattle.simulator.proofs.Fitness.{planned-of}
use Rattle.simulator.proofs.Packing.{sends-pack, inside-fit}
use Rattle.simulator.proofs.Counting.{Paired, paired-counted, paired-entries, initially-arrives}
use Rattle.simulator.proofs.Entries as entered
use Rattle.simulator.proofs.Entries.{turn, entries-views}
use Rattle.simulator.proofs.Arrivals.{clocks-ahead, arrived-clocks, tick-reaches, same-processor, same_sent, clocks-more}

-- equal runs and buffers are equal states
pub state-by : {r r' : Run} {t t' ws ws' : List ℕ} → r ≡ r' → t ≡ t' → ws ≡ ws' → state_of r t ws ≡ state_of r' t' ws'
state-by a b c = λ i. state_of (a i) (b i) (c i)

module _ (s : State) where
  abbrev entry : ℕ → Entry
  entry = arrival (advanced s).run

  -- a processor whose turn has not come stands as before the tick
  pub seat-kept : (k : ℕ) (next : Run) → next ≡ with_views (arrived_below s k).views (with_clocks (clocks_on s.run k) s.run) → seat next k ≡ seat s.run k
  seat-kept k next e = ap₂ (λ (c v : ℕ). record { number = k; clock = c; view = v })
      (ap (λ (y : Run). clock_of y k) e ∙ clocks-ahead s.run k k (omega arith))
      (ap (λ (y : Run). view_of y k) e ∙ entries-views entry (advanced s).run s.tally k k (omega arith))

  -- one processor more, in either pass
  module _ (long : s.run.plan.n ≤ length s.run.clocks) (k : ℕ) (low : k < s.run.plan.n) (x : Move)
      (arrives : Arrives s.run.plan s.run.faulty (seat s.run k) (Ok x)) where
    abbrev is_processor : x.processor ≡ (turn entry (advanced s).run s.tally k).processor
    is_processor = same-processor s long k low x arrives

    abbrev is_sent : messages_of k x.sends ≡ (turn entry (advanced s).run s.tally k).sent
    is_sent = same_sent s long k low x arrives

    pub sent-length : length (arrived_below s (k + 1)).sent ≡ length (arrived_below s k).sent + length (sent_by s.run.plan s.run.faulty k x.sends)
    sent-length = entered.sent-length entry (advanced s).run s.tally k x is_processor is_sent

    pub next-turn : (next : Run) → next ≡ with_views (arrived_below s k).views (with_clocks (clocks_on s.run k) s.run)
        → with_views (set next.views k x.processor.view) (with_clocks (set next.clocks k x.processor.clock) next)
        ≡ with_views (arrived_below s (k + 1)).views (with_clocks (clocks_on s.run (k + 1)) s.run)
    next-turn next e =
        ap (λ (y : Run). with_views (set y.views k x.processor.view) (with_clocks (set y.clocks k x.processor.clock) y)) e
        ∙ ap₂ (λ (v c : List ℕ). with_views v (with_clocks c s.run))
        (sym (entered.views-more entry (advanced s).run s.tally k x is_processor is_sent)) (sym (clocks-more s long k low x arrives))

    pub tally-turn : (t t' : List ℕ) → t ≡ (arrived_below s k).tally → t' ≡ entered_by t k x.sends → t' ≡ (arrived_below s (k + 1)).tally
    tally-turn = entered.tally-turn entry (advanced s).run s.tally k x is_processor is_sent

    -- its messages have packed words, in a fit run of which no clock comes to the end
    pub arrival-packs : Fit s.run → Whole s.run → some (ends_at s.run) s.run.plan.n ≡ false
        → AllPackable (sent_by s.run.plan s.run.faulty k x.sends)
    arrival-packs fit whole on =
        let ok = planned-of s.run.plan s.run.faulty fit.plan fit.faulty in
        let a = arrived s ok whole.clocks whole.views (inside-fit s.run fit) (fails _ (tick-reaches s long ∙ on)) (k + 1) in
        entered.entry-packs entry (advanced s).run s.tally k x is_processor is_sent
        (sends-pack (advanced s).run s.tally (arrived_below s (k + 1)) ok a.sends)

    module _ (before : List ℕ) (room : s.run.held + length (arrived_below s s.run.plan.n).sent ≤ capacity Packed before) (time held : ℕ) (ws : List ℕ)
        (posts : Posts (arrived_below s k).sent s.run.held time before held ws) where
      pub arrival-fits : held + length (sent_by s.run.plan s.run.faulty k x.sends) ≤ capacity Packed ws
      arrival-fits = entered.entry-fits entry (advanced s).run s.tally k x is_processor is_sent s.run.plan.n s.run.held time held
          before ws low room posts

      pub posts-turn : (held' : ℕ) (ws' : List ℕ) → Posts (sent_by s.run.plan s.run.faulty k x.sends) held time ws held' ws'
          → Posts (arrived_below s (k + 1)).sent s.run.held time before held' ws'
      posts-turn = entered.posts-turn entry (advanced s).run s.tally k x is_processor is_sent s.run.plan.n s.run.held time held
          before ws low room posts

  -- who enters in a tick enters an initial view
  tick-paired : (k : ℕ) → Paired (arrived_below s k).sent
  tick-paired k = paired-entries entry (advanced s).run s.tally k (initially-arrives (advanced s).run)

-- what the second pass leaves of a run and the buffers lent with it is the tick
module _ (r : Run) (t₀ ws₀ : List ℕ) where
  abbrev lent : State
  lent = state_of r t₀ ws₀

  abbrev all : Change
  all = arrived_below lent r.plan.n

  pub tick-made : r.plan.n ≤ length r.clocks → (next : Run) (held : ℕ) (traffic : Traffic) (t ws : List ℕ)
      → next ≡ with_views all.views (with_clocks (clocks_on r r.plan.n) r) → t ≡ all.tally → Posts all.sent r.held (r.time + 1) ws₀ held ws
      → traffic ≡ traffic_sent r.traffic (pairs ((held - r.held) / 2))
      → state_of (with_traffic traffic (with_held held (with_time (r.time + 1) next))) t ws ≡ made (advanced lent) (arrivals (advanced lent))
  unfolding made arrivals
  tick-made long next held traffic t ws e f g h = state-by
      (ap (λ (y : Run). with_traffic traffic (with_held held (with_time (r.time + 1) y))) e
      ∙ ap₂ (λ (k : ℕ) (c : List ℕ). run_of r.plan r.faulty (r.time + 1) r.settled r.gst k c all.views traffic)
      g.number (sym (arrived-clocks lent long r.plan.n (omega arith)))
      ∙ ap (λ (y : Traffic). with_traffic y (with_held (r.held + length all.sent) (changed (advanced lent).run all)))
      (h ∙ paired-counted all.sent (held - r.held) (tick-paired lent r.plan.n) (omega (arith, g.number)) r.traffic))
      f g.words
