-- A correct clock that stands within its view does so again after an entry and after a tick. Assumes nothing.
use mathlib.Core.Path.{◌≡◌, refl, ap, ◌∙◌}
use mathlib.Core.Bool.{◌&&◌}
use mathlib.Core.Logic.{◌≢◌, ⊎_elim}
use mathlib.Core.List.{List}
use Prim.Native.Nat.{ℕ, zero, suc, ◌+◌, ◌/◌, ◌%◌, ◌≤◌, ◌<◌}
use native.Mathlib.Omega.{arith}
use native.Mathlib.Nat.{div-add-mod', div-lt_iff_lt-mul, mul-mod_left, mul-div_cancel, mul-le-mul_right, lt_of_mul-lt-mul_right}
use lib.Dec.{T, eqb, eqb→eq}
use lib.ListN.{length, get_or, set}
use lib.Seq.{get_or-set_same, get_or-set_other}
use Rattle.base.specs.Tests.{T-left, T_and, eq?, eq→eqb, by_cond}
use Rattle.protocol.specs.Params as proto
use Rattle.protocol.specs.Params.{Params}
use Rattle.types.specs.declared.Plan.{Plan}
use Rattle.types.specs.declared.Run.{Run}
use Rattle.types.specs.Quantities.{initial, next_initial, clock_time, end_time}
use Rattle.model.specs.State.{State, clock_of, view_of, is_correct}
use Rattle.model.specs.Moves.{Change, changed, still, also, entry_clock, Entry, stay, into, by_clock, entering, taking, entries, advanced, arrival, arrivals}
use Rattle.model.specs.Checks.{reaches_end}
use Rattle.liveness.proofs.Link.{Planned, params, correct_below, gamma_positive, from-initial, not-ended}
use Rattle.liveness.proofs.Enters.{entry-max}
use Rattle.liveness.proofs.TickLaws.{length-clocks, clock_up, entries-up}
use Rattle.liveness.proofs.Soundness.{InView, Inside, InsideRun}
use Rattle.liveness.proofs.Addressing.{Sends, still-sends, entering-sends, also-sends}

-- ---- a processor enters a view not below its own

module _ (r : Run) (t : List ℕ) (ok : Planned r.plan r.faulty) (clocks_long : r.plan.n ≤ length r.clocks)
    (views_long : r.plan.n ≤ length r.views) (inside : InsideRun r) (p w : ℕ) (c : T (is_correct r p)) (rises : view_of r p ≤ w)
    (on : T (reaches_end r (entering r t p w)) → ⊥) where
  abbrev clock_to : ℕ
  clock_to = entry_clock r.plan (clock_of r p) w

  p-low : p < r.plan.n
  p-low = correct_below r.plan r.faulty p c

  clock-here : get_or (set r.clocks p clock_to) p 0 ≡ clock_to
  clock-here = get_or-set_same r.clocks p clock_to 0 (omega (arith, p-low, clocks_long))

  view-here : get_or (set r.views p w) p 0 ≡ w
  view-here = get_or-set_same r.views p w 0 (omega (arith, p-low, views_long))

  before_end : clock_to < end_time r.plan
  unfolding entering
  before_end = omega (arith, clock-here, not-ended r (entering r t p w) on p c)

  pub view_low : w < r.plan.views
  view_low = lt_of_mul-lt-mul_right r.plan.gamma (omega (arith, before_end, entry-max r.plan (clock_of r p) w))

  pub entered-sends : Sends r t (entering r t p w)
  entered-sends = entering-sends r t p w p-low view_low

  in-view-now : InView r.plan clock_to w
  unfolding proto.next proto.row
  in-view-now =
      let π : Params = params r.plan r.faulty ok in
      record {
        below = before_end;
        low = omega (arith, entry-max r.plan (clock_of r p) w);
        ready = omega (
          arith,
          entry-max r.plan (clock_of r p) w,
          (inside p c).ready,
          mul-le-mul_right r.plan.gamma (proto.next-mono π (view_of r p) w rises),
          mul-le-mul_right r.plan.gamma (proto.next-above π w),
          gamma_positive r.plan r.faulty ok,
        );
      }

  pub entered_inside : Inside r.plan r.faulty (entering r t p w).clocks (entering r t p w).views
  unfolding entering
  entered_inside q cq = ⊎_elim
      (λ (e : q ≡ p). rw (e, clock-here, view-here) in-view-now)
      (λ ne. rw (get_or-set_other r.clocks p q clock_to 0 ne, get_or-set_other r.views p q w 0 ne) (inside q cq))
      (eq? q p)

-- ---- a tick

module _ (s : State) (ok : Planned s.run.plan s.run.faulty) (clocks_long : s.run.plan.n ≤ length s.run.clocks)
    (views_long : s.run.plan.n ≤ length s.run.views) (inside : InsideRun s.run)
    (on : T (reaches_end (advanced s).run (arrivals (advanced s))) → ⊥) where
  abbrev plan : Plan
  plan = s.run.plan

  abbrev faulty : ℕ
  faulty = s.run.faulty

  abbrev π : Params
  π = params plan faulty ok

  -- the run with time and clocks advanced
  abbrev a : Run
  a = (advanced s).run

  pub up : (q : ℕ) → T (is_correct s.run q) → clock_of a q ≡ clock_of s.run q + 1
  up q c = clock_up s.run plan.n q clocks_long (correct_below plan faulty q c) c

  -- the clocks before the entries are below the end
  room : (q : ℕ) → T (is_correct a q) → clock_of a q < end_time plan
  unfolding arrivals
  room q c = omega (arith, not-ended a (arrivals (advanced s)) on q c, entries-up (arrival a) a s.tally plan.n q)

  -- when the processors below k have moved and the others' clocks alone have
  pub record Arrived (k : ℕ) (c : Change) : Type 0 where
    pub sends : Sends a s.tally c
    pub moved : (q : ℕ) → T (is_correct a q) → q < k → InView plan (get_or c.clocks q 0) (get_or c.views q 0)
    pub clock_kept : (q : ℕ) → k ≤ q → get_or c.clocks q 0 ≡ clock_of a q
    pub view_kept : (q : ℕ) → k ≤ q → get_or c.views q 0 ≡ view_of s.run q

  arrived_first : Arrived 0 (still a s.tally)
  arrived_first = record { sends = still-sends a s.tally; moved = λ q c l. absurd (omega arith); clock_kept = λ q l. refl; view_kept = λ q l. refl }

  -- processor k moves
  module _ (k : ℕ) (c : Change) (m : Arrived k c) where
    abbrev r : Run
    r = changed a c

    abbrev w : ℕ
    w = clock_of a k / plan.gamma

    here : clock_of r k ≡ clock_of a k
    here = m.clock_kept k (omega arith)

    module _ (ck : T (is_correct a k)) (standing : T (eqb (clock_of a k % plan.gamma) 0 && initial plan w)) where
      k_low : k < plan.n
      k_low = correct_below plan faulty k ck

      pub stands : clock_of a k ≡ clock_time plan w
      stands =
          let e : clock_of a k % plan.gamma ≡ 0 = eqb→eq _ _ (T-left (eqb (clock_of a k % plan.gamma) 0) _ standing) in
          omega (arith, div-add-mod' (clock_of a k) plan.gamma)

      pub in_row : w < plan.views
      in_row = (div-lt_iff_lt-mul (gamma_positive plan faulty ok)).1 (room k ck)

      abbrev clock_k : ℕ
      clock_k = entry_clock plan (clock_of r k) w

      clock_is : clock_k ≡ clock_of a k
      clock_is = omega (arith, entry-max plan (clock_of r k) w, here, stands)

      clock_set : get_or (set c.clocks k clock_k) k 0 ≡ clock_k
      clock_set = get_or-set_same c.clocks k clock_k 0 (omega (arith, k_low, clocks_long, m.sends.clocks, length-clocks s.run plan.n))

      view_set : get_or (set c.views k w) k 0 ≡ w
      view_set = get_or-set_same c.views k w 0 (omega (arith, k_low, views_long, m.sends.views))

      in_view_k : InView plan clock_k w
      unfolding proto.next proto.row
      in_view_k = record {
        below = omega (arith, clock_is, room k ck);
        low = omega (arith, clock_is, stands);
        ready = omega (arith, clock_is, stands, mul-le-mul_right plan.gamma (proto.next-above π w), gamma_positive plan faulty ok);
      }

      goes : Arrived (suc k) (also c (entering r c.tally k w))
      unfolding entering
      goes = record {
        sends = also-sends a s.tally c (entering r c.tally k w) m.sends (entering-sends r c.tally k w k_low in_row);
        moved = λ q cq l. ⊎_elim
            (λ (e : q ≡ k). rw (e, clock_set, view_set) in_view_k)
            (λ ne. rw (get_or-set_other c.clocks k q clock_k 0 ne, get_or-set_other c.views k q w 0 ne) (m.moved q cq (omega arith)))
            (eq? q k);
        clock_kept = λ q l. let ne : q ≢ k = omega arith in get_or-set_other c.clocks k q clock_k 0 ne ∙ m.clock_kept q (omega arith);
        view_kept = λ q l. let ne : q ≢ k = omega arith in get_or-set_other c.views k q w 0 ne ∙ m.view_kept q (omega arith);
      }

    waits : (T (is_correct a k) → T (eqb (clock_of a k % plan.gamma) 0 && initial plan w) → ⊥) → Arrived (suc k) (also c (still r c.tally))
    unfolding proto.next proto.row
    waits not-standing = record {
      sends = also-sends a s.tally c (still r c.tally) m.sends (still-sends r c.tally);
      moved = λ q cq l. ⊎_elim (λ (e : q ≡ k). rw e (last (rw e at cq))) (λ ne. m.moved q cq (omega arith)) (eq? q k);
      clock_kept = λ q l. m.clock_kept q (omega arith);
      view_kept = λ q l. m.view_kept q (omega arith);
    }
      where
        last : T (is_correct a k) → InView plan (clock_of r k) (view_of r k)
        last ck =
            let u : ℕ = next_initial plan (view_of s.run k) in
            let ne : clock_of a k ≢ clock_time plan u = λ (e : clock_of a k ≡ clock_time plan u).
            let rem : clock_of a k % plan.gamma ≡ 0 = ap (λ (y : ℕ). y % plan.gamma) e ∙ mul-mod_left u plan.gamma in
            let quo : clock_of a k / plan.gamma ≡ u = ap (λ (y : ℕ). y / plan.gamma) e ∙ mul-div_cancel u (gamma_positive plan faulty ok) in
            not-standing ck (T_and (eqb (clock_of a k % plan.gamma) 0) _ (eq→eqb _ _ rem)
            (rw quo (from-initial plan faulty ok u (proto.next-initial π (view_of s.run k))))) in
            rw (here, m.view_kept k (omega arith)) (record {
              below = room k ck;
              low = omega (arith, up k ck, (inside k ck).low);
              ready = omega (arith, up k ck, (inside k ck).ready, ne);
            })

    arrived_more : Arrived (suc k) (also c (taking r c.tally k (arrival a k)))
    unfolding taking
    arrived_more = by_cond (λ (e : Entry). Arrived (suc k) (also c (taking r c.tally k e))) (is_correct a k) (by_clock plan (clock_of a k)) stay
        (λ ck. by_cond (λ (e : Entry). Arrived (suc k) (also c (taking r c.tally k e))) (eqb (clock_of a k % plan.gamma) 0 && initial plan w) (into w) stay
        (λ t. goes ck t) (λ t. waits (λ _ t'. t t')))
        (λ nc. waits (λ ck _. nc ck))

  pub arrived : (k : ℕ) → Arrived k (entries (arrival a) a s.tally k)
  unfolding entries
  arrived zero = arrived_first
  arrived (suc k) = arrived_more k (entries (arrival a) a s.tally k) (arrived k)

  -- all have moved
  pub ticked_sends : Sends a s.tally (arrivals (advanced s))
  unfolding arrivals
  ticked_sends = (arrived plan.n).sends

  pub ticked_inside : Inside plan faulty (arrivals (advanced s)).clocks (arrivals (advanced s)).views
  unfolding arrivals
  ticked_inside q c = (arrived plan.n).moved q c (correct_below plan faulty q c)
