-- A tick processor by processor: what the entries of those below k have left, and one processor more. Assumes nothing.
use mathlib.Core.Path.{◌≡◌, refl, sym, ap, ◌∙◌, subst}
use mathlib.Core.Bool.{Bool, true, false, ◌&&◌, cond}
use mathlib.Core.Logic.{◌≢◌}
use mathlib.Core.List.{List}
use Prim.Native.Nat.{ℕ, zero, suc, ◌+◌, ◌*◌, ◌/◌, ◌%◌, ◌≤◌, ◌<◌}
use native.Mathlib.Numerals.{add-one}
use native.Mathlib.Nat.{div-add-mod'}
use native.Mathlib.Omega.{arith}
use lib.Dec.{T, eqb, ltb, eqb→eq}
use lib.ListN.{length, get_or, set}
use lib.Seq.{set-get_or, get_or-set_other}
use Rattle.base.specs.Tests.{T-left, by_cond}
use Rattle.base.specs.Scan.{some}
use Rattle.base.specs.ScanLaws.{some-ext}
use Rattle.types.specs.declared.Plan.{Plan}
use Rattle.types.specs.declared.Run.{Run}
use Rattle.types.specs.declared.Processor.{Processor}
use Rattle.types.specs.declared.Input.TheVariants.{Tick}
use Rattle.types.specs.Quantities.{initial, clock_time}
use Rattle.model.specs.State.{State, clock_of, view_of, is_correct}
use Rattle.model.specs.Moves.{Change, changed, Entry, stay, into, entry_clock, by_clock, clocks_on, advanced, arrival, arrivals}
use Rattle.model.specs.Checks.{at_end, reaches_end}
use Rattle.model.specs.Processors.{Moved, moving, messages_of, moving_by}
use Rattle.liveness.proofs.TickLaws.{clock_up}
use Rattle.pacemaker.proofs.AnswerLaws.{tick-clock}
use Rattle.simulator.specs.declared.Move.{Move}
use Rattle.std.specs.Prelude.{Ok}
use Rattle.simulator.specs.Inner.{arrival_move, Arrives, seat, arrived_below, ends_at}
use Rattle.simulator.proofs.Entries.{entries-clocks, entries-views}

-- ---- clocks advanced so far

pub clocks-ahead : (r : Run) (k q : ℕ) → k ≤ q → get_or (clocks_on r k) q 0 ≡ clock_of r q
unfolding clocks_on
clocks-ahead r zero q l = refl
clocks-ahead r (suc k) q l = by_cond (λ (x : List ℕ). get_or x q 0 ≡ clock_of r q) (is_correct r k) (set (clocks_on r k) k (clock_of r k + 1)) (clocks_on r k)
    (λ t. let ne : q ≢ k = λ x. absurd (omega (arith, x)) in get_or-set_other (clocks_on r k) k q (clock_of r k + 1) 0 ne ∙ clocks-ahead r k q (omega arith))
    (λ t. clocks-ahead r k q (omega arith))

clocks-faulty : (r : Run) (k q : ℕ) → is_correct r q ≡ false → get_or (clocks_on r k) q 0 ≡ clock_of r q
unfolding clocks_on
clocks-faulty r zero q f = refl
clocks-faulty r (suc k) q f = by_cond (λ (x : List ℕ). get_or x q 0 ≡ clock_of r q) (is_correct r k) (set (clocks_on r k) k (clock_of r k + 1)) (clocks_on r k)
    (λ t. let ne : q ≢ k = λ x. subst T (ap (is_correct r) (sym x) ∙ f) t in
    get_or-set_other (clocks_on r k) k q (clock_of r k + 1) 0 ne ∙ clocks-faulty r k q f)
    (λ t. clocks-faulty r k q f)

-- ---- a clock that comes to an initial view's clock time stands there

pub arrived : (plan : Plan) (clock w : ℕ) → by_clock plan clock ≡ into w → entry_clock plan clock w ≡ clock
arrived plan clock w e = go (eqb (clock % plan.gamma) 0 && initial plan (clock / plan.gamma)) refl e
  where
    view_of_entry : Entry → ℕ
    view_of_entry stay = 0
    view_of_entry (into v) = v

    is_into : Entry → Bool
    is_into stay = false
    is_into (into v) = true

    at_time : T (eqb (clock % plan.gamma) 0) → (clock / plan.gamma) ≡ w → entry_clock plan clock w ≡ clock
    at_time t q =
        let m : clock % plan.gamma ≡ 0 = eqb→eq _ _ t in
        let g : w * plan.gamma ≡ clock = rw (← q) (omega (arith, div-add-mod' clock plan.gamma)) in
        by_cond (λ (x : ℕ). x ≡ clock) (ltb clock (clock_time plan w)) (clock_time plan w) clock (λ _. g) (λ _. refl)

    go : (b : Bool) → (eqb (clock % plan.gamma) 0 && initial plan (clock / plan.gamma)) ≡ b → cond b (into (clock / plan.gamma)) stay ≡ into w
        → entry_clock plan clock w ≡ clock
    go true x y = at_time (T-left (eqb (clock % plan.gamma) 0) (initial plan (clock / plan.gamma)) (rw x tt)) (ap view_of_entry y)
    go false x y = absurd (subst T (sym (ap is_into y)) tt)

-- ---- the entries of a tick

module _ (s : State) where
  abbrev r : Run
  r = s.run

  abbrev a : Run
  a = (advanced s).run

  abbrev below : ℕ → Change
  below = arrived_below s

  module _ (long : r.plan.n ≤ length r.clocks) where
    -- the clock after the tick
    clock-after : (k : ℕ) → k < r.plan.n → clock_of a k ≡ cond (is_correct r k) (clock_of r k + 1) (clock_of r k)
    clock-after k l = go (is_correct r k) refl
      where
        go : (b : Bool) → is_correct r k ≡ b → clock_of a k ≡ cond b (clock_of r k + 1) (clock_of r k)
        go true e = clock_up r r.plan.n k long l (rw e tt)
        go false e = clocks-faulty r r.plan.n k e

    neutral : (q w : ℕ) → q < r.plan.n → arrival a q ≡ into w → entry_clock r.plan (clock_of a q) w ≡ clock_of a q
    neutral q w l e = go (is_correct r q) e
      where
        go : (b : Bool) → cond b (by_clock r.plan (clock_of a q)) stay ≡ into w → entry_clock r.plan (clock_of a q) w ≡ clock_of a q
        go true x = arrived r.plan (clock_of a q) w x
        go false x = absurd (no-into x)
          where
            is_stay : Entry → Bool
            is_stay stay = true
            is_stay (into v) = false

            no-into : stay ≡ into w → ⊥
            no-into y = subst T (ap is_stay y) tt

    pub arrived-clocks : (k : ℕ) → k ≤ r.plan.n → (below k).clocks ≡ a.clocks
    arrived-clocks k l = entries-clocks (arrival a) a s.tally k (λ q w h x. neutral q w (omega arith) x)

    -- what the definition makes of processor k is what its own step says
    pub arrival-is : (k : ℕ) → k < r.plan.n
        → arrival_move r.plan r.faulty (seat r k) ≡ moving r.plan k (clock_of (changed a (below k)) k) (view_of (changed a (below k)) k) (arrival a k)
    arrival-is k l =
        let c : get_or (below k).clocks k 0 ≡ cond (is_correct r k) (clock_of r k + 1) (clock_of r k) =
        ap (λ (x : List ℕ). get_or x k 0) (arrived-clocks k (omega arith)) ∙ clock-after k l in
        let v : get_or (below k).views k 0 ≡ view_of r k = entries-views (arrival a) a s.tally k k (omega arith) in
        rw (c, v, clock-after k l) (go (is_correct r k))
      where
        go : (b : Bool) → cond b (moving_by r.plan (seat r k) Tick) (moving r.plan k (clock_of r k) (view_of r k) stay)
            ≡ moving r.plan k (cond b (clock_of r k + 1) (clock_of r k)) (view_of r k) (cond b (by_clock r.plan (cond b (clock_of r k + 1) (clock_of r k))) stay)
        go true = refl
        go false = refl

    -- one processor more
    module _ (k : ℕ) (low : k < r.plan.n) (x : Move) (arrives : Arrives r.plan r.faulty (seat r k) (Ok x)) where
      pub same-processor : x.processor ≡ (moving r.plan k (clock_of (changed a (below k)) k) (view_of (changed a (below k)) k) (arrival a k)).processor
      same-processor = arrives.1 ∙ ap (λ (m : Moved). m.processor) (arrival-is k low)

      pub same_sent : messages_of k x.sends ≡ (moving r.plan k (clock_of (changed a (below k)) k) (view_of (changed a (below k)) k) (arrival a k)).sent
      same_sent = arrives.2 ∙ ap (λ (m : Moved). m.sent) (arrival-is k low)

      pub clocks-more : clocks_on r (k + 1) ≡ set (clocks_on r k) k x.processor.clock
      unfolding clocks_on
      clocks-more = ap (clocks_on r) (add-one k) ∙ (rw (ap (λ (c : Processor). c.clock) (arrives.1)) (go (is_correct r k)))
        where
          go : (b : Bool) → cond b (set (clocks_on r k) k (clock_of r k + 1)) (clocks_on r k)
              ≡ set (clocks_on r k) k (cond b (moving_by r.plan (seat r k) Tick) (moving r.plan k (clock_of r k) (view_of r k) stay)).processor.clock
          go true = ap (set (clocks_on r k) k) (sym (tick-clock r.plan (seat r k)))
          go false = sym (ap (set (clocks_on r k) k) (sym (clocks-ahead r k k (omega arith))) ∙ set-get_or (clocks_on r k) k 0)

    -- check 17
    pub tick-reaches : reaches_end a (arrivals (advanced s)) ≡ some (ends_at r) r.plan.n
    unfolding reaches_end arrivals
    tick-reaches = some-ext (λ q. is_correct a q && at_end r.plan (get_or (below r.plan.n).clocks q 0)) (ends_at r) r.plan.n same
      where
        same : (q : ℕ) → q < r.plan.n → (is_correct a q && at_end r.plan (get_or (below r.plan.n).clocks q 0)) ≡ ends_at r q
        same q l = go (is_correct r q) (ap (λ (x : List ℕ). get_or x q 0) (arrived-clocks r.plan.n (omega arith)) ∙ clock-after q l)
          where
            go : (b : Bool) → get_or (below r.plan.n).clocks q 0 ≡ cond b (clock_of r q + 1) (clock_of r q)
                → (b && at_end r.plan (get_or (below r.plan.n).clocks q 0)) ≡ (b && at_end r.plan (clock_of r q + 1))
            go true e = ap (at_end r.plan) e
            go false e = refl
