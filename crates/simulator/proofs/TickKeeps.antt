-- A single tick that no check refuses keeps a run fit, and moves time and every correct clock by one. Assumes nothing.
use mathlib.Core.Path.{◌≡◌, refl, ap, ◌∙◌}
use mathlib.Core.Bool.{Bool, true, false, ◌&&◌, ◌||◌, cond}
use mathlib.Core.Logic.{⊎_elim, ◌≢◌}
use mathlib.Core.List.{List}
use Prim.Native.Nat.{ℕ, zero, suc, ◌+◌, ◌*◌, ◌/◌, ◌%◌, ◌≤◌, ◌<◌}
use native.Mathlib.Omega.{arith}
use native.Mathlib.Nat.{div-add-mod', mul-div_cancel, mul-mod_left, mul-le-mul_right}
use lib.Dec.{T, eqb, leb, ltb, eqb→eq}
use lib.ListN.{length, get_or, length-set}
use lib.Seq.{get_or-set_same, get_or-set_other}
use borrow.Author.Tests.{eq-eqb}
use Rattle.base.specs.Tests.{fails, T-left, le?}
use Rattle.base.specs.Choice.{and_both}
use Rattle.base.specs.Scan.{some}
use Rattle.base.specs.ScanLaws.{some-not}
use Rattle.pacemaker.specs.Limits.{Within}
use Rattle.pacemaker.proofs.LimitLaws.{within, gamma_positive}
use Rattle.types.specs.declared.Plan.{Plan}
use Rattle.types.specs.declared.Run.{Run}
use Rattle.types.specs.Quantities.{width, initial, next_initial, clock_time, end_time}
use Rattle.types.proofs.PlanLaws.{per-leader-positive, next-above, next-initial}
use Rattle.model.specs.State.{State, clock_of, view_of, is_correct, room_in}
use Rattle.buffers.specs.WordLaws.{posted-length}
use Rattle.model.specs.Moves.{Change, changed, Entry, stay, into, entering, taking, entries, by_clock, advanced, arrival, arrivals, made}
use Rattle.model.specs.Checks.{clock_outside, at_end}
use Rattle.liveness.proofs.Link.{correct_below}
use Rattle.liveness.proofs.TickLaws.{clock_up}
use Rattle.liveness.proofs.Judging.{neither, not-ltb, not-leb}
use Rattle.leaps.proofs.Resting.{clock-inside}
use Rattle.simulator.specs.Inner.{Fit, Went, arrived_below, ends_at}
use Rattle.simulator.proofs.Entries.{entries-views}
use Rattle.simulator.proofs.Arrivals.{arrived-clocks}

-- ---- the view after the entries

abbrev pub view_after : Entry → ℕ → ℕ
view_after stay v = v
view_after (into w) v = w

module _ (e : ℕ → Entry) (r : Run) (t : List ℕ) where
  entries-length : (k : ℕ) → length (entries e r t k).views ≡ length r.views
  unfolding entries taking entering
  entries-length zero = refl
  entries-length (suc k) = go (e k) (entries-length k)
    where
      go : (x : Entry) → length (entries e r t k).views ≡ length r.views
          → length (taking (changed r (entries e r t k)) (entries e r t k).tally k x).views ≡ length r.views
      go stay h = h
      go (into w) h = length-set (entries e r t k).views k w ∙ h

  pub entries-view : (k p : ℕ) → k ≤ length r.views → p < k → get_or (entries e r t k).views p 0 ≡ view_after (e p) (view_of r p)
  unfolding entries taking entering
  entries-view zero p long l = absurd (omega arith)
  entries-view (suc k) p long l = ⊎_elim
      (λ (h : suc p ≤ k). before (e k) (entries-view k p (omega arith) h) (λ q. absurd (omega (arith, q))))
      (λ (h : k < suc p). let q : p ≡ k = omega arith in rw q (here (e k) refl))
      (le? (suc p) k)
    where
      before : (x : Entry) → get_or (entries e r t k).views p 0 ≡ view_after (e p) (view_of r p) → p ≢ k
          → get_or (taking (changed r (entries e r t k)) (entries e r t k).tally k x).views p 0 ≡ view_after (e p) (view_of r p)
      before stay h ne = h
      before (into w) h ne = get_or-set_other (entries e r t k).views k p w 0 ne ∙ h

      here : (x : Entry) → e k ≡ x → get_or (taking (changed r (entries e r t k)) (entries e r t k).tally k x).views k 0 ≡ view_after x (view_of r k)
      here stay q = entries-views e r t k k (omega arith)
      here (into w) q = get_or-set_same (entries e r t k).views k w 0 (omega (arith, entries-length k))

-- ---- a clock inside its view, one tick on

module _ (plan : Plan) (limits : Within plan) (clock view : ℕ) (was : clock_outside plan clock view ≡ false) (on : at_end plan (clock + 1) ≡ false) where
  bounds : (clock_time plan view ≤ clock) × (clock < clock_time plan (next_initial plan view))
  bounds =
      let o = neither (at_end plan clock || ltb clock (clock_time plan view)) (leb (clock_time plan (next_initial plan view)) clock) (fails (clock_outside plan clock view) was) in
      (not-ltb _ _ (neither (at_end plan clock) (ltb clock (clock_time plan view)) o.0).1, not-leb _ _ o.1)

  before_end : clock + 1 < end_time plan
  before_end = not-leb _ _ (fails (at_end plan (clock + 1)) on)

  abbrev due : Bool
  due = eqb ((clock + 1) % plan.gamma) 0 && initial plan ((clock + 1) / plan.gamma)

  -- it has come to an initial view
  arrives : T due → clock_outside plan (clock + 1) ((clock + 1) / plan.gamma) ≡ false
  arrives t =
      let w : ℕ = (clock + 1) / plan.gamma in
      let m : (clock + 1) % plan.gamma ≡ 0 = eqb→eq _ _ (T-left (eqb ((clock + 1) % plan.gamma) 0) (initial plan w) t) in
      let g : w * plan.gamma ≡ clock + 1 = omega (arith, div-add-mod' (clock + 1) plan.gamma) in
      let n : (w + 1) * plan.gamma ≤ next_initial plan w * plan.gamma = mul-le-mul_right plan.gamma (next-above plan w (per-leader-positive plan limits.per_leader_at_least)) in
      clock-inside plan (clock + 1) w before_end (omega arith) (omega arith)

  -- it has not, and is still below the next
  goes_on : (T due → ⊥) → clock_outside plan (clock + 1) view ≡ false
  goes_on no' = clock-inside plan (clock + 1) view before_end (omega (arith, bounds.0)) (⊎_elim
      (λ (l : clock_time plan next ≤ clock + 1). absurd (no' (at_next (omega (arith, bounds.1)))))
      (λ (l : clock + 1 < clock_time plan next). l)
      (le? (clock_time plan next) (clock + 1)))
    where
      next : ℕ
      next = next_initial plan view

      at_next : clock + 1 ≡ next * plan.gamma → T due
      at_next e =
          let m : (clock + 1) % plan.gamma ≡ 0 = ap (λ (x : ℕ). x % plan.gamma) e ∙ mul-mod_left next plan.gamma in
          let d : (clock + 1) / plan.gamma ≡ next = ap (λ (x : ℕ). x / plan.gamma) e ∙ mul-div_cancel next (gamma_positive plan limits) in
          rw (and_both (eqb ((clock + 1) % plan.gamma) 0) (initial plan ((clock + 1) / plan.gamma)) (eq-eqb _ _ m)
          (ap (initial plan) d ∙ next-initial plan view)) tt

  pub stays-inside : clock_outside plan (clock + 1) (view_after (by_clock plan (clock + 1)) view) ≡ false
  stays-inside = go due refl
    where
      go : (b : Bool) → due ≡ b → clock_outside plan (clock + 1) (view_after (cond b (into ((clock + 1) / plan.gamma)) stay) view) ≡ false
      go true e = arrives (rw e tt)
      go false e = goes_on (fails due e)

-- ---- a tick that no check refuses

-- what is posted leaves as much room
made-room : (s : State) (c : Change) → s.run.held + length c.sent ≤ room_in s → room_in (made s c) ≡ room_in s
unfolding made
made-room s c room = ap (λ (n : ℕ). n / width s.form) (posted-length s.form s.network s.run.held s.run.time c.sent room)

module _ (s : State) (long-clocks : s.run.plan.n ≤ length s.run.clocks) (long-views : s.run.plan.n ≤ length s.run.views) (fit : Fit s.run)
    (on : some (ends_at s.run) s.run.plan.n ≡ false) where
  abbrev ticked : State
  ticked = made (advanced s) (arrivals (advanced s))

  -- every correct clock is one further
  pub clock-ticked : (p : ℕ) → is_correct s.run p ≡ true → clock_of ticked.run p ≡ clock_of s.run p + 1
  unfolding made arrivals
  clock-ticked p c =
      let l : p < s.run.plan.n = correct_below s.run.plan s.run.faulty p (rw c tt) in
      ap (λ (x : List ℕ). get_or x p 0) (arrived-clocks s long-clocks s.run.plan.n (omega arith))
      ∙ clock_up s.run s.run.plan.n p long-clocks l (rw c tt)

  view-ticked : (p : ℕ) → is_correct s.run p ≡ true → view_of ticked.run p ≡ view_after (by_clock s.run.plan (clock_of s.run p + 1)) (view_of s.run p)
  unfolding made arrivals
  view-ticked p c =
      let l : p < s.run.plan.n = correct_below s.run.plan s.run.faulty p (rw c tt) in
      let e : arrival (advanced s).run p ≡ by_clock s.run.plan (clock_of s.run p + 1) =
      rw (c, clock_up s.run s.run.plan.n p long-clocks l (rw c tt)) refl in
      entries-view (arrival (advanced s).run) (advanced s).run s.tally s.run.plan.n p long-views l
      ∙ ap (λ (x : Entry). view_after x (view_of s.run p)) e

  pub fit-ticked : Fit ticked.run
  unfolding made
  fit-ticked = record {
    plan = fit.plan;
    faulty = fit.faulty;
    clocks = λ p c. rw (clock-ticked p c, view-ticked p c) (stays-inside s.run.plan (within s.run.plan fit.plan)
        (clock_of s.run p) (view_of s.run p) (fit.clocks p c) (still-on p c));
  }
    where
      still-on : (p : ℕ) → is_correct s.run p ≡ true → at_end s.run.plan (clock_of s.run p + 1) ≡ false
      still-on p c =
          let l : p < s.run.plan.n = correct_below s.run.plan s.run.faulty p (rw c tt) in
          rw c at (some-not (ends_at s.run) s.run.plan.n p on l)

  pub went-ticked : s.run.held + length (arrived_below s s.run.plan.n).sent ≤ room_in s → Went s ticked
  unfolding made arrivals
  went-ticked room = record {
    fit = fit-ticked;
    room = omega (arith, room, made-room (advanced s) (arrivals (advanced s)) room);
    time = refl;
    clock = λ p c. (c, omega (arith, clock-ticked p c));
  }
