-- A quiet tick only adds, and so do several: a leap over them is the run of them. Assumes nothing.
use Rattle.std.proofs.Common.{◌≡◌, ℕ, zero, suc, ◌+◌, ◌<◌, ◌≤◌, Bool, true, false, cond, ◌&&◌, List, sym, refl, ap, ◌∙◌, ap₂, add-zero, add-one, arith, leb→le, le-ltb}
use Rattle.base.specs.Choice.{cond_no}
use Rattle.base.specs.Tests.{T-left, T-right, T_true}
use Rattle.base.specs.ScanLaws.{some-none}
use Rattle.types.specs.declared.Run.{Run}
use Rattle.types.specs.declared.Answer.TheVariants.{Done}
use Rattle.types.specs.Quantities.{end_time}
use Rattle.types.specs.Traffic.{counts_more}
use Rattle.model.specs.State.{State, After, with_run, with_network, with_held, with_time, with_clocks, clock_of, view_of, is_correct, room_in, check_of, refused}
use Rattle.model.specs.Moves.{Change, changed, still, also, Entry, stay, by_clock, entries, taking, advanced, arrival, arrivals, made}
use Rattle.model.specs.Checks.{at_end, overdue, reaches_end, overfull}
use Rattle.model.specs.Events.{tick_once, Ticks, continued, ticks}
use Rattle.liveness.proofs.Link.{correct_below}
use Rattle.liveness.proofs.TickLaws.{clock_up}
use Rattle.liveness.specs.Promises.{counted_from}
use Rattle.liveness.proofs.Promises.{ticks-add}
use Rattle.buffers.specs.WordLaws.{posted-none}
use Rattle.pacemaker.proofs.TickLaws.{no-arrival}
use Rattle.leaps.specs.Leaps.{more, leapt, later, NoneArrives, Steady, QuietTicksAdd, Waits}
use Rattle.leaps.proofs.Clocks.{length-by, by-goes, on-by, by-then, by-none}
use Rattle.leaps.proofs.Resting.{clock-inside, next_small, from_view}

-- a change that moves nothing and sends nothing leaves all as it is
pub still-made : (s : State) → s ≡ made s (still s.run s.tally)
unfolding made counts_more
still-made s = ap₂ (λ (h : ℕ) (ws : List ℕ). with_run (with_held h s.run) (with_network ws s)) (sym (add-zero s.run.held))
    (posted-none s.form s.network s.run.held s.run.time)

-- ---- one quiet tick

entries_none : (e : ℕ → Entry) (r : Run) (t : List ℕ) (k : ℕ) → ((p : ℕ) → p < k → e p ≡ stay) → entries e r t k ≡ still r t
unfolding entries taking
entries_none e r t zero h = refl
entries_none e r t (suc k) h =
    ap₂ (λ (c : Change) (x : Entry). also c (taking (changed r c) c.tally k x)) (entries_none e r t k (λ p l. h p (omega arith))) (h k (omega arith))

module _ (s : State) (steady : Steady s.run) (room : s.run.held ≤ room_in s) (rests : NoneArrives s.run 1) (waits : overdue s ≡ false) where
  abbrev r : Run
  r = s.run

  none-enters : (p : ℕ) → p < r.plan.n → arrival (advanced s).run p ≡ stay
  none-enters p l = go (is_correct r p) refl
    where
      go : (b : Bool) → is_correct r p ≡ b → cond b (by_clock r.plan (clock_of (advanced s).run p)) stay ≡ stay
      go true c = ap (by_clock r.plan) (clock_up r r.plan.n p steady.clocks l (rw c tt))
          ∙ no-arrival r.plan (clock_of r p) (view_of r p) (from_view r.plan steady.plan (clock_of r p) (view_of r p) (steady.inside p c)) (rests p c)
      go false c = refl

  nothing : arrivals (advanced s) ≡ still (advanced s).run s.tally
  unfolding arrivals
  nothing = entries_none (arrival (advanced s).run) (advanced s).run s.tally r.plan.n none-enters

  none-ends : reaches_end (advanced s).run (still (advanced s).run s.tally) ≡ false
  unfolding reaches_end
  none-ends = some-none (λ p. is_correct r p && at_end r.plan (clock_of (advanced s).run p)) r.plan.n (λ p l t.
      let c : is_correct r p ≡ true = T_true (is_correct r p) (T-left (is_correct r p) (at_end r.plan (clock_of (advanced s).run p)) t) in
      let e : end_time r.plan ≤ clock_of (advanced s).run p = leb→le _ _ (T-right (is_correct r p) (at_end r.plan (clock_of (advanced s).run p)) t) in
      omega (
        arith,
        clock_up r r.plan.n p steady.clocks l (rw c tt),
        rests p c,
        next_small r.plan steady.plan (clock_of r p) (view_of r p) (steady.inside p c),
      ))

  quiet-tick : tick_once s ≡ record { state = advanced s; answer = Done 1 r.held }
  unfolding tick_once overdue
  quiet-tick =
      let fits : r.held + 0 ≤ room_in s = omega (arith, room) in
      let to : Change → After = λ c. record { state = made (advanced s) c; answer = Done 1 (made (advanced s) c).run.held } in
      sym (ap (λ (y : State). record { state = y; answer = Done 1 y.run.held }) (still-made (advanced s))
      ∙ ap to (sym nothing)
      ∙ cond_no (overdue s) (to (arrivals (advanced s))) (refused s 16) _ waits
      (cond_no (reaches_end (advanced s).run (arrivals (advanced s))) (to (arrivals (advanced s))) (refused s 17) _
      (ap (reaches_end (advanced s).run) nothing ∙ none-ends)
      (cond_no (overfull (advanced s) (arrivals (advanced s))) (to (arrivals (advanced s))) (refused s 18) _
      (ap (λ (c : Change). overfull (advanced s) c) nothing ∙ le-ltb _ _ fits) refl)))

-- ---- several

later-none : (s : State) → later s 0 ≡ s
later-none s = ap₂ (λ (t : ℕ) (c : List ℕ). with_run (with_time t (with_clocks c s.run)) s)
    (add-zero s.run.time) (by-none s.run.plan s.run.faulty s.run.clocks s.run.plan.n)

-- some ticks being let pass, no message is late now
pub waits-now : (s : State) (most wait : ℕ) → Waits s most wait → 0 < wait → overdue s ≡ false
waits-now s most wait w l = ap overdue (sym (later-none s)) ∙ w.quiet 0 l

module _ (s : State) (steady : Steady s.run) where
  later_more : (d : ℕ) → advanced (later s d) ≡ later s (suc d)
  later_more d =
      let t : s.run.time + d + 1 ≡ s.run.time + suc d = omega arith in
      ap₂ (λ (t : ℕ) (c : List ℕ). with_run (with_time t (with_clocks c s.run)) s)
      t (on-by (leapt s.run d) s.run.plan.n ∙ by-then s.run.plan s.run.faulty s.run.clocks d s.run.plan.n steady.clocks)

  -- every correct clock has gone on by as much
  pub clock-later : (d p : ℕ) → is_correct s.run p ≡ true → clock_of (later s d).run p ≡ clock_of s.run p + d
  clock-later d p c = by-goes s.run.plan s.run.faulty s.run.clocks (more d) s.run.plan.n p steady.clocks
      (correct_below s.run.plan s.run.faulty p (rw c tt)) c

  -- and while none arrives the run stays steady
  pub steady-later : (d : ℕ) → NoneArrives s.run d → Steady (later s d).run
  steady-later d rests = record {
    plan = steady.plan;
    inside = λ p c.
        let i = steady.inside p c in
        let e = clock-later d p c in
        clock-inside s.run.plan (clock_of (later s d).run p) (view_of s.run p)
        (omega (arith, e, rests p c, next_small s.run.plan steady.plan (clock_of s.run p) (view_of s.run p) i))
        (omega (arith, e, from_view s.run.plan steady.plan (clock_of s.run p) (view_of s.run p) i))
        (omega (arith, e, rests p c));
    clocks = omega (arith, steady.clocks, length-by s.run.plan s.run.faulty s.run.clocks (more d) s.run.plan.n);
    views = steady.views;
  }

pub quiet-ticks-add : QuietTicksAdd
unfolding ticks
quiet-ticks-add s zero steady room q = ap (λ (y : State). record { state = y; count = 0; check = 0 }) (sym (later-none s))
quiet-ticks-add s (suc d) steady room q =
    go (quiet-ticks-add s d steady room (record { waits = λ j l. q.waits j (omega arith); rests = λ p c. omega (arith, q.rests p c) }))
  where
    one : tick_once (later s d) ≡ record { state = advanced (later s d); answer = Done 1 s.run.held }
    one = quiet-tick (later s d) (steady-later s steady d (λ p c. omega (arith, q.rests p c))) room
        (λ p c. omega (arith, q.rests p c, clock-later s steady d p c)) (q.waits d (omega arith))

    go : ticks d s ≡ record { state = later s d; count = d; check = 0 } → ticks (suc d) s ≡ record { state = later s (suc d); count = suc d; check = 0 }
    go e = ap (λ (k : ℕ). ticks k s) (sym (add-one d)) ∙ (ticks-add d 1 s).0 (ap (λ (t : Ticks). t.check) e)
        ∙ ap (λ (t : Ticks). counted_from d (ticks 1 t.state)) e
        ∙ ap (λ (a : After). counted_from d (continued (later s d) (check_of a.answer) (ticks 0 a.state))) one
        ∙ ap₂ (λ (y : State) (k : ℕ). record { state = y; count = k; check = 0 }) (later_more s steady d) (add-one d)
