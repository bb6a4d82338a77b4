-- Several ticks after one another are the run of all: quiet ones leapt over, one that is not, or the check that refuses it. Assumes nothing.
use mathlib.Core.Path.{◌≡◌, refl, sym, ap, ◌∙◌, subst}
use mathlib.Core.Bool.{true, false}
use Prim.Native.Nat.{ℕ, ◌+◌, ◌-◌, ◌≤◌, ◌<◌}
use native.Mathlib.Omega.{arith}
use borrow.Author.Tests.{lt-leb}
use Rattle.base.specs.Choice.{or_parts}
use Rattle.types.specs.declared.Plan.{Plan}
use Rattle.types.specs.declared.Run.{Run}
use Rattle.types.specs.declared.Processor.{Processor}
use Rattle.types.specs.declared.Input.TheVariants.{Tick}
use Rattle.types.specs.declared.Sends.TheVariants.{Nothing}
use Rattle.types.specs.Quantities.{end_time}
use Rattle.types.specs.PlanFunctions.{next_initial_word, clock_time_word}
use Rattle.model.specs.State.{State, with_run, clock_of, view_of, is_correct, room_in}
use Rattle.model.specs.Moves.{stay}
use Rattle.model.specs.Checks.{plan_outside, clock_outside, at_end, unsound}
use Rattle.model.specs.Processors.{Moved, moving, processor_unsound, moving_by}
use Rattle.model.specs.Events.{tick_once, Ticks, continued, ticks}
use Rattle.liveness.specs.Promises.{counted_from}
use Rattle.liveness.proofs.Promises.{ticks-add}
use Rattle.pacemaker.specs.Limits.{Within, time_most}
use Rattle.pacemaker.proofs.LimitLaws.{within, sound}
use Rattle.pacemaker.proofs.TickLaws.{no-arrival}
use Rattle.leaps.specs.Leaps.{leapt_word, later, Quiet, Steady, Waits, Rests, Fits, rest}
use Rattle.leaps.proofs.Clocks.{leap-exact}
use Rattle.leaps.proofs.Resting.{next-time, next_small, rest-rests}
use Rattle.leaps.proofs.Leaping.{clock-later, steady-later, quiet-ticks-add}
use Rattle.simulator.specs.Inner.{Reacts, Fit, Whole, Went, TickedTo, ran_to}
use Rattle.simulator.specs.Strides.{Strides, Ready, Advances}
use Rattle.simulator.proofs.Fitness.{fit_of, time_told, some-correct, clock-below, end-most}
use Rattle.std.specs.Prelude.{Ok}
use Rattle.simulator.proofs.Once.{once-overdue}

-- ---- several ticks

pub strides-none : (s : State) → Fit s.run → s.run.held ≤ room_in s → Strides s s 0
unfolding ticks
strides-none s fit room = record { ran = refl; fit = fit; room = room; time = omega arith; clock = λ p c. (c, omega arith) }

pub strides-also : (s s' s'' : State) (a b : ℕ) → Strides s s' a → Strides s' s'' b → Strides s s'' (a + b)
strides-also s s' s'' a b x y = record {
  ran = (ticks-add a b s).0 (ap (λ (t : Ticks). t.check) x.ran) ∙ ap (λ (t : Ticks). counted_from a (ticks b t.state)) x.ran ∙ ap (counted_from a) y.ran;
  fit = y.fit;
  room = y.room;
  time = omega (arith, x.time, y.time);
  clock = λ p c. let u = x.clock p c in let v = y.clock p u.0 in (v.0, omega (arith, u.1, v.1));
}

strides-once : (s s' : State) → TickedTo s s' 0 → Strides s s' 1
unfolding ticks
strides-once s s' t =
    let w : Went s s' = t.went refl in
    record {
      ran = ap (λ (c : ℕ). continued s c (ticks 0 (tick_once s).state)) (sym t.number) ∙ ap (λ (y : State). ran_to y 1 0) (sym t.state);
      fit = w.fit;
      room = w.room;
      time = w.time;
      clock = w.clock;
    }

-- the rest of a run of ticks, behind some of them
pub strides-rest : (m count : ℕ) (s₀ s : State) → count ≤ m → Strides s₀ s count → ticks m s₀ ≡ counted_from count (ticks (m - count) s)
strides-rest m count s₀ s l x =
    let e : m ≡ count + (m - count) = omega arith in
    ap (λ (k : ℕ). ticks k s₀) e ∙ (ticks-add count (m - count) s₀).0 (ap (λ (t : Ticks). t.check) x.ran)
    ∙ ap (λ (t : Ticks). counted_from count (ticks (m - count) t.state)) x.ran

-- between ticks there is room for more: a correct clock that has gained so many is below the end
pub strides-ready : (s₀ s : State) (count : ℕ) → unsound s₀ ≡ false → Strides s₀ s count → Ready s
strides-ready s₀ s count sound x =
    let q = some-correct s₀.run (fit_of s₀ sound) in
    let c = x.clock q.0 q.1 in
    record {
      fit = x.fit;
      room = x.room;
      time = omega (
        arith,
        x.time,
        c.1,
        time_told s₀ sound,
        end-most s₀.run.plan (within s₀.run.plan (fit_of s₀ sound).plan),
        clock-below s.run.plan (clock_of s.run q.0) (view_of s.run q.0) (x.fit.clocks q.0 c.0),
        end-most s.run.plan (within s.run.plan x.fit.plan),
      );
    }

-- ---- a quiet tick

-- what the pacemaker's step would say of one before the next initial view's time
pub quiet-reacts : (plan : Plan) (c : Processor) → processor_unsound plan c ≡ false → (next time : ℕ) → next ≡ next_initial_word plan c.view → time ≡ clock_time_word plan next
    → c.clock + 1 < time → Reacts plan c (moving_by plan c Tick) (Ok (record { processor = record { number = c.number; clock = c.clock + 1; view = c.view }; sends = Nothing }))
quiet-reacts plan c e next time is-next is-time l =
    let x = sound plan c e in
    let inside : clock_outside plan c.clock c.view ≡ false = (or_parts (plan_outside plan) (clock_outside plan c.clock c.view) e).1 in
    let t = next-time plan x.within c.clock c.view inside next time is-next is-time in
    let m : moving_by plan c Tick ≡ moving plan c.number (c.clock + 1) c.view stay =
    ap (moving plan c.number (c.clock + 1) c.view) (no-arrival plan c.clock c.view x.reached (omega arith)) in
    let g : c.clock + 1 < end_time plan = omega (arith, next_small plan x.within c.clock c.view inside) in
    (ap (λ (y : Moved). at_end plan y.processor.clock) m ∙ lt-leb _ _ g, sym (ap (λ (y : Moved). y.processor) m), sym (ap (λ (y : Moved). y.sent) m))

-- ---- a leap

pub steady-of : (r : Run) → Fit r → Whole r → Steady r
steady-of r fit whole = record { plan = within r.plan fit.plan; inside = fit.clocks; clocks = whole.clocks; views = whole.views }

leap-strides : (s : State) → Ready s → Whole s.run → (d : ℕ) → Quiet s d → Strides s (later s d) d
leap-strides s ready whole d q =
    let steady = steady-of s.run ready.fit whole in
    record {
      ran = quiet-ticks-add s d steady ready.room q;
      fit = record { plan = ready.fit.plan; faulty = ready.fit.faulty; clocks = (steady-later s steady d q.rests).inside };
      room = ready.room;
      time = refl;
      clock = λ p c. (c, omega (arith, clock-later s steady d p c));
    }

-- ---- one advance

module _ (s : State) (ready : Ready s) (most : ℕ) where
  abbrev plan_fits : Within s.run.plan
  plan_fits = within s.run.plan ready.fit.plan

  -- a message is overdue
  pub advance-late : (count : ℕ) → Waits s most 0 → 0 < most → Advances s most s count 16
  advance-late count w l = record {
    went = λ z. absurd (omega arith);
    number = λ z. absurd (omega arith);
    ended = λ x. once-overdue s (w.ends refl l);
  }

  -- one tick, or the check that refuses it
  pub advance-once : 0 < most → (s' : State) (count check : ℕ) → TickedTo s s' check → (check ≡ 0 → count ≡ 1) → Advances s most s' count check
  advance-once l s' count check t one = record {
    went = λ z. subst (Strides s s') (sym (one z)) (strides-once s s' (subst (TickedTo s s') z t));
    number = λ z. (omega (arith, one z), omega (arith, one z));
    ended = λ x. t;
  }

  -- as many as are quiet
  module _ (wait : ℕ) (w : Waits s most wait) (whole : Whole s.run) (quiet : ℕ) (is-rest : quiet ≡ rest s.run wait) where
    rests : Rests s.run wait quiet
    rests = subst (Rests s.run wait) (sym is-rest) (rest-rests s.run (steady-of s.run ready.fit whole) wait)

    below_end : (p : ℕ) → is_correct s.run p ≡ true → clock_of s.run p + quiet < time_most
    below_end p c = omega (
      arith,
      rests.quiet p c,
      next_small s.run.plan plan_fits (clock_of s.run p) (view_of s.run p) (ready.fit.clocks p c),
      end-most s.run.plan plan_fits,
    )

    leap-fits : Fits s.run quiet
    leap-fits =
        let q = some-correct s.run ready.fit in
        record {
          processors = plan_fits.n_at_most;
          time = omega (arith, ready.time, below_end q.0 q.1);
          clocks = λ p c. omega (arith, below_end p c);
        }

    pub advance_leap : 0 < quiet → (r : Run) → r ≡ leapt_word s.run quiet → Advances s most (with_run r s) quiet 0
    advance_leap l r is = record {
      went = λ z. subst (λ (y : Run). Strides s (with_run y s) quiet) (sym (is ∙ leap-exact s.run quiet leap-fits))
          (leap-strides s ready whole quiet (record { waits = λ j b. w.quiet j (omega (arith, rests.few)); rests = rests.quiet }));
      number = λ z. (l, omega (arith, rests.few, w.few));
      ended = λ b. absurd (omega arith);
    }

-- as many ticks were done as the time has gone on by
pub advanced-by : (s s' : State) (most count : ℕ) → Advances s most s' count 0 → (s.run.time ≤ s'.run.time) × Advances s most s' (s'.run.time - s.run.time) 0
advanced-by s s' most count a =
    let t : s'.run.time ≡ s.run.time + count = (a.went refl).time in
    let e : count ≡ s'.run.time - s.run.time = omega (arith, t) in
    (omega (arith, t), subst (λ (k : ℕ). Advances s most s' k 0) e a)
