-- Quiet ticks: what they ask of messages and clocks, how many come next, and what a leap over them leaves.
use Rattle.std.specs.Prelude.{◌≡◌, ℕ, zero, suc, ◌+◌, ◌-◌, ◌%◌, ◌^◌, ◌<◌, ◌≤◌, min, true, false, cond, List, length, slice_index, slice_set}
use Rattle.base.specs.Scan.{some}
use Rattle.types.specs.declared.Plan.{Plan}
use Rattle.types.specs.declared.Run.{Run}
use Rattle.types.specs.declared.Form.TheVariants.{Packed}
use Rattle.types.specs.Quantities.{n_most, next_initial, clock_time, correct}
use Rattle.types.specs.PlanFunctions.{next_initial_word, clock_time_word}
use Rattle.model.specs.State.{State, with_run, with_time, with_clocks, clock_of, view_of, is_correct, room_in}
use Rattle.model.specs.Checks.{late, late_at, overdue, clock_outside}
use Rattle.model.specs.Events.{ticks}
use Rattle.pacemaker.specs.Limits.{Within}

-- ---- quiet ticks

-- each correct clock below k gone on by f; a single tick's `clocks_on` is that of one more
unfoldable pub clocks_by : (ℕ → ℕ) → Plan → ℕ → List ℕ → ℕ → List ℕ
clocks_by f plan faulty clocks zero = clocks
clocks_by f plan faulty clocks (suc k) =
    cond (correct plan faulty k) (slice_set (clocks_by f plan faulty clocks k) k (f (slice_index clocks k))) (clocks_by f plan faulty clocks k)

abbrev pub more : ℕ → ℕ → ℕ
more d x = x + d

-- the run d quiet ticks later: time and every correct clock have gone on, and nothing else has changed
abbrev pub leapt : Run → ℕ → Run
leapt r d = with_time (more d r.time) (with_clocks (clocks_by (more d) r.plan r.faulty r.clocks r.plan.n) r)

abbrev pub later : State → ℕ → State
later s d = with_run (leapt s.run d) s

-- d ticks bring no correct clock to an initial view's clock time
abbrev pub NoneArrives : Run → ℕ → Type 0
NoneArrives r d = (p : ℕ) → is_correct r p ≡ true → clock_of r p + d < clock_time r.plan (next_initial r.plan (view_of r p))

-- and none of them finds an overdue message
pub record Quiet (s : State) (d : ℕ) : Type 0 where
  pub waits : (j : ℕ) → j < d → overdue (later s j) ≡ false
  pub rests : NoneArrives s.run d

-- what a run has that check 9 passed, as far as quiet ticks need it
pub record Steady (r : Run) : Type 0 where
  pub plan : Within r.plan
  pub inside : (p : ℕ) → is_correct r p ≡ true → clock_outside r.plan (clock_of r p) (view_of r p) ≡ false
  pub clocks : r.plan.n ≤ length r.clocks
  pub views : r.plan.n ≤ length r.views

-- Quiet ticks only add, however many they are: a leap over them is the run of them.
abbrev pub QuietTicksAdd : Type 0
QuietTicksAdd = (s : State) (d : ℕ) → Steady s.run → s.run.held ≤ room_in s → Quiet s d
    → ticks d s ≡ record { state = later s d; count = d; check = 0 }

-- ---- how many ticks find no message late

-- that r ticks, of up to `most`, find a message sent then not late; none only where it is late now
pub record WaitsFor (gst delta time sent most r : ℕ) : Type 0 where
  pub few : r ≤ most
  pub quiet : (j : ℕ) → j < r → late gst delta (time + j) sent ≡ false
  pub ends : r ≡ 0 → 0 < most → late gst delta time sent ≡ true

-- the same of the first k messages
pub record WaitsForAll (gst delta time : ℕ) (ws : List ℕ) (k most r : ℕ) : Type 0 where
  pub few : r ≤ most
  pub quiet : (j : ℕ) → j < r → some (late_at gst delta (time + j) Packed ws) k ≡ false
  pub ends : r ≡ 0 → 0 < most → some (late_at gst delta time Packed ws) k ≡ true

-- the same of a state; how many it is within this is left free: a stride may be shorter than the quiet ticks are
pub record Waits (s : State) (most r : ℕ) : Type 0 where
  pub few : r ≤ most
  pub quiet : (j : ℕ) → j < r → overdue (later s j) ≡ false
  pub ends : r ≡ 0 → 0 < most → overdue s ≡ true

-- ---- how many bring no clock to an initial view, whatever the words are

-- of up to `most` ticks those that keep a correct clock before the next initial view's clock time: none where it is at or past it
abbrev pub rest_for : Plan → ℕ → ℕ → ℕ → ℕ → ℕ → ℕ
rest_for plan faulty p clock view most = cond (correct plan faulty p) (min (clock_time_word plan (next_initial_word plan view) - 1 - clock) most) most

-- the same of the processors below k
unfoldable pub rest_below : Run → ℕ → ℕ → ℕ
rest_below r most zero = most
rest_below r most (suc k) = rest_for r.plan r.faulty k (clock_of r k) (view_of r k) (rest_below r most k)

-- those that both tables have an entry for
abbrev pub seated : Run → ℕ
seated r = min r.plan.n (min (length r.clocks) (length r.views))

-- a steady run has one for each, and so many ticks bring none of its clocks there (`rest-rests`)
abbrev pub rest : Run → ℕ → ℕ
rest r most = rest_below r most (seated r)

pub record Rests (run : Run) (most r : ℕ) : Type 0 where
  pub few : r ≤ most
  pub quiet : NoneArrives run r

-- ---- a leap, whatever the words are

-- a sum of 2^64 or more wraps
abbrev pub more_word : ℕ → ℕ → ℕ
more_word d x = (x + d) % 2 ^ 64

-- so many ticks leapt over, the clocks being a table of 64: where the sums fit it is `leapt` (`leap-exact`)
abbrev pub leapt_word : Run → ℕ → Run
leapt_word r d = with_time (more_word d r.time) (with_clocks (clocks_by (more_word d) r.plan r.faulty r.clocks (min r.plan.n n_most)) r)

-- that they do
pub record Fits (r : Run) (d : ℕ) : Type 0 where
  pub processors : r.plan.n ≤ n_most
  pub time : r.time + d < 2 ^ 64
  pub clocks : (p : ℕ) → is_correct r p ≡ true → clock_of r p + d < 2 ^ 64
