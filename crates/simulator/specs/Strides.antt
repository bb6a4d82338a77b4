-- Several ticks: what is asked before them, and what they lead to.
use Rattle.std.specs.Prelude.{◌≡◌, true, ℕ, ◌+◌, ◌*◌, ◌≤◌, ◌<◌}
use Rattle.model.specs.State.{State, clock_of, is_correct, room_in}
use Rattle.model.specs.Events.{ticks}
use Rattle.pacemaker.specs.Limits.{time_most}
use Rattle.simulator.specs.Inner.{Fit, TickedTo, ran_to}

-- that k ticks lead from s to s', none of them refused
pub record Strides (s s' : State) (k : ℕ) : Type 0 where
  pub ran : ticks k s ≡ ran_to s' k 0
  pub fit : Fit s'.run
  pub room : s'.run.held ≤ room_in s'
  pub time : s'.run.time ≡ s.run.time + k
  pub clock : (p : ℕ) → is_correct s.run p ≡ true → (is_correct s'.run p ≡ true) × (clock_of s.run p + k ≤ clock_of s'.run p)

-- what is asked before ticks: a fit run, whose messages fit, and a time that leaves room
pub record Ready (s : State) : Type 0 where
  pub fit : Fit s.run
  pub room : s.run.held ≤ room_in s
  pub time : s.run.time ≤ 2 * time_most

-- that some ticks were done, up to `most`, or none, and the check refuses the first
pub record Advances (s : State) (most : ℕ) (s' : State) (count check : ℕ) : Type 0 where
  pub went : check ≡ 0 → Strides s s' count
  pub number : check ≡ 0 → (0 < count) × (count ≤ most)
  pub ended : 0 < check → TickedTo s s' check
