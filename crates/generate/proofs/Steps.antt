-- A piece that ends for want of bytes, though it had room for two lines, has done a step. Assumes nothing.
use mathlib.Core.Path.{◌≡◌, sym}
use mathlib.Core.Bool.{Bool, true, false}
use mathlib.Core.Logic.{⊎_elim}
use mathlib.Core.List.{[], ◌∷◌}
use Prim.Native.Nat.{ℕ, ◌+◌, ◌-◌, ◌*◌, ◌≤◌, ◌<◌}
use native.Mathlib.Omega.{arith}
use lib.ListN.{length-append}
use Rattle.base.specs.Tests.{by_cond, le?}
use Rattle.types.specs.declared.Event.{Event}
use Rattle.model.specs.State.{accepted}
use Rattle.model.specs.Checks.{unsound_for_good}
use Rattle.model.specs.Events.{applied}
use Rattle.lines.specs.Forms.{newline, event_form}
use Rattle.lines.specs.Promises.{form_most}
use Rattle.liveness.proofs.Answers.{no-yes}
use Rattle.reader.proofs.Lengths.{event-length}
use Rattle.loads.specs.Loads.{Point, Load, halted, line_then, line_bytes, turned, load_from, turn, further_load}
use Rattle.loads.proofs.Turns.{settlings, weight-falls, by-load}
use Rattle.generate.specs.Pieces.{piece_least}

line-length : (e : Event) → line_bytes (event_form e) ≤ form_most + 1
line-length e = omega (arith, event-length e, length-append (event_form e) (newline ∷ []))

-- the bytes of a step's line, and of a settling's that may come before it
abbrev step_least : Bool → ℕ
step_least settled = (1 + settlings settled) * (form_most + 1)

two-most : (settled : Bool) → step_least settled ≤ piece_least
two-most true = omega arith
two-most false = omega arith

-- steps are not undone, and some is done where its line had room
record Past (x : Point) (room : ℕ) (l : Load) : Type 0 where
  rises : x.step ≤ l.point.step
  moves : l.full ≡ true → step_least x.state.run.settled ≤ room → x.step < l.point.step

module _ (steps settle : ℕ) where
  past_more : (x : Point) (room : ℕ) → x.step < steps → line_bytes (event_form (turn settle x).event) ≤ room → accepted (applied (turn settle x).event x.state).answer ≡ true
      → (l : Load) → Past (turned (turn settle x) x) (room - line_bytes (event_form (turn settle x).event)) l → Past x room (line_then (event_form (turn settle x).event) l)
  past_more x room h k a l z = record {
    rises = omega (arith, z.rises);
    moves = λ e r.
        ⊎_elim (λ (s : 1 ≤ (turn settle x).steps). omega (arith, z.rises))
        (λ (s : (turn settle x).steps < 1).
        let left : step_least (turned (turn settle x) x).state.run.settled ≤ room - line_bytes (event_form (turn settle x).event) =
        omega (arith, weight-falls steps settle x h a, line-length (turn settle x).event) in
        omega (arith, z.moves e left))
        (le? 1 (turn settle x).steps);
  }

  from_past : (x : Point) (room : ℕ) → Past x room (load_from settle (steps - x.step) x room)
  from_past = by-load steps settle Past
      (λ x room h. record { rises = omega arith; moves = λ e. no-yes (sym e) })
      (λ x room h k. record { rises = omega arith; moves = λ e r. absurd (omega (arith, line-length (turn settle x).event)) })
      (λ x room h k. record { rises = omega arith; moves = λ e. no-yes (sym e) }) past_more

-- a piece that goes on from x
pub further_past : (steps settle : ℕ) (x : Point) (room : ℕ) → piece_least ≤ room → (further_load steps settle x room).full ≡ true
    → x.step < (further_load steps settle x room).point.step
unfolding further_load
further_past steps settle x room h =
    by_cond (λ (l : Load). l.full ≡ true → x.step < l.point.step) (unsound_for_good x.state) (halted x false) (load_from settle (steps - x.step) x room)
    (λ _ e. no-yes (sym e)) (λ _ e. (from_past steps settle x room).moves e (omega (arith, two-most x.state.run.settled)))
