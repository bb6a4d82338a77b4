-- The lines of a load are read as its events, and these lead to where it ends; where it has no line, the run's words are those of its run. Assumes
-- nothing.
use mathlib.Core.Path.{◌≡◌, refl, sym, ap, ◌∙◌}
use mathlib.Core.Bool.{Bool, true, false}
use mathlib.Core.List.{List, [], ◌∷◌, ◌++◌, map}
use Prim.Native.Nat.{ℕ, ◌-◌, ◌≤◌}
use native.Mathlib.Omega.{arith}
use lib.Dec.{eqb, eqb→eq}
use lib.ListN.{length, length-append}
use Rattle.base.specs.Tests.{by_cond}
use Rattle.types.specs.declared.Event.{Event}
use Rattle.model.specs.State.{State, After, accepted}
use Rattle.model.specs.Checks.{unsound_for_good}
use Rattle.model.specs.Events.{applied}
use Rattle.model.specs.Lists.{after}
use Rattle.liveness.proofs.Answers.{no-yes}
use Rattle.liveness.proofs.Judging.{by-applied}
use Rattle.liveness.proofs.Soundness.{SoundRun, sound-of}
use Rattle.lines.specs.Forms.{newline, event_form}
use Rattle.lines.specs.Clauses.{Reading, event_reading, line}
use Rattle.lines.specs.Promises.{schedule_of}
use Rattle.reader.specs.Lines.{reading}
use Rattle.reader.proofs.RoundTrip.{reading-reads}
use Rattle.loads.specs.Loads.{Point, Load, halted, line_then, load_from, turn, further_load}
use Rattle.loads.proofs.Turns.{by-load}
use Rattle.loads.proofs.Choices.{turn-line}
use Rattle.fever.specs.Layout.{run_length, run_in, run_over, neither_settled}
use Rattle.fever.specs.Loads.{run_after, event_read, events_read}
use Rattle.fever.proofs.ReadBack.{run-words-back}

-- that the lines of l are those of the events that they are read as, which lead from s to where it ended
pub record Led (s : State) (l : Load) : Type 0 where
  pub forms : l.forms ≡ map event_form (events_read l.forms)
  pub state : l.point.state ≡ after s (events_read l.forms)

led-none : (x : Point) (full : Bool) → Led x.state (halted x full)
unfolding events_read after
led-none x full = record { forms = refl; state = refl }

led-more : (e : Event) (s : State) (l : Load) → reading (event_form e) ≡ event_reading e → Led (applied e s).state l → Led s (line_then (event_form e) l)
unfolding events_read after
led-more e s l q d =
    let r : events_read (event_form e ∷ l.forms) ≡ e ∷ events_read l.forms = ap (λ (v : Reading). event_read v.read ++ events_read l.forms) q in
    record {
      forms = ap (λ (fs : List (List ℕ)). event_form e ∷ fs) d.forms ∙ sym (ap (map event_form) r);
      state = d.state ∙ sym (ap (after s) r);
    }

-- an event is accepted on a sound run alone
accepted-sound : (e : Event) (s : State) → accepted (applied e s).answer ≡ true → SoundRun s
accepted-sound e s = by-applied (λ (a : After). accepted a.answer ≡ true → SoundRun s) e s (λ r q. no-yes (sym q)) (λ p q. sound-of s p.sound)

from-led : (steps settle : ℕ) (x : Point) (room : ℕ) → Led x.state (load_from settle (steps - x.step) x room)
from-led steps settle = by-load steps settle (λ x room l. Led x.state l) (λ x room h. led-none x false) (λ x room h k. led-none x true) (λ x room h k. led-none x false)
    (λ x room h k a l z. let e : Event = (turn settle x).event in
    led-more e x.state l ((reading-reads (event_form e)).from_event e (turn-line settle x (accepted-sound e x.state a))) z)

pub further-led : (steps settle : ℕ) (x : Point) (room : ℕ) → Led x.state (further_load steps settle x room)
unfolding further_load
further-led steps settle x room = by_cond (Led x.state) (unsound_for_good x.state) (halted x false) (load_from settle (steps - x.step) x room)
    (λ t. led-none x false) (λ t. from-led steps settle x room)

-- ---- without a byte

no_lines : (fs : List (List ℕ)) → length (schedule_of fs) ≡ 0 → fs ≡ []
no_lines [] e = refl
no_lines (f ∷ fs) e = absurd (omega (arith, e, length-append (line f) (schedule_of fs), length-append f (newline ∷ [])))

still : (s : State) (l : Load) → Led s l → length (schedule_of l.forms) ≡ 0 → l.point.state ≡ s
unfolding events_read after
still s l d e = d.state ∙ ap (λ (fs : List (List ℕ)). after s (events_read fs)) (no_lines l.forms e)

-- the words are those of the run in any case
pub written_over : (ws : List ℕ) (s : State) (l : Load) → Led s l → s.run ≡ run_in ws → run_length ≤ length ws → neither_settled ws ≡ false
    → run_after ws (length (schedule_of l.forms)) l.point.state.run ≡ run_over ws l.point.state.run
written_over ws s l d is long sorted =
    by_cond (λ (v : List ℕ). v ≡ run_over ws l.point.state.run) (eqb (length (schedule_of l.forms)) 0) ws (run_over ws l.point.state.run)
    (λ t. sym (ap (λ (z : State). run_over ws z.run) (still s l d (eqb→eq _ _ t)) ∙ ap (run_over ws) is ∙ run-words-back ws long sorted)) (λ t. refl)
