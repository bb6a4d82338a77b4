-- What ends a load: its lines have room, and only want of bytes, a refused event or the last step ends it. Assumes nothing.
use mathlib.Core.Path.{◌≡◌, refl, sym, ◌∙◌, subst}
use mathlib.Core.Bool.{Bool, false, cond}
use mathlib.Core.Logic.{inl, inr}
use mathlib.Core.List.{List, ◌∷◌}
use Prim.Native.Nat.{ℕ, ◌+◌, ◌-◌, ◌≤◌}
use native.Mathlib.Omega.{arith}
use lib.ListN.{length, length-append}
use Rattle.base.specs.Tests.{by_cond}
use Rattle.model.specs.Checks.{unsound_for_good}
use Rattle.model.specs.Opening.{opening}
use Rattle.liveness.proofs.Answers.{no-yes}
use Rattle.lines.specs.Forms.{event_form, setup_form}
use Rattle.lines.specs.Clauses.{line}
use Rattle.lines.specs.Promises.{schedule_of}
use Rattle.loads.specs.Loads.{Point, point_of, Load, halted, line_then, line_bytes, load_from, turn, further_load}
use Rattle.loads.proofs.Turns.{by-load, by_whole}
use Rattle.loads.proofs.Going.{turn-most}
use Rattle.workload.specs.Promises.{LoadRefused, LoadFits, FurtherFits, NoRoom, Ends, FurtherEnds}

-- the bytes of a line and those behind it
pub line-more : (f : List ℕ) (fs : List (List ℕ)) → length (schedule_of (f ∷ fs)) ≡ line_bytes f + length (schedule_of fs)
line-more f fs = length-append (line f) (schedule_of fs)

-- ---- a refused opening

pub load-refused : LoadRefused
load-refused u before steps settle seed room e =
    by_whole (λ (l : Load). l ≡ halted (point_of before seed 0) false) u before steps settle seed room (λ n. refl) (λ y h. no-yes (sym y ∙ e)) (λ y h. no-yes (sym y ∙ e))

-- ---- the bytes

abbrev Fits : ℕ → Load → Type 0
Fits room l = length (schedule_of l.forms) ≤ room

fits_more : (f : List ℕ) (room : ℕ) (l : Load) → line_bytes f ≤ room → Fits (room - line_bytes f) l → Fits room (line_then f l)
fits_more f room l h k = omega (arith, h, k, line-more f l.forms)

from-fits : (steps settle : ℕ) (x : Point) (room : ℕ) → Fits room (load_from settle (steps - x.step) x room)
from-fits steps settle = by-load steps settle (λ x room l. Fits room l) (λ x room h. omega arith) (λ x room h k. omega arith) (λ x room h k. omega arith)
    (λ x room h k a l z. fits_more (event_form (turn settle x).event) room l k z)

pub further-fits : FurtherFits
unfolding further_load
further-fits steps settle x room = by_cond (Fits room) (unsound_for_good x.state) (halted x false) (load_from settle (steps - x.step) x room)
    (λ t. omega arith) (λ t. from-fits steps settle x room)

pub load_fits : LoadFits
load_fits u before steps settle seed room = by_whole (Fits room) u before steps settle seed room (λ e. omega arith) (λ e h. omega arith)
    (λ e h.
    let x : Point = point_of (opening u before).state seed 0 in
    let r : ℕ = room - line_bytes (setup_form u) in
    fits_more (setup_form u) room (load_from settle (steps - 0) x r) h (from-fits steps settle x r))

-- ---- the end

pub no-room-more : (steps settle : ℕ) (f : List ℕ) (room : ℕ) (l : Load) → line_bytes f ≤ room → NoRoom steps settle (room - line_bytes f) l → NoRoom steps settle room (line_then f l)
no-room-more steps settle f room l h k = record { more = k.more; few = omega (arith, h, k.few, line-more f l.forms) }

pub from-ends : (steps settle : ℕ) (x : Point) (room : ℕ) → Ends steps settle room x (load_from settle (steps - x.step) x room)
from-ends steps settle = by-load steps settle (λ x room l. Ends steps settle room x l)
    (λ x room h. record { full = λ e. no-yes (sym e); over = λ e b. inl (omega arith) })
    (λ x room h k. record { full = λ e. record { more = h; few = omega arith }; over = λ e b. no-yes e })
    (λ x room h r. record { full = λ e. no-yes (sym e); over = λ e b. inr r })
    (λ x room h k a l z. record {
      full = λ e. no-room-more steps settle (event_form (turn settle x).event) room l k (z.full e);
      over = λ e b. z.over e (omega (arith, turn-most settle x));
    })

pub further-ends : FurtherEnds
unfolding further_load
further-ends steps settle x room e = subst (λ (c : Bool). Ends steps settle room x (cond c (halted x false) (load_from settle (steps - x.step) x room))) (sym e)
    (from-ends steps settle x room)
