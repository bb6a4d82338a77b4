-- A load made in pieces is the load made at once. Assumes nothing.
use mathlib.Core.Path.{◌≡◌, refl, sym, ap, ◌∙◌}
use mathlib.Core.Bool.{Bool, true, false}
use mathlib.Core.Logic.{◌≢◌}
use mathlib.Core.List.{List, [], ◌∷◌}
use Prim.Native.Nat.{ℕ, ◌+◌, ◌-◌, ◌≤◌, ◌<◌}
use native.Mathlib.Omega.{arith}
use lib.ListN.{length}
use Rattle.types.specs.declared.Setup.{Setup}
use Rattle.model.specs.State.{State, accepted}
use Rattle.model.specs.Checks.{unsound_for_good}
use Rattle.model.specs.Opening.{opening}
use Rattle.model.specs.Events.{applied}
use Rattle.liveness.proofs.Answers.{no-yes}
use Rattle.liveness.proofs.Promises.{opening-reaches}
use Rattle.lines.specs.Forms.{event_form, setup_form}
use Rattle.lines.specs.Promises.{schedule_of}
use Rattle.loads.specs.Loads.{Point, point_of, Load, followed, line_then, line_bytes, turned, load_from, turn, further_load, whole_load}
use Rattle.loads.proofs.Turns.{doing-on, further-sound, further-unsound, by-turns, by-load, by_whole}
use Rattle.workload.specs.Promises.{gone_on, PiecesJoin, FirstPiecesJoin}
use Rattle.workload.proofs.Endings.{line-more}
use Rattle.workload.proofs.Lasting.{from-reaches, from-lasts, reachable-good}

module _ (steps settle b : ℕ) where
  abbrev after : Load → ℕ → Load
  after p room = followed p.forms (load_from settle (steps - p.point.step) p.point (room - length (schedule_of p.forms)))

  abbrev Joins : Point → ℕ → Load → Type 0
  Joins x a p = p.full ≡ true → load_from settle (steps - x.step) x (a + b) ≡ after p (a + b)

  -- with a line in front of both
  joins-behind : (f : List ℕ) (x : Point) (a : ℕ) (p : Load) → line_bytes f ≤ a → load_from settle (steps - x.step) x (a - line_bytes f + b) ≡ after p (a - line_bytes f + b)
      → line_then f (load_from settle (steps - x.step) x (a + b - line_bytes f)) ≡ after (line_then f p) (a + b)
  joins-behind f x a p h e =
      let r : a + b - line_bytes f ≡ a - line_bytes f + b = omega arith in
      let r' : a - line_bytes f + b - length (schedule_of p.forms) ≡ a + b - length (schedule_of (f ∷ p.forms)) = omega (arith, line-more f p.forms) in
      ap (λ (q : ℕ). line_then f (load_from settle (steps - x.step) x q)) r
      ∙ ap (line_then f) e
      ∙ ap (λ (q : ℕ). followed (f ∷ p.forms) (load_from settle (steps - p.point.step) p.point q)) r'

  joins-more : (x : Point) (a : ℕ) → x.step < steps → line_bytes (event_form (turn settle x).event) ≤ a → accepted (applied (turn settle x).event x.state).answer ≡ true
      → (p : Load) → Joins (turned (turn settle x) x) (a - line_bytes (event_form (turn settle x).event)) p → Joins x a (line_then (event_form (turn settle x).event) p)
  joins-more x a l h y p z e =
      let m : line_bytes (event_form (turn settle x).event) ≤ a + b = omega arith in
      by-turns steps settle x (a + b) l
      ∙ doing-on (turn settle x) x (a + b) (λ v q. load_from settle (steps - v.step) v q) m y
      ∙ joins-behind (event_form (turn settle x).event) (turned (turn settle x) x) a p h (z e)

  from-joins : (x : Point) (a : ℕ) → Joins x a (load_from settle (steps - x.step) x a)
  from-joins = by-load steps settle Joins (λ x a h e. no-yes (sym e))
      (λ x a h k e. let r : a + b ≡ a + b - 0 = omega arith in ap (load_from settle (steps - x.step) x) r)
      (λ x a h k e. no-yes (sym e)) joins-more

pub pieces-join : PiecesJoin
pieces-join steps settle x a b tabled = by-sound (unsound_for_good x.state) refl
  where
    by-sound : (c : Bool) → unsound_for_good x.state ≡ c → (further_load steps settle x a).full ≡ true
        → further_load steps settle x (a + b) ≡ gone_on steps settle (further_load steps settle x a) (a + b)
    by-sound true s e = no-yes (sym e ∙ ap (λ (l : Load). l.full) (further-unsound steps settle x a s))
    by-sound false s e =
        let p : Load = load_from settle (steps - x.step) x a in
        let q : further_load steps settle x a ≡ p = further-sound steps settle x a s in
        further-sound steps settle x (a + b) s
        ∙ from-joins steps settle b x a (ap (λ (l : Load). l.full) (sym q) ∙ e)
        ∙ ap (followed p.forms) (sym (further-sound steps settle p.point (a + b - length (schedule_of p.forms))
        (from-lasts steps settle x a (record { sound = s; tabled = tabled })).sound))
        ∙ ap (λ (l : Load). gone_on steps settle l (a + b)) (sym q)

-- the opening is accepted and its line has room
whole-on : (u : Setup) (before : State) (steps settle seed room : ℕ) → accepted (opening u before).answer ≡ true → line_bytes (setup_form u) ≤ room
    → whole_load u before steps settle seed room
    ≡ line_then (setup_form u) (load_from settle (steps - 0) (point_of (opening u before).state seed 0) (room - line_bytes (setup_form u)))
whole-on u before steps settle seed room y h =
    let x : Point = point_of (opening u before).state seed 0 in
    by_whole (λ (l : Load). l ≡ line_then (setup_form u) (load_from settle (steps - 0) x (room - line_bytes (setup_form u)))) u before steps settle seed room
    (λ e. no-yes (sym y ∙ e)) (λ e k. absurd (omega arith)) (λ e k. refl)

pub first-pieces-join : FirstPiecesJoin
first-pieces-join u before steps settle seed a b =
    by_whole (λ (p : Load). p.full ≡ true → p.forms ≢ [] → whole_load u before steps settle seed (a + b) ≡ gone_on steps settle p (a + b))
    u before steps settle seed a (λ y e n. no-yes (sym e)) (λ y k e n. absurd (n refl)) (λ y k e n.
    let f : List ℕ = setup_form u in
    let x : Point = point_of (opening u before).state seed 0 in
    let p : Load = load_from settle (steps - 0) x (a - line_bytes f) in
    let m : line_bytes f ≤ a + b = omega arith in
    whole-on u before steps settle seed (a + b) y m
    ∙ joins-behind steps settle b f x a p k (from-joins steps settle b x (a - line_bytes f) e)
    ∙ ap (followed (f ∷ p.forms)) (sym (further-sound steps settle p.point (a + b - length (schedule_of (f ∷ p.forms)))
    (reachable-good p.point.state (from-reaches steps settle x (a - line_bytes f) (opening-reaches u before (rw y tt)))))))
