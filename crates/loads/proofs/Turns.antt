-- A load is its turns, one after the other: what is next, and then the load that goes on from there. Assumes nothing.
use Rattle.std.proofs.Common.{◌≡◌, ℕ, zero, suc, ◌+◌, ◌-◌, ◌<◌, ◌≤◌, Bool, true, false, cond, not, ◌&&◌, eqb, ltb, sym, refl, ap, ◌∙◌, subst, ⊎_elim, arith, ltb→lt, T_not, le-ltb, lt-ltb}
use Rattle.base.specs.Tests.{by_cond, T-right, T_true, T_false, le?}
use Rattle.types.specs.declared.Event.TheVariants.{Settle}
use Rattle.types.specs.declared.Setup.{Setup}
use Rattle.model.specs.State.{State, After, accepted}
use Rattle.model.specs.Checks.{unsound_for_good}
use Rattle.model.specs.Opening.{opening}
use Rattle.model.specs.Events.{now_settled, effect, applied}
use Rattle.liveness.proofs.Judging.{by-applied, not-ltb}
use Rattle.liveness.proofs.Answers.{no-yes}
use Rattle.lines.specs.Forms.{event_form, setup_form}
use Rattle.loads.specs.declared.Turn.{Turn}
use Rattle.loads.specs.Loads.{Point, point_of, chosen, step_turn, settle_due, settle_turn, Load, halted, line_then, line_bytes, turned, doing, settling, load_from, turn, further_load, whole_load}

-- what comes behind a line is asked only where its event is accepted
pub doing-alike : (k : Turn) (x : Point) (room : ℕ) (rest rest' : Point → ℕ → Load)
    → (accepted (applied k.event x.state).answer ≡ true
    → rest (turned k x) (room - line_bytes (event_form k.event)) ≡ rest' (turned k x) (room - line_bytes (event_form k.event)))
    → doing k x room rest ≡ doing k x room rest'
doing-alike k x room rest rest' h = go (ltb room (line_bytes (event_form k.event))) (accepted (applied k.event x.state).answer) h
  where
    go : (b a : Bool) → (a ≡ true → rest (turned k x) (room - line_bytes (event_form k.event)) ≡ rest' (turned k x) (room - line_bytes (event_form k.event)))
        → ◌≡◌ {A = Load}
        (cond b (halted x true) (cond a (line_then (event_form k.event) (rest (turned k x) (room - line_bytes (event_form k.event)))) (halted x false)))
        (cond b (halted x true) (cond a (line_then (event_form k.event) (rest' (turned k x) (room - line_bytes (event_form k.event)))) (halted x false)))
    go true a h = refl
    go false true h = ap (line_then (event_form k.event)) (h refl)
    go false false h = refl

-- a line that has room, of an event that is accepted
pub doing-on : (k : Turn) (x : Point) (room : ℕ) (rest : Point → ℕ → Load) → line_bytes (event_form k.event) ≤ room
    → accepted (applied k.event x.state).answer ≡ true → doing k x room rest ≡ line_then (event_form k.event) (rest (turned k x) (room - line_bytes (event_form k.event)))
doing-on k x room rest h a =
    let l : Load = line_then (event_form k.event) (rest (turned k x) (room - line_bytes (event_form k.event))) in
    ap (λ (b : Bool). cond b (halted x true) (cond (accepted (applied k.event x.state).answer) l (halted x false))) (le-ltb _ _ h)
    ∙ ap (λ (b : Bool). cond b l (halted x false)) a

-- a line that has no room
pub doing-short : (k : Turn) (x : Point) (room : ℕ) (rest : Point → ℕ → Load) → room < line_bytes (event_form k.event) → doing k x room rest ≡ halted x true
doing-short k x room rest h =
    ap (λ (b : Bool). cond b (halted x true) (cond (accepted (applied k.event x.state).answer)
    (line_then (event_form k.event) (rest (turned k x) (room - line_bytes (event_form k.event)))) (halted x false))) (lt-ltb _ _ h)

-- a line that has room, of an event that is refused
pub doing-refused : (k : Turn) (x : Point) (room : ℕ) (rest : Point → ℕ → Load) → line_bytes (event_form k.event) ≤ room
    → accepted (applied k.event x.state).answer ≡ false → doing k x room rest ≡ halted x false
doing-refused k x room rest h a =
    let l : Load = line_then (event_form k.event) (rest (turned k x) (room - line_bytes (event_form k.event))) in
    ap (λ (b : Bool). cond b (halted x true) (cond (accepted (applied k.event x.state).answer) l (halted x false))) (le-ltb _ _ h)
    ∙ ap (λ (b : Bool). cond b l (halted x false)) a

-- no step is left
pub from-none : (settle steps : ℕ) (x : Point) (room : ℕ) → steps ≤ x.step → load_from settle (steps - x.step) x room ≡ halted x false
unfolding load_from
from-none settle steps x room l = let z : steps - x.step ≡ 0 = omega arith in rw z refl

-- on a run that is sound but for its time
pub further-sound : (steps settle : ℕ) (x : Point) (room : ℕ) → unsound_for_good x.state ≡ false → further_load steps settle x room ≡ load_from settle (steps - x.step) x room
unfolding further_load
further-sound steps settle x room e = ap (λ (c : Bool). cond c (halted x false) (load_from settle (steps - x.step) x room)) e

pub further-unsound : (steps settle : ℕ) (x : Point) (room : ℕ) → unsound_for_good x.state ≡ true → further_load steps settle x room ≡ halted x false
unfolding further_load
further-unsound steps settle x room e = ap (λ (c : Bool). cond c (halted x false) (load_from settle (steps - x.step) x room)) e

-- an accepted settling leaves a settled run
settles : (s : State) → accepted (applied Settle s).answer ≡ true → (applied Settle s).state.run.settled ≡ true
unfolding effect now_settled
settles s = by-applied (λ (a : After). accepted a.answer ≡ true → a.state.run.settled ≡ true) Settle s (λ r e. no-yes (sym e)) (λ c e. refl)

not-both : (a b : Bool) → b ≡ true → (a && not b) ≡ false
not-both true b e = ap not e
not-both false b e = refl

module _ (settle : ℕ) where
  -- one step more
  abbrev stepping : ℕ → Point → ℕ → Load
  stepping left y r = doing (step_turn y) y r (λ z q. load_from settle left z q)

  -- what follows, by the steps done
  abbrev pub following : ℕ → Point → ℕ → Load
  following steps y r = load_from settle (steps - y.step) y r

  from_more : (left : ℕ) (x : Point) (room : ℕ) → load_from settle (suc left) x room ≡ settling settle x room (stepping left)
  unfolding load_from
  from_more left x room = refl

  unsettling : (left : ℕ) (x : Point) (room : ℕ) → settle_due settle x ≡ false → load_from settle (suc left) x room ≡ stepping left x room
  unsettling left x room e = from_more left x room ∙ rw e refl

  module _ (steps left : ℕ) (x : Point) (room : ℕ) (is : steps - x.step ≡ suc left) where
    by-settling : doing (settle_turn x) x room (stepping left) ≡ doing (settle_turn x) x room (following steps)
    by-settling = doing-alike (settle_turn x) x room (stepping left) (following steps) (λ a.
        let y : Point = turned (settle_turn x) x in
        let r : ℕ = room - line_bytes (event_form Settle) in
        let s : suc left ≡ steps - (x.step + 0) = omega arith in
        sym (unsettling left y r (not-both (eqb (x.step + 0) settle) y.state.run.settled (settles x.state a)))
        ∙ ap (λ (k : ℕ). load_from settle k y r) s)

    by-stepping : doing (step_turn x) x room (λ z q. load_from settle left z q) ≡ doing (step_turn x) x room (following steps)
    by-stepping = doing-alike (step_turn x) x room (λ z q. load_from settle left z q) (following steps) (λ a.
        let s : left ≡ steps - (x.step + 1) = omega arith in
        ap (λ (k : ℕ). load_from settle k (turned (step_turn x) x) (room - line_bytes (event_form (chosen x)))) s)

    by-either : (b : Bool) → cond b (doing (settle_turn x) x room (stepping left)) (stepping left x room)
        ≡ doing (cond b (settle_turn x) (step_turn x)) x room (following steps)
    by-either true = by-settling
    by-either false = by-stepping

pub by-turns : (steps settle : ℕ) (x : Point) (room : ℕ) → x.step < steps
    → load_from settle (steps - x.step) x room ≡ doing (turn settle x) x room (λ y r. load_from settle (steps - y.step) y r)
unfolding turn
by-turns steps settle x room l =
    let left : ℕ = steps - suc x.step in
    let is : steps - x.step ≡ suc left = omega arith in
    ap (λ (k : ℕ). load_from settle k x room) is ∙ from_more settle left x room ∙ by-either settle steps left x room is (settle_due settle x)

-- ---- all turns

-- a run settles once
abbrev pub settlings : Bool → ℕ
settlings true = 0
settlings false = 1

settlings-most : (b : Bool) → settlings b ≤ 1
settlings-most true = omega arith
settlings-most false = omega arith

module _ (steps settle : ℕ) where
  -- what falls from turn to turn
  abbrev pub weight : Point → ℕ
  weight x = (steps - x.step) + (steps - x.step) + settlings x.state.run.settled

  pub weight-falls : (x : Point) → x.step < steps → accepted (applied (turn settle x).event x.state).answer ≡ true
      → weight (turned (turn settle x) x) < weight x
  unfolding turn
  weight-falls x l = by_cond (λ (k : Turn). accepted (applied k.event x.state).answer ≡ true → weight (turned k x) < weight x)
      (settle_due settle x) (settle_turn x) (step_turn x)
      (λ t a.
      let b : settlings x.state.run.settled ≡ 1 =
      ap settlings (T_false x.state.run.settled (T_not x.state.run.settled (T-right (eqb x.step settle) (not x.state.run.settled) t))) in
      let b' : settlings (applied Settle x.state).state.run.settled ≡ 0 = ap settlings (settles x.state a) in
      omega arith)
      (λ t a. omega (arith, settlings-most (applied (chosen x) x.state).state.run.settled))

  -- What holds of loads that ended, for each way to end, and of a load with a line more in front, where it holds of the load, holds of every load.
  module _ (P : Point → ℕ → Load → Type 0)
      (over : (x : Point) (room : ℕ) → steps ≤ x.step → P x room (halted x false))
      (short : (x : Point) (room : ℕ) → x.step < steps → room < line_bytes (event_form (turn settle x).event) → P x room (halted x true))
      (refusal : (x : Point) (room : ℕ) → x.step < steps → accepted (applied (turn settle x).event x.state).answer ≡ false → P x room (halted x false))
      (more : (x : Point) (room : ℕ) → x.step < steps → line_bytes (event_form (turn settle x).event) ≤ room
      → accepted (applied (turn settle x).event x.state).answer ≡ true
      → (l : Load) → P (turned (turn settle x) x) (room - line_bytes (event_form (turn settle x).event)) l → P x room (line_then (event_form (turn settle x).event) l)) where
    abbrev Holds : Point → ℕ → Type 0
    Holds x room = P x room (load_from settle (steps - x.step) x room)

    none_left : (x : Point) (room : ℕ) → steps ≤ x.step → Holds x room
    none_left x room l = subst (P x room) (sym (from-none settle steps x room l)) (over x room l)

    one-turn : (x : Point) (room : ℕ) → x.step < steps
        → (accepted (applied (turn settle x).event x.state).answer ≡ true
        → Holds (turned (turn settle x) x) (room - line_bytes (event_form (turn settle x).event))) → Holds x room
    one-turn x room l h = subst (P x room) (sym (by-turns steps settle x room l))
        (by_cond (P x room) (ltb room (line_bytes (event_form (turn settle x).event))) (halted x true) _ (λ t. short x room l (ltb→lt _ _ t))
        (λ t. by_cond (P x room) (accepted (applied (turn settle x).event x.state).answer) _ (halted x false)
        (λ u. more x room l (not-ltb _ _ t) (T_true _ u) _ (h (T_true _ u))) (λ u. refusal x room l (T_false _ u))))

    within : (fuel : ℕ) (x : Point) (room : ℕ) → weight x ≤ fuel → Holds x room
    within zero x room w = none_left x room (omega arith)
    within (suc fuel) x room w = ⊎_elim (λ (l : steps ≤ x.step). none_left x room l)
        (λ (l : x.step < steps). one-turn x room l (λ a. within fuel (turned (turn settle x) x) _ (omega (arith, weight-falls x l a))))
        (le? steps x.step)

    pub by-load : (x : Point) (room : ℕ) → P x room (load_from settle (steps - x.step) x room)
    by-load x room = within (weight x) x room (omega arith)

-- ---- from the opening

-- what holds where the opening is refused, where its line has no room, and where the load goes on behind it, holds
pub by_whole : (Q : Load → Type 0) (u : Setup) (s : State) (steps settle seed room : ℕ)
    → (accepted (opening u s).answer ≡ false → Q (halted (point_of s seed 0) false))
    → (accepted (opening u s).answer ≡ true → room < line_bytes (setup_form u) → Q (halted (point_of s seed 0) true))
    → (accepted (opening u s).answer ≡ true → line_bytes (setup_form u) ≤ room
    → Q (line_then (setup_form u) (load_from settle (steps - 0) (point_of (opening u s).state seed 0) (room - line_bytes (setup_form u)))))
    → Q (whole_load u s steps settle seed room)
unfolding whole_load
by_whole Q u s steps settle seed room no' short goes =
    let z : steps - 0 ≡ steps = omega arith in
    by_cond Q (accepted (opening u s).answer) _ (halted (point_of s seed 0) false)
    (λ t. by_cond Q (ltb room (line_bytes (setup_form u))) (halted (point_of s seed 0) true) _ (λ v. short (T_true _ t) (ltb→lt _ _ v))
    (λ v. subst (λ (k : ℕ). Q (line_then (setup_form u) (load_from settle k (point_of (opening u s).state seed 0) (room - line_bytes (setup_form u))))) z
    (goes (T_true _ t) (not-ltb _ _ v))))
    (λ t. no' (T_false _ t))
