-- What one processor's move changes, and when a clock reaches the end by it. Assumes nothing.
use mathlib.Core.Path.{◌≡◌, refl, sym, ap, ◌∙◌, subst}
use mathlib.Core.Bool.{Bool, true, false, ◌&&◌, ◌||◌}
use mathlib.Core.Logic.{⊎_elim}
use mathlib.Core.List.{List, []}
use Prim.Native.Nat.{ℕ, ◌<◌}
use lib.Dec.{T, ltb}
use lib.ListN.{length, get_or, set}
use lib.Seq.{set-get_or, get_or-set_same, get_or-set_other}
use Rattle.base.specs.Tests.{fails, T_and, T-left, T-right, T-iff, T_true, eq?}
use Rattle.base.specs.Scan.{some}
use Rattle.base.specs.ScanLaws.{some-by, some-gives, some-none}
use Rattle.types.specs.declared.Run.{Run}
use Rattle.types.specs.declared.Processor.{Processor}
use Rattle.model.specs.State.{clock_of, view_of, is_correct}
use Rattle.model.specs.Moves.{Change, to_correct, Entry, stay, into, taking, entering}
use Rattle.model.specs.Checks.{clock_outside, at_end, reaches_end}
use Rattle.model.specs.Processors.{Moved, messages_of, moving}
use Rattle.liveness.proofs.Link.{correct_below}
use Rattle.liveness.proofs.Judging.{neither}
use Rattle.simulator.specs.declared.Move.{Move}
use Rattle.simulator.specs.Inner.{Fit, moved_change}
use Rattle.simulator.proofs.Sending.{entered-into, entered-none}

-- two changes with equal parts are equal
pub change-by : (c d : Change) → c.clocks ≡ d.clocks → c.views ≡ d.views → c.tally ≡ d.tally → c.sent ≡ d.sent → c ≡ d
change-by c d a b e f = λ i. record { clocks = a i; views = b i; tally = e i; sent = f i }

module _ (r : Run) (t : List ℕ) (p : ℕ) where
  abbrev pub moved : Entry → Moved
  moved e = moving r.plan p (clock_of r p) (view_of r p) e

  -- a reaction that is a move of p changes what the move changes
  pub moved-taking : (e : Entry) (x : Move) → x.processor ≡ (moved e).processor → messages_of p x.sends ≡ (moved e).sent
      → moved_change r t p x ≡ taking r t p e
  unfolding taking entering to_correct
  moved-taking stay x c m = change-by _ _
      (ap (λ (y : Processor). set r.clocks p y.clock) c ∙ set-get_or r.clocks p 0)
      (ap (λ (y : Processor). set r.views p y.view) c ∙ set-get_or r.views p 0)
      (entered-none t p x.sends m)
      (nothing-sent m)
    where
      nothing-sent : messages_of p x.sends ≡ [] → (moved_change r t p x).sent ≡ []
      nothing-sent q = rw q refl
  moved-taking (into w) x c m = change-by _ _
      (ap (λ (y : Processor). set r.clocks p y.clock) c)
      (ap (λ (y : Processor). set r.views p y.view) c)
      (entered-into r.plan t p w x.sends m)
      (rw m refl)

  pub taking-clocks : (e : Entry) → (taking r t p e).clocks ≡ set r.clocks p (moved e).processor.clock
  unfolding taking entering
  taking-clocks stay = sym (set-get_or r.clocks p 0)
  taking-clocks (into w) = refl

-- ---- check 17

module _ (r : Run) (fit : Fit r) where
  not_yet : (q : ℕ) → T (is_correct r q) → T (at_end r.plan (clock_of r q)) → ⊥
  not_yet q c x =
      let o = fails (clock_outside r.plan (clock_of r q) (view_of r q)) (fit.clocks q (T_true (is_correct r q) c)) in
      (neither (at_end r.plan (clock_of r q)) _ (neither (at_end r.plan (clock_of r q) || ltb (clock_of r q) _) _ o).0).0 x

  -- clocks that stay do not reach the end
  pub stays-below : (c : Change) → c.clocks ≡ r.clocks → reaches_end r c ≡ false
  unfolding reaches_end
  stays-below c e = some-none (λ q. is_correct r q && at_end r.plan (get_or c.clocks q 0)) r.plan.n
      (λ q l x. not_yet q (T-left (is_correct r q) _ x) (subst (λ (y : List ℕ). T (at_end r.plan (get_or y q 0))) e (T-right (is_correct r q) _ x)))

  -- where one clock moves, it is the one that may
  pub one-reaches : (c : Change) (p clock : ℕ) → is_correct r p ≡ true → p < length r.clocks → c.clocks ≡ set r.clocks p clock
      → reaches_end r c ≡ at_end r.plan clock
  unfolding reaches_end
  one-reaches c p clock ok low e = T-iff (some reaches r.plan.n) (at_end r.plan clock) there back
    where
      reaches : ℕ → Bool
      reaches q = is_correct r q && at_end r.plan (get_or c.clocks q 0)

      here : get_or c.clocks p 0 ≡ clock
      here = ap (λ (y : List ℕ). get_or y p 0) e ∙ get_or-set_same r.clocks p clock 0 low

      there : T (some reaches r.plan.n) → T (at_end r.plan clock)
      there x =
          let g = some-gives reaches r.plan.n x in
          let i : T (is_correct r g.0) = T-left (is_correct r g.0) _ g.2 in
          let j : T (at_end r.plan (get_or c.clocks g.0 0)) = T-right (is_correct r g.0) _ g.2 in
          ⊎_elim (λ (q : g.0 ≡ p). subst (λ (y : ℕ). T (at_end r.plan y)) (ap (λ (y : ℕ). get_or c.clocks y 0) q ∙ here) j)
          (λ q. absurd (not_yet g.0 i (subst (λ (y : ℕ). T (at_end r.plan y))
          (ap (λ (y : List ℕ). get_or y g.0 0) e ∙ get_or-set_other r.clocks p g.0 clock 0 q) j)))
          (eq? g.0 p)

      back : T (at_end r.plan clock) → T (some reaches r.plan.n)
      back x = some-by reaches r.plan.n p (correct_below r.plan r.faulty p (rw ok tt))
          (T_and (is_correct r p) _ (rw ok tt) (rw here x))

  -- a move of p
  pub taking-reaches : (t : List ℕ) (p : ℕ) (e : Entry) → is_correct r p ≡ true → p < length r.clocks
      → reaches_end r (taking r t p e) ≡ at_end r.plan (moving r.plan p (clock_of r p) (view_of r p) e).processor.clock
  taking-reaches t p e ok low = one-reaches (taking r t p e) p _ ok low (taking-clocks r t p e)
