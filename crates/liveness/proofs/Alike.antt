-- Setups that differ only in start clocks that are not read open alike, of any run and buffers. Assumes nothing.
use mathlib.Core.Path.{◌≡◌, refl, ap, ◌∙◌}
use mathlib.Core.Bool.{Bool, true, false, ◌&&◌, cond}
use mathlib.Core.List.{List}
use Prim.Native.Nat.{ℕ, ◌+◌}
use lib.Dec.{T, leb, ltb}
use lib.ListN.{get_or}
use Rattle.base.specs.Count.{count-ext}
use Rattle.base.specs.Scan.{listed}
use Rattle.base.specs.ScanLaws.{some-ext}
use Rattle.types.specs.declared.Plan.{Plan}
use Rattle.types.specs.Runs.{setup_with}
use Rattle.types.specs.Quantities.{table_clocks, tolerated, start_limit, correct}
use Rattle.model.specs.State.{State, with_run, with_clocks}
use Rattle.model.specs.Moves.{entries, made}
use Rattle.model.specs.Checks.{supporting, start_too_high, too_far_ahead}
use Rattle.model.specs.Opening.{start_clocks, blank, first_entry, opened, opening}
use Rattle.liveness.specs.Promises.{OpensAlike}

-- what is asked only where b holds
asked-alike : (b x y : Bool) → (T b → x ≡ y) → (b && x) ≡ (b && y)
asked-alike true x y h = h tt
asked-alike false x y h = refl

taken-alike : (b : Bool) (x y : ℕ) → (T b → x ≡ y) → cond b x 0 ≡ cond b y 0
taken-alike true x y h = h tt
taken-alike false x y h = refl

-- ---- one plan and faulty set, and two tables of clocks that are the same of correct processors

module _ (plan : Plan) (faulty : ℕ) (xs ys : List ℕ) (same : (p : ℕ) → T (correct plan faulty p) → get_or xs p 0 ≡ get_or ys p 0) where
  high-alike : start_too_high plan faulty xs ≡ start_too_high plan faulty ys
  unfolding start_too_high
  high-alike = some-ext _ _ plan.n (λ q l. asked-alike (correct plan faulty q) _ _ (λ c. ap (leb (start_limit plan)) (same q c)))

  supporting-alike : (c : ℕ) → supporting plan faulty xs c ≡ supporting plan faulty ys c
  supporting-alike c =
      count-ext plan.n _ _ (λ q l. asked-alike (correct plan faulty q) _ _ (λ d. ap (λ (x : ℕ). leb c (x + plan.gamma)) (same q d)))

  ahead-alike : too_far_ahead plan faulty xs ≡ too_far_ahead plan faulty ys
  unfolding too_far_ahead
  ahead-alike = some-ext _ _ plan.n (λ q l. asked-alike (correct plan faulty q) _ _
      (λ c. ap (λ (x : ℕ). ltb x (tolerated plan + 1)) (supporting-alike (get_or xs q 0) ∙ ap (supporting plan faulty ys) (same q c))))

  start-alike : start_clocks (setup_with plan faulty xs) ≡ start_clocks (setup_with plan faulty ys)
  start-alike = λ i. listed (λ p. taken-alike (correct plan faulty p) (get_or xs p 0) (get_or ys p 0) (same p) i) table_clocks

  blank-alike : (s : State) → blank (setup_with plan faulty xs) s ≡ blank (setup_with plan faulty ys) s
  unfolding blank
  blank-alike s =
      let b = blank (setup_with plan faulty ys) s in
      λ i. with_run (with_clocks (start-alike i) b.run) b

  opened-alike : (s : State) → opened (setup_with plan faulty xs) s ≡ opened (setup_with plan faulty ys) s
  unfolding opened
  opened-alike s =
      ap (λ (b : State). made b (entries (first_entry (setup_with plan faulty ys)) b.run b.tally plan.n)) (blank-alike s)

  opening-alike : (s : State) → opening (setup_with plan faulty xs) s ≡ opening (setup_with plan faulty ys) s
  unfolding opening
  opening-alike s = rw (high-alike, ahead-alike, opened-alike s) refl

pub opens-alike : OpensAlike
opens-alike u v h s =
    (λ i. opening (setup_with (h.plan i) (h.faulty i) u.clocks) s)
    ∙ opening-alike v.plan v.faulty u.clocks v.clocks (λ p c. h.clocks p (rw (h.plan, h.faulty) c)) s
