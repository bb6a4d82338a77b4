-- Openings: a line that is read as one is a form of its setup, and a form, with k or without it, is read as the setup, trimmed. Assumes nothing.
use mathlib.Core.Path.{◌≡◌, refl, sym, ap, ◌∙◌, subst}
use mathlib.Core.Bool.{false}
use mathlib.Core.Logic.{inl, inr}
use Prim.Native.Nat.{ℕ, ◌-◌, ◌≤◌, ◌<◌}
use native.Mathlib.Nat.{le_of_eq}
use native.Mathlib.Omega.{arith}
use mathlib.Core.List.{List, [], ◌∷◌, ◌++◌}
use lib.ListN.{length, take, drop, get_or, replicate, length-append, length-replicate, drop_of_length-le}
use lib.Seq.{take_at, length-take-le, get_or-take}
use lib.Dec.{eqb, ltb, eqb→eq}
use borrow.Author.Tests.{eq-eqb, ne_eqb, ltb-false, eqb-false}
use Rattle.base.specs.Members.{every_append, every_first, every-second}
use Rattle.base.specs.Tests.{T_false, by_cond}
use Rattle.base.specs.Choice.{or-neither, or_parts}
use Rattle.types.specs.declared.Plan.{Plan}
use Rattle.types.specs.declared.Setup.{Setup}
use Rattle.types.specs.Quantities.{n_most, table_clocks, per_leader, per_leader_usual}
use Rattle.types.specs.Runs.{setup_with, plan_numbers, plan_in, usual_numbers, usual_plan_in}
use Rattle.lines.specs.declared.Read.{Read}
use Rattle.lines.specs.declared.Read.TheVariants.{NoForm}
use Rattle.lines.specs.Decimal.{field_limit}
use Rattle.lines.specs.Forms.{open_bracket, open_word, line_clocks, setup_form, usual_form, Below, EventLine, SetupBytes, SetupLine, trimmed}
use Rattle.lines.specs.Clauses.{Reading, no_setup}
use Rattle.reader.specs.declared.Heading.{Heading}
use Rattle.std.specs.Prelude.{Option, Some, None}
use Rattle.reader.specs.declared.Several.{Several}
use Rattle.reader.specs.Scan.{Series, series_at, ReadsSeveral}
use Rattle.reader.specs.Lines.{heading_of, heading_most, heading_usual, heading_series, heading_at, ending_table, ending_heading, opening_at, opening_as}
use Rattle.reader.proofs.Words.{Left, left-none}
use Rattle.reader.proofs.SeveralLaws.{as_many, filled-all}
use Rattle.reader.proofs.Series.{none-at-table, spaced_before, Taken, series-only, series-there, picked_all}
use Rattle.reader.proofs.Tables.{table_before, TakenTable, by-table, table-there}

-- ---- the form by its parts

-- a plan's numbers and the mask
abbrev heading : List ℕ → ℕ → List ℕ
heading ns faulty = ns ++ (faulty ∷ [])

-- the bytes of a form behind its first bracket and its word, with these numbers before its mask
abbrev pub behind_open : List ℕ → Setup → List ℕ
behind_open ns u = spaced_before (heading ns u.faulty) (table_before (line_clocks u) [])

-- the line is such a form
abbrev Parts : List ℕ → List ℕ → Setup → Type 0
Parts s ns u = s ≡ open_bracket ++ (open_word ++ behind_open ns u)

setup-parts : (u : Setup) → Parts (setup_form u) (plan_numbers u.plan) u
unfolding setup_form
setup-parts u = refl

usual-parts : (u : Setup) → Parts (usual_form u) (usual_numbers u.plan) u
unfolding usual_form
usual-parts u = refl

-- ---- the heading as it is read

module _ (s : List ℕ) (at : ℕ) (r : Several) (lent after : List ℕ) (x : ReadsSeveral s at lent r after) (w : length lent ≡ heading_most) where
  counted : length (take r.count after) ≡ r.count
  counted = as_many s at lent r after x

  heading-is : heading_at s at ≡ heading_series (record { numbers = take r.count after; end = r.end })
  unfolding heading_at
  heading-is = ap heading_series (ap (λ (j : ℕ). series_at j s at) (sym w) ∙ x.read)

  pub no-heading : (r.count ≡ heading_most → ⊥) → (r.count ≡ heading_usual → ⊥) → None ≡ heading_at s at
  no-heading h h' = sym (heading-is ∙ rw (counted, ne_eqb r.count heading_most h, ne_eqb r.count heading_usual h'))

  pub whole-heading : r.count ≡ heading_most → Some (heading_of (plan_in after) (get_or after 5 0) r.end) ≡ heading_at s at
  whole-heading h =
      let all : take r.count after ≡ after = filled-all s at lent r after x (h ∙ sym w) in
      sym (heading-is ∙ rw (counted, eq-eqb r.count heading_most h, all))

  pub usual-heading : r.count ≡ heading_usual → Some (heading_of (usual_plan_in after) (get_or after 4 0) r.end) ≡ heading_at s at
  usual-heading h = sym (heading-is ∙ rw (counted, h, first 0 (omega arith), first 1 (omega arith), first 2 (omega arith), first 3 (omega arith), first 4 (omega arith)))
    where
      first : (i : ℕ) → i < heading_usual → get_or (take heading_usual after) i 0 ≡ get_or after i 0
      first i l = get_or-take heading_usual after i 0 l

-- ---- numbers below 2^64, with k and without it

pub below-with : (a b : List ℕ) (k : ℕ) → k < field_limit → Below (a ++ b) → Below (a ++ (k ∷ b))
below-with a b k l h = every_append _ a (k ∷ b) (every_first _ a b h) (l, every-second _ a b h)

pub below-without : (a b : List ℕ) (k : ℕ) → Below (a ++ (k ∷ b)) → Below (a ++ b)
below-without a b k h = every_append _ a b (every_first _ a (k ∷ b) h) (every-second _ a (k ∷ b) h).1

-- ---- what is read is it

-- the line is the form of what it is read as, with the setup that stands beside it; none stands beside a line that is none of the forms
abbrev pub ReadAs : List ℕ → Read → Setup → Type 0
ReadAs s (Read.Event e) u = EventLine s e
ReadAs s Read.Opening u = SetupLine s u
ReadAs s NoForm u = u ≡ no_setup

abbrev pub LineRead : List ℕ → Reading → Type 0
LineRead s r = ReadAs s r.read r.setup

-- with these numbers before its mask, the line is a form of the setup with this plan, mask and the table's clocks
abbrev MakesForm : List ℕ → List ℕ → Plan → ℕ → Type 0
MakesForm s ns plan faulty = (clocks : List ℕ) → Parts s ns (setup_with plan faulty clocks) → SetupBytes s (setup_with plan faulty clocks)

setup-line : (s : List ℕ) (at k e : ℕ) (ns : List ℕ) (plan : Plan) (faulty : ℕ) (cs : List ℕ) → s ≡ open_bracket ++ (open_word ++ drop at s)
    → drop at s ≡ spaced_before (heading ns faulty) (drop k s) → MakesForm s ns plan faulty → Below (heading (plan_numbers plan) faulty) → eqb plan.n 0 ≡ false
    → ltb n_most plan.n ≡ false → TakenTable s k plan.n cs e → e ≡ length s → SetupLine s (setup_with plan faulty (cs ++ replicate (table_clocks - length cs) 0))
setup-line s at k e ns plan faulty cs h numbers forms b least most t end =
    let zeros : List ℕ = replicate (table_clocks - length cs) 0 in
    let u : Setup = setup_with plan faulty (cs ++ zeros) in
    let m : plan.n ≤ n_most = ltb-false n_most plan.n most in
    let l : line_clocks u ≡ cs = take_at cs zeros plan.n t.number in
    let z : length zeros ≡ table_clocks - length cs = length-replicate (table_clocks - length cs) 0 in
    record {
      formed = or-neither (eqb plan.n 0) (ltb n_most plan.n) least most;
      below = every_append _ (heading (plan_numbers plan) faulty) (line_clocks u) b (subst Below (sym l) t.below);
      table = length-append cs zeros ∙ omega (arith, t.number);
      bytes = forms (cs ++ zeros) (
          h
          ∙ ap (λ (r : List ℕ). open_bracket ++ (open_word ++ r))
          (numbers
          ∙ ap (spaced_before (heading ns faulty))
          (t.bytes ∙ ap (table_before cs) (drop_of_length-le s (le_of_eq (sym end))) ∙ ap (λ (x : List ℕ). table_before x []) (sym l))));
    }

-- what is read as an opening
abbrev OpeningRead : List ℕ → Option Setup → Type 0
OpeningRead s x = LineRead s (opening_as x)

-- behind the word
pub opening-only : (s : List ℕ) (at : ℕ) → s ≡ open_bracket ++ (open_word ++ drop at s) → OpeningRead s (opening_at s at)
unfolding opening_at heading_at
opening-only s at h = headed (series_at heading_most s at) (series-only heading_most s at)
  where
    told : (x : Series) → Taken s at x → (ns : List ℕ) (plan : Plan) (faulty : ℕ) → x.numbers ≡ heading ns faulty → MakesForm s ns plan faulty
        → (Below (heading ns faulty) → Below (heading (plan_numbers plan) faulty)) → OpeningRead s (ending_heading s (Some (heading_of plan faulty x.end)))
    told x t ns plan faulty l forms below =
        by_cond (OpeningRead s) (eqb plan.n 0) None _ (λ _. refl)
        (λ least. by_cond (OpeningRead s) (ltb n_most plan.n) None _ (λ _. refl)
        (λ most. by-table (OpeningRead s) s x.end plan.n (ending_table s plan faulty) (omega (arith, eqb-false plan.n 0 (T_false (eqb plan.n 0) least)))
        (λ cs e c. by_cond (OpeningRead s) (eqb e (length s)) _ None
        (λ end. setup-line s at x.end e ns plan faulty cs h (t.bytes ∙ ap (λ (y : List ℕ). spaced_before y (drop x.end s)) l) forms
        (below (subst Below l t.below)) (T_false (eqb plan.n 0) least) (T_false (ltb n_most plan.n) most) c (eqb→eq e (length s) end)) (λ _. refl)) refl))

    headed : (x : Series) → Taken s at x → OpeningRead s (ending_heading s (heading_series x))
    headed x t =
        let ns : List ℕ = x.numbers in
        let P : Option Heading → Type 0 = λ (y : Option Heading). OpeningRead s (ending_heading s y) in
        by_cond P (eqb (length ns) heading_most) (Some (heading_of (plan_in ns) (get_or ns 5 0) x.end)) _
        (λ six. told x t (plan_numbers (plan_in ns)) (plan_in ns) (get_or ns 5 0) (picked_all _ ns (eqb→eq (length ns) heading_most six))
        (λ cs e. inl (e ∙ sym (setup-parts (setup_with (plan_in ns) (get_or ns 5 0) cs)))) (λ b. b))
        (λ _. by_cond P (eqb (length ns) heading_usual) (Some (heading_of (usual_plan_in ns) (get_or ns 4 0) x.end)) None
        (λ five. told x t (usual_numbers (usual_plan_in ns)) (usual_plan_in ns) (get_or ns 4 0) (picked_all _ ns (eqb→eq (length ns) heading_usual five))
        (λ cs e. inr (e ∙ sym (usual-parts (setup_with (usual_plan_in ns) (get_or ns 4 0) cs)), refl))
        (below-with (usual_numbers (usual_plan_in ns)) (get_or ns 4 0 ∷ []) per_leader_usual (omega arith))) (λ _. refl))

-- ---- it is read

-- "n clocks, 1 to 64 of them", as the reader tests it
record Sized (u : Setup) : Type 0 where
  some : eqb u.plan.n 0 ≡ false
  few : ltb n_most u.plan.n ≡ false
  least : 1 ≤ u.plan.n
  clocks_in : length (line_clocks u) ≡ u.plan.n

sized : (s : List ℕ) (u : Setup) → SetupLine s u → Sized u
sized s u l =
    let p = or_parts (eqb u.plan.n 0) (ltb n_most u.plan.n) l.formed in
    let m : u.plan.n ≤ n_most = ltb-false n_most u.plan.n p.1 in
    record {
      some = p.0;
      few = p.1;
      least = omega (arith, eqb-false u.plan.n 0 p.0);
      clocks_in = length-take-le u.plan.n u.clocks (omega (arith, l.table));
    }

-- the numbers before the mask: the line is made of them, and they are read as the setup's plan
pub record Headed (s : List ℕ) (u : Setup) : Type 0 where
  pub numbers : List ℕ
  pub bytes : Parts s numbers u
  few : length (heading numbers u.faulty) ≤ heading_most
  below : Below (heading numbers u.faulty)
  told : (k : ℕ) → heading_series (record { numbers = heading numbers u.faulty; end = k }) ≡ Some (heading_of u.plan u.faulty k)

pub setup-headed : (s : List ℕ) (u : Setup) → SetupLine s u → Headed s u
setup-headed s u l = by l.bytes
  where
    whole : Below (heading (plan_numbers u.plan) u.faulty)
    whole = every_first _ (heading (plan_numbers u.plan) u.faulty) (line_clocks u) l.below

    by : SetupBytes s u → Headed s u
    by (inl e) = record { numbers = plan_numbers u.plan; bytes = e ∙ setup-parts u; few = omega arith; below = whole; told = λ k. refl }
    by (inr e) = record {
      numbers = usual_numbers u.plan;
      bytes = e.0 ∙ usual-parts u;
      few = omega arith;
      below = below-without (usual_numbers u.plan) (u.faulty ∷ []) (per_leader u.plan) whole;
      told = λ k. ap (λ (j : ℕ). Some (heading_of (plan_in (usual_numbers u.plan ++ (j ∷ []))) u.faulty k)) (sym e.1);
    }

pub opening-there : (s : List ℕ) (at : ℕ) (u : Setup) → SetupLine s u → (h : Headed s u) → Left s at (behind_open h.numbers u) → opening_at s at ≡ Some (trimmed u)
unfolding opening_at heading_at trimmed
opening-there s at u l h left =
    series-there P heading_most s at (λ x. ending_heading s (heading_series x)) (heading h.numbers u.faulty) (table_before (line_clocks u) []) left h.few
    h.below refl (λ k m. none-at-table s _ k m)
    (λ k m. subst (λ (y : Option Heading). P (ending_heading s y)) (sym (h.told k)) (rw (c.some, c.few)
    (table-there P s k u.plan.n (ending_table s u.plan u.faulty) (line_clocks u) [] m c.clocks_in c.least
    (every-second _ (heading (plan_numbers u.plan) u.faulty) (line_clocks u) l.below) (λ e end. rw (eq-eqb e (length s) (left-none s e end), c.clocks_in)))))
  where
    P : Option Setup → Type 0
    P x = x ≡ Some (trimmed u)

    c : Sized u
    c = sized s u l
