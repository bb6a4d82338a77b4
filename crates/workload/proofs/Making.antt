-- A load made: the opening judged, its line written, the run opened, and the steps behind it. Assumes nothing.
use Rattle.std.specs.Prelude.{Err, Ok, Result}
use mathlib.Core.Path.{◌≡◌, refl, sym, ap, ◌∙◌, subst}
use mathlib.Core.Bool.{Bool, true, false, cond}
use mathlib.Core.Logic.{◌≢◌, ⊎_elim}
use mathlib.Core.List.{List, [], ◌∷◌, ◌++◌}
use Prim.Native.Nat.{ℕ, ◌+◌, ◌-◌, ◌≤◌, ◌<◌}
use native.Mathlib.Omega.{arith}
use native.Mathlib.Nat.{add_comm}
use lib.Dec.{T}
use lib.ListN.{length}
use borrow.Rule.Slice.PartMut.{mid_of, put_mid}
use borrow.Author.Tests.{ne_eqb, le-ltb}
use Rattle.base.specs.Tests.{le?, by_cond}
use Rattle.types.specs.declared.Setup.{Setup}
use Rattle.types.specs.Quantities.{n_most}
use Rattle.model.specs.State.{State, After, check_of, accepted, refused, done}
use Rattle.model.specs.Checks.{Check, judged, refusal, unsound_for_good}
use Rattle.model.specs.Opening.{opened, opening, setup_checks}
use Rattle.liveness.proofs.Link.{Planned}
use Rattle.liveness.proofs.Opens.{planned}
use Rattle.liveness.proofs.Answers.{no-yes}
use Rattle.liveness.proofs.Promises.{opened-so, opening-reaches}
use Rattle.lines.specs.Forms.{setup_form, lacks_setup_form}
use Rattle.lines.specs.Clauses.{line, Writes, Put}
use Rattle.lines.specs.Promises.{schedule_of}
use Rattle.lines.proofs.Putting.{put-none, put-inside, put-part, left_over, put_written, never-refused, few-written}
use Rattle.checks.specs.Setups.{setup_check, opening_check}
use Rattle.checks.proofs.Opens.{by_result, setup-check}
use Rattle.loads.specs.Loads.{Point, point_of, Load, halted, line_then, line_bytes, load_from, further_load, whole_load}
use Rattle.loads.specs.Clauses.{PutLoad}
use Rattle.loads.proofs.Turns.{further-sound, by_whole}
use Rattle.workload.proofs.Lasting.{reachable-good}

-- a setup that opens has a line
pub setup-formed : (u : Setup) (before : State) → T (accepted (opening u before).answer) → lacks_setup_form u ≡ false
setup-formed u before t =
    let p : Planned u.plan u.faulty = planned u before (opened-so u before t).0 in
    let n : u.plan.n ≢ 0 = omega (arith, p.n_at_least) in
    rw (ne_eqb u.plan.n 0 n) (le-ltb n_most u.plan.n p.n_at_most)

-- a load of no line
none-put : (out : List ℕ) (x : Point) (full : Bool) → PutLoad (halted x full) out x full 0 out
none-put out x full = record { point = refl; full = refl; put = put-none out }

-- ---- by the first check of the opening that refuses

pub check-refused : (u : Setup) (s : State) (check : ℕ) → opening_check u s ≡ Err check → opening u s ≡ refused s check
unfolding opening
check-refused u s check e = setup-check u s (done (opened u s)) ∙ ap (by_result (refused s) (done (opened u s))) e

pub check-opens : (u : Setup) (s : State) → opening_check u s ≡ Ok tt → opening u s ≡ done (opened u s)
unfolding opening
check-opens u s e = setup-check u s (done (opened u s)) ∙ ap (by_result (refused s) (done (opened u s))) e

-- no check's number is 0
abbrev Positive : List Check → Type 0
Positive [] = Unit {0}
Positive (c ∷ cs) = (0 < c.0) × Positive cs

positive : (cs : List Check) → Positive cs → (k : ℕ) → judged {A = Result (Unit {0}) ℕ} (λ r. Err r) cs (Ok tt) ≡ Err k → 0 < k
positive [] h k e = let q : ◌≡◌ {A = Result (Unit {0}) ℕ} (Ok tt) (Err k) = e in let z : ◌≡◌ {A = ℕ} 0 1 = cc in omega arith
positive (c ∷ cs) h k e =
    by_cond (λ (r : Result (Unit {0}) ℕ). r ≡ Err k → 0 < k) c.1 (Err c.0) (judged (λ r. Err r) cs (Ok tt))
    (λ t q. omega (arith, h.0, ap refusal q)) (λ t q. positive cs h.1 k q) e

pub check-positive : (u : Setup) (s : State) (k : ℕ) → opening_check u s ≡ Err k → 0 < k
unfolding setup_check
check-positive u s k e =
    positive (setup_checks s.form u (length s.tally) (length s.network))
    (omega arith, (omega arith, (omega arith, (omega arith, (omega arith, (omega arith, (omega arith, tt))))))) k e

-- ---- the three ways that it goes

module _ (u : Setup) (s : State) (steps settle seed : ℕ) (out : List ℕ) where
  abbrev load : Load
  load = whole_load u s steps settle seed (length out)

  module _ (e : opening u s ≡ done (opened u s)) where
    opens : accepted (opening u s).answer ≡ true
    opens = ap (λ (a : After). accepted a.answer) e

    pub zero-check : check_of (opening u s).answer ≡ 0
    zero-check = ap (λ (a : After). check_of a.answer) e

    module _ (r : Result ℕ ℕ) (after : List ℕ) (w : Writes (lacks_setup_form u) (setup_form u) out r after) where
      has-line : Writes false (setup_form u) out r after
      has-line = subst (λ (t : Bool). Writes t (setup_form u) out r after) (setup-formed u s (rw opens tt)) w

      pub made-short : (k : ℕ) → r ≡ Err k → (check_of (opening u s).answer ≡ 0) × PutLoad load out (point_of s seed 0) true 0 after
      made-short k q = (
        zero-check,
        by_whole (λ (l : Load). PutLoad l out (point_of s seed 0) true 0 after) u s steps settle seed (length out)
            (λ n. no-yes (sym opens ∙ n))
            (λ y h. subst (λ (f : List ℕ). PutLoad (halted (point_of s seed 0) true) out (point_of s seed 0) true 0 f) (sym (few-written _ _ _ _ has-line h).1) (none-put out _ true))
            (λ y h. absurd (never-refused _ _ _ _ _ has-line h q)),
      )

      -- the line stands there, and the steps behind it
      module _ (k : ℕ) (q : r ≡ Ok k) (same : length after ≡ length out) (h : After) (left : h ≡ opening u s) where
        abbrev rest : List ℕ
        rest = mid_of k (length after - k) after

        abbrev further : Load
        further = further_load steps settle (point_of h.state seed 0) (length rest)

        good : unsound_for_good h.state ≡ false
        good = subst (λ (a : After). unsound_for_good a.state ≡ false) (sym left) (reachable-good (opening u s).state (opening-reaches u s (rw opens tt)))

        not_short : length out < line_bytes (setup_form u) → ⊥
        not_short l = let w' : ◌≡◌ {A = Result ℕ ℕ} (Err 1) (Ok k) = sym (few-written (setup_form u) out after r has-line l).0 ∙ q in let z : ◌≡◌ {A = ℕ} 0 1 = cc in omega arith

        fits : line_bytes (setup_form u) ≤ length out
        fits = ⊎_elim (λ (l : line_bytes (setup_form u) ≤ length out). l) (λ (l : length out < line_bytes (setup_form u)). absurd (not_short l)) (le? (line_bytes (setup_form u)) (length out))

        line-put : Put (line (setup_form u)) out k after
        line-put = put_written (setup_form u) out after r k has-line fits q

        pub line-inside : k ≤ length after
        line-inside = omega (arith, line-put.bytes, fits, same)

        whole_is : load ≡ line_then (setup_form u) further
        whole_is = by_whole (λ (l : Load). l ≡ line_then (setup_form u) further) u s steps settle seed (length out)
            (λ n. no-yes (sym opens ∙ n))
            (λ y l. absurd (not_short l))
            (λ y l. ap (line_then (setup_form u))
            (ap (λ (a : After). load_from settle (steps - 0) (point_of a.state seed 0) (length out - line_bytes (setup_form u))) (sym left)
            ∙ ap (load_from settle (steps - 0) (point_of h.state seed 0)) behind-bytes
            ∙ sym (further-sound steps settle (point_of h.state seed 0) (length rest) good)))
          where
            behind-bytes : length out - line_bytes (setup_form u) ≡ length rest
            behind-bytes = omega (arith, left_over k after, line-put.bytes, same)

        module _ (y : Point) (full : Bool) (m : ℕ) (f : List ℕ) (p : PutLoad further rest y full m f) where
          pub made-fits : length f ≡ length rest → m + k ≤ length out
          made-fits n = omega (arith, put-inside (schedule_of further.forms) rest m f p.put n, left_over k after, line-inside, same)

          pub made-on : PutLoad load out y full (m + k) (put_mid k (length after - k) after f)
          made-on =
              subst (λ (l : Load). PutLoad l out y full (m + k) (put_mid k (length after - k) after f)) (sym whole_is) (record {
                point = p.point;
                full = p.full;
                put = subst (λ (i : ℕ). Put (line (setup_form u) ++ schedule_of further.forms) out i (put_mid k (length after - k) after f)) (add_comm k m)
                    (put-part line-put line-inside p.put);
              })

        -- the run that was opened is one that a load goes on from
        pub not-refused : (c : ℕ) → c ≡ cond (unsound_for_good h.state) 9 0 → 0 < c → ⊥
        not-refused c e l = let z : c ≡ 0 = e ∙ ap (λ (b : Bool). cond b 9 0) good in omega arith
