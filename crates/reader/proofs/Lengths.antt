-- How long the forms are: far shorter than "a line is at most 4,800 bytes" allows. Assumes nothing.
use mathlib.Core.Path.{◌≡◌, sym, ap, ◌∙◌}
use mathlib.Core.Logic.{⊎_elim}
use Prim.Native.Nat.{ℕ, ◌+◌, ◌*◌, ◌/◌, ◌≤◌, ◌<◌}
use native.Mathlib.Omega.{arith}
use mathlib.Core.Bool.{false}
use mathlib.Core.List.{List, [], ◌∷◌, ◌++◌, append-nil}
use lib.ListN.{length, drop, length-append, length-take}
use lib.Dec.{eqb, ltb}
use borrow.Author.Tests.{ltb-false}
use Rattle.base.specs.Tests.{le?}
use Rattle.base.specs.Choice.{or_parts}
use Rattle.types.specs.declared.Message.{Message}
use Rattle.types.specs.declared.Message.TheVariants.{View, Vote, Vc, Qc}
use Rattle.types.specs.declared.Event.{Event}
use Rattle.types.specs.declared.Event.TheVariants.{Deliver, Sign, Show, Settle, Tick}
use Rattle.types.specs.declared.Setup.{Setup}
use Rattle.types.specs.Quantities.{n_most, per_leader, per_leader_usual}
use Rattle.types.specs.Runs.{plan_numbers, usual_numbers}
use Rattle.lines.specs.Decimal.{decimal}
use Rattle.lines.specs.Forms.{open_bracket, close_bracket, open_word, further_clocks, clocks_form, line_clocks, message_form, event_form, setup_form, usual_form, lacks_setup_form, SetupLine}
use Rattle.lines.specs.Promises.{form_most}
use Rattle.lines.proofs.Decimals.{length-small, length-large, length_most}
use Rattle.reader.proofs.Series.{spaced_before, spaced-before}
use Rattle.reader.proofs.Tables.{table_before}

-- numbers, each behind a blank, have 21 bytes at most
spaced-length : (ns r : List ℕ) → length (spaced_before ns r) ≤ 21 * length ns + length r
spaced-length [] r = omega arith
spaced-length (n ∷ ns) r = omega (arith, length-append (decimal n) (spaced_before ns r), length_most n, spaced-length ns r)

-- ---- the events

message-length : (m : Message) → length (message_form m) ≤ 48
unfolding message_form
message-length (View w p) = omega (arith, spaced-length (w ∷ p ∷ []) close_bracket)
message-length (Vote w p) = omega (arith, spaced-length (w ∷ p ∷ []) close_bracket)
message-length (Vc w p) = omega (arith, spaced-length (w ∷ p ∷ []) close_bracket)
message-length (Qc w p) = omega (arith, spaced-length (w ∷ p ∷ []) close_bracket)

pub event-length : (e : Event) → length (event_form e) ≤ form_most
unfolding event_form
event-length (Deliver m) = omega (arith, message-length m, length-append (message_form m) close_bracket)
event-length (Sign m) = omega (arith, message-length m, length-append (message_form m) close_bracket)
event-length (Show m) = omega (arith, message-length m, length-append (message_form m) close_bracket)
event-length Settle = omega arith
event-length (Tick m) = omega (arith, length_most m, length-append (decimal m) close_bracket)

-- ---- the opening

clocks-length : (cs : List ℕ) → length cs ≤ n_most → length (clocks_form cs) ≤ 1343
clocks-length [] h = omega arith
clocks-length (c ∷ cs) h = omega (arith, length-append (decimal c) (further_clocks cs), length_most c, ap length (sym (append-nil (further_clocks cs)) ∙ spaced-before cs []), spaced-length cs [])

-- n has at most two digits
number-length : (n : ℕ) → n ≤ n_most → length (decimal n) ≤ 2
number-length n h =
    ⊎_elim
    (λ (g : 10 ≤ n). let s : n / 10 < 10 = omega arith in omega (arith, length-large n (omega arith) g, length-small (n / 10) s))
    (λ (g : n < 10). omega (arith, length-small n g))
    (le? 10 n)

-- an opening with n and at most five numbers behind it before its table
others-length : (u : Setup) (others : List ℕ) → lacks_setup_form u ≡ false → length others ≤ 5
    → length (open_bracket ++ (open_word ++ spaced_before (u.plan.n ∷ others) (table_before (line_clocks u) []))) ≤ form_most
others-length u others f few =
    let h : u.plan.n ≤ n_most = ltb-false n_most u.plan.n (or_parts (eqb u.plan.n 0) (ltb n_most u.plan.n) f).1 in
    let table : List ℕ = table_before (line_clocks u) [] in
    let c : length (line_clocks u) ≤ n_most = omega (arith, length-take u.plan.n u.clocks) in
    omega (
      arith,
      number-length u.plan.n h,
      length-append (decimal u.plan.n) (spaced_before others table),
      spaced-length others table,
      clocks-length (line_clocks u) c,
      length-append (clocks_form (line_clocks u)) (close_bracket ++ close_bracket),
    )

pub setup-length : (u : Setup) → lacks_setup_form u ≡ false → length (setup_form u) ≤ form_most
unfolding setup_form
setup-length u f = others-length u (drop 1 (plan_numbers u.plan ++ (u.faulty ∷ []))) f (omega arith)

usual-length : (u : Setup) → lacks_setup_form u ≡ false → length (usual_form u) ≤ form_most
unfolding usual_form
usual-length u f = others-length u (drop 1 (usual_numbers u.plan ++ (u.faulty ∷ []))) f (omega arith)

pub opening-length : (s : List ℕ) (u : Setup) → SetupLine s u → length s ≤ form_most
opening-length s u l =
    ⊎_elim (λ (e : s ≡ setup_form u). rw e (setup-length u l.formed))
    (λ (e : (s ≡ usual_form u) × (per_leader u.plan ≡ per_leader_usual)). rw e.0 (usual-length u l.formed)) l.bytes
