-- The opening: a setup, checked and entered.
use Rattle.std.specs.Prelude.{false, cond, List, [], ◌∷◌, ◌++◌, ℕ, ◌*◌, length, get_or, drop, replicate}
use Rattle.base.specs.Scan.{listed}
use Rattle.types.specs.declared.Form.{Form}
use Rattle.types.specs.declared.Run.{Run}
use Rattle.types.specs.declared.Setup.{Setup}
use Rattle.types.specs.Traffic.{no_traffic}
use Rattle.types.specs.Quantities.{table_clocks, row_words, correct}
use Rattle.model.specs.State.{State, After, with_run, with_tally, with_network, run_of, refused, done}
use Rattle.model.specs.Moves.{Entry, stay, into, entries, made}
use Rattle.model.specs.Checks.{Check, judged, n_outside, delays_outside, views_outside, faulty_outside, lengths_outside, start_too_high, too_far_ahead}

-- "A table holds 64 start clocks; those of faulty cabinets and from n on are not read": they are 0 in the run.
abbrev pub start_clocks : Setup → List ℕ
start_clocks u = listed (λ p. cond (correct u.plan u.faulty p) (get_or u.clocks p 0) 0) table_clocks

-- "At opening, time is 0, .. and the network is unsettled (its settling time is kept as 0 ..)."
abbrev pub blank_run : Setup → Run
blank_run u = run_of u.plan u.faulty 0 false 0 0 (start_clocks u) (replicate table_clocks 0) no_traffic

-- "Opening zeroes the first 4V ledger words and the whole post before entering view 0; ledger words beyond are untouched."
unfoldable pub blank : Setup → State → State
blank u s =
    with_run (blank_run u)
    (with_tally (replicate (row_words * u.plan.views) 0 ++ drop (row_words * u.plan.views) s.tally)
    (with_network (replicate (length s.network) 0) s))

-- "every correct cabinet enters view 0 with its start clock"
abbrev pub first_entry : Setup → ℕ → Entry
first_entry u p = cond (correct u.plan u.faulty p) (into 0) stay

unfoldable pub opened : Setup → State → State
opened u s = let b = blank u s in made b (entries (first_entry u) b.run b.tally u.plan.n)

-- "Checks 2 to 8 are for opening", with buffers of these lengths
abbrev pub setup_checks : Form → Setup → ℕ → ℕ → List Check
setup_checks form u tally network =
    let p = u.plan in
    (2, n_outside p) ∷ (3, delays_outside p) ∷ (4, views_outside p) ∷ (5, faulty_outside p u.faulty) ∷ (6, lengths_outside form p tally network)
    ∷ (7, start_too_high p u.faulty u.clocks) ∷ (8, too_far_ahead p u.faulty u.clocks) ∷ []

abbrev pub opening_checks : Setup → State → List Check
opening_checks u s = setup_checks s.form u (length s.tally) (length s.network)

-- a setup, with the run and the lent buffers at hand
unfoldable pub opening : Setup → State → After
opening u s = judged (refused s) (opening_checks u s) (done (opened u s))
