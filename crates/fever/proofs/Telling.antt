-- A run's traffic in words, in each case of the call that tells it. Assumes nothing.
use Rattle.std.proofs.Common.{Ok, Result}
use mathlib.Core.Path.{◌≡◌, refl, ap, ◌∙◌}
use mathlib.Core.Bool.{false}
use mathlib.Core.Logic.{inl, inr}
use mathlib.Core.List.{List, [], ◌∷◌, ◌++◌}
use Prim.Native.Nat.{ℕ, ◌≤◌, ◌<◌}
use lib.Dec.{ltb}
use lib.ListN.{length, get_or}
use borrow.Author.Tests.{lt-ltb, le-ltb}
use Rattle.base.specs.Choice.{cond_yes, or-second}
use Rattle.types.specs.declared.Run.{Run}
use Rattle.types.specs.declared.Totals.{Totals}
use Rattle.model.specs.State.{state_of}
use Rattle.model.specs.Traffic.{totals}
use Rattle.types.specs.Traffic.{count_numbers}
use Rattle.writer.specs.Stamps.{Stamped}
use Rattle.writer.proofs.Stamping.{written_then}
use Rattle.fever.specs.Layout.{run_length, settled_word, run_in, OfNoRun, neither_settled}
use Rattle.fever.specs.Clauses.{Lent, lent_state}
use Rattle.fever.specs.Traffic.{report_length, report_words, CalledReport, called_report, told_report, reporting}
use Rattle.fever.proofs.Laying.{laid}

-- ---- the words

pub report-laid : (ws e f g h : List ℕ) (a b c k : ℕ) (x : Totals) → report_length ≤ length ws → Stamped ws 0 (count_numbers x.traffic.sent) a e
    → Stamped e a (count_numbers x.traffic.delivered) b f → Stamped f b (count_numbers x.held) c g → Stamped g c (x.traffic.waits ∷ []) k h
    → called_report 0 h ≡ told_report ws (Ok x)
report-laid ws e f g h a b c k x fits y z w v =
    ap (called_report 0) (laid ws h (report_words x) k report_length refl
    (written_then (count_numbers x.traffic.delivered ++ (count_numbers x.held ++ (x.traffic.waits ∷ []))) y
    (written_then (count_numbers x.held ++ (x.traffic.waits ∷ [])) z (written_then (x.traffic.waits ∷ []) w (λ r. v))) (record { fits = fits })))

-- ---- the call

module _ (x : Lent) (ws : List ℕ) where
  report-short-run : length x.run < run_length → called_report 1 ws ≡ reporting x ws
  unfolding reporting
  report-short-run l = rw (lt-ltb _ _ l) refl

  pub report-short : length ws < report_length → called_report 1 ws ≡ reporting x ws
  unfolding reporting
  report-short l = cond_yes _ _ _ _ (or-second (ltb (length x.run) run_length) _ (lt-ltb _ _ l)) refl

  module _ (whole : run_length ≤ length x.run) (room : report_length ≤ length ws) where
    report-neither : 1 < get_or x.run settled_word 0 → called_report 9 ws ≡ reporting x ws
    unfolding reporting
    report-neither s = rw (le-ltb _ _ whole, le-ltb _ _ room, lt-ltb _ _ s) refl

    pub report-is : neither_settled x.run ≡ false → told_report ws (totals (lent_state x)) ≡ reporting x ws
    unfolding reporting
    report-is s = rw (le-ltb _ _ whole, le-ltb _ _ room, s) refl

    pub report-told : get_or x.run settled_word 0 ≤ 1 → (g : Run) → g ≡ run_in x.run → (y : Result Totals ℕ)
        → y ≡ totals (state_of g x.tally x.network) → (r : CalledReport) → r ≡ told_report ws y → r ≡ reporting x ws
    report-told s g p y e r told =
        told ∙ ap (told_report ws) (e ∙ ap (λ (z : Run). totals (state_of z x.tally x.network)) p) ∙ report-is (le-ltb _ _ s)

  pub report-no-run : report_length ≤ length ws → (k : ℕ) → OfNoRun x.run k → called_report k ws ≡ reporting x ws
  report-no-run room k (inl h) = rw h.0 (report-short-run h.1)
  report-no-run room k (inr h) = rw h.0 (report-neither h.1 room h.2)
