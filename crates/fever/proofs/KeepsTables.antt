-- Openings leave tables of 64 clocks and 64 views; that events keep them is a promise of `liveness`. Assumes nothing.
use mathlib.Core.Path.{◌≡◌, refl, ◌∙◌}
use mathlib.Core.List.{List, [], ◌∷◌}
use Prim.Native.Nat.{ℕ, zero, suc, ◌≤◌}
use native.Mathlib.Omega.{arith}
use lib.ListN.{length, length-set, length-drop, drop}
use lib.Seq.{length-take-le}
use Rattle.base.specs.ScanLaws.{length-listed}
use Rattle.types.specs.declared.Event.{Event}
use Rattle.types.specs.declared.Run.{Run}
use Rattle.types.specs.declared.Setup.{Setup}
use Rattle.types.specs.Quantities.{table_clocks}
use Rattle.model.specs.State.{State}
use Rattle.model.specs.Moves.{Change, changed, Entry, stay, into, taking, entering, entries, made}
use Rattle.model.specs.Opening.{first_entry, blank, opened}
use Rattle.model.specs.Events.{applied}
use Rattle.model.specs.Lists.{after}
use Rattle.liveness.specs.Promises.{Tabled}
use Rattle.liveness.proofs.Promises.{events-last}
use Rattle.fever.specs.Layout.{run_length, clocks_word, views_word, run_in}

-- ---- an opening

abbrev Kept : Run → Change → Type 0
Kept r c = (length c.clocks ≡ length r.clocks) × (length c.views ≡ length r.views)

taking-kept : (r : Run) (t : List ℕ) (p : ℕ) (e : Entry) → Kept r (taking r t p e)
unfolding taking entering
taking-kept r t p stay = (refl, refl)
taking-kept r t p (into w) = (length-set r.clocks p _, length-set r.views p w)

entries-kept : (e : ℕ → Entry) (r : Run) (t : List ℕ) (k : ℕ) → Kept r (entries e r t k)
unfolding entries
entries-kept e r t zero = (refl, refl)
entries-kept e r t (suc k) =
    let c = entries e r t k in
    let i = entries-kept e r t k in
    let j = taking-kept (changed r c) c.tally k (e k) in
    (j.0 ∙ i.0, j.1 ∙ i.1)

made-tabled : (s : State) (c : Change) → Kept s.run c → Tabled s.run → Tabled (made s c).run
unfolding made
made-tabled s c k h = record { clocks = k.0 ∙ h.clocks; views = k.1 ∙ h.views }

pub opened-tabled : (u : Setup) (s : State) → Tabled (opened u s).run
unfolding opened blank
opened-tabled u s = made-tabled (blank u s) _ (entries-kept (first_entry u) (blank u s).run (blank u s).tally u.plan.n)
    (record { clocks = length-listed _ table_clocks; views = refl })

-- ---- events

pub after-tabled : (s : State) (es : List Event) → Tabled s.run → Tabled (after s es).run
unfolding after
after-tabled s [] h = h
after-tabled s (e ∷ es) h = after-tabled (applied e s).state es (events-last e s h).1

-- ---- a run that is read from words

pub read-tabled : (ws : List ℕ) → run_length ≤ length ws → Tabled (run_in ws)
unfolding run_in
read-tabled ws l = record {
  clocks = length-take-le table_clocks (drop clocks_word ws) (omega (arith, length-drop clocks_word ws));
  views = length-take-le table_clocks (drop views_word ws) (omega (arith, length-drop views_word ws));
}
