-- Lines read into words and written into bytes. Assumes nothing.
use Rattle.std.specs.Prelude.{Err, Ok, Result}
use mathlib.Core.Path.{◌≡◌, refl, sym, ap, ◌∙◌, subst}
use mathlib.Core.Bool.{Bool, true}
use mathlib.Core.Logic.{◌⊎◌, inl, inr, ◌≢◌}
use mathlib.Core.List.{List, [], ◌∷◌}
use Prim.Native.Nat.{ℕ, ◌<◌, ◌≤◌}
use native.Mathlib.Omega.{arith}
use lib.ListN.{length, length-append}
use borrow.Author.Tests.{lt-ltb, le-ltb, ne_eqb}
use Rattle.base.specs.Choice.{cond_no}
use Rattle.base.specs.Tests.{eq?, by_cond}
use Rattle.types.specs.declared.Event.{Event}
use Rattle.lines.specs.declared.Read.{Read}
use Rattle.lines.specs.Forms.{newline, setup_form}
use Rattle.lines.specs.Clauses.{Reading, event_reading, no_form, read_check, line, not_written, written_as, written_in, Writes, written_check}
use Rattle.reader.specs.Lines.{reading, skimmed}
use Rattle.reader.proofs.Skimming.{skims-plain}
use Rattle.fever.specs.Layout.{setup_length, setup_in, reading_length}
use Rattle.fever.specs.Clauses.{reading_left, ReadsWords, written_by, StandsFor, WritesLine, WritesSetup}
use Rattle.fever.specs.Promises.{BytesTell, BytesTold}

-- ---- reading

-- enough are lent: by what the line is skimmed as, and its setup
pub reads-line : (line d : List ℕ) (x : Reading) (r : ℕ) (e : List ℕ) → reading_length ≤ length d → x ≡ reading line → r ≡ read_check x.read → e ≡ reading_left d x
    → ReadsWords line d r e
reads-line line d x r e l h k q =
    record {
      check = cond_no _ _ _ _ (le-ltb (length d) reading_length l) (k ∙ ap (λ (y : Reading). read_check y.read) h);
      words = cond_no _ _ _ _ (le-ltb (length d) reading_length l) (q ∙ ap (reading_left d) h);
    }

pub reads-event : (line : List ℕ) (a : Read) (v : Event) → a ≡ skimmed line → a ≡ Read.Event v → event_reading v ≡ reading line
reads-event line a v h q = skims-plain line (Read.Event v) (sym q ∙ h) λ (e : Read.Event v ≡ Read.Opening). cc

pub reads_none : (line : List ℕ) (a : Read) → a ≡ skimmed line → a ≡ Read.NoForm → no_form ≡ reading line
reads_none line a h q = skims-plain line Read.NoForm (sym q ∙ h) λ (e : Read.NoForm ≡ Read.Opening). cc

-- ---- writing

-- what a writer may answer: the bytes of a line, which are some, or check 1
abbrev Told : List ℕ → Result ℕ ℕ → Type 0
Told form (Ok k) = (k ≡ length (line form)) × (0 < k)
Told form (Err c) = c ≡ 1

written-told : (lacks : Bool) (form d : List ℕ) → Told form (written_as lacks form d)
unfolding written_as
written-told lacks form d =
    let some' : 0 < length (line form) = omega (arith, length-append form (newline ∷ [])) in
    by_cond (Told form) (not_written lacks form d) (Err 1) (Ok (length (line form))) (λ t. refl) (λ t. (refl, some'))

pub bytes_counted : (x : Result ℕ ℕ) (k : ℕ) → x ≡ Ok k → StandsFor k x
bytes_counted x k e lacks form d w =
    let t : (k ≡ length (line form)) × (0 < k) = subst (Told form) (sym w ∙ e) (written-told lacks form d) in
    let some' : k ≡ 0 → ⊥ = λ z. absurd (omega (arith, t.1)) in
    sym (cond_no _ _ _ _ (ne_eqb k 0 some') e)

pub none-counted : (x : Result ℕ ℕ) (c : ℕ) → x ≡ Err c → StandsFor 0 x
none-counted x c e lacks form d w =
    let q : c ≡ 1 = subst (Told form) (sym w ∙ e) (written-told lacks form d) in
    sym (e ∙ ap Err q)

pub bytes-told : BytesTold
bytes-told lacks form d r after w = go (eq? r 0)
  where
    check : written_check (written_as lacks form d) ≡ written_check (written_by r)
    check = sym (ap written_check w.answer)

    go : (r ≡ 0) ⊎ (r ≢ 0) → BytesTell lacks form d r
    go (inl z) = inl (check ∙ ap (λ (k : ℕ). written_check (written_by k)) z, z)
    go (inr n) =
        let by : Ok r ≡ written_by r = cond_no _ _ _ _ (ne_eqb r 0 n) refl in
        let t : (r ≡ length (line form)) × (0 < r) = subst (Told form) (sym (by ∙ w.answer)) (written-told lacks form d) in
        inr (check ∙ sym (ap written_check by), t.0, t.1)

-- what lacks a form is not written
unwritten : (form d : List ℕ) → WritesLine true form d 0 d
unfolding written_as written_in
unwritten form d = record { answer = refl; text = refl }

written : (lacks : Bool) (form d : List ℕ) (x : Result ℕ ℕ) (r : ℕ) (e : List ℕ) → Writes lacks form d x e
    → StandsFor r x → WritesLine lacks form d r e
written lacks form d x r e w q = record { answer = q lacks form d w.0 ∙ w.0; text = w.1 }

pub no-setup-written : (ws d : List ℕ) → length ws < setup_length → WritesSetup ws d 0 d
no-setup-written ws d l = rw (lt-ltb (length ws) setup_length l) (unwritten (setup_form (setup_in ws)) d)
