-- What a line is read as, by what it is skimmed as and its setup. Assumes nothing.
use mathlib.Core.Path.{◌≡◌, refl, sym, ap, ap₂, ◌∙◌}
use mathlib.Core.Logic.{◌≢◌}
use mathlib.Core.Bool.{false}
use mathlib.Core.List.{List, ◌++◌}
use Prim.Native.Nat.{ℕ}
use lib.ListN.{length}
use lib.Dec.{eqb, ltb}
use borrow.Author.Tests.{eq-eqb, ne_eqb}
use Rattle.base.specs.Tests.{T_false, by_cond}
use Rattle.types.specs.declared.Plan.{Plan}
use Rattle.types.specs.declared.Setup.{Setup}
use Rattle.types.specs.Quantities.{n_most}
use Rattle.lines.specs.declared.Read.{Read}
use Rattle.lines.specs.Forms.{open_bracket, open_word}
use Rattle.lines.specs.Clauses.{read_as, no_setup, opening_reading, no_form}
use Rattle.std.specs.Prelude.{Option, Some, None}
use Rattle.types.specs.declared.Event.{Event}
use Rattle.reader.specs.declared.Heading.{Heading}
use Rattle.reader.specs.declared.Table.{Table}
use Rattle.reader.specs.Scan.{after_word, on_after}
use Rattle.reader.proofs.Words.{word-joined}
use Rattle.reader.specs.Lines.{heading_at, table_at, ending_table, ending_heading, event_at, event_as, opening_at, opening_as, reading, skimmed, opening_or, skimmed_reading}

-- ---- behind the word of an opening

-- an opening has processors, and the setup of what is none has none
abbrev Tells : Option Setup → Type 0
Tells x = let y = opening_as x in opening_or y.setup ≡ y

table-tells : (s : List ℕ) (plan : Plan) (faulty : ℕ) (x : Option Table) → eqb plan.n 0 ≡ false → Tells (ending_table s plan faulty x)
table-tells s plan faulty (Some t) some = by_cond Tells (eqb t.end (length s)) _ None (λ _. rw some) (λ _. refl)
table-tells s plan faulty None some = refl

heading-tells : (s : List ℕ) (x : Option Heading) → Tells (ending_heading s x)
heading-tells s (Some h) =
    by_cond Tells (eqb h.plan.n 0) None _ (λ _. refl)
    (λ some. by_cond Tells (ltb n_most h.plan.n) None _ (λ _. refl)
    (λ _. table-tells s h.plan h.faulty (table_at s h.end h.plan.n) (T_false (eqb h.plan.n 0) some)))
heading-tells s None = refl

opening-tells : (s : List ℕ) (at : ℕ) → Tells (opening_at s at)
unfolding opening_at
opening-tells s at = heading-tells s (heading_at s at)

-- ---- any line

plain-tells : (x : Option Event) → skimmed_reading (event_as x) no_setup ≡ read_as (event_as x) no_setup
plain-tells (Some e) = refl
plain-tells None = refl

pub skimmed-reading : (s : List ℕ) → skimmed_reading (skimmed s) (reading s).setup ≡ reading s
unfolding skimmed reading
skimmed-reading s = at_bracket (after_word s 0 open_bracket)
  where
    at-word : (a : ℕ) (x : Option ℕ)
        → let y = on_after x (λ b. opening_as (opening_at s b)) (read_as (event_as (event_at s a)) no_setup) in
        skimmed_reading (on_after x (λ b. Read.Opening) (event_as (event_at s a))) y.setup ≡ y
    at-word a (Some b) = opening-tells s b
    at-word a None = plain-tells (event_at s a)

    at_bracket : (x : Option ℕ)
        → let y = on_after x (λ a. on_after (after_word s a open_word) (λ b. opening_as (opening_at s b)) (read_as (event_as (event_at s a)) no_setup)) no_form in
        skimmed_reading (on_after x (λ a. on_after (after_word s a open_word) (λ b. Read.Opening) (event_as (event_at s a))) Read.NoForm) y.setup ≡ y
    at_bracket (Some a) = at-word a (after_word s a open_word)
    at_bracket None = refl

-- ---- as the code tells

-- the setup of a line stands behind the bracket and the word of an opening
pub setup-where : (s : List ℕ) → (reading s).setup ≡ (on_after (after_word s 0 (open_bracket ++ open_word)) (λ b. opening_as (opening_at s b)) no_form).setup
unfolding reading
setup-where s = rw (word-joined s 0 open_bracket open_word) (bracket (after_word s 0 open_bracket))
  where
    word : (a : ℕ) (x : Option ℕ)
        → (on_after x (λ b. opening_as (opening_at s b)) (read_as (event_as (event_at s a)) no_setup)).setup ≡ (on_after x (λ b. opening_as (opening_at s b)) no_form).setup
    word a (Some b) = refl
    word a None = refl

    bracket : (x : Option ℕ)
        → (on_after x (λ a. on_after (after_word s a open_word) (λ b. opening_as (opening_at s b)) (read_as (event_as (event_at s a)) no_setup)) no_form).setup
        ≡ (on_after (on_after x (λ a. after_word s a open_word) None) (λ b. opening_as (opening_at s b)) no_form).setup
    bracket (Some a) = word a (after_word s a open_word)
    bracket None = refl

pub no-opening : (u : Setup) → u.plan.n ≡ 0 → opening_or u ≡ no_form
no-opening u h = rw (eq-eqb u.plan.n 0 h)

pub some-opening : (u : Setup) → u.plan.n ≢ 0 → opening_or u ≡ opening_reading u
some-opening u h = rw (ne_eqb u.plan.n 0 h)

-- a was skimmed; u is the setup
skims : (s : List ℕ) (a : Read) (u : Setup) → a ≡ skimmed s → u ≡ (reading s).setup → skimmed_reading a u ≡ reading s
skims s a u h v = ap₂ skimmed_reading h v ∙ skimmed-reading s

pub skims-opening : (s : List ℕ) (a : Read) (u : Setup) → a ≡ skimmed s → a ≡ Read.Opening → u ≡ (reading s).setup → opening_or u ≡ reading s
skims-opening s a u h q v = ap (λ (x : Read). skimmed_reading x u) (sym q) ∙ skims s a u h v

pub skims-plain : (s : List ℕ) (a : Read) → a ≡ skimmed s → (a ≡ Read.Opening → ⊥) → read_as a no_setup ≡ reading s
skims-plain s (Read.Event e) h o = skims s (Read.Event e) (reading s).setup h refl
skims-plain s Read.Opening h o = absurd (o refl)
skims-plain s Read.NoForm h o = skims s Read.NoForm (reading s).setup h refl
