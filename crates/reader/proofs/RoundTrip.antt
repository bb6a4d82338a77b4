-- Reading a line is right both ways: what it is read as is exactly what it is the form of. Assumes nothing.
use mathlib.Core.Path.{◌≡◌, refl, ap, ap₂, sym, ◌∙◌, subst}
use Prim.Native.Nat.{ℕ, ◌+◌}
use native.Mathlib.Omega.{arith}
use mathlib.Core.List.{List, [], ◌∷◌, ◌++◌, map}
use mathlib.Core.Logic.{⊎_elim, inl, inr}
use mathlib.Core.Bool.{true}
use lib.ListN.{length, length-append}
use lib.Dec.{leb, ltb}
use borrow.Author.Tests.{le-leb, lt-ltb}
use Rattle.types.specs.declared.Event.{Event}
use Rattle.types.specs.declared.Setup.{Setup}
use Rattle.types.specs.Quantities.{per_leader, per_leader_usual}
use Rattle.types.specs.Runs.{usual_numbers}
use Rattle.lines.specs.declared.Read.{Read}
use Rattle.lines.specs.declared.Read.TheVariants.{NoForm}
use Rattle.lines.specs.Forms.{newline, open_bracket, open_word, line_clocks, setup_form, usual_form, Below, EventLine, SetupLine, trimmed}
use Rattle.lines.specs.Clauses.{Reading, read_as, no_setup, event_reading, opening_reading, no_form, line}
use Rattle.lines.specs.Splitting.{line_most, next_line, ended, cut_read}
use Rattle.lines.specs.Promises.{NextForm, Formed, ReadsLines, JudgesLines, OneEvent, OneSetup, with_usual, ReadsSetups, NeverBoth, ShortForms, AllFormed, reading_of, readings_of, ReadsBack}
use Rattle.lines.proofs.Readings.{judges}
use Rattle.lines.proofs.Schedules.{before-form, cuts_back}
use Rattle.reader.specs.Lines.{event_at, event_as, opening_at, opening_as, reading}
use Rattle.std.specs.Prelude.{Option, Some, None}
use Rattle.reader.proofs.Words.{left-all, by_word, word-there, word-away}
use Rattle.reader.proofs.Events.{EventRead, event-only, inside, inside-form, inside-no-opening, event-there}
use Rattle.reader.proofs.Openings.{ReadAs, LineRead, below-with, below-without, opening-only, behind_open, Headed, setup-headed, opening-there}
use Rattle.reader.proofs.Lengths.{event-length, opening-length}

event-line : (s : List ℕ) (x : Option Event) → EventRead s x → ReadAs s (event_as x) no_setup
event-line s (Some e) h = h
event-line s None h = refl

line-only : (s : List ℕ) → LineRead s (reading s)
unfolding reading
line-only s =
    by_word (LineRead s) s 0 open_bracket _ no_form
    (λ a e. by_word (LineRead s) s a open_word (λ b. opening_as (opening_at s b)) _
    (λ b f. opening-only s b (e ∙ ap (λ (r : List ℕ). open_bracket ++ r) f))
    (event-line s (event_at s a) (event-only s a e)))
    refl

event-back : (s : List ℕ) (e : Event) → EventLine s e → reading s ≡ event_reading e
unfolding reading
event-back s e l =
    let P : Reading → Type 0 = λ (x : Reading). x ≡ event_reading e in
    word-there P s 0 open_bracket _ no_form (inside e) (left-all s _ (l.bytes ∙ inside-form e))
    (λ a h. word-away P s a open_word _ _ (inside e) h (inside-no-opening e)
    (ap (λ (x : Option Event). read_as (event_as x) no_setup) (event-there s a e h l.below l.formed)))

setup-back : (s : List ℕ) (u : Setup) → SetupLine s u → reading s ≡ opening_reading (trimmed u)
unfolding reading
setup-back s u l =
    let P : Reading → Type 0 = λ (x : Reading). x ≡ opening_reading (trimmed u) in
    let h : Headed s u = setup-headed s u l in
    word-there P s 0 open_bracket _ no_form (open_word ++ behind_open h.numbers u) (left-all s _ h.bytes)
    (λ a m. word-there P s a open_word _ _ (behind_open h.numbers u) m (λ b n. ap opening_as (opening-there s b u l h n)))

-- every line reads as what it is the form of, and as nothing else
pub reading-reads : ReadsLines reading
reading-reads s = record {
  event = λ e q. told (Read.Event e) q;
  opening = told Read.Opening;
  from_event = event-back s;
  from_setup = setup-back s;
  from_nothing = λ q. ap₂ read_as q (told NoForm q);
}
  where
    told : (x : Read) → (reading s).read ≡ x → ReadAs s x (reading s).setup
    told x q = subst (λ (y : Read). ReadAs s y (reading s).setup) q (line-only s)

-- check 1 where it is the form of nothing, and only there
pub reading-judges : JudgesLines reading
reading-judges s = judges s (reading s) (reading-reads s)

-- ---- forms and what they are the forms of

-- two events with one line are the same event
pub one-event : OneEvent
one-event s e e' l l' =
    let q : Read.Event e ≡ Read.Event e' = ap (λ (x : Reading). x.read) (sym (event-back s e l) ∙ event-back s e' l') in cc

-- two setups with one line differ in nothing but clocks from n on
pub one-setup : OneSetup
one-setup s u u' l l' = ap (λ (x : Reading). x.setup) (sym (setup-back s u l) ∙ setup-back s u' l')

-- written with k, and "read as k=3" without it
pub reads-setups : ReadsSetups reading
unfolding usual_form
reads-setups u f b t = (
  setup-back (setup_form u) u (record { formed = f; below = b; table = t; bytes = inl refl }),
  setup-back (usual_form u) (with_usual u) (record { formed = f; below = usual-below; table = t; bytes = inr (refl, refl) }),
)
  where
    numbers : List ℕ
    numbers = usual_numbers u.plan

    others : List ℕ
    others = u.faulty ∷ line_clocks u

    usual-below : Below (numbers ++ (per_leader_usual ∷ others))
    usual-below = below-with numbers others per_leader_usual (omega arith) (below-without numbers others (per_leader u.plan) b)

-- no line is the form of an event and of a setup
pub never_both : NeverBoth
never_both s e u l m =
    let q : Read.Event e ≡ Read.Opening = ap (λ (x : Reading). x.read) (sym (event-back s e l) ∙ setup-back s u m) in
    let z : ◌≡◌ {A = ℕ} 0 1 = cc in
    omega arith

-- every form is far shorter than "a line is at most 4,800 bytes" allows
pub short-forms : ShortForms
short-forms s =
    ⊎_elim (λ (x : (e : Event) × EventLine s e). rw x.1.bytes (event-length x.0))
    (λ (x : (u : Setup) × SetupLine s u). opening-length s x.0 x.1)

-- ---- what is written

pub next-form : NextForm
unfolding next_line
next-form s f more =
    let n : length (line s ++ more) ≡ length s + 1 + length more = length-append (line s) more ∙ ap (λ (k : ℕ). k + length more) (length-append s (newline ∷ [])) in
    let l : ltb (length s) (length (line s ++ more)) ≡ true = lt-ltb (length s) (length (line s ++ more)) (omega arith) in
    let h : leb (length s) line_most ≡ true = le-leb (length s) line_most (omega (arith, short-forms s f)) in
    rw (before-form s f more, l, h)

-- ---- a whole schedule

form-back : (s : List ℕ) (f : Formed s) → reading s ≡ reading_of s f
form-back s (inl x) = event-back s x.0 x.1
form-back s (inr x) = setup-back s x.0 x.1

pub line-back : (s : List ℕ) (f : Formed s) → cut_read reading (ended s) ≡ reading_of s f
line-back s f = let h : leb (length s) line_most ≡ true = le-leb (length s) line_most (omega (arith, short-forms s f)) in rw h (form-back s f)

lines-back : (l : List (List ℕ)) (h : AllFormed l) → map (cut_read reading) (map ended l) ≡ readings_of l h
lines-back [] h = refl
lines-back (s ∷ l) h = ap₂ (λ (x : Reading) (r : List Reading). x ∷ r) (line-back s h.0) (lines-back l h.1)

-- a schedule is read as the events and openings whose forms it is made of
pub reads-back : ReadsBack reading
reads-back l h = ap (map (cut_read reading)) (cuts_back l h) ∙ lines-back l h
