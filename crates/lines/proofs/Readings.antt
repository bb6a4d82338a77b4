-- What it is for a line to be read: in one way only, and check 1 where it is none of the forms. Assumes nothing.
use mathlib.Core.Path.{◌≡◌, refl, sym, ap, ◌∙◌}
use mathlib.Core.Logic.{inl, inr, ⊎_elim}
use Prim.Native.Nat.{ℕ}
use native.Mathlib.Omega.{arith}
use mathlib.Core.List.{List}
use Rattle.types.specs.declared.Event.{Event}
use Rattle.types.specs.declared.Setup.{Setup}
use Rattle.lines.specs.declared.Read.{Read}
use Rattle.lines.specs.Forms.{EventLine, SetupLine}
use Rattle.lines.specs.Clauses.{Reading, read_check, Reads}
use Rattle.lines.specs.Promises.{Formed, OneReading, Judges}

-- a form is not refused
taken : (s : List ℕ) (r : Reading) → Reads s r → Formed s → read_check r.read ≡ 0
taken s r h =
    ⊎_elim (λ (x : (e : Event) × EventLine s e). ap (λ (y : Reading). read_check y.read) (h.from_event x.0 x.1))
    (λ (x : (u : Setup) × SetupLine s u). ap (λ (y : Reading). read_check y.read) (h.from_setup x.0 x.1))

pub judges : (s : List ℕ) (r : Reading) → Reads s r → Judges s r
judges s r h = by r.read refl
  where
    by : (x : Read) → r.read ≡ x → Judges s r
    by (Read.Event e) q = inl (ap read_check q, inl (e, h.event e q))
    by Read.Opening q = inl (ap read_check q, inr (r.setup, h.opening q))
    by Read.NoForm q =
        let n : read_check r.read ≡ 1 = ap read_check q in
        inr (n, λ (f : Formed s). let z : read_check r.read ≡ 0 = taken s r h f in omega arith)

pub one-reading : OneReading
one-reading s r r' h h' = by r.read refl
  where
    other : (x : Read) → r'.read ≡ x → r.read ≡ Read.NoForm → r ≡ r'
    other (Read.Event e) q n = h.from_event e (h'.event e q) ∙ sym (h'.from_event e (h'.event e q))
    other Read.Opening q n = h.from_setup _ (h'.opening q) ∙ sym (h'.from_setup _ (h'.opening q))
    other Read.NoForm q n = h.from_nothing n ∙ sym (h'.from_nothing q)

    by : (x : Read) → r.read ≡ x → r ≡ r'
    by (Read.Event e) q = h.from_event e (h.event e q) ∙ sym (h'.from_event e (h.event e q))
    by Read.Opening q = h.from_setup _ (h.opening q) ∙ sym (h'.from_setup _ (h.opening q))
    by Read.NoForm q = other r'.read refl q
