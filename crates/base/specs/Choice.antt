-- Which of two a test chooses, and what a test of several parts answers, as rules by which `search` finds it. Assumes nothing.
use Rattle.std.specs.Prelude.{◌≡◌, refl, Bool, true, false, not, ◌&&◌, ◌||◌, cond, T}
use Rattle.std.proofs.Common.{sym, ◌∙◌, subst, lt-ltb, le-ltb, le-leb, eq-eqb, ne_eqb}
use Rattle.std.proofs.lemmas.Bool.{lt-leb}

pub cond_yes : {A : Type 0} (t : Bool) (r a b : A) → t ≡ true → r ≡ a → r ≡ cond t a b
cond_yes t r a b e q = rw e q

pub cond_no : {A : Type 0} (t : Bool) (r a b : A) → t ≡ false → r ≡ b → r ≡ cond t a b
cond_no t r a b e q = rw e q

pub or-first : (a b : Bool) → a ≡ true → (a || b) ≡ true
or-first a b e = rw e refl

pub or-second : (a b : Bool) → b ≡ true → (a || b) ≡ true
or-second true b e = refl
or-second false b e = e

pub or-neither : (a b : Bool) → a ≡ false → b ≡ false → (a || b) ≡ false
or-neither a b e q = rw e q

pub or-rest : (a b r : Bool) → a ≡ false → r ≡ b → r ≡ (a || b)
or-rest a b r e q = rw e q

-- and what it says that neither passes
pub or_parts : (a b : Bool) → (a || b) ≡ false → (a ≡ false) × (b ≡ false)
or_parts true b e = absurd (subst T e tt)
or_parts false b e = (refl, e)

pub and_both : (a b : Bool) → a ≡ true → b ≡ true → (a && b) ≡ true
and_both a b e q = rw e q

pub and-not-first : (a b : Bool) → a ≡ false → (a && b) ≡ false
and-not-first a b e = rw e refl

pub and-not-second : (a b : Bool) → b ≡ false → (a && b) ≡ false
and-not-second true b e = e
and-not-second false b e = refl

pub and-rest : (a b r : Bool) → a ≡ true → r ≡ b → r ≡ (a && b)
and-rest a b r e q = rw e q

pub not_yes : (a : Bool) → a ≡ true → not a ≡ false
not_yes a e = rw e refl

pub not-no : (a : Bool) → a ≡ false → not a ≡ true
not-no a e = rw e refl

-- a test that a call made
pub flag : (r t b : Bool) → r ≡ t → r ≡ b → t ≡ b
flag r t b e q = sym e ∙ q

pub ruleset choices = (cond_yes, cond_no, lt-ltb, le-ltb, le-leb, lt-leb, eq-eqb, ne_eqb)

-- for tests of several parts
pub ruleset parts = (or-first, or-second, or-neither, or-rest, and_both, and-not-first, and-not-second, and-rest, not_yes, not-no)
