-- What a list of checks lets pass, and those of an event. Assumes nothing.
use mathlib.Core.Path.{◌≡◌, refl, ap}
use mathlib.Core.Bool.{Bool, true, false, ◌||◌, cond}
use mathlib.Core.Logic.{⊎_elim}
use mathlib.Core.List.{List, [], ◌∷◌, ◌++◌}
use Prim.Native.Nat.{ℕ, ◌*◌, ◌≤◌, ◌<◌}
use native.Mathlib.Omega.{arith}
use lib.Dec.{T, leb, ltb, le→leb, lt→ltb}
use Rattle.base.specs.ScanLaws.{first-le}
use Rattle.base.specs.Tests.{T_false, eq?, eq→eqb, or_left, or_right, or_cases, le?, by_cond}
use Rattle.types.specs.declared.Plan.{Plan}
use Rattle.types.specs.declared.Message.{Message}
use Rattle.types.specs.declared.Event.{Event}
use Rattle.types.specs.declared.Event.TheVariants.{Deliver, Sign, Show, Settle, Tick}
use Rattle.types.specs.declared.Form.{Form}
use Rattle.types.specs.Quantities.{row_words, network_least, network_most}
use Rattle.types.specs.Messages.{lacks_form}
use Rattle.model.specs.State.{State, After, refused}
use Rattle.model.specs.Checks.{Check, judged, network_outside, lengths_outside, unsound, named_outside, is_at, place_of, not_held}
use Rattle.model.specs.Events.{input_checks, change_checks, checks, effect, applied}

-- none of the checks refuses
abbrev pub Passes : List Check → Type 0
Passes [] = Unit {0}
Passes (c ∷ cs) = (T c.1 → ⊥) × Passes cs

-- what F says of each check that refuses
abbrev pub Refusals {κ} : (ℕ → Type κ) → List Check → Type κ
Refusals F [] = Unit {κ}
Refusals F (c ∷ cs) = (T c.1 → F c.0) × Refusals F cs

-- what holds of the refusals, and of a where all pass, holds
pub by-judged-each {κ} : {A : Type 0} (Q : A → Type κ) (refusal : ℕ → A) (cs : List Check) (a : A) → Refusals (λ r. Q (refusal r)) cs
    → (Passes cs → Q a) → Q (judged refusal cs a)
by-judged-each Q refusal [] a f g = g tt
by-judged-each Q refusal (c ∷ cs) a f g = by_cond Q c.1 (refusal c.0) (judged refusal cs a) f.0
    (λ t. by-judged-each Q refusal cs a f.1 (λ x. g (t, x)))

all-refusals {κ} : (F : ℕ → Type κ) (cs : List Check) → ((r : ℕ) → F r) → Refusals F cs
all-refusals F [] f = tt
all-refusals F (c ∷ cs) f = (λ t. f c.0, all-refusals F cs f)

pub by-judged {κ} : {A : Type 0} (Q : A → Type κ) (refusal : ℕ → A) (cs : List Check) (a : A) → ((r : ℕ) → Q (refusal r)) → (Passes cs → Q a)
    → Q (judged refusal cs a)
by-judged Q refusal cs a f g = by-judged-each Q refusal cs a (all-refusals (λ r. Q (refusal r)) cs f) g

-- two judgements by the same checks: what holds of each pair of refusals, and of a and b where all pass, holds of them
pub by-judged-two {κ} : {A B : Type 0} (Q : A → B → Type κ) (f : ℕ → A) (g : ℕ → B) (cs : List Check) (a : A) (b : B) → ((r : ℕ) → Q (f r) (g r))
    → (Passes cs → Q a b) → Q (judged f cs a) (judged g cs b)
by-judged-two Q f g [] a b refusals h = h tt
by-judged-two Q f g (c ∷ cs) a b refusals h = go c.1 (λ t. by-judged-two Q f g cs a b refusals (λ x. h (t, x)))
  where
    go : (d : Bool) → ((T d → ⊥) → Q (judged f cs a) (judged g cs b)) → Q (cond d (f c.0) (judged f cs a)) (cond d (g c.0) (judged g cs b))
    go true later = refusals c.0
    go false later = later (λ t. t)

-- ---- checks behind checks

pub judged-both : {A : Type 0} (refusal : ℕ → A) (xs ys : List Check) (a : A) → judged refusal (xs ++ ys) a ≡ judged refusal xs (judged refusal ys a)
judged-both refusal [] ys a = refl
judged-both refusal (x ∷ xs) ys a = ap (λ b. cond x.1 (refusal x.0) b) (judged-both refusal xs ys a)

pub passes-both : (xs ys : List Check) → Passes (xs ++ ys) → Passes xs × Passes ys
passes-both [] ys c = (tt, c)
passes-both (x ∷ xs) ys c = let b = passes-both xs ys c.1 in ((c.0, b.0), b.1)

-- ---- the checks of an event

-- none of them refuses
pub record Passed (e : Event) (s : State) : Type 0 where
  pub form : T (lacks_form e) → ⊥
  pub sound : T (unsound s) → ⊥
  pub input : Passes (input_checks e s)
  pub outcome : Passes (change_checks e s)

pub passed : (e : Event) (s : State) → Passes (checks e s) → Passed e s
unfolding checks
passed e s c =
    let b = passes-both (input_checks e s) (change_checks e s) c.1.1 in
    record { form = c.0; sound = c.1.0; input = b.0; outcome = b.1 }

-- what holds of the refusals, and of its effect where none refuses, holds of an event
pub by-applied {κ} : (Q : After → Type κ) (e : Event) (s : State) → ((r : ℕ) → Q (refused s r)) → (Passed e s → Q (effect e s)) → Q (applied e s)
unfolding applied
by-applied Q e s f g = by-judged Q (refused s) (checks e s) (effect e s) f (λ c. g (passed e s c))

-- the same by the check that refuses: 1, 9, or a later one
pub by-applied-each {κ} : (Q : After → Type κ) (e : Event) (s : State) → (T (lacks_form e) → Q (refused s 1)) → (T (unsound s) → Q (refused s 9))
    → ((r : ℕ) → 9 < r → Q (refused s r)) → (Passed e s → Q (effect e s)) → Q (applied e s)
unfolding applied checks
by-applied-each Q e s one nine later g = by-judged-each Q (refused s) (checks e s) (effect e s) (one, (nine, others e)) (λ c. g (passed e s c))
  where
    others : (d : Event) → Refusals (λ r. Q (refused s r)) (input_checks d s ++ change_checks d s)
    others (Deliver m) = (
      λ t. later 10 (omega arith),
      (λ t. later 11 (omega arith), (λ t. later 13 (omega arith), (λ t. later 17 (omega arith), (λ t. later 18 (omega arith), tt)))),
    )
    others (Sign m) = (
      λ t. later 10 (omega arith),
      (λ t. later 11 (omega arith), (λ t. later 12 (omega arith), (λ t. later 17 (omega arith), (λ t. later 18 (omega arith), tt)))),
    )
    others (Show m) = (
      λ t. later 10 (omega arith),
      (
        λ t. later 11 (omega arith),
        (λ t. later 12 (omega arith), (λ t. later 14 (omega arith), (λ t. later 17 (omega arith), (λ t. later 18 (omega arith), tt)))),
      ),
    )
    others Settle = (λ t. later 15 (omega arith), tt)
    others (Tick m) = tt

-- ---- tests that do not pass

pub neither : (a b : Bool) → (T (a || b) → ⊥) → (T a → ⊥) × (T b → ⊥)
neither a b no' = (λ x. no' (or_left a b x), λ x. no' (or_right a b x))

pub nor : (a b : Bool) → (T a → ⊥) → (T b → ⊥) → T (a || b) → ⊥
nor a b f g t = ⊎_elim f g (or_cases a b t)

pub or-none : (a b : Bool) → (T b → ⊥) → (a || b) ≡ a
or-none true b f = refl
or-none false true f = absurd (f tt)
or-none false false f = refl

pub not-ltb : (a b : ℕ) → (T (ltb a b) → ⊥) → b ≤ a
not-ltb a b no' = ⊎_elim (λ (l : b ≤ a). l) (λ (l : a < b). absurd (no' (lt→ltb a b l))) (le? b a)

pub not-leb : (a b : ℕ) → (T (leb a b) → ⊥) → b < a
not-leb a b no' = ⊎_elim (λ (l : a ≤ b). absurd (no' (le→leb a b l))) (λ (l : b < a). l) (le? a b)

-- ---- single checks

-- check 10 passed
pub named-within : (plan : Plan) (p w : ℕ) → (T (named_outside plan p w) → ⊥) → (p < plan.n) × (w < plan.views)
named-within plan p w no' = (
  ⊎_elim (λ (l : plan.n ≤ p). absurd (no' (or_left (leb plan.n p) (leb plan.views w) (le→leb _ _ l)))) (λ l. l) (le? plan.n p),
  ⊎_elim (λ (l : plan.views ≤ w). absurd (no' (or_right (leb plan.n p) (leb plan.views w) (le→leb _ _ l)))) (λ l. l) (le? plan.views w),
)

-- check 6 passed
pub record Lengths (form : Form) (plan : Plan) (tally network : ℕ) : Type 0 where
  pub rows : row_words * plan.views ≤ tally
  pub least : network_least form plan ≤ network
  pub most : network ≤ network_most

pub lengths-within : (form : Form) (plan : Plan) (t n : ℕ) → (T (lengths_outside form plan t n) → ⊥) → Lengths form plan t n
lengths-within form plan t n no' =
    let a = neither (ltb t (row_words * plan.views)) (network_outside form plan n) no' in
    let b = neither (ltb n (network_least form plan)) (ltb network_most n) a.1 in
    record { rows = not-ltb _ _ a.0; least = not-ltb _ _ b.0; most = not-ltb _ _ b.1 }

pub network-within : (form : Form) (plan : Plan) (t n : ℕ) → (T (lengths_outside form plan t n) → ⊥) → network_outside form plan n ≡ false
network-within form plan t n no' = T_false (network_outside form plan n) (neither (ltb t (row_words * plan.views)) (network_outside form plan n) no').1

-- check 13 passed
pub place_inside : (s : State) (m : Message) → (T (not_held s m) → ⊥) → place_of s m < s.run.held
place_inside s m is_held_lem = ⊎_elim
    (λ (e : place_of s m ≡ s.run.held). absurd (is_held_lem (eq→eqb _ _ e)))
    (λ ne. omega (arith, first-le (is_at s.form s.network m) s.run.held))
    (eq? (place_of s m) s.run.held)
