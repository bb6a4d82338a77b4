-- No form has a newline in it, so a schedule of forms is cut into just these. Assumes nothing.
use mathlib.Core.Path.{◌≡◌, refl, sym, ap, ◌∙◌}
use mathlib.Core.Logic.{inl, inr, ⊎_elim}
use mathlib.Core.Bool.{Bool, true, false, not, ◌&&◌, cond}
use Prim.Native.Nat.{ℕ, zero, suc, ◌/◌, ◌%◌}
use native.Mathlib.Omega.{arith}
use mathlib.Core.List.{List, [], ◌∷◌, ◌++◌, append_assoc, append-nil}
use lib.ListN.{length}
use lib.Dec.{T, eqb, ltb}
use borrow.Author.Tests.{ne_eqb}
use Rattle.base.specs.Tests.{by_cond, T_and, T-left, T-right}
use Rattle.types.specs.declared.Message.{Message}
use Rattle.types.specs.declared.Message.TheVariants.{View, Vote, Vc, Qc}
use Rattle.types.specs.declared.Event.{Event}
use Rattle.types.specs.declared.Event.TheVariants.{Deliver, Sign, Show, Settle, Tick}
use Rattle.types.specs.declared.Setup.{Setup}
use Rattle.types.specs.Runs.{plan_numbers, usual_numbers}
use Rattle.lines.specs.Decimal.{digit, digits_in, decimal}
use Rattle.lines.specs.Forms.{newline, close_bracket, message_form, event_form, further_clocks, clocks_form, line_clocks, set_form, plan_form, setup_form, usual_form, SetupBytes, EventLine, SetupLine, one_blank, open_bracket, joined, spaced, message_fields}
use Rattle.lines.specs.Clauses.{line}
use Rattle.lines.specs.Splitting.{before_newline, ended, lines_after, input_lines}
use Rattle.lines.specs.Promises.{Formed, schedule_of, CutsBack}

-- ---- bytes that are no newline

abbrev clean : List ℕ → Bool
clean [] = true
clean (b ∷ l) = not (eqb b newline) && clean l

clean-append : (a b : List ℕ) → T (clean a) → T (clean b) → T (clean (a ++ b))
clean-append [] b h k = k
clean-append (x ∷ a) b h k =
    T_and (not (eqb x newline)) (clean (a ++ b)) (T-left (not (eqb x newline)) (clean a) h) (clean-append a b (T-right (not (eqb x newline)) (clean a) h) k)

clean-digit : (d : ℕ) → T (clean (digit d ∷ []))
clean-digit d = let e : eqb (digit d) newline ≡ false = ne_eqb (digit d) newline (λ (q : digit d ≡ newline). omega arith) in rw e tt

clean-digits : (k n : ℕ) → T (clean (digits_in k n))
clean-digits zero n = clean-digit n
clean-digits (suc k) n =
    by_cond (λ (l : List ℕ). T (clean l)) (ltb n 10) (digit n ∷ []) _ (λ _. clean-digit n)
    (λ _. clean-append (digits_in k (n / 10)) _ (clean-digits k (n / 10)) (clean-digit (n % 10)))

-- a number, and what follows it
clean-number : (n : ℕ) (r : List ℕ) → T (clean r) → T (clean (decimal n ++ r))
unfolding decimal
clean-number n r h = clean-append (digits_in 19 n) r (clean-digits 19 n) h

-- numbers behind blanks, and what follows them
clean-spaced : (l : List ℕ) (r : List (List ℕ)) → T (clean (joined r)) → T (clean (joined (spaced l ++ r)))
clean-spaced [] r h = h
clean-spaced (n ∷ l) r h = clean-number n (joined (spaced l ++ r)) (clean-spaced l r h)

-- ---- forms

clean-message : (m : Message) → T (clean (message_form m))
unfolding message_form
clean-message (View w p) = clean-spaced (message_fields (View w p)) (close_bracket ∷ []) tt
clean-message (Vote w p) = clean-spaced (message_fields (Vote w p)) (close_bracket ∷ []) tt
clean-message (Vc w p) = clean-spaced (message_fields (Vc w p)) (close_bracket ∷ []) tt
clean-message (Qc w p) = clean-spaced (message_fields (Qc w p)) (close_bracket ∷ []) tt

clean-event : (e : Event) → T (clean (event_form e))
unfolding event_form
clean-event (Deliver m) = clean-append (message_form m) close_bracket (clean-message m) tt
clean-event (Sign m) = clean-append (message_form m) close_bracket (clean-message m) tt
clean-event (Show m) = clean-append (message_form m) close_bracket (clean-message m) tt
clean-event Settle = tt
clean-event (Tick m) = clean-number m _ tt

clean-further : (l : List ℕ) → T (clean (further_clocks l))
clean-further [] = tt
clean-further (c ∷ l) = clean-number c (further_clocks l) (clean-further l)

clean-clocks : (l : List ℕ) → T (clean (clocks_form l))
clean-clocks [] = tt
clean-clocks (c ∷ l) = clean-number c (further_clocks l) (clean-further l)

clean-plan : (ns : List ℕ) (u : Setup) → T (clean (plan_form ns u))
clean-plan ns u =
    let table : List (List ℕ) = one_blank ∷ open_bracket ∷ clocks_form (line_clocks u) ∷ close_bracket ∷ close_bracket ∷ [] in
    clean-spaced ns (set_form u.faulty ∷ table)
    (clean-number u.faulty (joined table) (clean-append (clocks_form (line_clocks u)) (joined (close_bracket ∷ close_bracket ∷ [])) (clean-clocks (line_clocks u)) tt))

clean-setup : (s : List ℕ) (u : Setup) → SetupBytes s u → T (clean s)
unfolding setup_form usual_form
clean-setup s u (inl e) = rw e (clean-plan (plan_numbers u.plan) u)
clean-setup s u (inr e) = rw e.0 (clean-plan (usual_numbers u.plan) u)

clean-form : (s : List ℕ) → Formed s → T (clean s)
clean-form s = ⊎_elim (λ (x : (e : Event) × EventLine s e). rw x.1.bytes (clean-event x.0)) (λ (x : (u : Setup) × SetupLine s u). clean-setup s x.0 x.1.bytes)

-- ---- the newline behind a form is the first

before-clean : (s more : List ℕ) → T (clean s) → before_newline (line s ++ more) ≡ length s
unfolding before_newline
before-clean [] more h = refl
before-clean (b ∷ s) more h = go (eqb b newline) (T-left (not (eqb b newline)) (clean s) h) (before-clean s more (T-right (not (eqb b newline)) (clean s) h))
  where
    go : (t : Bool) → T (not t) → before_newline (line s ++ more) ≡ length s → cond t 0 (suc (before_newline (line s ++ more))) ≡ suc (length s)
    go true n e = absurd n
    go false n e = ap suc e

pub before-form : (s : List ℕ) → Formed s → (more : List ℕ) → before_newline (line s ++ more) ≡ length s
before-form s f more = before-clean s more (clean-form s f)

-- ---- schedules

cut-first : (a s more : List ℕ) → T (clean s) → lines_after a (line s ++ more) ≡ ended (a ++ s) ∷ lines_after [] more
cut-first a [] more h = ap (λ (l : List ℕ). ended l ∷ lines_after [] more) (sym (append-nil a))
cut-first a (b ∷ s) more h =
    go (eqb b newline) (T-left (not (eqb b newline)) (clean s) h) (cut-first (a ++ (b ∷ [])) s more (T-right (not (eqb b newline)) (clean s) h))
  where
    go : (t : Bool) → T (not t) → lines_after (a ++ (b ∷ [])) (line s ++ more) ≡ ended ((a ++ (b ∷ [])) ++ s) ∷ lines_after [] more
        → cond t (ended a ∷ lines_after [] (line s ++ more)) (lines_after (a ++ (b ∷ [])) (line s ++ more)) ≡ ended (a ++ (b ∷ s)) ∷ lines_after [] more
    go true n e = absurd n
    go false n e = e ∙ ap (λ (l : List ℕ). ended l ∷ lines_after [] more) (append_assoc a (b ∷ []) s)

pub cuts_back : CutsBack
unfolding input_lines
cuts_back [] h = refl
cuts_back (s ∷ l) h = cut-first [] s (schedule_of l) (clean-form s h.0) ∙ ap (λ x. ended s ∷ x) (cuts_back l h.1)
