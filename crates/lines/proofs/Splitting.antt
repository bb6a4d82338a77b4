-- What the next line tells of an input. Assumes nothing.
use mathlib.Core.Path.{◌≡◌, refl, sym, ap, ◌∙◌, subst}
use mathlib.Core.Bool.{Bool, true, false, cond}
use Prim.Native.Nat.{ℕ, suc, ◌≤◌, ◌<◌}
use native.Mathlib.Omega.{arith}
use mathlib.Core.List.{List, [], ◌∷◌, ◌++◌, append_assoc, append-nil}
use lib.ListN.{length, take, drop}
use lib.Dec.{eqb, leb, ltb}
use borrow.Author.Tests.{ltb-true, ltb-false, leb-true, leb-false}
use Rattle.lines.specs.declared.Next.{Next}
use Rattle.lines.specs.declared.Next.TheVariants.{Line, Long, Unfinished, Endless}
use Rattle.lines.specs.Forms.{newline}
use Rattle.lines.specs.Splitting.{line_most, before_newline, next_line, ended, lines_after, input_lines}
use Rattle.lines.specs.Promises.{Ended, Started, Tells, TellsNext}

abbrev Cuts : List ℕ → List ℕ → List ℕ → ℕ → Type 0
Cuts a s more k = k < length s → lines_after a (s ++ more) ≡ ended (a ++ take k s) ∷ lines_after [] (drop (suc k) s ++ more)

cuts : (a s more : List ℕ) → Cuts a s more (before_newline s)
unfolding before_newline
cuts a [] more = λ h. absurd (omega arith)
cuts a (b ∷ s) more = go (eqb b newline) (cuts (a ++ (b ∷ [])) s more)
  where
    go : (t : Bool) → Cuts (a ++ (b ∷ [])) s more (before_newline s)
        → cond t 0 (suc (before_newline s)) < suc (length s)
        → cond t (ended a ∷ lines_after [] (s ++ more)) (lines_after (a ++ (b ∷ [])) (s ++ more))
        ≡ ended (a ++ take (cond t 0 (suc (before_newline s))) (b ∷ s)) ∷ lines_after [] (drop (suc (cond t 0 (suc (before_newline s)))) (b ∷ s) ++ more)
    go true f h = ap (λ (l : List ℕ). ended l ∷ lines_after [] (s ++ more)) (sym (append-nil a))
    go false f h = f (omega arith) ∙ ap (λ (l : List ℕ). ended l ∷ lines_after [] (drop (suc (before_newline s)) s ++ more)) (append_assoc a (b ∷ []) (take (before_newline s) s))

starts : (a s more : List ℕ) → length s ≤ before_newline s → lines_after a (s ++ more) ≡ lines_after (a ++ s) more
unfolding before_newline
starts a [] more = λ h. ap (λ (l : List ℕ). lines_after l more) (sym (append-nil a))
starts a (b ∷ s) more = go (eqb b newline) (starts (a ++ (b ∷ [])) s more)
  where
    go : (t : Bool) → (length s ≤ before_newline s → lines_after (a ++ (b ∷ [])) (s ++ more) ≡ lines_after ((a ++ (b ∷ [])) ++ s) more)
        → suc (length s) ≤ cond t 0 (suc (before_newline s))
        → cond t (ended a ∷ lines_after [] (s ++ more)) (lines_after (a ++ (b ∷ [])) (s ++ more)) ≡ lines_after (a ++ (b ∷ s)) more
    go true f h = absurd (omega arith)
    go false f h = f (omega arith) ∙ ap (λ (l : List ℕ). lines_after l more) (append_assoc a (b ∷ []) s)

ends : (s : List ℕ) → before_newline s < length s → Ended s (before_newline s)
unfolding input_lines
ends s h = (h, λ start more. cuts start s more h)

started : (s : List ℕ) → length s ≤ before_newline s → Started s
started s h = λ start more. starts start s more h

-- where the next line ends, or that it does not
abbrev pub Found : List ℕ → Next → Type 0
Found s (Line e) = (e ≡ before_newline s) × (e < length s) × (e ≤ line_most)
Found s (Long e) = (e ≡ before_newline s) × (e < length s) × (line_most < e)
Found s Unfinished = (length s ≤ before_newline s) × (length s ≤ line_most)
Found s Endless = (length s ≤ before_newline s) × (line_most < length s)

pub next-found : (s : List ℕ) → Found s (next_line s)
unfolding next_line
next-found s = first (ltb (before_newline s) (length s)) refl
  where
    whole : (t : Bool) → leb (before_newline s) line_most ≡ t → before_newline s < length s → Found s (cond t (Line (before_newline s)) (Long (before_newline s)))
    whole true e h = (refl, h, leb-true _ _ e)
    whole false e h = (refl, h, leb-false _ _ e)

    part : (t : Bool) → leb (length s) line_most ≡ t → length s ≤ before_newline s → Found s (cond t Unfinished Endless)
    part true e h = (h, leb-true _ _ e)
    part false e h = (h, leb-false _ _ e)

    first : (t : Bool) → ltb (before_newline s) (length s) ≡ t
        → Found s (cond t (cond (leb (before_newline s) line_most) (Line (before_newline s)) (Long (before_newline s))) (cond (leb (length s) line_most) Unfinished Endless))
    first true e = whole (leb (before_newline s) line_most) refl (ltb-true _ _ e)
    first false e = part (leb (length s) line_most) refl (ltb-false _ _ e)

-- what a call answered is found
pub found : (s : List ℕ) (r n : Next) → r ≡ next_line s → r ≡ n → Found s n
found s r n q p = subst (Found s) (sym q ∙ p) (next-found s)

tells : (s : List ℕ) (r : Next) → Found s r → Tells s r
tells s (Line e) f = (f.2, subst (Ended s) (sym f.0) (ends s (subst (λ (k : ℕ). k < length s) f.0 f.1)))
tells s (Long e) f = (f.2, subst (Ended s) (sym f.0) (ends s (subst (λ (k : ℕ). k < length s) f.0 f.1)))
tells s Unfinished f = (f.1, started s f.0)
tells s Endless f = (f.1, started s f.0)

pub next-line : TellsNext
next-line s = tells s (next_line s) (next-found s)

-- a line that ends here ends before the last byte at hand
pub line-inside : (s : List ℕ) (r : Next) (e : ℕ) → r ≡ next_line s → r ≡ Line e → e < length s
line-inside s r e q p = (found s r (Line e) q p).1

pub long-inside : (s : List ℕ) (r : Next) (e : ℕ) → r ≡ next_line s → r ≡ Long e → e < length s
long-inside s r e q p = (found s r (Long e) q p).1
