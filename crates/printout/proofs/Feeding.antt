-- The bytes of an input, in whatever pieces they come. Assumes nothing.
use mathlib.Core.Path.{◌≡◌, refl, sym, ap, ◌∙◌}
use mathlib.Core.Bool.{Bool, true, false, cond}
use Prim.Native.Nat.{ℕ, suc, ◌≤◌, ◌<◌}
use native.Mathlib.Omega.{arith}
use mathlib.Core.List.{List, [], ◌∷◌, ◌++◌, append_assoc, append-nil}
use lib.ListN.{length, take}
use lib.Dec.{eqb}
use Rattle.lines.specs.Forms.{newline}
use Rattle.lines.specs.Splitting.{Cut, before_newline, ended, lines_after, cut_read}
use Rattle.reader.specs.Lines.{reading}
use Rattle.printout.specs.Printout.{Standing, reply, printed_line, standing_after, printed_from}
use Rattle.printout.specs.Clauses.{Place, place_at, line_ended, fresh, longer, Advance, behind, fed}

-- one piece and then another
pub fed-append : (p : Place) (a b : List ℕ) → fed p (a ++ b) ≡ behind (fed p a).text (fed (fed p a).place b)
fed-append p [] b = refl
fed-append p (c ∷ a) b = go (eqb c newline) (fed-append (fresh p) a b) (fed-append (longer p c) a b)
  where
    go : (t : Bool) → fed (fresh p) (a ++ b) ≡ behind (fed (fresh p) a).text (fed (fed (fresh p) a).place b)
        → fed (longer p c) (a ++ b) ≡ behind (fed (longer p c) a).text (fed (fed (longer p c) a).place b)
        → cond t (behind (printed_line (line_ended p)) (fed (fresh p) (a ++ b))) (fed (longer p c) (a ++ b))
        ≡ behind (cond t (behind (printed_line (line_ended p)) (fed (fresh p) a)) (fed (longer p c) a)).text
        (fed (cond t (behind (printed_line (line_ended p)) (fed (fresh p) a)) (fed (longer p c) a)).place b)
    go true f g =
        ap (behind (printed_line (line_ended p))) f
        ∙ ap (λ (t : List ℕ). record { place = (fed (fed (fresh p) a).place b).place; text = t })
        (sym (append_assoc (printed_line (line_ended p)) (fed (fresh p) a).text (fed (fed (fresh p) a).place b).text))
    go false f g = g

-- the place behind bytes without a newline
abbrev pub within : Place → List ℕ → Place
within p s = place_at p.standing (p.begun ++ s)

within_more : (p : Place) (b : ℕ) (s : List ℕ) → within (longer p b) s ≡ within p (b ∷ s)
within_more p b s = ap (place_at p.standing) (append_assoc p.begun (b ∷ []) s)

-- bytes without a newline print nothing
pub fed-within : (p : Place) (s : List ℕ) → length s ≤ before_newline s → fed p s ≡ record { place = within p s; text = [] }
unfolding before_newline
fed-within p [] = λ h. ap (λ (l : List ℕ). record { place = place_at p.standing l; text = [] }) (sym (append-nil p.begun))
fed-within p (b ∷ s) = go (eqb b newline) (fed-within (longer p b) s)
  where
    go : (t : Bool) → (length s ≤ before_newline s → fed (longer p b) s ≡ record { place = within (longer p b) s; text = [] })
        → suc (length s) ≤ cond t 0 (suc (before_newline s))
        → cond t (behind (printed_line (line_ended p)) (fed (fresh p) s)) (fed (longer p b) s) ≡ record { place = within p (b ∷ s); text = [] }
    go true f h = absurd (omega arith)
    go false f h = f (omega arith) ∙ ap (λ (q : Place). record { place = q; text = [] }) (within_more p b s)

-- the line begun has ended
abbrev pub told : Place → Advance
told p = record { place = fresh p; text = printed_line (line_ended p) }

-- those up to the first newline, and it, print the line that it ends
pub fed-line : (p : Place) (s : List ℕ) → before_newline s < length s
    → fed p (take (suc (before_newline s)) s)
    ≡ told (within p (take (before_newline s) s))
unfolding before_newline
fed-line p [] = λ h. absurd (omega arith)
fed-line p (b ∷ s) = go (eqb b newline) refl (fed-line (longer p b) s)
  where
    one : record { place = fresh p; text = printed_line (line_ended p) ++ [] } ≡ told p
    one = ap (λ (l : List ℕ). record { place = fresh p; text = l }) (append-nil (printed_line (line_ended p)))

    go : (t : Bool) → eqb b newline ≡ t
        → (before_newline s < length s → fed (longer p b) (take (suc (before_newline s)) s) ≡ told (within (longer p b) (take (before_newline s) s)))
        → cond t 0 (suc (before_newline s)) < suc (length s)
        → fed p (take (suc (cond t 0 (suc (before_newline s)))) (b ∷ s))
        ≡ told (within p (take (cond t 0 (suc (before_newline s))) (b ∷ s)))
    go true e f h = rw e (one ∙ ap told (ap (place_at p.standing) (sym (append-nil p.begun))))
    go false e f h = rw e (f (omega arith) ∙ ap told (within_more p b (take (before_newline s) s)))

-- ---- a whole input and its pieces

-- F is asked of lines in turn: of each, by what is printed for it and by F of the others
module _ {A : Type 0} (F : Standing → List Cut → A) (also : List ℕ → A → A) (none : (z : A) → z ≡ also [] z)
    (both : (a b : List ℕ) (z : A) → also a (also b z) ≡ also (a ++ b) z)
    (turn : (x : Standing) (c : Cut) (cs : List Cut)
    → let r = reply (cut_read reading c) x in F x (c ∷ cs) ≡ also (printed_line r) (F r.standing cs)) where
  abbrev from : Place → List ℕ → A
  from p s = F p.standing (lines_after p.begun s)

  pub lines-fed : (p : Place) (s more : List ℕ) → from p (s ++ more) ≡ also (fed p s).text (from (fed p s).place more)
  lines-fed p [] more = none (from p more)
  lines-fed p (b ∷ s) more = go (eqb b newline) (lines-fed (fresh p) s more) (lines-fed (longer p b) s more)
    where
      go : (t : Bool) → from (fresh p) (s ++ more) ≡ also (fed (fresh p) s).text (from (fed (fresh p) s).place more)
          → from (longer p b) (s ++ more) ≡ also (fed (longer p b) s).text (from (fed (longer p b) s).place more)
          → F p.standing (cond t (ended p.begun ∷ lines_after [] (s ++ more)) (lines_after (p.begun ++ (b ∷ [])) (s ++ more)))
          ≡ also (cond t (behind (printed_line (line_ended p)) (fed (fresh p) s)) (fed (longer p b) s)).text
          (from (cond t (behind (printed_line (line_ended p)) (fed (fresh p) s)) (fed (longer p b) s)).place more)
      go true f g =
          turn p.standing (ended p.begun) (lines_after [] (s ++ more)) ∙ ap (also (printed_line (line_ended p))) f
          ∙ both (printed_line (line_ended p)) (fed (fresh p) s).text (from (fed (fresh p) s).place more)
      go false f g = g

-- what is printed for the whole is what the pieces print
pub printed-fed : (p : Place) (s more : List ℕ)
    → printed_from p.standing (lines_after p.begun (s ++ more))
    ≡ (fed p s).text ++ printed_from (fed p s).place.standing (lines_after (fed p s).place.begun more)
printed-fed = lines-fed printed_from (λ a z. a ++ z) (λ z. refl) (λ a b z. sym (append_assoc a b z)) (λ x c cs. refl)

-- what it leaves is what they leave
pub standing-fed : (p : Place) (s more : List ℕ)
    → standing_after p.standing (lines_after p.begun (s ++ more))
    ≡ standing_after (fed p s).place.standing (lines_after (fed p s).place.begun more)
standing-fed = lines-fed standing_after (λ a z. z) (λ z. refl) (λ a b z. refl) (λ x c cs. refl)
