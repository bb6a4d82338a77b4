-- The lines of a report, written one behind the other. Assumes nothing.
use Rattle.std.proofs.Common.{◌≡◌, ℕ, ◌+◌, ◌-◌, ◌*◌, ◌≤◌, false, List, [], ◌∷◌, ◌++◌, length, take, drop, sym, refl, ap, ◌∙◌, subst, append_assoc, arith, length-append, drop-drop, le-ltb, Err, Ok, Result}
use borrow.Rule.Slice.PartMut.{mid_of, put_mid}
use Rattle.types.specs.declared.Answer.TheVariants as Answer
use Rattle.types.specs.declared.Totals.{Totals}
use Rattle.lines.specs.Decimal.{decimal}
use Rattle.lines.specs.Forms.{newline, joined, spaced, numbers_form}
use Rattle.lines.specs.Printout.{answer_form, traffic_text, totals_text, report_word_most, report_numbers_most, report_most}
use Rattle.lines.specs.Clauses.{line, Writes, Put, Prints}
use Rattle.lines.proofs.Decimals.{length_most}
use Rattle.lines.proofs.Putting.{left_over, rest-lent, rest_back, room-written, put_written, never-refused, put-prints}
use Rattle.writer.specs.Stamps.{stamp, Stamped}
use Rattle.writer.proofs.Stamping.{written_both}
use Rattle.writer.proofs.Spacing.{numbers-bytes}
use Rattle.writer.proofs.Writing.{stamp-front}

-- ---- how long a line is

spaced-most : (l : List ℕ) → length (joined (spaced l)) ≤ 21 * length l
spaced-most [] = omega arith
spaced-most (n ∷ l) = omega (arith, spaced-most l, length-append (decimal n) (joined (spaced l)), length_most n)

pub line-most : (w l : List ℕ) → length w ≤ report_word_most → length l ≤ report_numbers_most → length (line (numbers_form w l)) ≤ report_most
line-most w l hw hl =
    omega (arith, length-append (numbers_form w l) (newline ∷ []), numbers-bytes w l (length (joined (spaced l))) refl, spaced-most l)

-- ---- a line behind others

module _ (w l d f : List ℕ) (at : ℕ) (r : Result ℕ ℕ) (room : at + report_most ≤ length d) (few : length w ≤ report_word_most) (most : length l ≤ report_numbers_most)
    (x : Writes false (numbers_form w l) (mid_of at (length d - at) d) r f) where
  fits : length (line (numbers_form w l)) ≤ length (mid_of at (length d - at) d)
  fits = omega (arith, line-most w l few most, left_over at d)

  pub line-written : (k : ℕ) → r ≡ Ok k → Put (line (numbers_form w l)) (drop at d) k f
  line-written k e = subst (λ (z : List ℕ). Put (line (numbers_form w l)) z k f) (rest-lent at d) (put_written (numbers_form w l) _ f r k x fits e)

  -- it is written there
  pub line-stamped : (k : ℕ) → r ≡ Ok k → Stamped d at (line (numbers_form w l)) (at + k) (put_mid at (length d - at) d f) × (at + k ≤ at + report_most)
  unfolding stamp
  line-stamped k e =
      let W : List ℕ = line (numbers_form w l) in
      let p = line-written k e in
      let b : at + k ≡ at + length W = ap (λ (i : ℕ). at + i) p.bytes in
      let rest : drop k (drop at d) ≡ drop (at + length W) d = drop-drop k at d ∙ ap (λ (i : ℕ). drop i d) b in (
        record {
          behind = b;
          bytes = rest_back at d f (omega arith) ∙ ap (λ (z : List ℕ). take at d ++ z) (p.text ∙ ap (λ (z : List ℕ). W ++ z) rest)
              ∙ sym (append_assoc (take at d) W (drop (at + length W) d));
        },
        omega (arith, p.bytes, line-most w l few most),
      )

  pub line_refused : {A : Type 0} (c : ℕ) → r ≡ Err c → A
  line_refused c e = absurd (never-refused (numbers_form w l) _ f r c x fits e)

-- the same line, of numbers that were asked for
pub line_as : {d e : List ℕ} {at r : ℕ} (w : List ℕ) {l l' : List ℕ} → l ≡ l' → Stamped d at (line (numbers_form w l)) r e → Stamped d at (line (numbers_form w l')) r e
line_as {d} {e} {at} {r} w q = subst (λ (l : List ℕ). Stamped d at (line (numbers_form w l)) r e) q

-- six of them
pub six-stamped : {d e f g h i j : List ℕ} {p q r s t u : ℕ} {v w x y z last : List ℕ} → Stamped d 0 v p e → Stamped e p w q f → Stamped f q x r g
    → Stamped g r y s h → Stamped h s z t i → Stamped i t last u j → Stamped d 0 (v ++ w ++ x ++ y ++ z ++ last) u j
six-stamped {d} a b c k m n =
    let o : 0 ≤ length d = omega arith in written_both o (written_both o (written_both o (written_both o (written_both o a b) c) k) m) n

-- ---- the whole text

-- written from the first byte on
pub prints-stamped : (most : ℕ) (text d : List ℕ) (k : ℕ) (e : List ℕ) → most ≤ length d → Stamped d 0 text k e → Prints most text d (Ok k) e
prints-stamped most text d k e h s =
    let b : k ≡ length text = omega (arith, s.behind) in
    put-prints most text d k e h (record { bytes = b; text = s.bytes ∙ stamp-front d text ∙ ap (λ (i : ℕ). text ++ drop i d) (sym b) })

-- one line
pub prints-line : (most : ℕ) (form d : List ℕ) (r : Result ℕ ℕ) (e : List ℕ) → most ≤ length d → length (line form) ≤ most → Writes false form d r e
    → Prints most (line form) d r e
prints-line most form d r e h l w =
    let n = le-ltb _ _ h in
    let u = room-written form d e r w (omega arith) in
    (rw n u.0, rw n u.1)

-- which of the two it is
pub text-told : (x : Totals) → totals_text (Ok x) ≡ traffic_text x.traffic x.held
unfolding totals_text
text-told x = refl

pub text-refused : (check : ℕ) → totals_text (Err check) ≡ line (answer_form (Answer.Refused check))
unfolding totals_text
text-refused check = refl
