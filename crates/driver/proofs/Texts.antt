-- Texts printed into lent bytes. Assumes nothing.
use Rattle.std.specs.Prelude.{Ok}
use mathlib.Core.Path.{◌≡◌, refl, sym, ap, ◌∙◌, subst}
use mathlib.Core.Bool.{Bool, true, false, ◌||◌, cond}
use Prim.Native.Nat.{ℕ, ◌+◌, ◌-◌, ◌*◌, ◌≤◌, ◌<◌}
use native.Mathlib.Omega.{arith}
use native.Mathlib.Numerals.{add-one}
use mathlib.Core.List.{List, [], ◌∷◌, ◌++◌}
use lib.ListN.{length}
use borrow.Rule.Slice.PartMut.{mid_of, put_mid, same_len_mid}
use lib.Dec.{ltb}
use borrow.Author.Tests.{lt-ltb}
use Rattle.types.specs.declared.Answer.{Answer}
use Rattle.types.specs.declared.Run.{Run}
use Rattle.types.specs.Quantities.{table_clocks}
use Rattle.model.specs.State.{State, with_run, is_correct, view_of, clock_of}
use Rattle.lines.specs.Clauses.{line, Put}
use Rattle.lines.specs.Printout.{answer_form, processor_form, printed_most}
use Rattle.lines.specs.Splitting.{remainder}
use Rattle.lines.proofs.Printing.{answer-length, processor-length}
use Rattle.lines.proofs.Putting.{left_over, put-part, put-prints}
use Rattle.printout.specs.declared.Session.{Session}
use Rattle.printout.specs.Printout.{leaving, processor_lines, closing, printed_from}
use Rattle.printout.specs.Clauses.{Begun, closing_most, Closes}

-- ---- what has room

pub answer-room : (a : Answer) (out : List ℕ) → printed_most ≤ length out → length (line (answer_form a)) ≤ length out
answer-room a out h = omega (arith, answer-length a)

pub processor-room : (p view clock : ℕ) (out : List ℕ) → printed_most ≤ length out → length (line (processor_form p view clock)) ≤ length out
processor-room p view clock out h = omega (arith, processor-length p view clock)

-- ---- a text that is printed or not

pub put-yes : (t : Bool) (words out : List ℕ) (k : ℕ) (after : List ℕ) → t ≡ true → Put words out k after → Put (cond t words []) out k after
put-yes t words out k after e p = rw e p

-- ---- lines one behind the other, each into the bytes that the last ones left

-- text p is that of the first p lines
pub record Told (text : ℕ → List ℕ) (out : List ℕ) (p at : ℕ) (after : List ℕ) : Type 0 where
  pub put : Put (text p) out at after
  pub few : at ≤ p * printed_most
  pub same : length after ≡ length out

-- of so many lines each has room
module _ {text : ℕ → List ℕ} {out : List ℕ} {p at : ℕ} {e : List ℕ} (t : Told text out p at e) {most : ℕ} (l : p < most) (h : most * printed_most ≤ length out) where
  pub told-inside : at ≤ length e
  told-inside = omega (arith, t.few, t.same)

  pub told-room : printed_most ≤ length (mid_of at (length e - at) e)
  told-room = omega (arith, left_over at e, t.few, t.same)

  -- one line more
  module _ {piece : List ℕ} {m : ℕ} {f : List ℕ} (w : Put piece (mid_of at (length e - at) e) m f) (short : length piece ≤ printed_most) where
    pub told-fits : at + m ≤ length out
    told-fits = omega (arith, t.few, w.bytes)

    pub told_more : text (p + 1) ≡ text p ++ piece → length f ≡ length (mid_of at (length e - at) e) → Told text out (p + 1) (at + m) (put_mid at (length e - at) e f)
    told_more further q =
        record {
          put = rw further (put-part t.put told-inside w);
          few = omega (arith, t.few, w.bytes);
          same = same_len_mid at (length e - at) e f q ∙ t.same;
        }

pub told-all : (text : ℕ → List ℕ) (out : List ℕ) (most p at : ℕ) (e : List ℕ) → (p ≤ most) × Told text out p at e → most ≤ p → Put (text most) out at e
told-all text out most p at e t h = let q : p ≡ most = omega (arith, t.0) in subst (λ (k : ℕ). Put (text k) out at e) q t.1.put

-- ---- the processors

-- a processor's line, or none
abbrev processor_text : Run → ℕ → List ℕ
processor_text run p = cond (is_correct run p) (line (processor_form p (view_of run p) (clock_of run p))) []

one-most : (t : Bool) (p view clock : ℕ) → length (cond t (line (processor_form p view clock)) []) ≤ printed_most
one-most true p view clock = processor-length p view clock
one-most false p view clock = omega arith

module _ (run : Run) {out : List ℕ} {p at : ℕ} {e : List ℕ} (t : Told (processor_lines run) out p at e) {most : ℕ} (l : p < most) (h : most * printed_most ≤ length out)
    {m : ℕ} {f : List ℕ} (w : Put (processor_text run p) (mid_of at (length e - at) e) m f) where
  pub processor-fits : at + m ≤ length out
  processor-fits = told-fits t l h w (one-most (is_correct run p) p (view_of run p) (clock_of run p))

  pub processor-told : length f ≡ length (mid_of at (length e - at) e) → Told (processor_lines run) out (p + 1) (at + m) (put_mid at (length e - at) e f)
  processor-told q = told_more t l h w (one-most (is_correct run p) p (view_of run p) (clock_of run p)) (ap (processor_lines run) (add-one p)) q

-- ---- the end

-- the line that is left, if there is one
abbrev pub left_text : Bool → List ℕ
left_text t = cond t (line (answer_form (Answer.Refused 1))) []

pub closing-text : (s : Session) (x : State) (begun : List ℕ) (late : Bool) (rest : List ℕ) → Begun late begun
    → printed_from (leaving s.opened (with_run s.run x)) (remainder (begun ++ rest)) ≡ left_text (late || ltb 0 (length rest)) ++ closing s
closing-text s x [] true rest b = absurd (omega arith)
closing-text s x (c ∷ begun) true rest b = refl
closing-text s x begun false [] b = rw b refl
closing-text s x begun false (c ∷ rest) b = let l : 0 < length (c ∷ rest) = omega arith in let h : ltb 0 (length (c ∷ rest)) ≡ true = lt-ltb _ _ l in rw (b, h) refl

-- ---- all of the end

-- the line that is left has room
pub left-most : (t : Bool) (out : List ℕ) (k : ℕ) (after : List ℕ) → Put (left_text t) out k after → k ≤ printed_most
left-most true out k after p = omega (arith, p.bytes, answer-length (Answer.Refused 1))
left-most false out k after p = omega (arith, p.bytes)

-- and so have those of the processors
pub left-inside : (t : Bool) (out : List ℕ) (k : ℕ) (e : List ℕ) → Put (left_text t) out k e → closing_most ≤ length out → length e ≡ length out → k ≤ length e
left-inside t out k e p h l = omega (arith, left-most t out k e p)

pub closing-room : (t : Bool) (out : List ℕ) (k : ℕ) (e : List ℕ) → Put (left_text t) out k e → closing_most ≤ length out → length e ≡ length out
    → table_clocks * printed_most ≤ length (mid_of k (length e - k) e)
closing-room t out k e p h l = omega (arith, left-most t out k e p, left_over k e)

pub closes : (s : Session) (late : Bool) (rest out : List ℕ) (k : ℕ) (e : List ℕ) (m : ℕ) (f : List ℕ) → closing_most ≤ length out
    → Put (left_text (late || ltb 0 (length rest))) out k e → k ≤ length e → Put (closing s) (mid_of k (length e - k) e) m f
    → Closes s late rest out (Ok (k + m)) (put_mid k (length e - k) e f)
closes s late rest out k e m f h p l q x begun b =
    put-prints closing_most (printed_from (leaving s.opened (with_run s.run x)) (remainder (begun ++ rest))) out (k + m) (put_mid k (length e - k) e f) h
    (subst (λ (w : List ℕ). Put w out (k + m) (put_mid k (length e - k) e f)) (sym (closing-text s x begun late rest b)) (put-part p l q))
