-- The promises of the printout. Assumes nothing.
use Rattle.std.specs.Prelude.{Ok, Result}
use mathlib.Core.Path.{◌≡◌, refl, sym, ap, ap₂, ◌∙◌, subst}
use mathlib.Core.Logic.{⊎_elim}
use mathlib.Core.Bool.{Bool, true, false}
use mathlib.Core.List.{List, [], ◌∷◌, ◌++◌, append_assoc, append-nil}
use Prim.Native.Nat.{ℕ, ◌+◌, ◌≤◌, ◌<◌}
use native.Mathlib.Omega.{arith}
use lib.ListN.{length, take, drop, replicate, take-append-drop, length-replicate}
use lib.Seq.{take_at, length-take-le}
use borrow.Author.Tests.{le-ltb}
use Rattle.lines.specs.declared.Next.TheVariants.{Unfinished}
use Rattle.lines.specs.Clauses.{written_bytes}
use Rattle.lines.specs.Printout.{printed_most}
use Rattle.lines.specs.Splitting.{line_most, next_line, lines_after, input_lines, remainder}
use Rattle.lines.specs.Promises.{Tells}
use Rattle.lines.proofs.Splitting.{next-line}
use Rattle.printout.specs.declared.Served.{Served}
use Rattle.printout.specs.Printout.{Standing, standing_of, at_start, printed_from, printout}
use Rattle.printout.specs.Clauses.{Prints, place_at, Advance, fed, Begun, Feeds, Serves, closing_most}
use Rattle.printout.specs.Promises.{Call, End, CourseTo, written, PrintsWhole, GoesOn}
use Rattle.printout.proofs.Feeding.{fed-append, printed-fed}

-- ---- the end

-- a text that was printed is what the answer counts
pub prints-text : (most : ℕ) (words out : List ℕ) (r : Result ℕ ℕ) (after : List ℕ) → most ≤ length out → Prints most words out r after → take (written_bytes r) after ≡ words
prints-text most words out r after h p =
    let n = le-ltb _ _ h in
    let q : r ≡ Ok (length words) = rw n at p.0 in
    let t : after ≡ words ++ drop (length words) out = rw n at p.1 in
    ap₂ (λ (a : Result ℕ ℕ) (b : List ℕ). take (written_bytes a) b) q t ∙ take_at words (drop (length words) out) (length words) refl

-- what is left of the input is one line
pub left-lines : (begun rest : List ℕ) → next_line rest ≡ Unfinished → lines_after begun rest ≡ remainder (begun ++ rest)
left-lines begun rest h =
    let t : Tells rest Unfinished = subst (Tells rest) h (next-line rest) in
    ap (lines_after begun) (sym (append-nil rest)) ∙ t.1 begun []

-- ---- one call

-- the bytes that it used, and the rest of the input
pub split-bytes : (bytes input more : List ℕ) (k : ℕ) → k ≤ length bytes → input ≡ bytes ++ more → input ≡ take k bytes ++ drop k input
split-bytes bytes input more k h e =
    let b : input ≡ take k bytes ++ (drop k bytes ++ more) = e ∙ ap (λ (l : List ℕ). l ++ more) (sym (take-append-drop k bytes)) ∙ append_assoc (take k bytes) (drop k bytes) more in
    let t : take k input ≡ take k bytes = ap (take k) b ∙ take_at (take k bytes) (drop k bytes ++ more) k (length-take-le k bytes h) in
    sym (take-append-drop k input) ∙ ap (λ (l : List ℕ). l ++ drop k input) t

-- the text that it printed
feeds-text : (x : Standing) (begun s out : List ℕ) (y : Standing) (late : Bool) (k : ℕ) (after : List ℕ) → Feeds x begun s out y late k after
    → take k after ≡ (fed (place_at x begun) s).text
feeds-text x begun s out y late k after f = ap (take k) f.text ∙ take_at (fed (place_at x begun) s).text (drop k out) k (sym f.bytes)

-- ---- all of them

-- the calls cs, and what E says of the last one, where the bytes that they used lead as f says
pub record Arrives (E : Standing → Bool → List ℕ → Type 0) (cs : List Call) (rest : List ℕ) (f : Advance) : Type 0 where
  pub late : Bool
  pub begins : Begun late f.place.begun
  pub ends : E f.place.standing late rest
  pub text : (e : End) → written cs e ≡ f.text ++ take (written_bytes e.answer) e.after

-- what they used of the input, and what is left
pub record Split (E : Standing → Bool → List ℕ → Type 0) (x : Standing) (begun input : List ℕ) (cs : List Call) : Type 0 where
  pub used : List ℕ
  pub rest : List ℕ
  pub whole : used ++ rest ≡ input
  pub unended : next_line rest ≡ Unfinished
  pub arrives : Arrives E cs rest (fed (place_at x begun) used)

pub course-split : (E : Standing → Bool → List ℕ → Type 0) (cs : List Call) (x : Standing) (late : Bool) (begun input : List ℕ) → Begun late begun
    → CourseTo E x late input cs → Split E x begun input cs
course-split E [] x late begun input b c =
    record { used = []; rest = input; whole = refl; unended = c.0; arrives = record { late = late; begins = b; ends = c.1; text = λ e. refl } }
course-split E (d ∷ cs) x late begun input b c =
    step (c.1.feeds begun b) (course-split E cs y d.served.late)
  where
    a : List ℕ
    a = take d.served.used d.bytes

    y : Standing
    y = standing_of d.served.session d.tally d.network

    F : Advance
    F = fed (place_at x begun) a

    step : Feeds x begun a d.out y d.served.late d.served.printed d.after
        → ((begun' input' : List ℕ) → Begun d.served.late begun' → CourseTo E y d.served.late input' cs → Split E y begun' input' cs)
        → Split E x begun input (d ∷ cs)
    step f g =
        let l : Split E F.place.standing F.place.begun (drop d.served.used input) cs =
        subst (λ (z : Standing). Split E z F.place.begun (drop d.served.used input) cs) f.state
        (g F.place.begun (drop d.served.used input) f.begins c.2) in
        record {
          used = a ++ l.used;
          rest = l.rest;
          whole = append_assoc a l.used l.rest ∙ ap (λ (z : List ℕ). a ++ z) l.whole
              ∙ sym (split-bytes d.bytes input c.0.0 d.served.used c.1.within c.0.1);
          unended = l.unended;
          arrives = subst (Arrives E (d ∷ cs) l.rest) (sym (fed-append (place_at x begun) a l.used)) (record {
            late = l.arrives.late;
            begins = l.arrives.begins;
            ends = l.arrives.ends;
            text = λ e. ap₂ (λ (s t : List ℕ). s ++ t) (feeds-text x begun a d.out y d.served.late d.served.printed d.after f)
                (l.arrives.text e)
                ∙ sym (append_assoc F.text (fed F.place l.used).text (take (written_bytes e.answer) e.after));
          });
        }

pub prints-whole : PrintsWhole
unfolding printout input_lines
prints-whole input cs e c =
    let l = course-split _ cs at_start false [] input refl c in
    let f : Advance = fed (place_at at_start []) l.used in
    let end : take (written_bytes e.answer) e.after ≡ printed_from f.place.standing (lines_after f.place.begun l.rest) =
    prints-text closing_most _ e.out e.answer e.after l.arrives.ends.0
    (l.arrives.ends.1 f.place.standing.state f.place.begun l.arrives.begins)
    ∙ ap (printed_from f.place.standing) (sym (left-lines f.place.begun l.rest l.unended)) in
    l.arrives.text e ∙ ap (λ (t : List ℕ). f.text ++ t) end ∙ sym (printed-fed (place_at at_start []) l.used l.rest)
    ∙ ap (λ (s : List ℕ). printed_from at_start (lines_after [] s)) l.whole

-- ---- a call that used no bytes

-- some bytes are begun, whichever are
pub some-begun : (late : Bool) → (begun : List ℕ) × Begun late begun
some-begun false = ([], refl)
some-begun true = (replicate 4801 0, subst (λ (k : ℕ). line_most < k) (sym (length-replicate {A = ℕ} 4801 0)) (omega arith))

-- it printed none
none-printed : (x : Standing) (late : Bool) (bytes out tally network : List ℕ) (r : Served) (after : List ℕ) → Serves x late bytes out tally network r after → r.used ≡ 0 → r.printed ≡ 0
none-printed x late bytes out tally network r after s z =
    let b = some-begun late in
    (s.feeds b.0 b.1).bytes ∙ ap (λ (k : ℕ). length (fed (place_at x b.0) (take k bytes)).text) z

pub goes_on : GoesOn
goes_on x late bytes out tally network r after s h z =
    let n = none-printed x late bytes out tally network r after s z in
    ⊎_elim (λ (l : length out < r.printed + printed_most). absurd (omega arith))
    (λ (q : next_line (drop r.used bytes) ≡ Unfinished). ap (λ (k : ℕ). next_line (drop k bytes)) (sym z) ∙ q) s.stops
