-- A batch of lines is its lines one by one. Assumes nothing.
use mathlib.Core.Path.{◌≡◌, refl, sym, ap, ap₂, ◌∙◌}
use mathlib.Core.Bool.{Bool, true, false}
use mathlib.Core.List.{List, [], ◌∷◌, ◌++◌, append_assoc, append-nil}
use Prim.Native.Nat.{ℕ, zero, suc, ◌+◌, ◌-◌, ◌*◌, ◌≤◌, ◌<◌}
use native.Mathlib.Omega.{arith}
use native.Mathlib.Numerals.{add-one}
use lib.ListN.{length, get_or}
use borrow.Rule.Slice.PartMut.{mid_of, put_mid}
use Rattle.types.specs.declared.Event.{Event}
use Rattle.types.specs.declared.Event.TheVariants.{Deliver, Sign, Show, Settle, Tick}
use Rattle.types.specs.declared.Answer.{Answer}
use Rattle.types.specs.declared.Answer.TheVariants.{Refused}
use Rattle.model.specs.State.{State, After, check_of, ticks_of, refused}
use Rattle.model.specs.Events.{checks, applied}
use Rattle.liveness.proofs.Promises.{answers-told}
use Rattle.words.specs.declared.Numbers.{Numbers}
use Rattle.words.specs.Events.{event_words, event_of, event_numbers}
use Rattle.words.specs.Batches.{Worded, answered, words_applied}
use Rattle.words.proofs.Single.{event-back}
use Rattle.lines.specs.declared.Read.{Read}
use Rattle.lines.specs.Clauses.{line, Put}
use Rattle.lines.specs.Printout.{answer_form, printed_most}
use Rattle.lines.proofs.Printing.{answer-length}
use Rattle.printout.specs.Printout.{leaving, printed_answer, ticks_printed, event_reply}
use Rattle.printout.specs.Clauses.{place_at, behind}
use Rattle.driver.proofs.Texts.{Told, told-fits, told_more}
use Rattle.driver.specs.Batches.{gathered, NoOpening, replied, worded, open_as, closed_as, printed_as, printed_at, printed_up_to, advanced, Batched}

-- ---- printed from the words

abbrev four_before : ℕ → ℕ → ℕ → ℕ → List ℕ → List ℕ
four_before a b c d ws = a ∷ b ∷ c ∷ d ∷ ws

further-word : (a b c d : ℕ) (ws : List ℕ) (i j : ℕ) → i ≡ suc (suc (suc (suc j))) → get_or (four_before a b c d ws) i 0 ≡ get_or ws j 0
further-word a b c d ws i j e = rw e refl

-- the lines behind the first one
further-line : (opened : Bool) (a b c d : ℕ) (ws : List ℕ) (k : ℕ) → printed_at opened (four_before a b c d ws) (suc k) ≡ printed_at opened ws k
further-line opened a b c d ws k =
    let at : ℕ = event_words * k in
    rw (
      further-word a b c d ws (event_words * suc k) at (omega arith),
      further-word a b c d ws (event_words * suc k + 1) (at + 1) (omega arith),
      further-word a b c d ws (event_words * suc k + 2) (at + 2) (omega arith),
      further-word a b c d ws (event_words * suc k + 3) (at + 3) (omega arith),
    ) refl

printed-first : (opened : Bool) (a b c d : ℕ) (ws : List ℕ) (k : ℕ)
    → printed_up_to opened (four_before a b c d ws) (suc k) ≡ line (answer_form (printed_as opened a b c d)) ++ printed_up_to opened ws k
printed-first opened a b c d ws zero = sym (append-nil (line (answer_form (printed_as opened a b c d))))
printed-first opened a b c d ws (suc k) =
    ap₂ (λ (x : List ℕ) (y : Answer). x ++ line (answer_form y)) (printed-first opened a b c d ws k) (further-line opened a b c d ws k)
    ∙ append_assoc (line (answer_form (printed_as opened a b c d))) (printed_up_to opened ws k) _

-- the lines printed one behind the other
module _ (opened : Bool) (ws : List ℕ) {out : List ℕ} {i at : ℕ} {e : List ℕ} (t : Told (printed_up_to opened ws) out i at e) {most : ℕ} (l : i < most) (h : most * printed_most ≤ length out)
    {a : Answer} {m : ℕ} {f : List ℕ} (q : a ≡ printed_at opened ws i) (w : Put (line (answer_form a)) (mid_of at (length e - at) e) m f) where
  pub answer-fits : at + m ≤ length out
  answer-fits = told-fits t l h w (answer-length a)

  pub answer-told : length f ≡ length (mid_of at (length e - at) e) → Told (printed_up_to opened ws) out (i + 1) (at + m) (put_mid at (length e - at) e f)
  answer-told same = told_more t l h w (answer-length a) (ap (printed_up_to opened ws) (add-one i) ∙ ap (λ (z : Answer). printed_up_to opened ws i ++ line (answer_form z)) (sym q)) same

-- ---- one line more

-- what is printed for an event in an open run, from its words
event-printed : (e : Event) (s : State) → let a = applied e s in
    printed_answer e a.state.run.held a.answer ≡ open_as (event_numbers e).form (check_of a.answer) (ticks_of a.answer) a.state.run.held
unfolding printed_answer open_as
event-printed (Deliver m) s = sym (answers-told (Deliver m) s)
event-printed (Sign m) s = sym (answers-told (Sign m) s)
event-printed (Show m) s = sym (answers-told (Show m) s)
event-printed Settle s = sym (answers-told Settle s)
event-printed (Tick m) s = ap (ticks_printed (applied (Tick m) s).state.run.held) (sym (answers-told (Tick m) s))

-- and where none is open
event-refused : (e : Event) → Refused 9 ≡ closed_as (event_numbers e).form
unfolding closed_as
event-refused (Deliver m) = refl
event-refused (Sign m) = refl
event-refused (Show m) = refl
event-refused Settle = refl
event-refused (Tick m) = refl

-- four zeros are check 1, in an open run and where none is
none-applied : (s : State) → applied (event_of 0 0 0 0) s ≡ refused s 1
unfolding applied checks event_of
none-applied s = refl

none-printed : (h : ℕ) → Refused 1 ≡ open_as 0 1 0 h
unfolding open_as
none-printed h = refl

none-refused : Refused 1 ≡ closed_as 0
unfolding closed_as
none-refused = refl

-- the words of one line more, as answered, and what is printed for them
behind-first : (opened : Bool) (n form check ticks held : ℕ) (w : Worded) (r : Answer) → r ≡ printed_as opened form check ticks held
    → behind (line (answer_form r)) (advanced opened n w) ≡ advanced opened (suc n) (worded w.state (form ∷ check ∷ ticks ∷ held ∷ w.words))
behind-first opened n form check ticks held w r e =
    ap (λ (t : List ℕ). record { place = place_at (leaving opened w.state) []; text = t })
    (ap (λ (z : Answer). line (answer_form z) ++ printed_up_to opened w.words n) e ∙ sym (printed-first opened form check ticks held w.words n))

-- a batch in an open run
open-batched : (rs : List Read) (s : State) → NoOpening rs → replied rs (leaving true s) ≡ advanced true (length rs) (words_applied (gathered rs) s)
unfolding words_applied event_reply
open-batched [] s plain = refl
open-batched (Read.Event e ∷ rs) s plain =
    let a : After = applied e s in
    let w : Worded = words_applied (gathered rs) a.state in
    let k : Numbers = event_numbers e in
    ap (behind (line (answer_form (printed_answer e a.state.run.held a.answer)))) (open-batched rs a.state plain)
    ∙ behind-first true (length rs) k.form (check_of a.answer) (ticks_of a.answer) a.state.run.held w _ (event-printed e s)
    ∙ ap (λ (x : Event). advanced true (suc (length rs)) (answered k.form (applied x s) (words_applied (gathered rs) (applied x s).state))) (sym (event-back e))
open-batched (Read.Opening ∷ rs) s plain = absurd plain
open-batched (Read.NoForm ∷ rs) s plain =
    ap (behind (line (answer_form (Refused 1)))) (open-batched rs s plain)
    ∙ behind-first true (length rs) 0 1 0 s.run.held (words_applied (gathered rs) s) (Refused 1) (none-printed s.run.held)
    ∙ ap (λ (x : After). advanced true (suc (length rs)) (answered 0 x (words_applied (gathered rs) x.state))) (sym (none-applied s))

-- a batch where none is open
closed-batched : (rs : List Read) (s : State) → NoOpening rs → replied rs (leaving false s) ≡ advanced false (length rs) (worded s (gathered rs))
unfolding event_reply
closed-batched [] s plain = refl
closed-batched (Read.Event e ∷ rs) s plain =
    let k : Numbers = event_numbers e in
    ap (behind (line (answer_form (Refused 9)))) (closed-batched rs s plain)
    ∙ behind-first false (length rs) k.form k.kind k.view k.processor (worded s (gathered rs)) (Refused 9) (event-refused e)
closed-batched (Read.Opening ∷ rs) s plain = absurd plain
closed-batched (Read.NoForm ∷ rs) s plain =
    ap (behind (line (answer_form (Refused 1)))) (closed-batched rs s plain)
    ∙ behind-first false (length rs) 0 0 0 0 (worded s (gathered rs)) (Refused 1) none-refused

pub batched : Batched
batched rs true s plain = open-batched rs s plain
batched rs false s plain = closed-batched rs s plain
