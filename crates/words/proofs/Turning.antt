-- Events in words, one after the other: what a turn of a loop over them does. Assumes nothing.
use mathlib.Core.Path.{◌≡◌, refl, ap, ◌∙◌}
use mathlib.Core.List.{List, [], ◌∷◌, ◌++◌, append_assoc}
use Prim.Native.Nat.{ℕ, suc, ◌+◌, ◌*◌, ◌≤◌, ◌<◌}
use native.Mathlib.Omega.{arith}
use native.Mathlib.Numerals.{add-one}
use lib.ListN.{length, get_or, take, drop, length-drop, length-append, take-append-drop}
use lib.Seq.{drop-cons, take_at, drop_at, length-take-le}
use borrow.Author.Tests.{lt-ltb}
use Rattle.model.specs.State.{State, After, check_of, ticks_of}
use Rattle.model.specs.Events.{applied}
use Rattle.words.specs.Events.{event_words, events_in, event_at, four_put, answer_put}
use Rattle.words.specs.Batches.{Worded, words_applied}

-- events applied from event i on, what stands before it being left as it is
unfoldable pub words_applied_from : ℕ → List ℕ → State → Worded
words_applied_from i ws s =
    let y = words_applied (drop (event_words * i) ws) s in record { state = y.state; words = take (event_words * i) ws ++ y.words }

-- the words of event i, and those behind them
four-from : (ws : List ℕ) (at : ℕ) → at + event_words ≤ length ws
    → drop at ws ≡ get_or ws at 0 ∷ get_or ws (at + 1) 0 ∷ get_or ws (at + 2) 0 ∷ get_or ws (at + 3) 0 ∷ drop (at + event_words) ws
four-from ws at l =
    let x : at + 1 ≡ suc at = add-one at in
    let y : at + 2 ≡ suc (suc at) = omega arith in
    let z : at + 3 ≡ suc (suc (suc at)) = omega arith in
    let e : at + event_words ≡ suc (suc (suc (suc at))) = omega arith in
    rw (x, y, z, e, drop-cons ws at 0 (omega arith), drop-cons ws (suc at) 0 (omega arith), drop-cons ws (suc (suc at)) 0 (omega arith), drop-cons ws (suc (suc (suc at))) 0 (omega arith))

-- before the first
pub first-turn : (ws : List ℕ) (s : State) → words_applied_from 0 ws s ≡ words_applied ws s
unfolding words_applied_from
first-turn ws s = refl

-- fewer than four words are left as they are
short : (ws : List ℕ) (s : State) → length ws < event_words → words_applied ws s ≡ record { state = s; words = ws }
unfolding words_applied
short [] s l = refl
short (a ∷ []) s l = refl
short (a ∷ b ∷ []) s l = refl
short (a ∷ b ∷ c ∷ []) s l = refl
short (a ∷ b ∷ c ∷ d ∷ ws) s l = absurd (omega arith)

-- behind the last
pub last_turn : (ws : List ℕ) (i : ℕ) (s : State) → events_in ws ≤ i → words_applied_from i ws s ≡ record { state = s; words = ws }
unfolding words_applied_from
last_turn ws i s l =
    rw (short (drop (event_words * i) ws) s (simp length-drop (omega arith)), take-append-drop (event_words * i) ws)

-- the words in the place of event i are what was put there, and the others stay
pub put-parts : (ws : List ℕ) (i a b c d : ℕ) → i < events_in ws → (take (event_words * (i + 1)) (four_put ws i a b c d) ≡ take (event_words * i) ws ++ (a ∷ b ∷ c ∷ d ∷ []))
    × (drop (event_words * (i + 1)) (four_put ws i a b c d) ≡ drop (event_words * i + event_words) ws)
unfolding four_put
put-parts ws i a b c d l =
    let at : ℕ = event_words * i in
    let e : event_words * (i + 1) ≡ at + event_words = omega arith in
    let n : length (take at ws ++ (a ∷ b ∷ c ∷ d ∷ [])) ≡ at + event_words =
    length-append (take at ws) (a ∷ b ∷ c ∷ d ∷ []) ∙ ap (λ (x : ℕ). x + event_words) (length-take-le at ws (omega arith)) in
    rw (lt-ltb _ _ l, e) (
      take_at (take at ws ++ (a ∷ b ∷ c ∷ d ∷ [])) (drop (at + event_words) ws) (at + event_words) n,
      drop_at (take at ws ++ (a ∷ b ∷ c ∷ d ∷ [])) (drop (at + event_words) ws) (at + event_words) n,
    )

-- an event's turn: it is applied, its answer stands in its place, and the rest goes on from there
pub next-turn : (ws : List ℕ) (i : ℕ) (s : State) → i < events_in ws → let x = applied (event_at ws i) s in
    words_applied_from (i + 1) (answer_put ws i x.answer x.state.run.held) x.state ≡ words_applied_from i ws s
unfolding words_applied_from words_applied
next-turn ws i s l =
    let at : ℕ = event_words * i in
    let x : After = applied (event_at ws i) s in
    let y : _ = put-parts ws i (get_or ws at 0) (check_of x.answer) (ticks_of x.answer) x.state.run.held l in
    rw (y.0, y.1, four-from ws at (omega arith), lt-ltb _ _ l, append_assoc (take at ws)) refl
