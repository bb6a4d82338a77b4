-- A line or a batch of lines, answered. Assumes nothing.
use mathlib.Core.Path.{◌≡◌, refl, sym, ap, ◌∙◌, subst}
use mathlib.Core.Logic.{◌≢◌}
use mathlib.Core.Bool.{Bool, true, false, cond}
use mathlib.Core.List.{List, [], ◌∷◌, append-nil}
use Prim.Native.Nat.{ℕ, ◌*◌, ◌≤◌, ◌<◌}
use native.Mathlib.Omega.{arith}
use lib.ListN.{length, take}
use lib.Seq.{length-take-le}
use denote.Enum.Declared.{tag_of}
use lib.Dec.{ltb}
use borrow.Author.Tests.{le-ltb, ltb-false}
use Rattle.lines.specs.contracts.Next as NextType
use Rattle.base.specs.Choice.{cond_no}
use Rattle.types.specs.declared.Run.{Run}
use Rattle.types.specs.declared.Answer.{Answer}
use Rattle.types.specs.declared.Setup.{Setup}
use Rattle.model.specs.State.{State, After, state_of}
use Rattle.model.specs.Opening.{opening}
use Rattle.words.specs.declared.Numbers.{Numbers}
use Rattle.words.specs.Events.{event_words, events_in, numbers_put}
use Rattle.words.proofs.Single.{four-numbers}
use Rattle.lines.specs.declared.Read.{Read}
use Rattle.lines.specs.declared.Next.{Next}
use Rattle.lines.specs.declared.Next.TheVariants.{Line, Unfinished}
use Rattle.lines.specs.Clauses.{Reading, no_setup, line, Put}
use Rattle.lines.specs.Printout.{answer_form, printed_most}
use Rattle.lines.specs.Splitting.{next_line}
use Rattle.reader.specs.Lines.{reading, skimmed, opening_or}
use Rattle.reader.proofs.Skimming.{some-opening, skims-opening, skims-plain}
use Rattle.printout.specs.declared.Served.{Served}
use Rattle.printout.specs.Printout.{Standing, leaving, Reply, stays_open, opening_reply, read_reply, reply, line_reply, printed_line}
use Rattle.printout.specs.Clauses.{place_at, Advance, Begun, fed}
use Rattle.driver.specs.Inner.{replying, Passes, due_line, NotDue, Turns}
use Rattle.driver.specs.Batches.{read_numbers, gathered, NoOpening, replied, Gathers, words_answered, advanced}
use Rattle.driver.proofs.Serving.{turn-passed}
use Rattle.driver.proofs.Gathering.{plain-read}
use Rattle.driver.proofs.Batching.{batched}

-- ---- what the simulator left, and what was printed

-- of an opening
pub opening-passes : (opened : Bool) (k : ℕ) (u : Setup) (s : State) (out : List ℕ) (o : Bool) (run : Run) (tally network : List ℕ) (answer : Answer) (p : ℕ) (after : List ℕ)
    → u.plan.n ≢ 0 → record { state = state_of run tally network; answer = answer } ≡ opening u s → o ≡ stays_open opened answer → Put (line (answer_form answer)) out p after
    → Passes k (replying (reply (opening_or u) (leaving opened s))) out tally network (record { session = record { opened = o; run = run }; late = false; used = k; printed = p }) after
unfolding opening_reply
opening-passes opened k u s out o run tally network answer p after some e q w = rw (some-opening u some) (record {
  used = refl;
  late = refl;
  state = ap (λ (b : Bool). leaving b (state_of run tally network)) q ∙ ap (λ (a : After). leaving (stays_open opened a.answer) a.state) e;
  put = subst (λ (z : After). Put (line (answer_form z.answer)) out p after) e w;
})

-- ---- a line by itself

-- what leads to the same place, with the same text
passes-as : (k : ℕ) (f g : Advance) (out tally network : List ℕ) (r : Served) (after : List ℕ) → f ≡ g → Passes k f out tally network r after → Passes k g out tally network r after
passes-as k f g out tally network r after e p = subst (λ (z : Advance). Passes k z out tally network r after) e p

pub line-opened : (k : ℕ) (s : List ℕ) (x : Standing) (a : Read) (u : Setup) (out tally network : List ℕ) (r : Served) (after : List ℕ) → a ≡ skimmed s → a ≡ Read.Opening
    → u ≡ (reading s).setup → Passes k (replying (reply (opening_or u) x)) out tally network r after → Passes k (replying (line_reply s x)) out tally network r after
line-opened k s x a u out tally network r after h q v p =
    passes-as k _ _ out tally network r after (ap (λ (z : Reading). replying (reply z x)) (skims-opening s a u h q v)) p

-- four words of one line
one-replied : (r : Read) (x : Standing) → replied (r ∷ []) x ≡ replying (read_reply r no_setup x)
one-replied r x = let y : Reply = read_reply r no_setup x in
    ap (λ (t : List ℕ). record { place = place_at y.standing []; text = t }) (append-nil (printed_line y))

pub line-batched : (n : ℕ) (s : List ℕ) (opened : Bool) (st : State) (a : Read) (k : Numbers) (ws out tally network : List ℕ) (r : Served) (after : List ℕ) → a ≡ skimmed s
    → (a ≡ Read.Opening → ⊥) → k ≡ read_numbers a → ws ≡ numbers_put (0 ∷ 0 ∷ 0 ∷ 0 ∷ []) 0 k
    → Passes n (advanced opened (events_in ws) (words_answered opened ws st)) out tally network r after → Passes n (replying (line_reply s (leaving opened st))) out tally network r after
line-batched n s opened st a k ws out tally network r after h o q w p =
    let x : Standing = leaving opened st in
    let plain : NoOpening (a ∷ []) = plain-read a o in
    passes-as n _ _ out tally network r after
    (ap (λ (z : List ℕ). advanced opened (events_in z) (words_answered opened z st))
    (w ∙ four-numbers k ∙ ap (λ (z : Numbers). z.form ∷ z.kind ∷ z.view ∷ z.processor ∷ []) q)
    ∙ sym (batched (a ∷ []) opened st plain) ∙ one-replied a x
    ∙ ap (λ (z : Reading). replying (reply z x)) (skims-plain s a h o)) p

-- ---- which line is next

unfinished-line : (e : ℕ) → Unfinished ≡ Line e → ⊥
unfinished-line e p = let z : ◌≡◌ {A = ℕ} 2 0 = ap (tag_of NextType.the_type) p in omega arith

pub due : (late : Bool) (s : List ℕ) (room : ℕ) (r : Next) (e : ℕ) → r ≡ due_line late s room → r ≡ Line e → (late ≡ false) × (printed_most ≤ room) × (next_line s ≡ Line e)
unfolding due_line
due true s room r e q p = absurd (unfinished-line e (sym q ∙ p))
due false s room r e q p = go (ltb room printed_most) refl (sym q ∙ p)
  where
    go : (t : Bool) → ltb room printed_most ≡ t → cond t Unfinished (next_line s) ≡ Line e → (false ≡ false) × (printed_most ≤ room) × (next_line s ≡ Line e)
    go true b k = absurd (unfinished-line e k)
    go false b k = (refl, ltb-false room printed_most b, k)

pub not-due : (late : Bool) (s : List ℕ) (room : ℕ) (r : Next) → r ≡ due_line late s room → ((e : ℕ) → r ≡ Line e → ⊥) → NotDue late s room
unfolding due_line
not-due true s room r q o e p l = refl
not-due false s room r q o e p l =
    let k : r ≡ Line e = q ∙ sym (cond_no (ltb room printed_most) (next_line s) Unfinished (next_line s) (le-ltb room printed_most l) refl) ∙ p in
    absurd (o e k)

-- ---- a turn with a batch

pub batch-words : (s : List ℕ) (most count used : ℕ) (batch : List ℕ) → Gathers s most count used batch → most ≤ events_in batch → events_in (take (event_words * count) batch) ≡ count
batch-words s most count used batch g room = omega (arith, length-take-le (event_words * count) batch (omega (arith, g.few)), g.few)

pub turn-batch : (opened late : Bool) (st : State) (s out tally network : List ℕ) (most count used : ℕ) (batch : List ℕ) (r : Served) (after : List ℕ)
    → Gathers s most count used batch → most ≤ events_in batch → (0 < most → late ≡ false) → count ≢ 0
    → Passes used (advanced opened (events_in (take (event_words * count) batch)) (words_answered opened (take (event_words * count) batch) st)) out tally network r after
    → length after ≡ length out → Turns (leaving opened st) late s out tally network r after
turn-batch opened late st s out tally network most count used batch r after g room in-time some p same =
    turn-passed (leaving opened st) late s out tally network r after used (advanced opened (events_in ws) (words_answered opened ws st))
    (omega (arith, g.each)) g.within refl (λ begun b. fed-batch begun (subst (λ (t : Bool). Begun t begun) (in-time (omega (arith, g.few))) b)) p same
  where
    ws : List ℕ
    ws = take (event_words * count) batch

    fed-batch : (begun : List ℕ) → begun ≡ [] → fed (place_at (leaving opened st) begun) (take used s) ≡ advanced opened (events_in ws) (words_answered opened ws st)
    fed-batch begun b =
        ap (λ (z : List ℕ). fed (place_at (leaving opened st) z) (take used s)) b ∙ g.feeds (leaving opened st) ∙ batched g.reads opened st g.plain
        ∙ ap (λ (n : ℕ). advanced opened n (words_answered opened (gathered g.reads) st)) (g.many ∙ sym (batch-words s most count used batch g room))
        ∙ ap (λ (z : List ℕ). advanced opened (events_in ws) (words_answered opened z st)) (sym g.words)
