-- What calls in turn leave: the words of what the definitions leave, and many events in one call leave what as many calls leave. Assumes nothing.
use mathlib.Core.Path.{◌≡◌, refl, sym, ap, ◌∙◌, subst}
use mathlib.Core.Bool.{Bool, true, false, ◌||◌, cond}
use mathlib.Core.List.{List, [], ◌∷◌, ◌++◌, map}
use Prim.Native.Nat.{ℕ, zero, suc, ◌+◌, ◌-◌, ◌*◌, ◌≤◌}
use native.Mathlib.Omega.{arith}
use lib.Dec.{ltb}
use lib.ListN.{length, get_or, take, drop, length-append}
use lib.Seq.{drop_at}
use borrow.Author.Tests.{le-ltb}
use Rattle.base.specs.Choice.{cond_yes, or-second}
use Rattle.base.specs.Tests.{T_true, T_false, by_cond}
use Rattle.types.specs.declared.Event.{Event}
use Rattle.types.specs.declared.Form.{Form}
use Rattle.types.specs.declared.Form.TheVariants.{Packed}
use Rattle.types.specs.declared.Run.{Run}
use Rattle.types.specs.Messages.{lacks_form}
use Rattle.model.specs.State.{State, After, state_in, state_of, check_of, ticks_of, accepted}
use Rattle.model.specs.Checks.{unsound_for_good}
use Rattle.model.specs.Events.{applied}
use Rattle.model.specs.Lists.{after}
use Rattle.liveness.specs.Promises.{Tabled}
use Rattle.liveness.proofs.History.{event-time}
use Rattle.liveness.proofs.Judging.{neither}
use Rattle.liveness.proofs.Staying.{event-stays, events-stay}
use Rattle.liveness.proofs.Promises.{refused-stays, list_law, events-last}
use Rattle.words.specs.declared.Numbers.{Numbers}
use Rattle.words.specs.Events.{event_words, event_of, event_as, four_numbers}
use Rattle.words.specs.Batches.{words_applied}
use Rattle.types.specs.Runs.{settled_as}
use Rattle.loads.specs.Loads.{Load}
use Rattle.loads.proofs.Turns.{further-unsound}
use Rattle.fever.specs.Layout.{run_length, time_word, held_word, run_in, sum_words, run_words, run_over, neither_settled}
use Rattle.fever.specs.Clauses.{Lent, lent_of, lent_state, Called, called, told, applying_words, CalledAll, called_all, told_all, applying_all, AppliesEvents}
use Rattle.fever.specs.Loads.{load_length, steps_word, settles_word, CalledLoad, called_load, told_load, point_in, load_in, generating_more, events_read, load_events}
use Rattle.fever.specs.Promises.{numbers_of, Call, one, many, more, Answers, InTurn, lent_after, call_events, events_of, EveryCallAnswered, NoEventNothing, answers_of, ManyInTurn}
use Rattle.fever.proofs.ReadBack.{run-back, run-words-back}
use Rattle.fever.proofs.Calling.{or-true, applying-told, all_told}
use Rattle.fever.proofs.LoadLines.{Led, further-led, written_over}
use Rattle.fever.proofs.KeepsTables.{after-tabled, read-tabled}

-- ---- what the words have that one call leaves and the next gets

-- no fewer than a run has, a settled word, and what stands behind the run's own
pub record Laid (tail : List ℕ) (x : Lent) : Type 0 where
  pub long : run_length ≤ length x.run
  pub sorted : neither_settled x.run ≡ false
  pub behind : drop run_length x.run ≡ tail

-- and that they are those of s
pub record Left (tail : List ℕ) (s : State) (x : Lent) : Type 0 where
  pub state : lent_state x ≡ s
  pub laid : Laid tail x

settled-sorted : (b : Bool) → ltb 1 (settled_as b) ≡ false
settled-sorted true = refl
settled-sorted false = refl

words-length : (r : Run) → Tabled r → length (run_words r) ≡ run_length
words-length r h =
    omega (arith, length-append r.clocks (r.views ++ sum_words r.traffic), length-append r.views (sum_words r.traffic), h.clocks, h.views)

-- the words of a run that a call left
pub run-left : (tail ws : List ℕ) (s : State) → s.form ≡ Packed → drop run_length ws ≡ tail → Tabled s.run → Left tail s (lent_of (run_over ws s.run) s.tally s.network)
run-left tail ws s packed e h =
    let r = s.run in
    let whole : length (run_over ws r) ≡ length (run_words r) + length (drop run_length ws) = length-append (run_words r) (drop run_length ws) in
    record {
      state = ap (λ (z : Run). state_of z s.tally s.network) (run-back r (drop run_length ws) h.clocks h.views)
          ∙ ap (λ (form : Form). state_in form r s.tally s.network) (sym packed);
      laid = record {
        long = omega (arith, whole, words-length r h);
        sorted = settled-sorted r.settled;
        behind = drop_at (run_words r) (drop run_length ws) run_length (words-length r h) ∙ e;
      };
    }

-- there is only one way to lay them out
left-whole : (tail : List ℕ) (s : State) (x : Lent) → Left tail s x → x ≡ lent_of (run_words s.run ++ tail) s.tally s.network
left-whole tail s x l =
    ap (λ (ws : List ℕ). lent_of ws x.tally x.network) (sym (run-words-back x.run l.laid.long l.laid.sorted) ∙ ap (λ (ws : List ℕ). run_words (run_in x.run) ++ ws) l.laid.behind)
    ∙ ap (λ (z : State). lent_of (run_words z.run ++ tail) z.tally z.network) l.state

-- ---- one call

-- of an event: what the definitions tell of it
pub call-told : (tail : List ℕ) (k : Numbers) (x : Lent) (c : Called) → Laid tail x → Answers (one k) x c → c ≡ told x.run (applied (event_as k) (lent_state x))
call-told tail k x c h f = f ∙ sym (applying-told (event_as k) x h.long h.sorted)

told-left : (tail : List ℕ) (x : Lent) (e : Event) → Laid tail x → Left tail (applied e (lent_state x)).state (told x.run (applied e (lent_state x))).lent
told-left tail x e h =
    let a = applied e (lent_state x) in
    by_cond (λ (ws : List ℕ). Left tail a.state (lent_of ws a.state.tally a.state.network)) (accepted a.answer) _ x.run
    (λ y. run-left tail x.run a.state (event-stays e (lent_state x)) h.behind (events-last e (lent_state x) (read-tabled x.run h.long)).1)
    (λ f. subst (λ (s : State). Left tail s (lent_of x.run s.tally s.network)) (sym (refused-stays e (lent_state x) (T_false (accepted a.answer) f)))
    (record { state = refl; laid = h }))

-- of many: the words of what they leave
words-after : (ws : List ℕ) (s : State) → (words_applied ws s).state ≡ after s (map event_as (numbers_of ws))
unfolding words_applied after numbers_of
words-after [] s = refl
words-after (a ∷ []) s = refl
words-after (a ∷ b ∷ []) s = refl
words-after (a ∷ b ∷ c ∷ []) s = refl
words-after (a ∷ b ∷ c ∷ d ∷ ws) s = words-after ws (applied (event_of a b c d) s).state

pub many-told : (tail events : List ℕ) (x : Lent) (r : ℕ) (y : Lent) (left : List ℕ) → Laid tail x → AppliesEvents events x r y left
    → called_all r y left ≡ told_all x.run (words_applied events (lent_state x))
many-told tail events x r y left h f = f ∙ sym (all_told events x h.long h.sorted)

many-left : (tail events : List ℕ) (x : Lent) → Laid tail x → let y = words_applied events (lent_state x) in
    Left tail (after (lent_state x) (map event_as (numbers_of events))) (told_all x.run y).lent
many-left tail events x h =
    let s = after (lent_state x) (map event_as (numbers_of events)) in
    subst (λ (z : State). Left tail s (lent_of (run_over x.run z.run) z.tally z.network)) (sym (words-after events (lent_state x)))
    (run-left tail x.run s (events-stay (lent_state x) (map event_as (numbers_of events))) h.behind (after-tabled (lent_state x) (map event_as (numbers_of events)) (read-tabled x.run h.long)))

-- of a load: those of what its events leave
nothing-done : (tail : List ℕ) (x : Lent) (es : List Event) → Laid tail x → es ≡ [] → Left tail (after (lent_state x) es) x
unfolding after
nothing-done tail x es h e = subst (λ (ds : List Event). Left tail (after (lent_state x) ds) x) (sym e) (record { state = refl; laid = h })

-- whether it has a line or not
pub load-left : (tail : List ℕ) (x : Lent) (load out : List ℕ) (l : Load) → Laid tail x → Led (lent_state x) l
    → (told_load x load out l).lent ≡ lent_of (run_over x.run l.point.state.run) l.point.state.tally l.point.state.network
load-left tail x load out l h d =
    ap (λ (ws : List ℕ). lent_of ws l.point.state.tally l.point.state.network) (written_over x.run (lent_state x) l d refl h.long h.sorted)

more_left : (tail load out : List ℕ) (x : Lent) → Laid tail x → Left tail (after (lent_state x) (load_events load out (lent_state x))) (generating_more x load out).lent
unfolding generating_more events_read
more_left tail load out x h =
    by_cond (λ (c : CalledLoad). Left tail (after s (load_events load out s)) c.lent) (ltb (length x.run) run_length || ltb (length load) load_length) (called_load 1 x load out) _
    (λ t. nothing-done tail x (load_events load out s) h (short (T_true _ (or-true (ltb (length x.run) run_length) (ltb (length load) load_length) (le-ltb _ _ h.long) t))))
    (λ f. by_cond (λ (c : CalledLoad). Left tail (after s (load_events load out s)) c.lent) (neither_settled x.run || unsound_for_good s) (called_load 9 x load out) (told_load x load out l)
    (λ t. nothing-done tail x (load_events load out s) h (none (T_true _ (or-true (neither_settled x.run) (unsound_for_good s) h.sorted t))))
    (λ t. subst (λ (es : List Event). Left tail (after s es) (told_load x load out l).lent) (all (T_false _ (neither (ltb (length x.run) run_length) (ltb (length load) load_length) f).1))
    (subst (Left tail (after s (events_read l.forms))) (sym (load-left tail x load out l h d ∙ ap (λ (z : State). lent_of (run_over x.run z.run) z.tally z.network) d.state))
    (run-left tail x.run (after s (events_read l.forms)) (events-stay s (events_read l.forms)) h.behind (after-tabled s (events_read l.forms) (read-tabled x.run h.long))))))
  where
    s : State
    s = lent_state x

    l : Load
    l = load_in load s (length out)

    d : Led s l
    d = further-led (get_or load steps_word 0) (get_or load settles_word 0) (point_in load s) (length out)

    short : ltb (length load) load_length ≡ true → load_events load out s ≡ []
    short e = ap (λ (c : Bool). cond c [] (events_read l.forms)) e

    none : unsound_for_good s ≡ true → load_events load out s ≡ []
    none e = by_cond (λ (es : List Event). es ≡ []) (ltb (length load) load_length) [] (events_read l.forms) (λ t. refl)
        (λ t. ap (λ (m : Load). events_read m.forms) (further-unsound (get_or load steps_word 0) (get_or load settles_word 0) (point_in load s) (length out) e))

    all : ltb (length load) load_length ≡ false → events_read l.forms ≡ load_events load out s
    all e = sym (ap (λ (c : Bool). cond c [] (events_read l.forms)) e)

-- of any kind
call-left : (tail : List ℕ) (k : Call) (x : Lent) (c : Called) → Laid tail x → Answers k x c → Left tail (after (lent_state x) (call_events k (lent_state x))) c.lent
unfolding after
call-left tail (one k) x c h f =
    subst (λ (b : Called). Left tail (applied (event_as k) (lent_state x)).state b.lent) (sym (call-told tail k x c h f)) (told-left tail x (event_as k) h)
call-left tail (many events) x c h f =
    subst (λ (b : CalledAll). Left tail (after (lent_state x) (map event_as (numbers_of events))) b.lent) (sym (many-told tail events x c.answer c.lent f.0 h f.1))
    (many-left tail events x h)
call-left tail (more load out) x c h f =
    subst (λ (b : CalledLoad). Left tail (after (lent_state x) (load_events load out (lent_state x))) b.lent) (sym f.2) (more_left tail load out x h)

-- ---- calls in turn

answered-left : (tail : List ℕ) (s : State) (k : Call) (x : Lent) (c : Called) → Answers k x c → Left tail s x → Left tail (after s (call_events k s)) c.lent
answered-left tail s k x c f l = subst (λ (a : State). Left tail (after a (call_events k a)) c.lent) l.state (call-left tail k x c l.laid f)

pub calls-left : (tail : List ℕ) (s : State) (x : Lent) (ks : List Call) (cs : List Called) → InTurn x ks cs → Left tail s x → (i : ℕ)
    → Left tail (after s (events_of s (take i ks))) (lent_after x cs i)
unfolding after events_of
calls-left tail s x ks cs f l zero = l
calls-left tail s x [] [] f l (suc i) = l
calls-left tail s x [] (c ∷ cs) f l (suc i) = absurd f
calls-left tail s x (k ∷ ks) [] f l (suc i) = absurd f
calls-left tail s x (k ∷ ks) (c ∷ cs) f l (suc i) =
    subst (λ (a : State). Left tail a (lent_after c.lent cs i)) (sym (list_law s (call_events k s) (events_of (after s (call_events k s)) (take i ks))))
    (calls-left tail (after s (call_events k s)) c.lent ks cs f.1 (answered-left tail s k x c f.0 l) i)

-- ---- calls that may be made, and those that do nothing

pub every-call-answered : EveryCallAnswered
every-call-answered x [] = ([], tt)
every-call-answered x (one k ∷ ks) =
    let c = applying_words (event_as k) x in
    let r = every-call-answered c.lent ks in (c ∷ r.0, (refl, r.1))
every-call-answered x (many events ∷ ks) =
    let c = applying_all events x in
    let r = every-call-answered c.lent ks in (called c.answer c.lent ∷ r.0, ((c.events, refl), r.1))
every-call-answered x (more load out ∷ ks) =
    let c = generating_more x load out in
    let r = every-call-answered c.lent ks in (called c.answer c.lent ∷ r.0, ((c.load, c.bytes, refl), r.1))

pub no-event-nothing : NoEventNothing
unfolding applying_words
no-event-nothing k x c t g =
    g ∙ sym (cond_yes _ _ _ _ (or-second (ltb (length x.run) run_length) (lacks_form (event_as k)) (T_true (lacks_form (event_as k)) t)) refl)

-- ---- many events are as many calls

-- a call tells an answer's numbers
answer-told : (tail : List ℕ) (x : Lent) (e : Event) (k : Called) → k ≡ told x.run (applied e (lent_state x)) → Left tail (applied e (lent_state x)).state k.lent
    → (k.answer ≡ check_of (applied e (lent_state x)).answer) × (get_or k.lent.run time_word 0 - get_or x.run time_word 0 ≡ ticks_of (applied e (lent_state x)).answer)
    × (get_or k.lent.run held_word 0 ≡ (applied e (lent_state x)).state.run.held)
unfolding run_in
answer-told tail x e k t l =
    let time : get_or k.lent.run time_word 0 ≡ (applied e (lent_state x)).state.run.time = ap (λ (s : State). s.run.time) l.state in
    let gained : (applied e (lent_state x)).state.run.time ≡ get_or x.run time_word 0 + ticks_of (applied e (lent_state x)).answer = event-time e (lent_state x) in
    (ap (λ (c : Called). c.answer) t, omega arith, ap (λ (s : State). s.run.held) l.state)

drop-four : (n a b c d : ℕ) (ws : List ℕ) → drop (event_words * suc n) (a ∷ b ∷ c ∷ d ∷ ws) ≡ drop (event_words * n) ws
drop-four n a b c d ws =
    let e : event_words * suc n ≡ suc (suc (suc (suc (event_words * n)))) = omega arith in
    ap (λ (m : ℕ). drop m (a ∷ b ∷ c ∷ d ∷ ws)) e

-- so each event's words are what its call tells
answers-same : (tail ws : List ℕ) (x : Lent) (cs : List Called) → Laid tail x → InTurn x (map one (numbers_of ws)) cs
    → (words_applied ws (lent_state x)).words ≡ answers_of x (numbers_of ws) cs ++ drop (event_words * length (numbers_of ws)) ws
unfolding words_applied numbers_of
answers-same tail [] x cs h f = refl
answers-same tail (a ∷ []) x cs h f = refl
answers-same tail (a ∷ b ∷ []) x cs h f = refl
answers-same tail (a ∷ b ∷ c ∷ []) x cs h f = refl
answers-same tail (a ∷ b ∷ c ∷ d ∷ ws) x [] h f = absurd f
answers-same tail (a ∷ b ∷ c ∷ d ∷ ws) x (k ∷ cs) h f =
    let y : After = applied (event_of a b c d) (lent_state x) in
    let t : k ≡ told x.run y = call-told tail (four_numbers a b c d) x k h f.0 in
    let l : Left tail y.state k.lent = subst (λ (z : Called). Left tail y.state z.lent) (sym t) (told-left tail x (event_of a b c d) h) in
    let w = answer-told tail x (event_of a b c d) k t l in
    let rest : (words_applied ws y.state).words ≡ answers_of k.lent (numbers_of ws) cs ++ drop (event_words * length (numbers_of ws)) ws =
    ap (λ (s : State). (words_applied ws s).words) (sym l.state) ∙ answers-same tail ws k.lent cs l.laid f.1 in
    rw (w.0, w.1, w.2, drop-four (length (numbers_of ws)) a b c d ws)
    (ap (λ (z : List ℕ). a ∷ check_of y.answer ∷ ticks_of y.answer ∷ y.state.run.held ∷ z) rest)

one_by_one : (s : State) (ns : List Numbers) → events_of s (take (length ns) (map one ns)) ≡ map event_as ns
unfolding events_of
one_by_one s [] = refl
one_by_one s (k ∷ ns) = ap (λ (es : List Event). event_as k ∷ es) (one_by_one (after s (event_as k ∷ [])) ns)

pub many-in-turn : ManyInTurn
many-in-turn x events long sorted r after' left f cs g =
    let tail : List ℕ = drop run_length x.run in
    let n : ℕ = length (numbers_of events) in
    let s : State = after (lent_state x) (map event_as (numbers_of events)) in
    let h : Laid tail x = record { long = long; sorted = sorted; behind = refl } in
    let t : called_all r after' left ≡ told_all x.run (words_applied events (lent_state x)) = many-told tail events x r after' left h f in
    let calls : Left tail s (lent_after x cs n) = subst (λ (es : List Event). Left tail (after (lent_state x) es) (lent_after x cs n)) (one_by_one (lent_state x) (numbers_of events))
    (calls-left tail (lent_state x) x (map one (numbers_of events)) cs g (record { state = refl; laid = h }) n) in
    record {
      answer = ap (λ (c : CalledAll). c.answer) t;
      lent = ap (λ (c : CalledAll). c.lent) t ∙ left-whole tail s _ (many-left tail events x h) ∙ sym (left-whole tail s (lent_after x cs n) calls);
      words = ap (λ (c : CalledAll). c.events) t ∙ answers-same tail events x cs h g;
    }
