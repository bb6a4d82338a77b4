-- Calls that make loads: refused ones change nothing, what is written are the lines of the events done, and a load from its opening is the opening and
-- then the load that goes on. Assumes nothing.
use mathlib.Core.Path.{◌≡◌, refl, sym, ap, ap₂, ◌∙◌, subst}
use mathlib.Core.Bool.{Bool, true, false, cond, ◌||◌}
use mathlib.Core.Logic.{◌≢◌}
use mathlib.Core.List.{List, [], ◌∷◌, ◌++◌, map, append_assoc}
use Prim.Native.Nat.{ℕ, suc, ◌+◌, ◌-◌, ◌≤◌}
use native.Mathlib.Omega.{arith}
use lib.Dec.{eqb, ltb, eqb→eq}
use lib.ListN.{length, get_or, set, take, drop, length-set, length-drop, length-append}
use lib.Seq.{take_at, drop_at, drop-drop}
use borrow.Author.Tests.{le-ltb, ne_eqb}
use Rattle.base.specs.Choice.{cond_no}
use Rattle.base.specs.Tests.{T_false, eq→eqb, by_cond}
use Rattle.model.specs.State.{State, After, check_of, accepted}
use Rattle.model.specs.Checks.{unsound_for_good}
use Rattle.model.specs.Opening.{opening}
use Rattle.liveness.proofs.Judging.{neither, not-ltb}
use Rattle.liveness.proofs.Promises.{opening-reaches}
use Rattle.lines.specs.Forms.{newline, event_form, setup_form}
use Rattle.lines.specs.Clauses.{line, Put}
use Rattle.lines.specs.Promises.{schedule_of}
use Rattle.loads.specs.Loads.{Point, point_of, Load, line_then, line_bytes, load_from, further_load}
use Rattle.loads.proofs.Turns.{further-sound, by_whole}
use Rattle.workload.proofs.Lasting.{reachable-good}
use Rattle.workload.proofs.Endings.{line-more}
use Rattle.fever.specs.Layout.{setup_length, setup_in, run_length, run_words, neither_settled}
use Rattle.fever.specs.Clauses.{Lent, lent_of, lent_state, Called, called, told, opening_words}
use Rattle.fever.specs.Loads.{load_length, steps_word, settles_word, seed_word, step_word, bytes_word, load_over, CalledLoad, called_load, told_load, whole_in, generating_words, point_in, load_in, generating_more, events_read, load_events}
use Rattle.fever.specs.Promises.{more, lent_after, LinesAreEvents, OpensFirst, GeneratesAfterOpening, CallsAfterLoad, RefusedLoadKeeps, RefusedMoreKeeps}
use Rattle.fever.proofs.LoadLines.{Led, further-led}
use Rattle.fever.proofs.Loading.{more_by}
use Rattle.fever.proofs.Turns.{Left, load-left}
use Rattle.fever.proofs.Demands.{opening-left}

-- ---- refused calls

module _ (x : Lent) (load out : List ℕ) where
  abbrev Keeps : CalledLoad → Type 0
  Keeps c = c.answer ≢ 0 → c ≡ called_load c.answer x load out

  told-keeps : (l : Load) → Keeps (told_load x load out l)
  told-keeps l n = absurd (n refl)

pub refused-load-keeps : RefusedLoadKeeps
unfolding generating_words
refused-load-keeps setup x load out =
    let check = check_of (opening (setup_in setup) (lent_state x)).answer in
    by_cond (Keeps x load out) (ltb (length setup) setup_length || ltb (length x.run) run_length || ltb (length load) load_length) (called_load 1 x load out) _ (λ t n. refl) (λ t.
    by_cond (Keeps x load out) (eqb check 0) (told_load x load out (whole_in (setup_in setup) load (lent_state x) (length out))) (called_load check x load out)
    (λ u. told-keeps x load out (whole_in (setup_in setup) load (lent_state x) (length out))) (λ u n. refl))

pub refused-more-keeps : RefusedMoreKeeps
unfolding generating_more
refused-more-keeps x load out =
    by_cond (Keeps x load out) (ltb (length x.run) run_length || ltb (length load) load_length) (called_load 1 x load out) _ (λ t n. refl) (λ t.
    by_cond (Keeps x load out) (neither_settled x.run || unsound_for_good (lent_state x)) (called_load 9 x load out) (told_load x load out (load_in load (lent_state x) (length out)))
    (λ u n. refl) (λ u. told-keeps x load out (load_in load (lent_state x) (length out))))

-- ---- the words of a load

bytes-there : (ws : List ℕ) (seed step bytes : ℕ) (full : Bool) → load_length ≤ length ws → get_or (load_over ws seed step bytes full) bytes_word 0 ≡ bytes
bytes-there [] seed step bytes full l = absurd (omega arith)
bytes-there (a ∷ []) seed step bytes full l = absurd (omega arith)
bytes-there (a ∷ b ∷ ws) seed step bytes full l = refl

-- ---- lines and events

lines-told : (x : Lent) (load out : List ℕ) → load_length ≤ length load → let c = told_load x load out (load_in load (lent_state x) (length out)) in
    Put (schedule_of (map event_form (load_events load out (lent_state x)))) out (get_or c.load bytes_word 0) c.bytes
lines-told x load out long =
    let s : State = lent_state x in
    let l : Load = load_in load s (length out) in
    let d : Led s l = further-led (get_or load steps_word 0) (get_or load settles_word 0) (point_in load s) (length out) in
    let k : ℕ = length (schedule_of l.forms) in
    let es : events_read l.forms ≡ load_events load out s = sym (ap (λ (c : Bool). cond c [] (events_read l.forms)) (le-ltb _ _ long)) in
    let fs : l.forms ≡ map event_form (load_events load out s) = d.forms ∙ ap (map event_form) es in
    subst (λ (i : ℕ). Put (schedule_of (map event_form (load_events load out s))) out i (schedule_of l.forms ++ drop k out))
    (sym (bytes-there load l.point.seed l.point.step k l.full long))
    (subst (λ (gs : List (List ℕ)). Put (schedule_of gs) out k (schedule_of l.forms ++ drop k out)) fs (record { bytes = refl; text = refl }))

pub lines-are-events : LinesAreEvents
unfolding generating_more
lines-are-events x load out after' load' out' f =
    subst Tells (sym f)
    (by_cond Tells' (ltb (length x.run) run_length || ltb (length load) load_length) (called_load 1 x load out) _ (λ t e. absurd (omega (arith, e))) (λ t.
    by_cond Tells' (neither_settled x.run || unsound_for_good (lent_state x)) (called_load 9 x load out) (told_load x load out (load_in load (lent_state x) (length out)))
    (λ u e. absurd (omega (arith, e))) (λ u e. lines-told x load out (not-ltb _ _ (neither (ltb (length x.run) run_length) (ltb (length load) load_length) t).1)))
    (sym (ap (λ (c : CalledLoad). c.answer) f)))
  where
    Tells : CalledLoad → Type 0
    Tells c = Put (schedule_of (map event_form (load_events load out (lent_state x)))) out (get_or c.load bytes_word 0) c.bytes

    Tells' : CalledLoad → Type 0
    Tells' c = c.answer ≡ 0 → Tells c

-- ---- from the opening on

-- a load that goes on from step 0
from_first : (ws : List ℕ) (s : State) (room : ℕ) → load_length ≤ length ws
    → load_in (set ws step_word 0) s room ≡ further_load (get_or ws steps_word 0) (get_or ws settles_word 0) (point_of s (get_or ws seed_word 0) 0) room
from_first [] s room l = absurd (omega arith)
from_first (a ∷ []) s room l = absurd (omega arith)
from_first (a ∷ b ∷ []) s room l = absurd (omega arith)
from_first (a ∷ b ∷ c ∷ []) s room l = absurd (omega arith)
from_first (a ∷ b ∷ c ∷ d ∷ ws) s room l = refl

-- its words afterwards, and those of the load of k bytes more
words_same : (ws : List ℕ) (seed step k m : ℕ) (full : Bool) → load_length ≤ length ws → let v = load_over ws seed step (k + m) full in
    load_over (set ws step_word 0) seed step m full ≡ set v bytes_word (get_or v bytes_word 0 - k)
words_same [] seed step k m full l = absurd (omega arith)
words_same (a ∷ []) seed step k m full l = absurd (omega arith)
words_same (a ∷ b ∷ []) seed step k m full l = absurd (omega arith)
words_same (a ∷ b ∷ c ∷ []) seed step k m full l = absurd (omega arith)
words_same (a ∷ b ∷ c ∷ d ∷ ws) seed step k m full l =
    let e : m ≡ k + m - k = omega arith in ap (λ (i : ℕ). a ∷ b ∷ seed ∷ step ∷ i ∷ cond full 1 0 ∷ drop load_length (a ∷ b ∷ c ∷ d ∷ ws)) e

-- the setup is accepted, and its line has room
module _ (setup : List ℕ) (before : Lent) (load out : List ℕ) (short : (ltb (length setup) setup_length || ltb (length before.run) run_length) ≡ false)
    (long : load_length ≤ length load) (check : check_of (opening (setup_in setup) (lent_state before)).answer ≡ 0)
    (y : accepted (opening (setup_in setup) (lent_state before)).answer ≡ true) (room : line_bytes (setup_form (setup_in setup)) ≤ length out) where
  abbrev f : List ℕ
  f = setup_form (setup_in setup)

  abbrev a : After
  a = opening (setup_in setup) (lent_state before)

  abbrev x : Point
  x = point_of a.state (get_or load seed_word 0) 0

  -- what is behind the line
  abbrev l : Load
  l = load_from (get_or load settles_word 0) (get_or load steps_word 0 - 0) x (length out - line_bytes f)

  abbrev k : ℕ
  k = line_bytes f

  abbrev m : ℕ
  m = length (schedule_of l.forms)

  abbrev whole : CalledLoad
  whole = told_load before load out (line_then f l)

  abbrev opened : Lent
  opened = (opening_words setup before).lent

  answered : (opening_words setup before).answer ≡ 0
  unfolding opening_words
  answered = ap (λ (c : Bool). (cond c (called 1 before) (told before.run a)).answer) short ∙ check

  left : Left (drop run_length before.run) a.state opened
  left = (opening-left setup before answered).1

  good : unsound_for_good (lent_state opened) ≡ false
  good = ap unsound_for_good left.state ∙ reachable-good a.state (opening-reaches (setup_in setup) (lent_state before) (rw y tt))

  behind-line : load_in (set load step_word 0) (lent_state opened) (length (drop k out)) ≡ l
  behind-line =
      ap (λ (s : State). load_in (set load step_word 0) s (length (drop k out))) left.state
      ∙ from_first load a.state (length (drop k out)) long
      ∙ ap (further_load (get_or load steps_word 0) (get_or load settles_word 0) x) (length-drop k out)
      ∙ further-sound (get_or load steps_word 0) (get_or load settles_word 0) x (length out - k) (ap unsound_for_good (sym left.state) ∙ good)

  led : Led (lent_state opened) l
  led = subst (Led (lent_state opened)) behind-line
      (further-led (get_or (set load step_word 0) steps_word 0) (get_or (set load step_word 0) settles_word 0) (point_in (set load step_word 0) (lent_state opened)) (length (drop k out)))

  -- the bytes of both
  both : length (schedule_of (f ∷ l.forms)) ≡ k + m
  both = line-more f l.forms

  some_bytes : length (schedule_of (f ∷ l.forms)) ≢ 0
  some_bytes e = absurd (omega (arith, e, both, length-append f (newline ∷ [])))

  lent_same : (told_load opened (set load step_word 0) (drop k out) l).lent ≡ whole.lent
  lent_same =
      load-left (drop run_length before.run) opened (set load step_word 0) (drop k out) l left.laid led
      ∙ ap (λ (ws : List ℕ). lent_of (run_words l.point.state.run ++ ws) l.point.state.tally l.point.state.network) left.laid.behind
      ∙ ap (λ (ws : List ℕ). lent_of ws l.point.state.tally l.point.state.network) (cond_no _ _ _ _ (ne_eqb (length (schedule_of (f ∷ l.forms))) 0 some_bytes) refl)

  load_same : (told_load opened (set load step_word 0) (drop k out) l).load ≡ set whole.load bytes_word (get_or whole.load bytes_word 0 - k)
  load_same =
      words_same load l.point.seed l.point.step k m l.full long
      ∙ ap (λ (i : ℕ). let v = load_over load l.point.seed l.point.step i l.full in set v bytes_word (get_or v bytes_word 0 - k)) (sym both)

  text : whole.bytes ≡ line f ++ (schedule_of l.forms ++ drop (k + m) out)
  text = ap (λ (i : ℕ). schedule_of (f ∷ l.forms) ++ drop i out) both ∙ append_assoc (line f) (schedule_of l.forms) (drop (k + m) out)

  bytes_same : (told_load opened (set load step_word 0) (drop k out) l).bytes ≡ drop k whole.bytes
  bytes_same =
      ap (λ (w : List ℕ). schedule_of l.forms ++ w) (drop-drop m k out)
      ∙ sym (ap (drop k) text ∙ drop_at (line f) (schedule_of l.forms ++ drop (k + m) out) k refl)

  goes : called_load 0 whole.lent (set whole.load bytes_word (get_or whole.load bytes_word 0 - k)) (drop k whole.bytes)
      ≡ generating_more opened (set load step_word 0) (drop k out)
  goes = sym (more_by opened (set load step_word 0) (drop k out) left.laid.long (omega (arith, length-set load step_word 0)) left.laid.sorted false good
      ∙ ap (told_load opened (set load step_word 0) (drop k out)) behind-line
      ∙ ap (λ (z : Lent). called_load 0 z (told_load opened (set load step_word 0) (drop k out) l).load (told_load opened (set load step_word 0) (drop k out) l).bytes) lent_same
      ∙ ap₂ (called_load 0 whole.lent) load_same bytes_same)

  opens-first : OpensFirst setup before load out whole.lent whole.load whole.bytes
  opens-first = record {
    opened = opened;
    opens = ap (λ (r : ℕ). called r opened) (sym answered);
    heads = ap (take k) text ∙ take_at (line f) (schedule_of l.forms ++ drop (k + m) out) k refl;
    goes_on = goes;
  }

pub generates-after-opening : GeneratesAfterOpening
unfolding generating_words
generates-after-opening setup before load out after' load' out' g =
    subst Opens (sym g) (by_cond Opens' (few || ltb (length load) load_length) (called_load 1 before load out) _ (λ t e. absurd (omega (arith, e))) (λ t.
    let s = neither few (ltb (length load) load_length) t in
    by_cond Opens' (eqb check 0) (told_load before load out (whole_in (setup_in setup) load (lent_state before) (length out))) (called_load check before load out)
    (λ u e. by_whole (λ (v : Load). Opens (told_load before load out v)) (setup_in setup) (lent_state before) (get_or load steps_word 0) (get_or load settles_word 0) (get_or load seed_word 0) (length out)
    (λ n z. absurd (z (bytes-there load _ _ 0 false (not-ltb _ _ s.1)))) (λ w h z. absurd (z (bytes-there load _ _ 0 true (not-ltb _ _ s.1))))
    (λ w h z. opens-first setup before load out (T_false few s.0) (not-ltb _ _ s.1) (eqb→eq _ _ u) w h))
    (λ u e. absurd (u (eq→eqb check 0 e))))
    (sym (ap (λ (c : CalledLoad). c.answer) g)))
  where
    few : Bool
    few = ltb (length setup) setup_length || ltb (length before.run) run_length

    check : ℕ
    check = check_of (opening (setup_in setup) (lent_state before)).answer

    Opens : CalledLoad → Type 0
    Opens c = get_or c.load bytes_word 0 ≢ 0 → OpensFirst setup before load out c.lent c.load c.bytes

    Opens' : CalledLoad → Type 0
    Opens' c = c.answer ≡ 0 → Opens c

pub calls-after-load : CallsAfterLoad
calls-after-load P holds setup before load out made load' out' g n ks cs f i =
    let o : OpensFirst setup before load out made load' out' = generates-after-opening setup before load out made load' out' g n in
    subst (λ (y : Lent). P setup before y (more (set load step_word 0) (drop (line_bytes (setup_form (setup_in setup))) out) ∷ take i ks) (lent_after made cs i))
    (ap (λ (c : Called). c.lent) o.opens)
    (holds setup before o.opened o.opens (more (set load step_word 0) (drop (line_bytes (setup_form (setup_in setup))) out) ∷ ks) (called 0 made ∷ cs)
    ((_, _, o.goes_on), f) (suc i))
