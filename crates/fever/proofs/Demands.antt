-- The words that the library's calls leave after an opening are those of the definitions' list, so that demand 3 holds of them. Assumes nothing.
use Rattle.std.proofs.Common.{Ok}
use mathlib.Core.Path.{◌≡◌, refl, sym, ap, ◌∙◌, subst}
use mathlib.Core.Bool.{Bool, false, ◌||◌, cond}
use mathlib.Core.Logic.{◌≢◌}
use mathlib.Core.List.{List, [], ◌∷◌, ◌++◌}
use Prim.Native.Nat.{ℕ, ◌+◌, ◌≤◌}
use native.Mathlib.Omega.{arith}
use lib.Dec.{T, ltb}
use lib.ListN.{length, take, drop, length-drop}
use lib.Seq.{take-length}
use Rattle.base.specs.Tests.{T_true, fails, by_cond}
use Rattle.types.specs.declared.Event.{Event}
use Rattle.types.specs.declared.Setup.{Setup}
use Rattle.model.specs.State.{State, After, check_of, accepted, refused, done}
use Rattle.model.specs.Moves.{made}
use Rattle.model.specs.Opening.{blank, opened, opening_checks, opening}
use Rattle.model.specs.Checks.{unsound_for_good}
use Rattle.model.specs.Events.{applied}
use Rattle.model.specs.Lists.{after, since_settling, ticks_since}
use Rattle.model.specs.Traffic.{history_totals, totals}
use Rattle.liveness.proofs.Judging.{by-judged-each, neither, not-ltb}
use Rattle.liveness.specs.Promises.{Tabled}
use Rattle.liveness.proofs.Staying.{opening-stays}
use Rattle.liveness.proofs.Promises.{list_law, stays-sound, settled-since}
use Rattle.liveness.proofs.Counted.{report-is-history}
use Rattle.simulator.specs.Demands.{Demanded}
use Rattle.simulator.proofs.Demands.{demand-three-of-code, handed-is-after, every-list-fed}
use Rattle.workload.proofs.Lasting.{reachable-good}
use Rattle.words.specs.Events.{event_of, event_as}
use Rattle.words.specs.Batches.{words_applied}
use Rattle.fever.specs.Layout.{setup_length, setup_in, run_length, run_in, run_over, neither_settled}
use Rattle.fever.specs.Clauses.{Lent, lent_of, lent_state, Called, called, told, opening_words, OpensWords, CalledAll}
use Rattle.fever.specs.Loads.{load_length, CalledLoad, called_load, told_load, load_in, generating_more}
use Rattle.fever.specs.Promises.{Call, one, many, more, InTurn, lent_after, events_of, DemandThreeOfLibrary, NeverNine, NoneNine, NeverNineOfMany, LibraryIsAfter, SettledTold, SettlingTold, TrafficOfLibrary}
use Rattle.fever.specs.Traffic.{told_report}
use Rattle.fever.proofs.KeepsTables.{opened-tabled}
use Rattle.fever.proofs.Calling.{or-true}
use Rattle.fever.proofs.Telling.{report-is}
use Rattle.fever.proofs.Turns.{Left, call-told, many-told, calls-left, run-left}

-- ---- the opening

opened-unsettled : (u : Setup) (s : State) → (opened u s).run.settled ≡ false
unfolding opened blank made
opened-unsettled u s = refl

-- one that answers 0 is accepted, and leaves tables of 64 and an unsettled run
abbrev Began : After → Type 0
Began a = T (accepted a.answer) × Tabled a.state.run × (a.state.run.settled ≡ false)

began : (u : Setup) (s : State) → check_of (opening u s).answer ≡ 0 → Began (opening u s)
unfolding opening
began u s = by-judged-each (λ (a : After). check_of a.answer ≡ 0 → Began a) (refused s) (opening_checks u s) (done (opened u s)) (
  (λ t e. absurd (omega (arith, e))),
  (
    (λ t e. absurd (omega (arith, e))),
    (
      (λ t e. absurd (omega (arith, e))),
      (
        (λ t e. absurd (omega (arith, e))),
        ((λ t e. absurd (omega (arith, e))), ((λ t e. absurd (omega (arith, e))), ((λ t e. absurd (omega (arith, e))), tt))),
      ),
    ),
  ),
)
    (λ p e. (tt, opened-tabled u s, opened-unsettled u s))

-- the words that it leaves
pub opening-left : (setup : List ℕ) (x : Lent) → (opening_words setup x).answer ≡ 0
    → let a = opening (setup_in setup) (lent_state x) in Began a × Left (drop run_length x.run) a.state (opening_words setup x).lent × (run_length ≤ length x.run)
unfolding opening_words
opening-left setup x = by_cond (λ (c : Called). c.answer ≡ 0 → Began a × Left (drop run_length x.run) a.state c.lent × (run_length ≤ length x.run))
    (ltb (length setup) setup_length || ltb (length x.run) run_length) (called 1 x) (told x.run a)
    (λ t e. absurd (omega (arith, e)))
    (λ f e.
    let b : Began a = began (setup_in setup) (lent_state x) e in (
      b,
      subst (λ (y : Bool). Left (drop run_length x.run) a.state (lent_of (cond y (run_over x.run a.state.run) x.run) a.state.tally a.state.network))
          (sym (T_true (accepted a.answer) b.0)) (run-left (drop run_length x.run) x.run a.state (opening-stays (setup_in setup) (lent_state x)) refl b.1),
      not-ltb _ _ (neither (ltb (length setup) setup_length) (ltb (length x.run) run_length) f).1,
    ))
  where
    a : After
    a = opening (setup_in setup) (lent_state x)

-- ---- the promises

-- an opening that answered 0, and calls in turn
module _ (setup : List ℕ) (before opened' : Lent) (o : OpensWords setup before 0 opened') (ks : List Call) (cs : List Called) (f : InTurn opened' ks cs) (i : ℕ) where
  abbrev first : State
  first = (opening (setup_in setup) (lent_state before)).state

  abbrev happened : List Event
  happened = events_of first (take i ks)

  began-left : Began (opening (setup_in setup) (lent_state before)) × Left (drop run_length before.run) first opened' × (run_length ≤ length before.run)
  began-left =
      subst (λ (c : Called). Began (opening (setup_in setup) (lent_state before)) × Left (drop run_length before.run) first c.lent × (run_length ≤ length before.run)) (sym o)
      (opening-left setup before (sym (ap (λ (c : Called). c.answer) o)))

  is-accepted : T (accepted (opening (setup_in setup) (lent_state before)).answer)
  is-accepted = began-left.0.0

  last-left : Left (drop run_length before.run) (after first happened) (lent_after opened' cs i)
  last-left = calls-left (drop run_length before.run) first opened' ks cs f began-left.1 i

pub library-is-after : LibraryIsAfter
library-is-after setup before opened' o ks cs f i =
    let l = last-left setup before opened' o ks cs f i in
    record {
      opens = is-accepted setup before opened' o ks cs f i;
      state = l.state;
      words_of_run = omega (
        arith,
        ap (λ (ws : List ℕ). length ws) l.laid.behind,
        length-drop run_length (lent_after opened' cs i).run,
        length-drop run_length before.run,
        l.laid.long,
        (began-left setup before opened' o ks cs f i).2,
      );
    }

-- demand 3 of the definitions' list, as the simulator promises it
demanded_after : (u : Setup) (s : State) → T (accepted (opening u s).answer) → (es : List Event) → Demanded u s (opening u s).state es (after (opening u s).state es)
demanded_after u s ok es =
    let r = every-list-fed (opening u s).state es in
    subst (λ (xs : List Event). Demanded u s (opening u s).state xs (after (opening u s).state xs)) (take-length es)
    (subst (λ (a : State). Demanded u s (opening u s).state (take (length es) es) a) (handed-is-after (opening u s).state es r.0 r.1 (length es))
    (demand-three-of-code u s (opening u s) refl ok es r.0 r.1 (length es)))

pub demand-three-of-library : DemandThreeOfLibrary
demand-three-of-library setup before opened' o ks cs f i =
    subst (λ (a : State). Demanded (setup_in setup) (lent_state before) a (events_of a (take i ks)) (lent_state (lent_after opened' cs i)))
    (sym (began-left setup before opened' o ks cs f i).1.state)
    (subst (Demanded (setup_in setup) (lent_state before) (first setup before opened' o ks cs f i) (happened setup before opened' o ks cs f i)) (sym (last-left setup before opened' o ks cs f i).state)
    (demanded_after (setup_in setup) (lent_state before) (is-accepted setup before opened' o ks cs f i) (happened setup before opened' o ks cs f i)))

-- a load on a run that is sound but for its time
more-not-nine : (x : Lent) (load out : List ℕ) → neither_settled x.run ≡ false → unsound_for_good (lent_state x) ≡ false → (generating_more x load out).answer ≢ 9
unfolding generating_more
more-not-nine x load out sorted good = by_cond NotNine (ltb (length x.run) run_length || ltb (length load) load_length) (called_load 1 x load out) _ (λ t e. absurd (omega (arith, e)))
    (λ f. by_cond NotNine (neither_settled x.run || unsound_for_good (lent_state x)) (called_load 9 x load out) (told_load x load out (load_in load (lent_state x) (length out)))
    (λ t. absurd (fails (unsound_for_good (lent_state x)) good (or-true (neither_settled x.run) (unsound_for_good (lent_state x)) sorted t))) (λ t e. absurd (omega (arith, e))))
  where
    NotNine : CalledLoad → Type 0
    NotNine c = c.answer ≢ 9

pub never-nine : NeverNine
never-nine setup before opened' o ks cs f i (one k) c g nine =
    let l = last-left setup before opened' o ks cs f i in
    stays-sound (setup_in setup) (lent_state before) (is-accepted setup before opened' o ks cs f i) (happened setup before opened' o ks cs f i) (event_as k)
    (ap (λ (a : State). check_of (applied (event_as k) a).answer) (sym l.state) ∙ sym (ap (λ (b : Called). b.answer) (call-told _ k (lent_after opened' cs i) c l.laid g)) ∙ nine)
never-nine setup before opened' o ks cs f i (many events) c g nine =
    let z : c.answer ≡ 0 = ap (λ (b : CalledAll). b.answer)
    (many-told _ events (lent_after opened' cs i) c.answer c.lent g.0 (last-left setup before opened' o ks cs f i).laid g.1) in
    absurd (omega arith)
never-nine setup before opened' o ks cs f i (more load out) c g nine =
    let l = last-left setup before opened' o ks cs f i in
    let good : unsound_for_good (lent_state (lent_after opened' cs i)) ≡ false = reachable-good (lent_state (lent_after opened' cs i)) (record {
      setup = setup_in setup;
      before = lent_state before;
      opens = is-accepted setup before opened' o ks cs f i;
      events = happened setup before opened' o ks cs f i;
      is = l.state;
    }) in
    more-not-nine (lent_after opened' cs i) load out l.laid.sorted good (sym (ap (λ (b : CalledLoad). b.answer) g.2) ∙ nine)

one_more : (s : State) (xs : List Event) (e : Event) → after s (xs ++ (e ∷ [])) ≡ (applied e (after s xs)).state
unfolding after
one_more s xs e = list_law s xs (e ∷ [])

-- of what an accepted opening and the events es have left
none-nine : (u : Setup) (before : State) → T (accepted (opening u before).answer) → (es : List Event) (ws : List ℕ)
    → NoneNine (words_applied ws (after (opening u before).state es)).words
unfolding words_applied
none-nine u before ok es [] = tt
none-nine u before ok es (a ∷ []) = tt
none-nine u before ok es (a ∷ b ∷ []) = tt
none-nine u before ok es (a ∷ b ∷ c ∷ []) = tt
none-nine u before ok es (a ∷ b ∷ c ∷ d ∷ ws) =
    let e : Event = event_of a b c d in (
      stays-sound u before ok es e,
      subst (λ (s : State). NoneNine (words_applied ws s).words) (one_more (opening u before).state es e) (none-nine u before ok (es ++ (e ∷ [])) ws),
    )

pub never-nine-of-many : NeverNineOfMany
never-nine-of-many setup before opened' o ks cs f i events r after' left g =
    let l = last-left setup before opened' o ks cs f i in
    let t = many-told _ events (lent_after opened' cs i) r after' left l.laid g in
    subst NoneNine (sym (ap (λ (b : CalledAll). b.events) t ∙ ap (λ (a : State). (words_applied events a).words) l.state))
    (none-nine (setup_in setup) (lent_state before) (is-accepted setup before opened' o ks cs f i) (happened setup before opened' o ks cs f i) events)

pub settling-told : SettlingTold
unfolding run_in
settling-told setup before opened' o ks cs f i =
    let b = began-left setup before opened' o ks cs f i in
    let l = last-left setup before opened' o ks cs f i in
    let s = settled-since (first setup before opened' o ks cs f i) b.0.2 (happened setup before opened' o ks cs f i) in
    subst (λ (a : State). SettledTold (since_settling a (events_of a (take i ks))) (lent_after opened' cs i).run) (sym b.1.state)
    (record {
      settled = ap (λ (a : State). a.run.settled) l.state ∙ s.flag;
      ticks = λ y. ap (λ (a : State). a.run.time) l.state ∙ s.time y
          ∙ sym (ap (λ (a : State). a.run.gst + ticks_since (since_settling (first setup before opened' o ks cs f i) (happened setup before opened' o ks cs f i))) l.state);
    })

-- what a report answers on the words of a run that is opened here
pub traffic-of-library : TrafficOfLibrary
traffic-of-library setup before opened' o ks cs f i ws left r room told =
    let b = began-left setup before opened' o ks cs f i in
    let l = last-left setup before opened' o ks cs f i in
    let es = happened setup before opened' o ks cs f i in
    told ∙ sym (report-is (lent_after opened' cs i) ws l.laid.long room l.laid.sorted)
    ∙ ap (λ (a : State). told_report ws (totals a)) l.state
    ∙ ap (told_report ws) (report-is-history (setup_in setup) (lent_state before) (is-accepted setup before opened' o ks cs f i) es)
    ∙ ap (λ (a : State). told_report ws (Ok (history_totals (setup_in setup) (lent_state before) (events_of a (take i ks))))) (sym b.1.state)
