-- No check and no move reads the sums of a run: with others in their place an event or an opening does the same but for the sums. Assumes nothing.
use mathlib.Core.Path.{◌≡◌, refl, sym, ap, ◌∙◌, subst}
use mathlib.Core.Bool.{cond}
use mathlib.Core.List.{List, [], ◌∷◌, ◌++◌}
use Prim.Native.Nat.{ℕ, zero, suc, ◌+◌}
use lib.Dec.{T}
use lib.ListN.{set}
use Rattle.types.specs.declared.Message.{Message}
use Rattle.types.specs.declared.Message.TheVariants.{View, Vote, Vc, Qc}
use Rattle.types.specs.declared.Event.{Event}
use Rattle.types.specs.declared.Event.TheVariants.{Deliver, Sign, Show, Settle, Tick}
use Rattle.types.specs.declared.Answer.TheVariants.{Done}
use Rattle.types.specs.declared.Run.{Run}
use Rattle.types.specs.declared.Traffic.{Traffic}
use Rattle.types.specs.Quantities.{lead}
use Rattle.types.specs.Messages.{view_in, lacks_form}
use Rattle.types.specs.Traffic.{traffic_sent, traffic_delivered}
use Rattle.model.specs.State.{State, with_run, After, with_time, with_clocks, with_traffic, clock_of, view_of, is_correct, check_of, accepted, refused, done}
use Rattle.model.specs.Moves.{Change, changed, still, also, Entry, stay, into, entering, by_quorum, by_view, taking, entries, hearing, handling, clocks_on, advanced, arrival, arrivals, made}
use Rattle.model.specs.Checks.{Check, judged, message_unsound, unsound, exists, overdue, reaches_end}
use Rattle.model.specs.Opening.{blank, opened, opening_checks, opening}
use Rattle.model.specs.Events.{outcome_checks, wait_of, without, delivering, signing, now_settled, tick_once, Ticks, continued, ticks, ticks_answer, tick_run, input_checks, checks, effect, applied}
use Rattle.model.specs.Traffic.{with_sums}
use Rattle.liveness.specs.Traffic.{SumsUnchecked, OpensUnchecked}
use Rattle.liveness.proofs.Judging.{by-judged-two}

-- ---- moves

module _ (x : Traffic) where
  taking-sums : (r : Run) (t : List ℕ) (p : ℕ) (e : Entry) → taking (with_traffic x r) t p e ≡ taking r t p e
  unfolding taking entering
  taking-sums r t p stay = refl
  taking-sums r t p (into w) = refl

  entries-sums : (e : ℕ → Entry) (r : Run) (t : List ℕ) (k : ℕ) → entries e (with_traffic x r) t k ≡ entries e r t k
  unfolding entries
  entries-sums e r t zero = refl
  entries-sums e r t (suc k) =
      let c : Change = entries e r t k in
      ap (λ (d : Change). also d (taking (changed (with_traffic x r) d) d.tally k (e k))) (entries-sums e r t k)
      ∙ ap (also c) (taking-sums (changed r c) c.tally k (e k))

  pub handling-sums : (r : Run) (t : List ℕ) (m : Message) → handling (with_traffic x r) t m ≡ handling r t m
  unfolding handling hearing
  handling-sums r t (View w p) = refl
  handling-sums r t (Vote w p) = refl
  handling-sums r t (Vc w p) = taking-sums r t p (by_view r.plan (view_of r p) w)
  handling-sums r t (Qc w p) = taking-sums r t p (by_quorum (view_of r p) w)

  signing-sums : (s : State) (m : Message) → signing (with_sums x s) m ≡ signing s m
  unfolding signing
  signing-sums s m = ap (λ (c : Change). cond (is_correct s.run (lead s.run.plan (view_in m))) c (still s.run s.tally))
      (handling-sums s.run s.tally m)

  clocks-sums : (r : Run) (k : ℕ) → clocks_on (with_traffic x r) k ≡ clocks_on r k
  unfolding clocks_on
  clocks-sums r zero = refl
  clocks-sums r (suc k) = ap (λ (l : List ℕ). cond (is_correct r k) (set l k (clock_of r k + 1)) l) (clocks-sums r k)

  advanced-sums : (s : State) → advanced (with_sums x s) ≡ with_sums x (advanced s)
  advanced-sums s = ap (λ (l : List ℕ). with_run (with_traffic x (with_time (s.run.time + 1) (with_clocks l s.run))) s)
      (clocks-sums s.run s.run.plan.n)

  arrivals-sums : (a : State) → arrivals (with_sums x a) ≡ arrivals a
  unfolding arrivals
  arrivals-sums a = entries-sums (arrival a.run) a.run a.tally a.run.plan.n

-- ---- what is left

-- the same with other sums
abbrev summed : Traffic → After → After
summed y a = record { state = with_sums y a.state; answer = a.answer }

abbrev Alike : After → After → Type 0
Alike a b = (y : Traffic) × (a ≡ summed y b)

-- the change c of a, made where neither these checks nor 17 and 18 refuse; j ticks are answered
abbrev acting : State → State → List Check → ℕ → Change → After
acting s a cs j c = judged (refused s) (cs ++ outcome_checks a c) (record { state = made a c; answer = Done j (made a c).run.held })

acting-sums : (x y : Traffic) (s a : State) (cs : List Check) (j : ℕ) (c d : Change) → d ≡ c
    → Alike (acting (with_sums x s) (with_sums y a) cs j d) (acting s a cs j c)
unfolding made reaches_end
acting-sums x y s a cs j c d e = subst (λ (z : Change). Alike (acting (with_sums x s) (with_sums y a) cs j z) (acting s a cs j c)) (sym e)
    (by-judged-two Alike (refused (with_sums x s)) (refused s) (cs ++ outcome_checks a c) _ _ (λ r. (x, refl)) (λ p. (traffic_sent y c.sent, refl)))

-- ---- ticks

once-sums : (x : Traffic) (s : State) → Alike (tick_once (with_sums x s)) (tick_once s)
unfolding tick_once overdue
once-sums x s =
    let first : List Check = (16, overdue s) ∷ [] in
    subst (λ (a : State). Alike (acting (with_sums x s) a first 1 (arrivals a)) (tick_once s)) (sym (advanced-sums x s))
    (acting-sums x x s (advanced s) first 1 (arrivals (advanced s)) (arrivals (with_sums x (advanced s))) (arrivals-sums x (advanced s)))

abbrev summed_ticks : Traffic → Ticks → Ticks
summed_ticks y k = record { state = with_sums y k.state; count = k.count; check = k.check }

ticks-alike : (m : ℕ) (x : Traffic) (s : State) → (y : Traffic) × (ticks m (with_sums x s) ≡ summed_ticks y (ticks m s))
unfolding ticks
ticks-alike zero x s = (x, refl)
ticks-alike (suc m) x s = go (once-sums x s) (λ y. ticks-alike m y (tick_once s).state)
  where
    later : Ticks
    later = ticks m (tick_once s).state

    on : (r : ℕ) (y : Traffic) → (z : Traffic) × (continued (with_sums x s) r (summed_ticks y later) ≡ summed_ticks z (continued s r later))
    on zero y = (y, refl)
    on (suc r) y = (x, refl)

    go : Alike (tick_once (with_sums x s)) (tick_once s)
        → ((y : Traffic) → (z : Traffic) × (ticks m (with_sums y (tick_once s).state) ≡ summed_ticks z later))
        → (z : Traffic) × (continued (with_sums x s) (check_of (tick_once (with_sums x s)).answer) (ticks m (tick_once (with_sums x s)).state)
        ≡ summed_ticks z (continued s (check_of (tick_once s).answer) later))
    go a ih =
        let i = ih a.0 in
        let o = on (check_of (tick_once s).answer) i.0 in (
          o.0,
          ap (λ (b : After). continued (with_sums x s) (check_of b.answer) (ticks m b.state)) a.1
              ∙ ap (continued (with_sums x s) (check_of (tick_once s).answer)) i.1 ∙ o.1,
        )

-- ---- every event

unsound-sums : (x : Traffic) (s : State) → unsound (with_sums x s) ≡ unsound s
unfolding unsound message_unsound
unsound-sums x s = refl

-- the checks that do not look at what it would change
abbrev inputs : Event → State → List Check
inputs e s = (1, lacks_form e) ∷ (9, unsound s) ∷ input_checks e s

applied-sums : (x : Traffic) (e : Event) (s : State) → Alike (applied e (with_sums x s)) (applied e s)
unfolding applied checks effect unsound message_unsound exists delivering without now_settled tick_run
applied-sums x (Deliver m) s =
    acting-sums x (traffic_delivered x m (wait_of s m)) s (without s m) (inputs (Deliver m) s) 0
    (delivering s m) (delivering (with_sums x s) m) (handling-sums (traffic_delivered x m (wait_of s m)) (without s m).run s.tally m)
applied-sums x (Sign m) s =
    acting-sums x x s s (inputs (Sign m) s) 0 (signing s m) (signing (with_sums x s) m) (signing-sums x s m)
applied-sums x (Show m) s =
    acting-sums x x s s (inputs (Show m) s) 0 (handling s.run s.tally m)
    (handling (with_traffic x s.run) s.tally m) (handling-sums x s.run s.tally m)
applied-sums x Settle s = by-judged-two Alike (refused (with_sums x s)) (refused s) (checks Settle s) _ _ (λ r. (x, refl)) (λ p. (x, refl))
applied-sums x (Tick m) s =
    by-judged-two Alike (refused (with_sums x s)) (refused s) (checks (Tick m) s) _ _ (λ r. (x, refl))
    (λ p. let t = ticks-alike m x s in (t.0, ap (λ (k : Ticks). record { state = k.state; answer = ticks_answer k }) t.1))

pub sums-unchecked : SumsUnchecked
sums-unchecked e s x =
    let a = applied-sums x e s in
    (unsound-sums x s, ap (λ (b : After). b.answer) a.1, ap (λ (b : After). with_sums x b.state) a.1)

-- ---- an opening

-- what is left is alike, and the same where it is accepted
abbrev SameOpened : After → After → Type 0
SameOpened a b =
    (a.answer ≡ b.answer) × ((y : Traffic) → with_sums y a.state ≡ with_sums y b.state) × (T (accepted b.answer) → a.state ≡ b.state)

pub opens-unchecked : OpensUnchecked
unfolding opening opened blank
opens-unchecked u s x =
    by-judged-two SameOpened (refused (with_sums x s)) (refused s) (opening_checks u s) (done (opened u s)) (done (opened u s))
    (λ r. (refl, λ y. refl, λ t. absurd t)) (λ c. (refl, λ y. refl, λ t. refl))
