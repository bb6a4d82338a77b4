-- Tally words beyond the views are never read, and an opening reads nothing of what is at hand but lengths and the form. Assumes nothing.
use mathlib.Core.Path.{◌≡◌, refl, sym, ap, ◌∙◌, subst}
use mathlib.Core.Bool.{Bool, true, false, not, cond}
use mathlib.Core.List.{List, [], ◌∷◌, ◌++◌}
use Prim.Native.Nat.{ℕ, zero, suc, ◌*◌, ◌<◌}
use native.Mathlib.Omega.{arith}
use lib.Dec.{ltb, ltb→lt, lt→ltb}
use lib.ListN.{length, take, drop, replicate, length-take, length-replicate}
use lib.Seq.{take_at}
use Rattle.base.specs.Tests.{T-iff}
use Rattle.types.specs.declared.Message.{Message}
use Rattle.types.specs.declared.Event.{Event}
use Rattle.types.specs.declared.Event.TheVariants.{Deliver, Sign, Show, Settle, Tick}
use Rattle.types.specs.declared.Answer.TheVariants.{Done}
use Rattle.types.specs.declared.Run.{Run}
use Rattle.types.specs.declared.Setup.{Setup}
use Rattle.types.specs.Quantities.{row_words, lead}
use Rattle.types.specs.Messages.{view_in, processor_in, stage_of, lacks_form}
use Rattle.model.specs.State.{State, with_run, with_tally, with_network, After, is_correct, accepted, check_of, refused, done}
use Rattle.model.specs.Moves.{Change, still, Entry, entries, handling, advanced, arrival, arrivals, made}
use Rattle.model.specs.Checks.{Check, judged, message_unsound, unsound, named_outside, not_initial, signer_correct, receiver_faulty, not_held, not_existing, overdue, reaches_end}
use Rattle.model.specs.Opening.{blank_run, blank, first_entry, opened, setup_checks, opening_checks, opening}
use Rattle.model.specs.Events.{outcome_checks, without, delivering, signing, now_settled, tick_once, Ticks, continued, ticks, ticks_answer, tick_run, input_checks, change_checks, checks, effect, applied}
use Rattle.liveness.specs.Unread.{SameWithin, BeyondUnread, OpensWithin}
use Rattle.liveness.proofs.Judging.{Passes, by-judged-two, named-within}
use Rattle.liveness.proofs.TallyLaws.{length-added}
use Rattle.liveness.proofs.Opens.{opened-lengths}
use Rattle.liveness.proofs.Answers.{no-yes}
use Rattle.liveness.proofs.Bits.{event-keeps}
use Rattle.liveness.proofs.Cutting.{cut_change, entries-cut, exists-cut, handling-cut}

-- without the tally's words beyond the views
abbrev cut_state : State → State
cut_state s = with_tally (take (row_words * s.run.plan.views) s.tally) s

-- two states are the same within the views where they are the same without those words, and as long
cut-same : (s s' : State) → SameWithin s s' → cut_state s ≡ cut_state s'
cut-same s s' h =
    let t : (cut_state s).tally ≡ (cut_state s').tally = h.tally ∙ ap (λ (r : Run). take (row_words * r.plan.views) s'.tally) h.run in
    λ i. record { run = h.run i; tally = t i; network = h.network i; form = h.form i }

same-cut : (s s' : State) → cut_state s ≡ cut_state s' → length s.tally ≡ length s'.tally → SameWithin s s'
same-cut s s' e l =
    let r : s.run ≡ s'.run = ap (λ (a : State). a.run) e in
    record {
      run = r;
      network = ap (λ (a : State). a.network) e;
      form = ap (λ (a : State). a.form) e;
      tally = ap (λ (a : State). a.tally) e ∙ sym (ap (λ (x : Run). take (row_words * x.plan.views) s'.tally) r);
      lengths = l;
    }

-- entries of processors leave the same
entered-cut : (s : State) (e : ℕ → Entry) (n : ℕ)
    → made (cut_state s) (entries e s.run (cut_state s).tally n) ≡ cut_state (made s (entries e s.run s.tally n))
unfolding made
entered-cut s e n = ap (made (cut_state s)) (entries-cut (row_words * s.run.plan.views) e s.run s.tally n)

-- ---- openings

module _ (u : Setup) where
  blank_cut : (s : State) → cut_state (blank u s)
      ≡ with_run (blank_run u) (with_tally (replicate (row_words * u.plan.views) 0) (with_network (replicate (length s.network) 0) s))
  unfolding blank
  blank_cut s =
      let k = row_words * u.plan.views in
      ap (λ (l : List ℕ). with_tally l (blank u s)) (take_at (replicate k 0) (drop k s.tally) k (length-replicate {A = ℕ} k 0))

  opened-cut : (s s' : State) → s.form ≡ s'.form → length s.network ≡ length s'.network → cut_state (opened u s) ≡ cut_state (opened u s')
  unfolding opened
  opened-cut s s' f l =
      sym (entered-cut (blank u s) (first_entry u) u.plan.n)
      ∙ ap (λ (b : State). made b (entries (first_entry u) b.run b.tally u.plan.n)) (blank_cut s
      ∙ (λ i. record { run = blank_run u; tally = replicate (row_words * u.plan.views) 0; network = replicate (l i) 0; form = f i }) ∙ sym (blank_cut s'))
      ∙ entered-cut (blank u s') (first_entry u) u.plan.n

pub opens-within : OpensWithin
unfolding opening
opens-within u s s' long =
    let e : opening_checks u s ≡ opening_checks u s' = λ i. setup_checks (long.form i) u (long.tally i) (long.network i) in
    subst (λ (cs : List Check). Alike (opening u s) (judged (refused s') cs (done (opened u s')))) e
    (by-judged-two Alike (refused s) (refused s') (opening_checks u s) (done (opened u s)) (done (opened u s'))
    (λ r. (refl, λ t. no-yes (sym t)))
    (λ c. let w = within c (subst Passes e c) in (ap (λ (r : Run). Done 0 r.held) w.run, λ t. w)))
  where
    Alike : After → After → Type 0
    Alike a b = (a.answer ≡ b.answer) × (accepted a.answer ≡ true → SameWithin a.state b.state)

    within : Passes (opening_checks u s) → Passes (opening_checks u s') → SameWithin (opened u s) (opened u s')
    within c c' = same-cut (opened u s) (opened u s') (opened-cut u s s' long.form long.network) ((opened-lengths u s c).0 ∙ long.tally ∙ sym (opened-lengths u s' c').0)

-- ---- events

abbrev cut_after : After → After
cut_after a = record { state = cut_state a.state; answer = a.answer }

abbrev Cuts : After → After → Type 0
Cuts a b = a ≡ cut_after b

-- check 9 asks whether the views' words are there, and reads none of them
unsound-cut : (s : State) → unsound (cut_state s) ≡ unsound s
unfolding unsound message_unsound
unsound-cut s = rw short refl
  where
    k : ℕ
    k = row_words * s.run.plan.views

    short : ltb (length (take k s.tally)) k ≡ ltb (length s.tally) k
    short = T-iff (ltb (length (take k s.tally)) k) (ltb (length s.tally) k)
        (λ t. let l : length (take k s.tally) < k = ltb→lt _ _ t in
        let g : length s.tally < k = omega (arith, length-take k s.tally) in lt→ltb _ _ g)
        (λ t. let l : length s.tally < k = ltb→lt _ _ t in
        let g : length (take k s.tally) < k = omega (arith, length-take k s.tally) in lt→ltb _ _ g)

-- a change c of a, of which d is the cut one, made where neither these checks nor 17 and 18 refuse; j ticks are answered
acted-cut : (s a : State) (cs : List Check) (j : ℕ) (c d : Change) → d ≡ cut_change (row_words * a.run.plan.views) c
    → Cuts
    (judged (refused (cut_state s)) (cs ++ outcome_checks (cut_state a) d)
    (record { state = made (cut_state a) d; answer = Done j (made (cut_state a) d).run.held }))
    (judged (refused s) (cs ++ outcome_checks a c) (record { state = made a c; answer = Done j (made a c).run.held }))
unfolding made reaches_end
acted-cut s a cs j c d e =
    ap (λ (x : Change). judged (refused (cut_state s)) (cs ++ outcome_checks (cut_state a) x)
    (record { state = made (cut_state a) x; answer = Done j (made (cut_state a) x).run.held })) e
    ∙ by-judged-two Cuts (refused (cut_state s)) (refused s) (cs ++ outcome_checks a c) _ _ (λ r. refl) (λ p. refl)

once-cut : (s : State) → Cuts (tick_once (cut_state s)) (tick_once s)
unfolding tick_once arrivals overdue
once-cut s =
    let a = advanced s in
    acted-cut s a ((16, overdue s) ∷ []) 1 (arrivals a) (arrivals (cut_state a))
    (entries-cut (row_words * a.run.plan.views) (arrival a.run) a.run a.tally a.run.plan.n)

abbrev cut_ticks : Ticks → Ticks
cut_ticks x = record { state = cut_state x.state; count = x.count; check = x.check }

ticks-cut : (m : ℕ) (s : State) → ticks m (cut_state s) ≡ cut_ticks (ticks m s)
unfolding ticks
ticks-cut zero s = refl
ticks-cut (suc m) s =
    ap (λ (a : After). continued (cut_state s) (check_of a.answer) (ticks m a.state)) (once-cut s)
    ∙ ap (continued (cut_state s) (check_of (tick_once s).answer)) (ticks-cut m (tick_once s).state)
    ∙ go (check_of (tick_once s).answer)
  where
    go : (r : ℕ) → continued (cut_state s) r (cut_ticks (ticks m (tick_once s).state)) ≡ cut_ticks (continued s r (ticks m (tick_once s).state))
    go zero = refl
    go (suc r) = refl

-- behind check 10 a message names a view whose words are left
named-cut : (s : State) (m : Message) (a b : After) → (view_in m < s.run.plan.views → Cuts a b)
    → Cuts (judged (refused (cut_state s)) ((10, named_outside s.run.plan (processor_in m) (view_in m)) ∷ []) a)
    (judged (refused s) ((10, named_outside s.run.plan (processor_in m) (view_in m)) ∷ []) b)
named-cut s m a b h = by-judged-two Cuts (refused (cut_state s)) (refused s) ((10, named_outside s.run.plan (processor_in m) (view_in m)) ∷ []) a b
    (λ r. refl) (λ p. h (named-within s.run.plan (processor_in m) (view_in m) p.0).1)

signing-cut : (s : State) (m : Message) → view_in m < s.run.plan.views
    → signing (cut_state s) m ≡ cut_change (row_words * s.run.plan.views) (signing s m)
unfolding signing
signing-cut s m low = go (is_correct s.run (lead s.run.plan (view_in m)))
  where
    k : ℕ
    k = row_words * s.run.plan.views

    go : (b : Bool) → cond b (handling s.run (take k s.tally) m) (still s.run (take k s.tally))
        ≡ cut_change k (cond b (handling s.run s.tally m) (still s.run s.tally))
    go true = handling-cut s.run.plan.views s.run s.tally m low
    go false = refl

-- the checks from 10 on, and the effect
further-cut : (e : Event) (s : State)
    → Cuts (judged (refused (cut_state s)) (input_checks e (cut_state s) ++ change_checks e (cut_state s)) (effect e (cut_state s)))
    (judged (refused s) (input_checks e s ++ change_checks e s) (effect e s))
unfolding effect delivering without now_settled tick_run
further-cut (Deliver m) s = named-cut s m _ _ (λ low.
    acted-cut s (without s m) ((11, not_initial s.run.plan (stage_of m) (view_in m)) ∷ (13, not_held s m) ∷ []) 0 (delivering s m) (delivering (cut_state s) m)
    (handling-cut s.run.plan.views (without s m).run s.tally m low))
further-cut (Sign m) s = named-cut s m _ _ (λ low.
    acted-cut s s ((11, not_initial s.run.plan (stage_of m) (view_in m)) ∷ (12, signer_correct s m) ∷ []) 0 (signing s m) (signing (cut_state s) m)
    (signing-cut s m low))
further-cut (Show m) s = named-cut s m _ _ (λ low.
    let first : List Check = (11, not_initial s.run.plan (stage_of m) (view_in m)) ∷ (12, receiver_faulty s m) ∷ [] in
    let d = handling s.run (cut_state s).tally m in
    ap (λ (b : Bool). judged (refused (cut_state s)) (first ++ ((14, not b) ∷ outcome_checks (cut_state s) d)) (done (made (cut_state s) d)))
    (exists-cut s.run.plan.views s.tally (view_in m) low (stage_of m) s.run)
    ∙ acted-cut s s (first ++ ((14, not_existing s m) ∷ [])) 0 (handling s.run s.tally m) d
    (handling-cut s.run.plan.views s.run s.tally m low))
further-cut Settle s = by-judged-two Cuts (refused (cut_state s)) (refused s) (input_checks Settle s) _ _ (λ r. refl) (λ p. refl)
further-cut (Tick m) s = ap (λ (x : Ticks). record { state = x.state; answer = ticks_answer x }) (ticks-cut m s)

applied-cut : (e : Event) (s : State) → Cuts (applied e (cut_state s)) (applied e s)
unfolding applied checks
applied-cut e s =
    ap (λ (b : Bool). judged (refused (cut_state s)) ((1, lacks_form e) ∷ (9, b) ∷ (input_checks e (cut_state s) ++ change_checks e (cut_state s)))
    (effect e (cut_state s))) (unsound-cut s)
    ∙ by-judged-two Cuts (refused (cut_state s)) (refused s) ((1, lacks_form e) ∷ (9, unsound s) ∷ []) _ _ (λ r. refl) (λ p. further-cut e s)

-- no event changes the tally's length
event-length : (e : Event) (s : State) → length (applied e s).state.tally ≡ length s.tally
event-length e s = event-keeps (λ (t : List ℕ). length t ≡ length s.tally) (λ t w j p l. length-added t w j p ∙ l) e s refl

pub beyond-unread : BeyondUnread
beyond-unread e s s' h =
    let x : cut_after (applied e s) ≡ cut_after (applied e s') = sym (applied-cut e s) ∙ ap (applied e) (cut-same s s' h) ∙ applied-cut e s' in (
      ap (λ (a : After). a.answer) x,
      same-cut (applied e s).state (applied e s').state (ap (λ (a : After). a.state) x) (event-length e s ∙ h.lengths ∙ sym (event-length e s')),
    )
