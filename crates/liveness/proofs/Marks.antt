-- The mark of a quorum certificate turns only where rule 5 forms it. Assumes nothing.
use mathlib.Core.Path.{◌≡◌, sym, subst}
use mathlib.Core.Bool.{Bool, true, false, not, ◌&&◌}
use mathlib.Core.Logic.{⊎_elim}
use mathlib.Core.List.{List, [], ◌∷◌}
use Prim.Native.Nat.{ℕ, zero, suc, ◌*◌, ◌≤◌, ◌<◌}
use native.Mathlib.Omega.{arith}
use lib.Dec.{T, eqb, leb, eqb→eq, T_not, not_T}
use lib.ListN.{length}
use Rattle.base.specs.Tests.{passes?, T-left, T-right, T_and, T-iff, or_left, or_right, eq→eqb, by_cond}
use Rattle.base.specs.Sets.{member, insert, size}
use Rattle.base.specs.SetLaws.{member-insert}
use Rattle.types.specs.declared.Message.{Message}
use Rattle.types.specs.declared.Message.TheVariants.{View, Vote, Vc, Qc}
use Rattle.types.specs.declared.Event.{Event}
use Rattle.types.specs.declared.Event.TheVariants.{Deliver, Sign, Show, Settle, Tick}
use Rattle.types.specs.declared.Run.{Run}
use Rattle.types.specs.Quantities.{row_words, lead}
use Rattle.types.specs.Messages.{vote_stage, kind_of, view_in, processor_in, addressee}
use Rattle.model.specs.State.{State, After, is_correct, view_of, entered_word, heard_word, marks_word, mark_bit, slot, word, added, check_of, accepted, refused}
use Rattle.model.specs.Moves.{Change, changed, still, Entry, stay, into, by_view, by_quorum, needed, forms, ripe, entering, taking, entries, hearing, handling, advanced, arrival, arrivals, made}
use Rattle.model.specs.Checks.{not_held, limits_broken, unsound}
use Rattle.model.specs.Events.{without, delivering, signing, now_settled, tick_checks, tick_once, continued, ticks, tick_run, effect, applied}
use Rattle.model.specs.Lists.{after, forms_quorum, formed_in, formed_during}
use Rattle.liveness.specs.Promises.{quorum_mark, MarksAreFormed}
use Rattle.liveness.proofs.TallyLaws.{heard-low, length-added, added-same, added-only}
use Rattle.liveness.proofs.Soundness.{sound-of, rows_long}
use Rattle.liveness.proofs.Lasting.{lasts-of, held-addressed}
use Rattle.liveness.proofs.Judging.{named-within, Passed, by-judged, by-applied}

-- the mark of w's quorum certificate
abbrev pub Marked : List ℕ → ℕ → Type 0
Marked t w = T (quorum_mark t w)

-- entries leave the marks alone
entry-mark : (r : Run) (t : List ℕ) (p : ℕ) (e : Entry) (w : ℕ) → Marked (taking r t p e).tally w → Marked t w
unfolding taking entering
entry-mark r t p stay w x = x
entry-mark r t p (into u) w x = ⊎_elim (λ y. y) (λ y. absurd (omega (arith, y.0))) (added-only t u entered_word p w marks_word (mark_bit true) x)

entries-mark : (e : ℕ → Entry) (r : Run) (t : List ℕ) (k w : ℕ) → Marked (entries e r t k).tally w → Marked t w
unfolding entries
entries-mark e r t zero w x = x
entries-mark e r t (suc k) w x = let c = entries e r t k in entries-mark e r t k w (entry-mark (changed r c) c.tally k (e k) w x)

-- hearing a signature sets the mark only where rule 5 forms the certificate
signer-mark : (q : Bool) (t : List ℕ) (v p w : ℕ) → Marked (added t v (heard_word q) p) w → Marked t w
signer-mark q t v p w x = ⊎_elim (λ y. y) (λ y. absurd (omega (arith, y.0, heard-low q))) (added-only t v (heard_word q) p w marks_word (mark_bit true) x)

hearing-mark : (q : Bool) (r : Run) (t : List ℕ) (v p w : ℕ) → (Marked t w → ⊥) → Marked (hearing q r t v p).tally w → T q × (v ≡ w) × T (forms q r t v p)
unfolding hearing
hearing-mark q r t v p w no' = by_cond (λ (l : List ℕ). Marked l w → T q × (v ≡ w) × T (forms q r t v p)) (forms q r t v p) _ _
    (λ f x. ⊎_elim (λ y. absurd (no' (signer-mark q t v p w y))) (λ y. (stage q y.1, omega (arith, y.0), f))
    (added-only (added t v (heard_word q) p) v marks_word (mark_bit q) w marks_word (mark_bit true) x))
    (λ f x. absurd (no' (signer-mark q t v p w x)))
  where
    stage : (d : Bool) → mark_bit true ≡ mark_bit d → T d
    stage true e = tt
    stage false e = absurd (omega arith)

-- ticks leave the marks alone
once-mark : (s : State) (w : ℕ) → Marked (tick_once s).state.tally w → Marked s.tally w
unfolding tick_once made arrivals
once-mark s w = by-judged (λ (a : After). Marked a.state.tally w → Marked s.tally w) (refused s)
    (tick_checks s) _
    (λ r x. x) (λ c x. entries-mark (arrival (advanced s).run) (advanced s).run s.tally s.run.plan.n w x)

ticks-mark : (m : ℕ) (s : State) (w : ℕ) → Marked (ticks m s).state.tally w → Marked s.tally w
unfolding ticks
ticks-mark zero s w x = x
ticks-mark (suc m) s w x = go (check_of (tick_once s).answer) (λ y. once-mark s w (ticks-mark m (tick_once s).state w y)) x
  where
    go : (r : ℕ) → (Marked (ticks m (tick_once s).state).state.tally w → Marked s.tally w)
        → Marked (continued s r (ticks m (tick_once s).state)).state.tally w → Marked s.tally w
    go zero f x = f x
    go (suc r) f x = x

-- ---- a vote that is delivered was for a correct leader

pub addressed : (s : State) (m : Message) → (T (unsound s) → ⊥) → (T (not_held s m) → ⊥)
    → T (is_correct s.run (addressee s.run.plan (kind_of m) (view_in m) (processor_in m)))
addressed s m sound is_held_lem = (held-addressed s (lasts-of s (sound-of s sound)) m is_held_lem).for_correct

-- ---- each event

-- a vote that a correct leader hears, or nothing
vote-mark : (q : Bool) (r : Run) (t : List ℕ) (v p w : ℕ) → (Marked t w → ⊥) → T (is_correct r (lead r.plan v)) → Marked (hearing q r t v p).tally w
    → T q × T (eqb v w && is_correct r (lead r.plan w) && forms q r t w p)
vote-mark q r t v p w no' led x =
    let y = hearing-mark q r t v p w no' x in (
      y.0,
      T_and (eqb v w && is_correct r (lead r.plan w)) _ (T_and (eqb v w) _ (eq→eqb v w y.1)
          (subst (λ (u : ℕ). T (is_correct r (lead r.plan u))) y.1 led))
          (subst (λ (u : ℕ). T (forms q r t u p)) y.1 y.2),
    )

module _ (s : State) (w : ℕ) (no' : Marked s.tally w → ⊥) where
  delivered-mark : (m : Message) → Passed (Deliver m) s → Marked (delivering s m).tally w → T (forms_quorum s.run s.tally m w)
  unfolding delivering without handling ripe
  delivered-mark (View v p) c x =
      absurd (vote-mark false (without s (View v p)).run s.tally v p w no' (addressed s (View v p) c.sound c.input.1.1.0) x).0
  delivered-mark (Vote v p) c x = (vote-mark true (without s (Vote v p)).run s.tally v p w no' (addressed s (Vote v p) c.sound c.input.1.1.0) x).1
  delivered-mark (Vc v p) c x = absurd (no' (entry-mark (without s (Vc v p)).run s.tally p (by_view s.run.plan (view_of s.run p) v) w x))
  delivered-mark (Qc v p) c x = absurd (no' (entry-mark (without s (Qc v p)).run s.tally p (by_quorum (view_of s.run p) v) w x))

  signed-mark : (m : Message) → Passed (Sign m) s → Marked (signing s m).tally w → T (forms_quorum s.run s.tally m w)
  unfolding signing handling
  signed-mark (View v p) c = by_cond (λ (d : Change). Marked d.tally w → ⊥) (is_correct s.run (lead s.run.plan v))
      (hearing false s.run s.tally v p) (still s.run s.tally)
      (λ l x. (vote-mark false s.run s.tally v p w no' l x).0) (λ l x. no' x)
  signed-mark (Vote v p) c = by_cond (λ (d : Change). Marked d.tally w → T (forms_quorum s.run s.tally (Vote v p) w))
      (is_correct s.run (lead s.run.plan v)) (hearing true s.run s.tally v p) (still s.run s.tally)
      (λ l x. (vote-mark true s.run s.tally v p w no' l x).1) (λ l x. absurd (no' x))
  signed-mark (Vc v p) c = absurd (c.form tt)
  signed-mark (Qc v p) c = absurd (c.form tt)

  shown-mark : (m : Message) → Passed (Show m) s → Marked (handling s.run s.tally m).tally w → ⊥
  unfolding handling
  shown-mark (View v p) c x = c.form tt
  shown-mark (Vote v p) c x = c.form tt
  shown-mark (Vc v p) c x = no' (entry-mark s.run s.tally p (by_view s.run.plan (view_of s.run p) v) w x)
  shown-mark (Qc v p) c x = no' (entry-mark s.run s.tally p (by_quorum (view_of s.run p) v) w x)

turned-formed : (s : State) (e : Event) (w : ℕ) → (Marked s.tally w → ⊥) → Marked (applied e s).state.tally w → T (formed_in e s w)
unfolding effect formed_in made now_settled tick_run
turned-formed s (Deliver m) w no' = by-applied (λ (a : After). Marked a.state.tally w
    → T (accepted a.answer && forms_quorum s.run s.tally m w)) (Deliver m) s
    (λ r x. absurd (no' x)) (λ c x. delivered-mark s w no' m c x)
turned-formed s (Sign m) w no' = by-applied (λ (a : After). Marked a.state.tally w
    → T (accepted a.answer && forms_quorum s.run s.tally m w)) (Sign m) s
    (λ r x. absurd (no' x)) (λ c x. signed-mark s w no' m c x)
turned-formed s (Show m) w no' = by-applied (λ (a : After). Marked a.state.tally w → ⊥) (Show m) s
    (λ r x. no' x) (λ c x. shown-mark s w no' m c x)
turned-formed s Settle w no' = by-applied (λ (a : After). Marked a.state.tally w → ⊥) Settle s
    (λ r x. no' x) (λ c x. no' x)
turned-formed s (Tick m) w no' = by-applied (λ (a : After). Marked a.state.tally w → ⊥) (Tick m) s
    (λ r x. no' x) (λ c x. no' (ticks-mark m s w x))

-- ---- and where rule 5 forms it, the mark turns

-- a vote that makes it is heard in a row of the tally
formed-turned : (s : State) (r : Run) (v p w : ℕ) → (T (limits_broken s) → ⊥) → v < s.run.plan.views → (v ≡ w) → T (forms vote_stage r s.tally v p)
    → (Marked s.tally w → ⊥) × Marked (hearing vote_stage r s.tally v p).tally w
unfolding hearing ripe
formed-turned s r v p w limits low e f = (fresh, by_cond (λ (l : List ℕ). Marked l w) (forms vote_stage r s.tally v p) _ _ (λ t. set-now) (λ t. absurd (t f)))
  where
    rows : row_words * s.run.plan.views ≤ length s.tally
    rows = rows_long s limits

    long : slot v marks_word < length (added s.tally v (heard_word vote_stage) p)
    long = omega (arith, length-added s.tally v (heard_word vote_stage) p, rows)

    set-now : Marked (added (added s.tally v (heard_word vote_stage) p) v marks_word (mark_bit vote_stage)) w
    set-now = subst (λ (u : ℕ). Marked (added (added s.tally v (heard_word vote_stage) p) v marks_word (mark_bit vote_stage)) u) e
        (rw (
          added-same (added s.tally v (heard_word vote_stage) p) v marks_word (mark_bit vote_stage) long,
          member-insert (word (added s.tally v (heard_word vote_stage) p) v marks_word) (mark_bit vote_stage) (mark_bit vote_stage),
        )
        (or_right (member (word (added s.tally v (heard_word vote_stage) p) v marks_word) (mark_bit vote_stage)) _ tt))

    fresh : Marked s.tally w → ⊥
    fresh x = T_not (member (word s.tally v marks_word) (mark_bit vote_stage))
        (T-right (leb (needed vote_stage r.plan) (size (insert (word s.tally v (heard_word vote_stage)) p))) _
        (T-left (leb (needed vote_stage r.plan) (size (insert (word s.tally v (heard_word vote_stage)) p)) && not
        (member (word s.tally v marks_word) (mark_bit vote_stage))) _ f))
        (subst (λ (u : ℕ). Marked s.tally u) (sym e) x)

module _ (s : State) (w : ℕ) where
  delivered-turned : (m : Message) → Passed (Deliver m) s → T (forms_quorum s.run s.tally m w)
      → (Marked s.tally w → ⊥) × Marked (delivering s m).tally w
  unfolding delivering without handling ripe
  delivered-turned (View v p) c x = absurd x
  delivered-turned (Vote v p) c x =
      let e : v ≡ w = eqb→eq v w (T-left (eqb v w) _ (T-left (eqb v w && is_correct s.run (lead s.run.plan w)) _ x)) in
      formed-turned s (without s (Vote v p)).run v p w (sound-of s c.sound).limits (named-within s.run.plan p v c.input.0).1 e
      (subst (λ (u : ℕ). T (forms vote_stage s.run s.tally u p)) (sym e) (T-right (eqb v w && is_correct s.run (lead s.run.plan w)) _ x))
  delivered-turned (Vc v p) c x = absurd x
  delivered-turned (Qc v p) c x = absurd x

  signed-turned : (m : Message) → Passed (Sign m) s → T (forms_quorum s.run s.tally m w)
      → (Marked s.tally w → ⊥) × Marked (signing s m).tally w
  unfolding signing handling
  signed-turned (View v p) c x = absurd x
  signed-turned (Vote v p) c x =
      let both = T-left (eqb v w && is_correct s.run (lead s.run.plan w)) _ x in
      let e : v ≡ w = eqb→eq v w (T-left (eqb v w) _ both) in
      by_cond (λ (d : Change). (Marked s.tally w → ⊥) × Marked d.tally w) (is_correct s.run (lead s.run.plan v))
      (hearing vote_stage s.run s.tally v p) (still s.run s.tally)
      (λ l. formed-turned s s.run v p w (sound-of s c.sound).limits (named-within s.run.plan p v c.input.0).1 e
      (subst (λ (u : ℕ). T (forms vote_stage s.run s.tally u p)) (sym e) (T-right (eqb v w && is_correct s.run (lead s.run.plan w)) _ x)))
      (λ l. absurd (l (subst (λ (u : ℕ). T (is_correct s.run (lead s.run.plan u))) (sym e) (T-right (eqb v w) _ both))))
  signed-turned (Vc v p) c x = absurd x
  signed-turned (Qc v p) c x = absurd x

  turn : (t : List ℕ) → (Marked s.tally w → ⊥) × Marked t w → T (not (quorum_mark s.tally w) && quorum_mark t w)
  turn t x = T_and (not (quorum_mark s.tally w)) _ (not_T (quorum_mark s.tally w) x.0) x.1

formed-turns : (s : State) (e : Event) (w : ℕ) → T (formed_in e s w) → T (not (quorum_mark s.tally w) && quorum_mark (applied e s).state.tally w)
unfolding effect formed_in made
formed-turns s (Deliver m) w = by-applied (λ (a : After). T (accepted a.answer && forms_quorum s.run s.tally m w)
    → T (not (quorum_mark s.tally w) && quorum_mark a.state.tally w)) (Deliver m) s
    (λ r x. absurd x) (λ c x. turn s w (delivering s m).tally (delivered-turned s w m c x))
formed-turns s (Sign m) w = by-applied (λ (a : After). T (accepted a.answer && forms_quorum s.run s.tally m w)
    → T (not (quorum_mark s.tally w) && quorum_mark a.state.tally w)) (Sign m) s
    (λ r x. absurd x) (λ c x. turn s w (signing s m).tally (signed-turned s w m c x))
formed-turns s (Show m) w = λ x. absurd x
formed-turns s Settle w = λ x. absurd x
formed-turns s (Tick m) w = λ x. absurd x

pub marks-are-formed : MarksAreFormed
marks-are-formed s e w = T-iff (formed_in e s w) (not (quorum_mark s.tally w) && quorum_mark (applied e s).state.tally w) (formed-turns s e w)
    (λ x. turned-formed s e w (T_not (quorum_mark s.tally w) (T-left (not (quorum_mark s.tally w)) _ x)) (T-right (not (quorum_mark s.tally w)) _ x))

-- a mark that a list of events turns is formed in one of them
pub marked-during : (es : List Event) (s : State) (w : ℕ) → (Marked s.tally w → ⊥) → Marked (after s es).tally w → T (formed_during s es w)
unfolding after formed_during
marked-during [] s w no' x = absurd (no' x)
marked-during (e ∷ es) s w no' x = ⊎_elim
    (λ y. or_left (formed_in e s w) (formed_during (applied e s).state es w) (turned-formed s e w no' y))
    (λ y. or_right (formed_in e s w) (formed_during (applied e s).state es w) (marked-during es (applied e s).state w y x))
    (passes? (member (word (applied e s).state.tally w marks_word) (mark_bit true)))
