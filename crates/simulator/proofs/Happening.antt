-- Each event in each of its cases. Assumes nothing.
use mathlib.Core.Path.{◌≡◌, refl, sym, ap, ap₂, ◌∙◌}
use mathlib.Core.Bool.{Bool, true, false, not, cond}
use mathlib.Core.Logic.{◌≢◌}
use mathlib.Core.List.{List}
use Prim.Native.Nat.{ℕ, ◌+◌, ◌≤◌, ◌<◌}
use native.Mathlib.Nat.{le_refl}
use native.Mathlib.Omega.{arith}
use lib.Dec.{ltb}
use lib.ListN.{length}
use borrow.Author.Tests.{le-ltb, eqb-false}
use Rattle.base.specs.Choice.{cond_yes, cond_no, not_yes, not-no}
use Rattle.types.specs.declared.Plan.{Plan}
use Rattle.types.specs.declared.Message.{Message}
use Rattle.types.specs.declared.Message.TheVariants.{View, Vote, Vc, Qc}
use Rattle.types.specs.declared.Event.{Event}
use Rattle.types.specs.declared.Event.TheVariants.{Deliver, Sign, Show, Settle, Tick}
use Rattle.types.specs.declared.Run.{Run}
use Rattle.types.specs.declared.Traffic.{Traffic}
use Rattle.types.specs.declared.Form.TheVariants.{Packed}
use Rattle.types.specs.Quantities.{lead}
use Rattle.types.specs.Messages.{view_in, processor_in, stage_of, lacks_form}
use Rattle.model.specs.State.{State, After, state_of, with_held, with_traffic, view_of, is_correct, capacity, room_in, refused, done}
use Rattle.model.specs.Moves.{Change, still, Entry, stay, into, entering, by_quorum, by_view, taking, hearing, handling, made}
use Rattle.model.specs.Checks.{unsound, named_outside, not_initial, exists, not_held, reaches_end, overfull}
use Rattle.model.specs.Events.{without, delivering, signing, now_settled, tick_run, checks, effect, applied}
use Rattle.liveness.proofs.Answers.{no-yes}
use Rattle.liveness.proofs.Unchecked.{handling-sums}
use Rattle.leaps.proofs.Leaping.{still-made}
use Rattle.simulator.specs.declared.Reaction.{Reaction}
use Rattle.simulator.specs.declared.Reaction.TheVariants.{Heard, Moved as MovedBy}
use Rattle.std.specs.Prelude.{Result, Ok, Err}
use Rattle.simulator.specs.Inner.{change_by, sent_for, Decides, ReachesCorrect, named_check, finished, held_without, leaving, handled}
use Rattle.simulator.proofs.Fitness.{fit_of, room_of}
use Rattle.simulator.proofs.Delivery.{room-left}
use Rattle.simulator.proofs.Moving.{stays-below}
use Rattle.simulator.proofs.Deciding.{named-passed, named-refused, change-sent}

-- ---- checks 17 and 18 of a change, and the change made

module _ (s s' : State) (c : Change) where
  pub finish-ends : reaches_end s'.run c ≡ true → refused s 17 ≡ finished s s' c
  finish-ends e = rw e refl

  pub finish-full : reaches_end s'.run c ≡ false → overfull s' c ≡ true → refused s 18 ≡ finished s s' c
  finish-full e f = rw (e, f) refl

  pub finish-done : reaches_end s'.run c ≡ false → overfull s' c ≡ false → done (made s' c) ≡ finished s s' c
  finish-done e f = rw (e, f) refl

-- nothing of it looks at the sums, nor at how many messages are held
change-left : (r : Run) (h : ℕ) (y : Traffic) (t : List ℕ) (m : Message) (x : Reaction) → change_by (with_traffic y (with_held h r)) t m x ≡ change_by r t m x
change-left r h y t m (Heard formed) = refl
change-left r h y t m (MovedBy x) = refl

taking-held : (h : ℕ) (r : Run) (t : List ℕ) (p : ℕ) (e : Entry) → taking (with_held h r) t p e ≡ taking r t p e
unfolding taking entering
taking-held h r t p stay = refl
taking-held h r t p (into w) = refl

handling-held : (h : ℕ) (r : Run) (t : List ℕ) (m : Message) → handling (with_held h r) t m ≡ handling r t m
unfolding handling hearing
handling-held h r t (View w p) = refl
handling-held h r t (Vote w p) = refl
handling-held h r t (Vc w p) = taking-held h r t p (by_view r.plan (view_of r p) w)
handling-held h r t (Qc w p) = taking-held h r t p (by_quorum (view_of r p) w)

handling-left : (r : Run) (h : ℕ) (y : Traffic) (t : List ℕ) (m : Message) → handling (with_traffic y (with_held h r)) t m ≡ handling r t m
handling-left r h y t m = handling-sums y (with_held h r) t m ∙ handling-held h r t m

decides-left : (r : Run) (h : ℕ) (y : Traffic) (t : List ℕ) (m : Message) (x : Result Reaction ℕ) → Decides r t m x → Decides (with_traffic y (with_held h r)) t m x
unfolding reaches_end
decides-left r h y t m (Ok x) d = (ap (reaches_end r) (handling-left r h y t m) ∙ d.0, change-left r h y t m x ∙ d.1 ∙ sym (handling-left r h y t m), d.2)
decides-left r h y t m (Err k) d = (ap (reaches_end r) (handling-left r h y t m) ∙ d.0, d.1)

-- so other sums alone change nothing of it
pub decides-counted : (r : Run) (y : Traffic) (t : List ℕ) (m : Message) (x : Result Reaction ℕ) → Decides r t m x → Decides (with_traffic y r) t m x
decides-counted r y t m x d = decides-left r r.held y t m x d

-- what was decided of a message on the run that holds it, of the state that it leaves
module _ (r : Run) (t ws : List ℕ) (m : Message) (i : ℕ) where
  abbrev left : State
  left = leaving (state_of r t ws) m i

  pub handled-decides : (x : Result Reaction ℕ) → Decides r t m x → Decides left.run t m x
  handled-decides x d = decides-left r (held_without r.held i) left.run.traffic t m x d

  pub handled-full : r.held ≤ capacity Packed ws → (x : Reaction) → Decides r t m (Ok x) → (room : ℕ) → room ≡ capacity Packed ws → (held : ℕ) → held ≡ held_without r.held i
      → ltb room (held + length (sent_for r.plan r.faulty m x)) ≡ overfull left (handling left.run t m)
  handled-full fits x d room e held h =
      ap₂ (λ (k n : ℕ). ltb n (k + length (sent_for r.plan r.faulty m x))) h (e ∙ sym (room-left r t ws m i fits).0)
      ∙ ap (λ (ms : List Message). ltb (room_in left) (left.run.held + length ms))
      (sym (change-sent left.run t m x) ∙ ap (λ (c : Change). c.sent) (handled-decides (Ok x) d).1)

-- ---- what is named

module _ (s : State) (m : Message) where
  abbrev plan : Plan
  plan = s.run.plan

  -- deliver
  module _ (sound : unsound s ≡ false) where
    pub deliver-named : (k : ℕ) → k ≡ named_check plan m → 0 < k → refused s k ≡ applied (Deliver m) s
    unfolding applied checks
    deliver-named k e l = cond_no (unsound s) (refused s k) (refused s 9) _ sound (named-refused (refused s) plan m k _ e l)

    module _ (named : named_check plan m ≡ 0) where
      deliver-rest : (a : After) → a ≡ cond (not_held s m) (refused s 13) (finished s (without s m) (delivering s m)) → a ≡ applied (Deliver m) s
      unfolding applied checks effect
      deliver-rest a e = cond_no (unsound s) a (refused s 9) _ sound (cond_no (named_outside plan (processor_in m) (view_in m)) a (refused s 10) _ (named-passed plan m named).0
          (cond_no (not_initial plan (stage_of m) (view_in m)) a (refused s 11) _ (named-passed plan m named).1 e))

      pub deliver-missing : not_held s m ≡ true → refused s 13 ≡ applied (Deliver m) s
      deliver-missing e = deliver-rest (refused s 13) (cond_yes (not_held s m) (refused s 13) (refused s 13) _ e refl)

      pub deliver-held : not_held s m ≡ false → (i : ℕ) → leaving s m i ≡ without s m → handled s m i ≡ applied (Deliver m) s
      unfolding delivering
      deliver-held e i w = deliver-rest (handled s m i) (cond_no (not_held s m) (handled s m i) (refused s 13) _ e
          (ap (λ (x : State). finished s x (handling x.run s.tally m)) w))

  -- sign
  module _ (formed : lacks_form (Sign m) ≡ false) (sound : unsound s ≡ false) where
    pub sign-named : (k : ℕ) → k ≡ named_check plan m → 0 < k → refused s k ≡ applied (Sign m) s
    unfolding applied checks
    sign-named k e l = cond_no (lacks_form (Sign m)) (refused s k) (refused s 1) _ formed
        (cond_no (unsound s) (refused s k) (refused s 9) _ sound (named-refused (refused s) plan m k _ e l))

    module _ (named : named_check plan m ≡ 0) where
      sign-rest : (a : After) → a ≡ cond (is_correct s.run (processor_in m)) (refused s 12) (finished s s (signing s m)) → a ≡ applied (Sign m) s
      unfolding applied checks effect
      sign-rest a e = cond_no (lacks_form (Sign m)) a (refused s 1) _ formed (cond_no (unsound s) a (refused s 9) _ sound
          (cond_no (named_outside plan (processor_in m) (view_in m)) a (refused s 10) _ (named-passed plan m named).0
          (cond_no (not_initial plan (stage_of m) (view_in m)) a (refused s 11) _ (named-passed plan m named).1 e)))

      pub sign-correct : is_correct s.run (processor_in m) ≡ true → refused s 12 ≡ applied (Sign m) s
      sign-correct e = sign-rest (refused s 12) (cond_yes (is_correct s.run (processor_in m)) (refused s 12) (refused s 12) _ e refl)

      pub sign-heard : is_correct s.run (processor_in m) ≡ false → is_correct s.run (lead plan (view_in m)) ≡ true → (a : After)
          → a ≡ finished s s (handling s.run s.tally m) → a ≡ applied (Sign m) s
      unfolding signing
      sign-heard e l a q = sign-rest a (cond_no (is_correct s.run (processor_in m)) a (refused s 12) _ e
          (q ∙ ap (finished s s) (cond_yes (is_correct s.run (lead plan (view_in m))) _ _ (still s.run s.tally) l refl)))

      pub sign-unheard : is_correct s.run (processor_in m) ≡ false → is_correct s.run (lead plan (view_in m)) ≡ false → (a : After)
          → a ≡ finished s s (still s.run s.tally) → a ≡ applied (Sign m) s
      unfolding signing
      sign-unheard e l a q = sign-rest a (cond_no (is_correct s.run (processor_in m)) a (refused s 12) _ e
          (q ∙ ap (finished s s) (cond_no (is_correct s.run (lead plan (view_in m))) _ (handling s.run s.tally m) _ l refl)))

  -- show
  module _ (formed : lacks_form (Show m) ≡ false) (sound : unsound s ≡ false) where
    pub show-named : (k : ℕ) → k ≡ named_check plan m → 0 < k → refused s k ≡ applied (Show m) s
    unfolding applied checks
    show-named k e l = cond_no (lacks_form (Show m)) (refused s k) (refused s 1) _ formed
        (cond_no (unsound s) (refused s k) (refused s 9) _ sound (named-refused (refused s) plan m k _ e l))

    module _ (named : named_check plan m ≡ 0) where
      abbrev there : Bool
      there = exists (stage_of m) s.run s.tally (view_in m)

      show-rest : (a : After) → a ≡ cond (not (is_correct s.run (processor_in m))) (refused s 12) (cond (not there) (refused s 14)
          (finished s s (handling s.run s.tally m))) → a ≡ applied (Show m) s
      unfolding applied checks effect
      show-rest a e = cond_no (lacks_form (Show m)) a (refused s 1) _ formed (cond_no (unsound s) a (refused s 9) _ sound
          (cond_no (named_outside plan (processor_in m) (view_in m)) a (refused s 10) _ (named-passed plan m named).0
          (cond_no (not_initial plan (stage_of m) (view_in m)) a (refused s 11) _ (named-passed plan m named).1 e)))

      pub show-faulty : is_correct s.run (processor_in m) ≡ false → refused s 12 ≡ applied (Show m) s
      show-faulty e = show-rest (refused s 12) (cond_yes (not (is_correct s.run (processor_in m))) (refused s 12) (refused s 12) _ (not-no _ e) refl)

      pub show-none : is_correct s.run (processor_in m) ≡ true → there ≡ false → refused s 14 ≡ applied (Show m) s
      show-none e f = show-rest (refused s 14) (cond_no (not (is_correct s.run (processor_in m))) (refused s 14) (refused s 12) _ (not_yes _ e)
          (cond_yes (not there) (refused s 14) (refused s 14) _ (not-no _ f) refl))

      pub show-there : is_correct s.run (processor_in m) ≡ true → there ≡ true → (a : After) → a ≡ finished s s (handling s.run s.tally m) → a ≡ applied (Show m) s
      show-there e f a q = show-rest a (cond_no (not (is_correct s.run (processor_in m))) a (refused s 12) _ (not_yes _ e)
          (cond_no (not there) a (refused s 14) _ (not_yes _ f) q))

-- ---- settle

pub settle-again : (s : State) → unsound s ≡ false → s.run.settled ≡ true → refused s 15 ≡ applied Settle s
unfolding applied checks
settle-again s sound e = cond_no (unsound s) (refused s 15) (refused s 9) _ sound (cond_yes s.run.settled (refused s 15) (refused s 15) _ e refl)

pub settle-first : (s : State) → unsound s ≡ false → s.run.settled ≡ false → done (now_settled s) ≡ applied Settle s
unfolding applied checks effect
settle-first s sound e = cond_no (unsound s) (done (now_settled s)) (refused s 9) _ sound
    (cond_no s.run.settled (done (now_settled s)) (refused s 15) _ e refl)

-- ---- whom a signature or a certificate reaches

pub signature-reaches : (r : Run) (m : Message) → lacks_form (Sign m) ≡ false → ReachesCorrect r m
signature-reaches r (View w p) e = tt
signature-reaches r (Vote w p) e = tt
signature-reaches r (Vc w p) e = no-yes e
signature-reaches r (Qc w p) e = no-yes e

pub certificate-reaches : (r : Run) (m : Message) → is_correct r (processor_in m) ≡ true → ReachesCorrect r m
certificate-reaches r (View w p) e = tt
certificate-reaches r (Vote w p) e = tt
certificate-reaches r (Vc w p) e = e
certificate-reaches r (Qc w p) e = e

-- nothing changed is done: no clock has moved, and what is held fits
pub finish-still : (s : State) → unsound s ≡ false → done s ≡ finished s s (still s.run s.tally)
finish-still s sound =
    let l : s.run.held + 0 ≤ room_in s = omega (arith, room_of s sound) in
    ap done (still-made s) ∙ finish-done s s (still s.run s.tally) (stays-below s.run (fit_of s sound) (still s.run s.tally) refl) (le-ltb _ _ l)

-- a message that is not held leaves nothing behind
pub none-leaves : (s : State) (m : Message) → handled s m s.run.held ≡ finished s s (handling s.run s.tally m)
none-leaves s m =
    let w : leaving s m s.run.held ≡ s = rw (le-ltb s.run.held s.run.held (le_refl s.run.held)) refl in
    ap (λ (x : State). finished s x (handling x.run s.tally m)) w

-- ---- checks 1 and 9 of every event

pub lacking : (e : Event) (s : State) → lacks_form e ≡ true → refused s 1 ≡ applied e s
unfolding applied checks
lacking e s q = cond_yes (lacks_form e) (refused s 1) (refused s 1) _ q refl

pub unsound-handed : (e : Event) (s : State) → lacks_form e ≡ false → unsound s ≡ true → refused s 9 ≡ applied e s
unfolding applied checks
unsound-handed e s q u = cond_no (lacks_form e) (refused s 9) (refused s 1) _ q (cond_yes (unsound s) (refused s 9) (refused s 9) _ u refl)

pub ticks-applied : (m : ℕ) (s : State) → lacks_form (Tick m) ≡ false → unsound s ≡ false → tick_run m s ≡ applied (Tick m) s
unfolding applied checks effect
ticks-applied m s q u = cond_no (lacks_form (Tick m)) (tick_run m s) (refused s 1) _ q (cond_no (unsound s) (tick_run m s) (refused s 9) _ u refl)

pub ticks-some : (m : ℕ) → lacks_form (Tick m) ≡ false → 0 < m
ticks-some m q = let ne : m ≢ 0 = eqb-false m 0 q in omega arith
