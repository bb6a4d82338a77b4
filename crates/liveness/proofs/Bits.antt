-- What setting a bit of the tally keeps, every event keeps. Assumes nothing.
use mathlib.Core.Bool.{Bool, true, false}
use mathlib.Core.List.{List}
use Prim.Native.Nat.{ℕ, zero, suc}
use Rattle.base.specs.Tests.{by_cond}
use Rattle.types.specs.declared.Message.{Message}
use Rattle.types.specs.declared.Message.TheVariants.{View, Vote, Vc, Qc}
use Rattle.types.specs.declared.Event.{Event}
use Rattle.types.specs.declared.Event.TheVariants.{Deliver, Sign, Show, Settle, Tick}
use Rattle.types.specs.declared.Run.{Run}
use Rattle.types.specs.Quantities.{lead}
use Rattle.types.specs.Messages.{view_stage, vote_stage, view_in}
use Rattle.model.specs.State.{State, After, view_of, is_correct, entered_word, heard_word, marks_word, mark_bit, added, check_of, refused}
use Rattle.model.specs.Moves.{Change, changed, still, Entry, stay, into, by_view, by_quorum, entering, taking, entries, forms, heard_tally, hearing, handling, advanced, arrival, arrivals, made}
use Rattle.model.specs.Events.{without, delivering, signing, now_settled, tick_checks, tick_once, continued, ticks, tick_run, effect, applied}
use Rattle.liveness.proofs.Judging.{by-judged, by-applied}

module _ (P : List ℕ → Type 0) (keeps : (t : List ℕ) (w j p : ℕ) → P t → P (added t w j p)) where
  taking-keeps : (r : Run) (t : List ℕ) (p : ℕ) (e : Entry) → P t → P (taking r t p e).tally
  unfolding taking entering
  taking-keeps r t p stay x = x
  taking-keeps r t p (into w) x = keeps t w entered_word p x

  pub entries-keeps : (e : ℕ → Entry) (r : Run) (t : List ℕ) (k : ℕ) → P t → P (entries e r t k).tally
  unfolding entries
  entries-keeps e r t zero x = x
  entries-keeps e r t (suc k) x = let c = entries e r t k in taking-keeps (changed r c) c.tally k (e k) (entries-keeps e r t k x)

  heard-keeps : (t : List ℕ) (q : Bool) (w p : ℕ) (formed : Bool) → P t → P (heard_tally t q w p formed)
  heard-keeps t q w p true x = keeps (added t w (heard_word q) p) w marks_word (mark_bit q) (keeps t w (heard_word q) p x)
  heard-keeps t q w p false x = keeps t w (heard_word q) p x

  handling-keeps : (r : Run) (t : List ℕ) (m : Message) → P t → P (handling r t m).tally
  unfolding handling hearing
  handling-keeps r t (View w p) x = heard-keeps t view_stage w p (forms view_stage r t w p) x
  handling-keeps r t (Vote w p) x = heard-keeps t vote_stage w p (forms vote_stage r t w p) x
  handling-keeps r t (Vc w p) x = taking-keeps r t p (by_view r.plan (view_of r p) w) x
  handling-keeps r t (Qc w p) x = taking-keeps r t p (by_quorum (view_of r p) w) x

  once-keeps : (s : State) → P s.tally → P (tick_once s).state.tally
  unfolding tick_once made arrivals
  once-keeps s x = by-judged (λ (a : After). P a.state.tally) (refused s) (tick_checks s) _
      (λ r. x) (λ c. entries-keeps (arrival (advanced s).run) (advanced s).run s.tally s.run.plan.n x)

  ticks-keeps : (m : ℕ) (s : State) → P s.tally → P (ticks m s).state.tally
  unfolding ticks
  ticks-keeps zero s x = x
  ticks-keeps (suc m) s x = go (check_of (tick_once s).answer) (ticks-keeps m (tick_once s).state (once-keeps s x))
    where
      go : (r : ℕ) → P (ticks m (tick_once s).state).state.tally → P (continued s r (ticks m (tick_once s).state)).state.tally
      go zero y = y
      go (suc r) y = x

  effect-keeps : (e : Event) (s : State) → P s.tally → P (effect e s).state.tally
  unfolding effect made delivering signing now_settled tick_run
  effect-keeps (Deliver m) s x = handling-keeps (without s m).run s.tally m x
  effect-keeps (Sign m) s x = by_cond (λ (c : Change). P c.tally) (is_correct s.run (lead s.run.plan (view_in m)))
      (handling s.run s.tally m) (still s.run s.tally) (λ t. handling-keeps s.run s.tally m x) (λ t. x)
  effect-keeps (Show m) s x = handling-keeps s.run s.tally m x
  effect-keeps Settle s x = x
  effect-keeps (Tick m) s x = ticks-keeps m s x

  pub event-keeps : (e : Event) (s : State) → P s.tally → P (applied e s).state.tally
  event-keeps e s x = by-applied (λ (a : After). P a.state.tally) e s (λ r. x) (λ c. effect-keeps e s x)
