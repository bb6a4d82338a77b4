-- What a step is in each of its cases, and what an answer says of it. Assumes nothing.
use Rattle.std.specs.Prelude.{Result}
use mathlib.Core.Path.{◌≡◌, refl, ap, subst, ◌∙◌}
use mathlib.Core.Bool.{Bool, true, false, cond}
use mathlib.Core.List.{[], ◌∷◌}
use Prim.Native.Nat.{ℕ, ◌+◌, ◌≤◌, ◌<◌, max}
use native.Mathlib.Omega.{arith}
use native.Mathlib.Nat.{mul-le-mul_right}
use lib.Dec.{ltb, ltb→lt}
use borrow.Author.Tests.{ltb-false, le-leb, lt-leb}
use Rattle.base.specs.Tests.{T_false, by_cond}
use Rattle.base.specs.Choice.{cond_yes, cond_no, not_yes}
use Rattle.types.specs.declared.Plan.{Plan}
use Rattle.types.specs.declared.Message.TheVariants.{View, Vote}
use Rattle.types.specs.declared.Processor.{Processor}
use Rattle.types.specs.declared.Input.{Input}
use Rattle.types.specs.declared.Input.TheVariants.{Tick, Vc, Qc}
use Rattle.types.specs.declared.Sends.{Sends}
use Rattle.types.specs.declared.Sends.TheVariants.{Vote as VoteFor, ViewAndVote}
use Rattle.types.specs.Quantities.{initial, clock_time, end_time}
use Rattle.model.specs.Moves.{Entry, into, entry_messages, by_clock, by_quorum, by_view}
use Rattle.model.specs.Checks.{at_end}
use Rattle.model.specs.Processors.{Moved, Gives, messages_of, sending, moving, processor_unsound, refusing, stepped}
use Rattle.pacemaker.specs.Limits.{Sound}
use Rattle.pacemaker.specs.Steps.{ending, entry_into, stepping}
use Rattle.pacemaker.proofs.LimitLaws.{gamma_positive}

-- ---- the answer

pub as_moved : {m m' : Moved} {c : Processor} {a : Result Sends ℕ} → m ≡ m' → Gives m c a → Gives m' c a
as_moved {c = c} {a = a} e g = subst (λ (m : Moved). Gives m c a) e g

-- ---- check 17

module _ (plan : Plan) (c : Processor) (m : Moved) where
  pub ends : at_end plan m.processor.clock ≡ true → refusing c 17 ≡ ending plan c m
  ends e = cond_yes _ _ _ _ e refl

  pub goes_on : at_end plan m.processor.clock ≡ false → m ≡ ending plan c m
  goes_on e = cond_no _ _ _ _ e refl

-- ---- entering a view

entry-sends : (plan : Plan) (p w : ℕ) → messages_of p (cond (initial plan w) (ViewAndVote w) (VoteFor w)) ≡ entry_messages plan p w
entry-sends plan p w = by-test (initial plan w)
  where
    by-test : (t : Bool) → messages_of p (cond t (ViewAndVote w) (VoteFor w)) ≡ cond t (View w p ∷ Vote w p ∷ []) (Vote w p ∷ [])
    by-test true = refl
    by-test false = refl

-- a clock below the time becomes the time
raised : (clock t : ℕ) → max clock t ≡ cond (ltb clock t) t clock
raised clock t = by_cond (λ (x : ℕ). max clock t ≡ x) (ltb clock t) t clock (λ u. omega (arith, ltb→lt clock t u)) (λ u. omega (arith, ltb-false clock t (T_false (ltb clock t) u)))

-- what is made of the clock, its view's time and the messages is the entry into w
pub entered : (plan : Plan) (c : Processor) (clock w t next : ℕ) (x : Sends) → t ≡ clock_time plan w → next ≡ max clock t
    → x ≡ cond (initial plan w) (ViewAndVote w) (VoteFor w)
    → sending (record { number = c.number; clock = next; view = w }) (messages_of c.number x) ≡ moving plan c.number clock c.view (into w)
entered plan c clock w t next x is-t is-next is_x i = record {
  processor = record { number = c.number; clock = (is-next ∙ raised clock t ∙ ap (λ (u : ℕ). cond (ltb clock u) u clock) is-t) i; view = w };
  sent = (ap (messages_of c.number) is_x ∙ entry-sends plan c.number w) i;
  check = 0;
}

-- a sound processor's entry goes on, but for that into the view limit
module _ (plan : Plan) (c : Processor) (s : Sound plan c) (w : ℕ) where
  pub entry-goes-on : w < plan.views → moving plan c.number c.clock c.view (into w) ≡ entry_into plan c w
  entry-goes-on l = goes_on plan c _ (lt-leb (end_time plan) _ (by_cond (λ (x : ℕ). x < end_time plan) (ltb c.clock time) time c.clock
      (λ t. early) (λ t. s.before_end)))
    where
      time : ℕ
      time = clock_time plan w

      early : time < end_time plan
      early = omega (arith, mul-le-mul_right plan.gamma l, gamma_positive plan s.within)

-- ---- rules 1 to 3

module _ (plan : Plan) (c : Processor) where
  -- a tick that makes the entry e
  pub ticked : (e : Entry) → e ≡ by_clock plan (c.clock + 1) → ending plan c (moving plan c.number (c.clock + 1) c.view e) ≡ stepping plan c Tick
  ticked e is = ap (λ (x : Entry). ending plan c (moving plan c.number (c.clock + 1) c.view x)) is

  module _ (w : ℕ) where
    -- a view certificate that makes the entry e
    pub certified : (e : Entry) → w < plan.views → initial plan w ≡ true → e ≡ by_view plan c.view w
        → ending plan c (moving plan c.number c.clock c.view e) ≡ stepping plan c (Vc w)
    certified e l i is = cond_no _ _ _ _ (lt-leb _ _ l) (cond_no _ _ _ _ (not_yes _ i)
        (ap (λ (x : Entry). ending plan c (moving plan c.number c.clock c.view x)) is))

    -- a quorum certificate that makes the entry e
    pub voted : (e : Entry) → w < plan.views → e ≡ by_quorum c.view w
        → ending plan c (moving plan c.number c.clock c.view e) ≡ stepping plan c (Qc w)
    voted e l is = cond_no _ _ _ _ (lt-leb _ _ l)
        (ap (λ (x : Entry). ending plan c (moving plan c.number c.clock c.view x)) is)

-- ---- checks 9 and 10

module _ (plan : Plan) (c : Processor) where
  pub refused-unsound : (i : Input) → processor_unsound plan c ≡ true → refusing c 9 ≡ stepped plan c i
  unfolding stepped
  refused-unsound i e = cond_yes _ _ _ _ e refl

  pub refused-processor : (i : Input) → processor_unsound plan c ≡ false → plan.n ≤ c.number → refusing c 10 ≡ stepped plan c i
  unfolding stepped
  refused-processor i e l = cond_no _ _ _ _ e (cond_yes _ _ _ _ (le-leb _ _ l) refl)

  pub is-stepping : (i : Input) → processor_unsound plan c ≡ false → c.number < plan.n → stepping plan c i ≡ stepped plan c i
  unfolding stepped
  is-stepping Tick e l = cond_no _ _ _ _ e (cond_no _ _ _ _ (lt-leb _ _ l) refl)
  is-stepping (Vc w) e l = cond_no _ _ _ _ e (cond_no _ _ _ _ (lt-leb _ _ l) refl)
  is-stepping (Qc w) e l = cond_no _ _ _ _ e (cond_no _ _ _ _ (lt-leb _ _ l) refl)
