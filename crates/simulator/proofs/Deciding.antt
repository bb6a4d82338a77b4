-- What is named, and what a message makes of whom it reaches. Assumes nothing.
use mathlib.Core.Path.{◌≡◌, refl, sym, ap, ap₂, ◌∙◌, subst}
use mathlib.Core.Bool.{Bool, true, false, not, ◌&&◌, cond}
use mathlib.Core.List.{List}
use Rattle.std.specs.Prelude.{Ok, Err, is_ok}
use Prim.Native.Nat.{ℕ, zero, suc, ◌+◌, ◌≤◌, ◌<◌}
use native.Mathlib.Omega.{arith}
use lib.Dec.{leb, ltb}
use lib.ListN.{length}
use borrow.Author.Tests.{le-leb, lt-leb}
use Rattle.base.specs.Tests.{fails}
use Rattle.base.specs.Choice.{cond_yes, cond_no, or-first, or-second, or-neither, and_both, and-not-first, and-not-second, not_yes, not-no}
use Rattle.types.specs.declared.Plan.{Plan}
use Rattle.types.specs.declared.Message.{Message}
use Rattle.types.specs.declared.Message.TheVariants.{View, Vote, Vc, Qc}
use Rattle.types.specs.declared.Run.{Run}
use Rattle.types.specs.declared.Traffic.{Traffic}
use Rattle.types.specs.declared.Form.TheVariants.{Packed}
use Rattle.types.specs.declared.Input.TheVariants.{Vc as VcIn, Qc as QcIn}
use Rattle.types.specs.Quantities.{n_most, views_most, initial}
use Rattle.types.specs.Traffic.{traffic_sent}
use Rattle.types.specs.Messages.{view_stage, vote_stage, view_in, processor_in, stage_of}
use Rattle.model.specs.State.{state_of, with_held, with_traffic, view_of, is_correct}
use Rattle.model.specs.Moves.{Change, changed, by_view, by_quorum, forms, hearing, handling, made, heard_change}
use Rattle.model.specs.Checks.{plan_outside, no_processor, no_view, named_outside, not_initial, reaches_end, passed, refusal}
use Rattle.liveness.proofs.Answers.{no-yes}
use Rattle.liveness.proofs.Judging.{named-within}
use Rattle.model.specs.Processors.{moving_by}
use Rattle.pacemaker.proofs.LimitLaws.{within as limits}
use Rattle.buffers.specs.Network.{packable, is-sayable}
use Rattle.simulator.specs.declared.Move.{Move}
use Rattle.simulator.specs.declared.Reaction.{Reaction}
use Rattle.simulator.specs.declared.Reaction.TheVariants.{Heard, Moved as MovedBy}
use Rattle.simulator.specs.Inner.{Posts, AllPackable, Reacts, change_by, sent_for, Fit, seat, named_check, Decides}
use Rattle.simulator.proofs.Moving.{moved-taking, stays-below, taking-reaches}
use Rattle.simulator.proofs.Packing.{taking-packs}
use Rattle.simulator.proofs.Ticking.{state-by}

-- ---- a check passes, or refuses by its number

number-passed : (k : ℕ) → refusal (passed k) ≡ k
number-passed zero = refl
number-passed (suc k) = refl

pub check-passes : (k : ℕ) → Ok tt ≡ passed k → k ≡ 0
check-passes k e = sym (ap refusal e ∙ number-passed k)

pub check-refuses : (k e : ℕ) → Err e ≡ passed k → (e ≡ k) × (0 < e)
check-refuses zero e q = no-yes (sym (ap is_ok q))
check-refuses (suc k) e q = let same : e ≡ suc k = ap refusal q in (same, omega arith)

-- ---- checks 10 and 11

module _ (plan : Plan) (m : Message) where
  abbrev outside : Bool
  outside = named_outside plan (processor_in m) (view_in m)

  abbrev uninitial : Bool
  uninitial = not_initial plan (stage_of m) (view_in m)

  pub no-such-processor : (p : ℕ) → p ≡ processor_in m → plan.n ≤ p → Err 10 ≡ passed (named_check plan m)
  no-such-processor p e l = ap passed (cond_yes outside 10 10 _ (or-first (no_processor plan (processor_in m)) (no_view plan (view_in m)) (ap (no_processor plan) (sym e) ∙ le-leb _ _ l)) refl)

  pub no-such-view : (w : ℕ) → w ≡ view_in m → plan.views ≤ w → Err 10 ≡ passed (named_check plan m)
  no-such-view w e l = ap passed (cond_yes outside 10 10 _ (or-second (no_processor plan (processor_in m)) (no_view plan (view_in m)) (ap (no_view plan) (sym e) ∙ le-leb _ _ l)) refl)

  module _ (p w : ℕ) (is-p : p ≡ processor_in m) (is-w : w ≡ view_in m) (p-low : p < plan.n) (w-low : w < plan.views) where
    within : outside ≡ false
    within = or-neither (no_processor plan (processor_in m)) (no_view plan (view_in m)) (ap (no_processor plan) (sym is-p) ∙ lt-leb _ _ p-low)
        (ap (no_view plan) (sym is-w) ∙ lt-leb _ _ w-low)

    pub second-stage : stage_of m ≡ true → Ok tt ≡ passed (named_check plan m)
    second-stage e = ap passed (cond_no outside 0 10 _ within (cond_no uninitial 0 11 0 (and-not-first (not (stage_of m)) (not (initial plan (view_in m))) (not_yes _ e)) refl))

    pub at-initial : initial plan (view_in m) ≡ true → Ok tt ≡ passed (named_check plan m)
    at-initial e = ap passed (cond_no outside 0 10 _ within (cond_no uninitial 0 11 0 (and-not-second (not (stage_of m)) (not (initial plan (view_in m))) (not_yes _ e)) refl))

    pub not-at-initial : stage_of m ≡ false → initial plan (view_in m) ≡ false → Err 11 ≡ passed (named_check plan m)
    not-at-initial e f = ap passed (cond_no outside 11 10 _ within (cond_yes uninitial 11 11 0 (and_both _ _ (not-no _ e) (not-no _ f)) refl))

  -- what passes them
  pub named-passed : named_check plan m ≡ 0 → (outside ≡ false) × (uninitial ≡ false)
  named-passed e = go outside uninitial e
    where
      go : (b c : Bool) → ◌≡◌ {A = ℕ} (cond b 10 (cond c 11 0)) 0 → (b ≡ false) × (c ≡ false)
      go true c q = absurd (omega arith)
      go false true q = absurd (omega arith)
      go false false q = (refl, refl)

  pub named-low : named_check plan m ≡ 0 → (processor_in m < plan.n) × (view_in m < plan.views)
  named-low e = named-within plan (processor_in m) (view_in m) (fails outside (named-passed e).0)

-- the same of a message that is known
pub named-at : (plan : Plan) (m m' : Message) → m ≡ m' → named_check plan m ≡ 0 → (processor_in m' < plan.n) × (view_in m' < plan.views)
named-at plan m m' e h = named-low plan m' (ap (named_check plan) (sym e) ∙ h)

-- its processor has a place in a table of the run
pub named-place : (plan : Plan) (m m' : Message) (k : ℕ) → plan_outside plan ≡ false → m ≡ m' → named_check plan m ≡ 0 → k ≡ 64 → processor_in m' < k
named-place plan m m' k o e h long = omega (arith, (limits plan o).n_at_most, (named-at plan m m' e h).0)

-- a view certificate that passes them names an initial view
pub named_small : (plan : Plan) (m m' : Message) → plan_outside plan ≡ false → m ≡ m' → named_check plan m ≡ 0 → view_in m' < views_most
named_small plan m m' ok e h = omega (arith, (named-at plan m m' e h).1, (limits plan ok).views_at_most)

-- it has a packed word
pub named-packs : (plan : Plan) (m : Message) → plan_outside plan ≡ false → named_check plan m ≡ 0 → packable m ≡ true
named-packs plan m ok h =
    let v = named_small plan m m ok refl h in is-sayable Packed m (omega arith) (named-place plan m m n_most ok refl h refl)

pub named-vc : (plan : Plan) (w p : ℕ) → named_check plan (Vc w p) ≡ 0 → (w < plan.views) × (initial plan w ≡ true)
named-vc plan w p e = ((named-low plan (Vc w p) e).1, go (initial plan w) (named-passed plan (Vc w p) e).1)
  where
    go : (b : Bool) → not b ≡ false → b ≡ true
    go true q = refl
    go false q = sym q

-- what a refusal by them gives, and what is left without one
pub named-refused : {A : Type 0} (refusal : ℕ → A) (plan : Plan) (m : Message) (k : ℕ) (x : A) → k ≡ named_check plan m → 0 < k
    → refusal k ≡ cond (outside plan m) (refusal 10) (cond (uninitial plan m) (refusal 11) x)
named-refused {A} refusal plan m k x e l = go (outside plan m) (uninitial plan m) e
  where
    go : (b c : Bool) → k ≡ cond b 10 (cond c 11 0) → refusal k ≡ cond b (refusal 10) (cond c (refusal 11) x)
    go true c q = ap refusal q
    go false true q = ap refusal q
    go false false q = absurd (omega arith)

-- ---- what a reaction sends

pub change-sent : (r : Run) (t : List ℕ) (m : Message) (x : Reaction) → (change_by r t m x).sent ≡ sent_for r.plan r.faulty m x
change-sent r t m (Heard formed) = refl
change-sent r t m (MovedBy x) = refl

-- ---- what a message makes of whom it reaches

module _ (r : Run) (t : List ℕ) (fit : Fit r) where
  decides-heard : (stage : Bool) (w p : ℕ) (formed : Bool) → formed ≡ forms stage r t w p
      → (reaches_end r (hearing stage r t w p) ≡ false) × (heard_change stage r t w p formed ≡ hearing stage r t w p)
  unfolding hearing
  decides-heard stage w p formed f = (stays-below r fit (hearing stage r t w p) refl, ap (heard_change stage r t w p) f)

  pub decides-view : (w p : ℕ) (formed : Bool) → formed ≡ forms view_stage r t w p → Decides r t (View w p) (Ok (Heard formed))
  unfolding handling
  decides-view w p formed f = let d = decides-heard view_stage w p formed f in (d.0, d.1, tt)

  pub decides-vote : (w p : ℕ) (formed : Bool) → formed ≡ forms vote_stage r t w p → Decides r t (Vote w p) (Ok (Heard formed))
  unfolding handling
  decides-vote w p formed f = let d = decides-heard vote_stage w p formed f in (d.0, d.1, tt)

  module _ (p : ℕ) (ok : is_correct r p ≡ true) (low : p < length r.clocks) (seated : p < n_most) (w : ℕ) (small : w < views_most) where
    pub decides-vc : (x : Move) → Reacts r.plan (seat r p) (moving_by r.plan (seat r p) (VcIn w)) (Ok x) → Decides r t (Vc w p) (Ok (MovedBy x))
    unfolding handling
    decides-vc x a =
        let e = moved-taking r t p (by_view r.plan (view_of r p) w) x a.1 a.2 in (
          taking-reaches r fit t p (by_view r.plan (view_of r p) w) ok low ∙ a.0,
          e,
          subst (λ (c : Change). AllPackable c.sent) (sym e) (taking-packs r t p w (initial r.plan w && ltb (view_of r p) w) seated (omega arith)),
        )

    pub refuses-vc : (k : ℕ) → Reacts r.plan (seat r p) (moving_by r.plan (seat r p) (VcIn w)) (Err k) → Decides r t (Vc w p) (Err k)
    unfolding handling
    refuses-vc k a = (taking-reaches r fit t p (by_view r.plan (view_of r p) w) ok low ∙ a.0, a.1)

    pub decides-qc : (x : Move) → Reacts r.plan (seat r p) (moving_by r.plan (seat r p) (QcIn w)) (Ok x) → Decides r t (Qc w p) (Ok (MovedBy x))
    unfolding handling
    decides-qc x a =
        let e = moved-taking r t p (by_quorum (view_of r p) w) x a.1 a.2 in (
          taking-reaches r fit t p (by_quorum (view_of r p) w) ok low ∙ a.0,
          e,
          subst (λ (c : Change). AllPackable c.sent) (sym e) (taking-packs r t p (w + 1) (leb (view_of r p) w) seated (omega arith)),
        )

    pub refuses-qc : (k : ℕ) → Reacts r.plan (seat r p) (moving_by r.plan (seat r p) (QcIn w)) (Err k) → Decides r t (Qc w p) (Err k)
    unfolding handling
    refuses-qc k a = (taking-reaches r fit t p (by_quorum (view_of r p) w) ok low ∙ a.0, a.1)

-- ---- a reaction done

pub made_by : (r : Run) (t₀ ws₀ : List ℕ) (c : Change) (held : ℕ) (traffic : Traffic) (t ws : List ℕ)
    → Posts c.sent r.held r.time ws₀ held ws → t ≡ c.tally → traffic ≡ traffic_sent r.traffic c.sent
    → state_of (with_traffic traffic (with_held held (changed r c))) t ws ≡ made (state_of r t₀ ws₀) c
unfolding made
made_by r t₀ ws₀ c held traffic t ws x e f = state-by (ap₂ (λ (h : ℕ) (y : Traffic). with_traffic y (with_held h (changed r c))) x.number f) e x.words
