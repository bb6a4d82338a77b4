-- The promises of specs/Traffic.antt, proved: those of any run, and that of one view's messages, are passed on from the files that show them. Assumes
-- nothing.
pub use Rattle.liveness.proofs.Sums.{sums-move}
pub use Rattle.liveness.proofs.Fewness.{few-for-view}
pub use Rattle.liveness.proofs.Unchecked.{sums-unchecked, opens-unchecked}
use Rattle.std.specs.Prelude.{Ok, MatchResult}
use mathlib.Core.Path.{◌≡◌, refl, sym, ap, ◌∙◌, subst}
use mathlib.Core.Bool.{false}
use mathlib.Core.List.{List}
use Prim.Native.Nat.{ℕ, ◌+◌, ◌^◌, ◌≤◌, ◌<◌}
use native.Mathlib.Omega.{arith}
use lib.Dec.{T}
use lib.ListN.{length}
use Rattle.types.specs.declared.Message.{Message}
use Rattle.types.specs.declared.Event.{Event}
use Rattle.types.specs.declared.Setup.{Setup}
use Rattle.types.specs.declared.Traffic.{Traffic}
use Rattle.types.specs.Traffic.{counts_of, traffic_of, no_counts, wrapped, counts_more}
use Rattle.types.specs.TrafficLaws.{counts-more-append}
use Rattle.model.specs.State.{State, accepted}
use Rattle.model.specs.Moves.{made}
use Rattle.model.specs.Checks.{unsound}
use Rattle.model.specs.Opening.{blank, opened, opening}
use Rattle.model.specs.Lists.{after}
use Rattle.model.specs.Traffic.{posted_during, delivered_during, waits_during, posted_first, ever_posted, of_kind, counts_in, held_of_kind, held_counts, totals}
use Rattle.liveness.specs.Traffic.{SumsAreHistory, SentIsDeliveredAndHeld, ReportIsHistory, both_counts, ReportAdds}
use Rattle.liveness.proofs.Promises.{opened-so, reachable-sound}
use Rattle.liveness.proofs.Counting.{kind-append, kinds-all, one-exact, counts-from-none}
use Rattle.liveness.proofs.Sums.{traffic_plus, sums-during}
use Rattle.liveness.proofs.HeldKinds.{kinds-during, opened-kinds}
use Rattle.liveness.proofs.Waits.{waits-low}
use Rattle.liveness.proofs.Fewness.{most_posted, posted-most}

-- ---- kind by kind

pub sent-is-delivered-and-held : SentIsDeliveredAndHeld
sent-is-delivered-and-held u before t es k =
    let s : State = (opening u before).state in
    let o = opened-so u before t in
    let first : held_of_kind s k ≡ of_kind k (posted_first u before) = ap (λ (a : State). held_of_kind a k) o.1 ∙ opened-kinds k u before o.0 in
    omega (arith, first, kinds-during k es s, kind-append k (posted_first u before) (posted_during s es))

-- ---- the history

-- the first entries alone have been counted
opened-sums : (u : Setup) (s : State) → (opened u s).run.traffic ≡ traffic_of (counts_more no_counts (posted_first u s)) no_counts 0
unfolding opened blank made
opened-sums u s = refl

module _ (u : Setup) (before : State) (t : T (accepted (opening u before).answer)) (es : List Event)
    (few : length (ever_posted u before es) ≤ most_posted) where
  abbrev s : State
  s = (opening u before).state

  abbrev first : List Message
  first = posted_first u before

  abbrev posted : List Message
  posted = posted_during s es

  abbrev delivered : List Message
  delivered = delivered_during s es

  abbrev waits : ℕ
  waits = waits_during s es

  balance : (k : ℕ) → of_kind k (ever_posted u before es) ≡ of_kind k delivered + held_of_kind (after s es) k
  balance = sent-is-delivered-and-held u before t es

  delivered-few : length delivered ≤ most_posted
  delivered-few = omega (arith, few, kinds-all delivered, kinds-all (ever_posted u before es), balance 1, balance 2, balance 3, balance 4)

  sent-exact : counts_more (counts_more no_counts first) posted ≡ counts_in (ever_posted u before es)
  sent-exact = sym (counts-more-append no_counts first posted) ∙ counts-from-none (ever_posted u before es) (omega (arith, few))

  delivered-exact : counts_more no_counts delivered ≡ counts_in delivered
  delivered-exact = counts-from-none delivered (omega (arith, delivered-few))

  waits-exact : wrapped 0 waits ≡ waits
  waits-exact = one-exact 0 waits (omega (arith, waits-low es s, delivered-few)) ∙ omega arith

  start : s.run.traffic ≡ traffic_of (counts_more no_counts first) no_counts 0
  start = ap (λ (a : State). a.run.traffic) (opened-so u before t).1 ∙ opened-sums u before

  -- none of the sums has wrapped
  history : (after s es).run.traffic ≡ traffic_of (counts_in (ever_posted u before es)) (counts_in delivered) waits
  history =
      sums-during es s (subst (λ (x : Traffic). x.waits < 2 ^ 64) (sym start) (omega arith))
      ∙ ap (λ (x : Traffic). traffic_plus x posted delivered waits) start
      ∙ λ i. traffic_of (sent-exact i) (delivered-exact i) (waits-exact i)

  -- so they add up as the history does
  adds : (after s es).run.traffic.sent ≡ both_counts (after s es).run.traffic.delivered (held_counts (after s es))
  adds = subst (λ (x : Traffic). x.sent ≡ both_counts x.delivered (held_counts (after s es))) (sym history)
      (λ i. counts_of (balance 1 i) (balance 2 i) (balance 3 i) (balance 4 i))

pub sums-are-history : SumsAreHistory
sums-are-history u before t es = history u before t es (posted-most u before t es)

-- ---- the report

pub report-is-history : ReportIsHistory
unfolding totals
report-is-history u before t es =
    let s : State = after (opening u before).state es in
    rw (reachable-sound s (record { setup = u; before = before; opens = t; events = es; is = refl }))
    (ap (λ (x : Traffic). Ok (record { traffic = x; held = held_counts s })) (sums-are-history u before t es))

reported : (s : State) → unsound s ≡ false → s.run.traffic.sent ≡ both_counts s.run.traffic.delivered (held_counts s)
    → MatchResult (totals s) (λ x. x.traffic.sent ≡ both_counts x.traffic.delivered x.held) (λ check. ⊥)
unfolding totals
reported s sound e = rw sound e

pub report-adds : ReportAdds
report-adds u before t es =
    let s : State = after (opening u before).state es in
    reported s (reachable-sound s (record { setup = u; before = before; opens = t; events = es; is = refl }))
    (adds u before t es (posted-most u before t es))
