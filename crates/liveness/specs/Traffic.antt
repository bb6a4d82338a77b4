-- What is promised of the traffic: of every run opened here and altered by events only, then of any run and buffers handed in. proofs/Counted.antt has
-- a proof of each, under its name in small letters with hyphens.
use Rattle.std.specs.Prelude.{◌≡◌, Bool, List, [], ◌∷◌, ℕ, ◌+◌, ◌*◌, ◌≤◌, T, Ok, MatchResult}
use Rattle.types.specs.declared.Message.{Message}
use Rattle.types.specs.declared.Event.{Event}
use Rattle.types.specs.declared.Setup.{Setup}
use Rattle.types.specs.declared.Traffic.{Traffic}
use Rattle.types.specs.declared.Counts.{Counts}
use Rattle.types.specs.Traffic.{counts_of, traffic_of, traffic_sent, traffic_delivered}
use Rattle.model.specs.State.{State, accepted}
use Rattle.model.specs.Checks.{unsound}
use Rattle.model.specs.Opening.{opening}
use Rattle.model.specs.Events.{applied}
use Rattle.model.specs.Lists.{after}
use Rattle.model.specs.Traffic.{posted_in, delivered_in, wait_in, delivered_during, waits_during, ever_posted, of_kind, counts_in, of_view, with_sums, held_of_kind, history_totals, totals}

-- ---- from an accepted opening on, after any list of events

-- "The sums are those of the schedule's history": exactly, none has wrapped
abbrev pub SumsAreHistory : Type 0
SumsAreHistory =
    (u : Setup) (before : State) → T (accepted (opening u before).answer) → (es : List Event)
    → (after (opening u before).state es).run.traffic
    ≡ traffic_of (counts_in (ever_posted u before es)) (counts_in (delivered_during (opening u before).state es)) (waits_during (opening u before).state es)

-- "sent is delivered plus held, kind by kind"
abbrev pub SentIsDeliveredAndHeld : Type 0
SentIsDeliveredAndHeld =
    (u : Setup) (before : State) → T (accepted (opening u before).answer) → (es : List Event) (k : ℕ)
    → of_kind k (ever_posted u before es) ≡ of_kind k (delivered_during (opening u before).state es) + held_of_kind (after (opening u before).state es) k

-- "for any one view at most 2n view messages and view certificates together are ever posted": their stage is `view_stage`; nor more votes and quorum
-- certificates, whose stage is `vote_stage`
abbrev pub FewForView : Type 0
FewForView =
    (u : Setup) (before : State) → T (accepted (opening u before).answer) → (es : List Event) (stage : Bool) (w : ℕ)
    → of_view stage w (ever_posted u before es) ≤ 2 * u.plan.n

-- the report is that of the history, so it is not refused
abbrev pub ReportIsHistory : Type 0
ReportIsHistory =
    (u : Setup) (before : State) → T (accepted (opening u before).answer) → (es : List Event)
    → totals (after (opening u before).state es) ≡ Ok (history_totals u before es)

-- and in what it tells sent is delivered plus held
abbrev pub both_counts : Counts → Counts → Counts
both_counts a b = counts_of (a.views + b.views) (a.votes + b.votes) (a.vcs + b.vcs) (a.qcs + b.qcs)

abbrev pub ReportAdds : Type 0
ReportAdds =
    (u : Setup) (before : State) → T (accepted (opening u before).answer) → (es : List Event)
    → MatchResult (totals (after (opening u before).state es)) (λ x. x.traffic.sent ≡ both_counts x.traffic.delivered x.held) (λ check. ⊥)

-- ---- of any run and buffers, opened here or not

-- the sums with what an event delivers, one message or none
abbrev pub traffic_taken : Traffic → List Message → ℕ → Traffic
traffic_taken x [] wait = x
traffic_taken x (m ∷ ms) wait = traffic_delivered x m wait

-- what an event does to them, a refused one nothing: they "wrap at 2^64", as `traffic_sent` and `traffic_delivered` say
abbrev pub SumsMove : Type 0
SumsMove =
    (e : Event) (s : State)
    → (applied e s).state.run.traffic ≡ traffic_sent (traffic_taken s.run.traffic (delivered_in e s) (wait_in e s)) (posted_in e s)

-- "the sums go unchecked": with other sums every event is answered as before, and leaves the same but for the sums; check 9 says the same
abbrev pub SumsUnchecked : Type 0
SumsUnchecked =
    (e : Event) (s : State) (x : Traffic)
    → (unsound (with_sums x s) ≡ unsound s) × ((applied e (with_sums x s)).answer ≡ (applied e s).answer)
    × (with_sums x (applied e (with_sums x s)).state ≡ with_sums x (applied e s).state)

-- nor does an opening look at the sums at hand: it is answered as before and leaves the same but for the sums; where it is accepted, those too
abbrev pub OpensUnchecked : Type 0
OpensUnchecked =
    (u : Setup) (s : State) (x : Traffic)
    → ((opening u (with_sums x s)).answer ≡ (opening u s).answer)
    × ((y : Traffic) → with_sums y (opening u (with_sums x s)).state ≡ with_sums y (opening u s).state)
    × (T (accepted (opening u s).answer) → (opening u (with_sums x s)).state ≡ (opening u s).state)
