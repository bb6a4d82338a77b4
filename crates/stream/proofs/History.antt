-- The history of an input's last run leads to where the input ends, and its report is that of the run. Assumes nothing.
use Rattle.std.proofs.Common.{Ok, Result, MatchResult}
use mathlib.Core.Path.{◌≡◌, refl, sym, ap, ◌∙◌, subst}
use mathlib.Core.Bool.{Bool, true, false, ◌||◌, cond}
use mathlib.Core.List.{List, [], ◌∷◌}
use Prim.Native.Nat.{ℕ}
use Rattle.base.specs.Choice.{or-second}
use Rattle.types.specs.declared.Event.{Event}
use Rattle.types.specs.declared.Setup.{Setup}
use Rattle.types.specs.declared.Totals.{Totals}
use Rattle.model.specs.State.{State, accepted}
use Rattle.model.specs.Checks.{unsound}
use Rattle.model.specs.Opening.{opening}
use Rattle.model.specs.Events.{applied}
use Rattle.model.specs.Lists.{after}
use Rattle.model.specs.Traffic.{history_totals, totals}
use Rattle.liveness.specs.Traffic.{both_counts}
use Rattle.liveness.proofs.Counted.{report-is-history, report-adds}
use Rattle.liveness.proofs.Judging.{or-none}
use Rattle.liveness.proofs.Promises.{list_law, reachable-sound, refused-opening-stays}
use Rattle.lines.specs.declared.Read.{Read}
use Rattle.lines.specs.Clauses.{Reading}
use Rattle.lines.specs.Splitting.{Cut, input_lines, cut_read}
use Rattle.reader.specs.Lines.{reading}
use Rattle.printout.specs.Printout.{Standing, standing_after, at_start, leaving, event_reply, opening_reply, read_reply, reply}
use Rattle.stream.specs.History.{History, never, opened_with, event_history, opening_history, read_history, history_from, last_run}
use Rattle.stream.specs.Promises.{RunAfter, HistoryLeads, HistoryAdds}

-- ---- line by line

event-history : (e : Event) (h : History) (x : Standing) → HistoryLeads h x → HistoryLeads (event_history e h) (event_reply e x).standing
unfolding event_reply after
event-history e never x l = rw l refl
event-history e (opened_with u before es) x l = rw l.running (record {
  running = refl;
  opens = l.opens;
  state = ap (λ (s : State). (applied e s).state) l.state ∙ sym (list_law (opening u before).state es (e ∷ []));
})

-- a refused opening changes nothing
unopened-history : (h : History) (x : Standing) (s : State) (b : Bool) → b ≡ x.opened → s ≡ x.state → HistoryLeads h x
    → HistoryLeads h (leaving b s)
unopened-history never x s b e q l = e ∙ l
unopened-history (opened_with u before es) x s b e q l = record { running = e ∙ l.running; opens = l.opens; state = q ∙ l.state }

opening-history : (u : Setup) (h : History) (x : Standing) → HistoryLeads h x → HistoryLeads (opening_history u x h) (opening_reply u x).standing
unfolding opening_reply after
opening-history u h x l = go (accepted (opening u x.state).answer) refl
  where
    go : (b : Bool) → accepted (opening u x.state).answer ≡ b
        → HistoryLeads (cond b (opened_with u x.state []) h) (leaving (x.opened || b) (opening u x.state).state)
    go true q = record { running = or-second x.opened true refl; opens = rw q tt; state = refl }
    go false q = unopened-history h x _ _ (or-none x.opened false (λ z. z)) (refused-opening-stays u x.state q) l

read-history : (r : Read) (u : Setup) (h : History) (x : Standing) → HistoryLeads h x → HistoryLeads (read_history r u x h) (read_reply r u x).standing
read-history (Read.Event e) u h x l = event-history e h x l
read-history Read.Opening u h x l = opening-history u h x l
read-history Read.NoForm u h x l = l

lines-history : (cs : List Cut) (h : History) (x : Standing) → HistoryLeads h x → HistoryLeads (history_from h x cs) (standing_after x cs)
lines-history [] h x l = l
lines-history (c ∷ cs) h x l =
    let r : Reading = cut_read reading c in
    lines-history cs (read_history r.read r.setup x h) (reply r x).standing (read-history r.read r.setup h x l)

pub input-history : (input : List ℕ) → HistoryLeads (last_run input) (standing_after at_start (input_lines input))
unfolding last_run
input-history input = lines-history (input_lines input) never at_start refl

-- ---- the report

-- check 9 does not refuse it
pub history-sound : (u : Setup) (before : State) (es : List Event) (x : Standing) → RunAfter u before es x → unsound x.state ≡ false
history-sound u before es x l =
    reachable-sound x.state (record { setup = u; before = before; opens = l.opens; events = es; is = l.state })

-- it is that of the events
pub history-totals : (u : Setup) (before : State) (es : List Event) (x : Standing) → RunAfter u before es x
    → totals x.state ≡ Ok (history_totals u before es)
history-totals u before es x l =
    ap totals l.state ∙ report-is-history u before l.opens es

pub history-adds : (h : History) (x : Standing) → HistoryLeads h x → HistoryAdds h
history-adds never x l = tt
history-adds (opened_with u before es) x l =
    subst (λ (y : Result Totals ℕ). MatchResult y (λ z. z.traffic.sent ≡ both_counts z.traffic.delivered z.held) (λ check. ⊥))
    (ap totals (sym l.state) ∙ history-totals u before es x l) (report-adds u before l.opens es)
