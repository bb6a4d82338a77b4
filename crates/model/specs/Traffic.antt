-- "How much the cabinets talk": what the events of a list post and deliver, and a report of the sums.
use Rattle.std.specs.Prelude.{Bool, true, false, not, ◌&&◌, cond, List, [], ◌∷◌, ◌++◌, ℕ, zero, suc, ◌+◌, eqb, Result, Ok, Err}
use Rattle.base.specs.Count.{bit, count}
use Rattle.types.specs.declared.Message.{Message}
use Rattle.types.specs.declared.Event.{Event}
use Rattle.types.specs.declared.Event.TheVariants.{Deliver, Sign, Show, Settle, Tick}
use Rattle.types.specs.declared.Setup.{Setup}
use Rattle.types.specs.declared.Counts.{Counts}
use Rattle.types.specs.declared.Totals.{Totals}
use Rattle.types.specs.declared.Traffic.{Traffic}
use Rattle.types.specs.Traffic.{counts_of, traffic_of, no_counts, no_traffic}
use Rattle.types.specs.Messages.{kind_of, view_in, stage_of}
use Rattle.model.specs.State.{State, with_run, with_traffic, held_in, accepted}
use Rattle.model.specs.Moves.{entries, handling, advanced, arrivals}
use Rattle.model.specs.Checks.{unsound}
use Rattle.model.specs.Opening.{blank, first_entry, opening}
use Rattle.model.specs.Events.{delivering, signing, wait_of, tick_once, applied}
use Rattle.model.specs.Lists.{after}

-- ---- "The sums are those of the schedule's history": what each event posts and delivers

-- what the single ticks post, up to m of them and before the first that is refused
unfoldable pub ticks_posted : ℕ → State → List Message
ticks_posted zero s = []
ticks_posted (suc m) s =
    let a = tick_once s in cond (accepted a.answer) ((arrivals (advanced s)).sent ++ ticks_posted m a.state) []

-- what an event posts where it is accepted
unfoldable pub posting : Event → State → List Message
posting (Deliver m) s = (delivering s m).sent
posting (Sign m) s = (signing s m).sent
posting (Show m) s = (handling s.run s.tally m).sent
posting Settle s = []
posting (Tick m) s = ticks_posted m s

abbrev pub posted_in : Event → State → List Message
posted_in e s = cond (accepted (applied e s).answer) (posting e s) []

-- the message that it delivers, if it does
abbrev pub delivered_by : Event → List Message
delivered_by (Deliver m) = m ∷ []
delivered_by (Sign m) = []
delivered_by (Show m) = []
delivered_by Settle = []
delivered_by (Tick m) = []

abbrev pub delivered_in : Event → State → List Message
delivered_in e s = cond (accepted (applied e s).answer) (delivered_by e) []

-- and for how long that was in flight
abbrev pub wait_by : Event → State → ℕ
wait_by (Deliver m) s = wait_of s m
wait_by (Sign m) s = 0
wait_by (Show m) s = 0
wait_by Settle s = 0
wait_by (Tick m) s = 0

abbrev pub wait_in : Event → State → ℕ
wait_in e s = cond (accepted (applied e s).answer) (wait_by e s) 0

-- events in turn
unfoldable pub posted_during : State → List Event → List Message
posted_during s [] = []
posted_during s (e ∷ es) = posted_in e s ++ posted_during (applied e s).state es

unfoldable pub delivered_during : State → List Event → List Message
delivered_during s [] = []
delivered_during s (e ∷ es) = delivered_in e s ++ delivered_during (applied e s).state es

unfoldable pub waits_during : State → List Event → ℕ
waits_during s [] = 0
waits_during s (e ∷ es) = wait_in e s + waits_during (applied e s).state es

-- what the first entries post
abbrev pub posted_first : Setup → State → List Message
posted_first u before = let b = blank u before in (entries (first_entry u) b.run b.tally u.plan.n).sent

-- "for a whole run": from its opening on
abbrev pub ever_posted : Setup → State → List Event → List Message
ever_posted u before es = posted_first u before ++ posted_during (opening u before).state es

-- ---- how many they are

-- "by kind"
abbrev pub of_kind : ℕ → List Message → ℕ
of_kind k [] = 0
of_kind k (m ∷ ms) = bit (eqb (kind_of m) k) + of_kind k ms

abbrev pub counts_in : List Message → Counts
counts_in ms = counts_of (of_kind 1 ms) (of_kind 2 ms) (of_kind 3 ms) (of_kind 4 ms)

-- whether a message's stage is the one asked for
abbrev pub same_stage : Bool → Bool → Bool
same_stage true b = b
same_stage false b = not b

-- "for any one view .. view messages and view certificates together"; and so votes and quorum certificates
abbrev pub of_view : Bool → ℕ → List Message → ℕ
of_view stage w [] = 0
of_view stage w (m ∷ ms) = bit (same_stage stage (stage_of m) && eqb (view_in m) w) + of_view stage w ms

-- ---- a run with other sums

abbrev pub with_sums : Traffic → State → State
with_sums x s = with_run (with_traffic x s.run) s

-- ---- the report

-- "those held", by kind: of the messages in the network
abbrev pub held_of_kind : State → ℕ → ℕ
held_of_kind s k = count s.run.held (λ i. eqb (held_in s i).kind k)

abbrev pub held_counts : State → Counts
held_counts s = counts_of (held_of_kind s 1) (held_of_kind s 2) (held_of_kind s 3) (held_of_kind s 4)

-- what is to be reported of a run by its history, es being the events since its opening: "sent and delivered by kind, those held, and the sum of waits"
abbrev pub history_totals : Setup → State → List Event → Totals
history_totals u before es =
    let s = (opening u before).state in
    record {
      traffic = traffic_of (counts_in (ever_posted u before es)) (counts_in (delivered_during s es)) (waits_during s es);
      held = held_counts (after s es);
    }

-- "In a run handed in (unsound: 9) the sums go unchecked"; a refused report tells nothing
unfoldable pub totals : State → Result Totals ℕ
totals s = cond (unsound s) (Err 9) (Ok (record { traffic = s.run.traffic; held = held_counts s }))
