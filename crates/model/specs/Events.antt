-- "Events": the five events, each with its checks in order and its effect.
use Rattle.std.specs.Prelude.{cond, List, [], ◌∷◌, ◌++◌, ℕ, zero, suc, ◌+◌, ◌-◌, eqb}
use Rattle.types.specs.declared.Plan.{Plan}
use Rattle.types.specs.declared.Message.{Message}
use Rattle.types.specs.declared.Event.{Event}
use Rattle.types.specs.declared.Form.{Form}
use Rattle.types.specs.declared.Event.TheVariants.{Deliver, Sign, Show, Settle, Tick}
use Rattle.types.specs.declared.Answer.{Answer}
use Rattle.types.specs.declared.Answer.TheVariants.{Done, Stopped, Refused}
use Rattle.types.specs.Quantities.{lead}
use Rattle.types.specs.Traffic.{traffic_delivered}
use Rattle.types.specs.Messages.{view_in, processor_in, stage_of, lacks_form}
use Rattle.model.specs.State.{State, After, with_run, with_network, with_held, with_gst, with_traffic, is_correct, held_at, removed, check_of, refused, done}
use Rattle.model.specs.Moves.{Change, still, handling, advanced, arrivals, made}
use Rattle.model.specs.Checks.{Check, judged, unsound, named_outside, not_initial, signer_correct, receiver_faulty, place_of, not_held, not_existing, settled_before, overdue, reaches_end, overfull}

-- 17 and 18 of what an event or a single tick would change: of the change c of s
abbrev pub outcome_checks : State → Change → List Check
outcome_checks s c = (17, reaches_end s.run c) ∷ (18, overfull s c) ∷ []

-- ---- "It leaves the post (the first, of equal ones) and is handled."

-- "delivery less sending time": of the message at a place, and of the one that is delivered
abbrev pub wait_since : ℕ → Form → List ℕ → ℕ → ℕ
wait_since time form network i = time - (held_at form network i).sent

abbrev pub wait_of : State → Message → ℕ
wait_of s m = wait_since s.run.time s.form s.network (place_of s m)

unfoldable pub without : State → Message → State
without s m =
    with_run (with_traffic (traffic_delivered s.run.traffic m (wait_of s m)) (with_held (s.run.held - 1) s.run))
    (with_network (removed s.form s.network s.run.held (place_of s m)) s)

unfoldable pub delivering : State → Message → Change
delivering s m = handling (without s m).run s.tally m

-- ---- "faulty p's signature is heard by the leader of w; if that is faulty, nothing changes."

unfoldable pub signing : State → Message → Change
signing s m = cond (is_correct s.run (lead s.run.plan (view_in m))) (handling s.run s.tally m) (still s.run s.tally)

-- ---- "from now on the network keeps Δ."

unfoldable pub now_settled : State → State
now_settled s = with_run (with_gst s.run.time s.run) s

-- ---- "up to m single ticks"

-- the checks of a single tick
abbrev pub tick_checks : State → List Check
tick_checks s = (16, overdue s) ∷ outcome_checks (advanced s) (arrivals (advanced s))

unfoldable pub tick_once : State → After
tick_once s =
    let s' = made (advanced s) (arrivals (advanced s)) in
    judged (refused s) (tick_checks s) (record { state = s'; answer = Done 1 s'.run.held })

-- what a run of ticks leaves, how many it did, and the check that the next one would meet, if that ended it
pub record Ticks : Type 0 where
  pub state : State
  pub count : ℕ
  pub check : ℕ

-- after a single tick that the check r refused, or none if r is 0: the ticks that follow
abbrev pub continued : State → ℕ → Ticks → Ticks
continued s zero x = record { state = x.state; count = x.count + 1; check = x.check }
continued s (suc r) x = record { state = s; count = 0; check = suc r }

-- "The run of ticks ends before the first refused tick and reports how many it did"
unfoldable pub ticks : ℕ → State → Ticks
ticks zero s = record { state = s; count = 0; check = 0 }
ticks (suc m) s = let a = tick_once s in continued s (check_of a.answer) (ticks m a.state)

-- "A run of one tick or more is an accepted event; one that did none is refused by that check." "A stop reason comes only with the refusal
-- that this next tick would meet"
abbrev pub ticks_answer : Ticks → Answer
ticks_answer x =
    cond (eqb x.count 0) (Refused x.check)
    (cond (eqb x.check 0) (Done x.count x.state.run.held) (Stopped x.count x.state.run.held x.check))

unfoldable pub tick_run : ℕ → State → After
tick_run m s = let x = ticks m s in record { state = x.state; answer = ticks_answer x }

-- ---- each event

-- 10 and 11 of what a message names
abbrev pub named_checks : Plan → Message → List Check
named_checks plan m = (10, named_outside plan (processor_in m) (view_in m)) ∷ (11, not_initial plan (stage_of m) (view_in m)) ∷ []

-- the checks of its input beyond 1 and 9, in order
abbrev pub input_checks : Event → State → List Check
input_checks (Deliver m) s = named_checks s.run.plan m ++ ((13, not_held s m) ∷ [])
input_checks (Sign m) s = named_checks s.run.plan m ++ ((12, signer_correct s m) ∷ [])
input_checks (Show m) s = named_checks s.run.plan m ++ ((12, receiver_faulty s m) ∷ (14, not_existing s m) ∷ [])
input_checks Settle s = (15, settled_before s) ∷ []
input_checks (Tick m) s = []

-- those of what it would change; a run of ticks makes them tick by tick
abbrev pub change_checks : Event → State → List Check
change_checks (Deliver m) s = outcome_checks (without s m) (delivering s m)
change_checks (Sign m) s = outcome_checks s (signing s m)
change_checks (Show m) s = outcome_checks s (handling s.run s.tally m)
change_checks Settle s = []
change_checks (Tick m) s = []

-- its checks, in order
unfoldable pub checks : Event → State → List Check
checks e s = (1, lacks_form e) ∷ (9, unsound s) ∷ (input_checks e s ++ change_checks e s)

-- what it does where none of them refuses; shown, "correct p receives a certificate from the adversary"
unfoldable pub effect : Event → State → After
effect (Deliver m) s = done (made (without s m) (delivering s m))
effect (Sign m) s = done (made s (signing s m))
effect (Show m) s = done (made s (handling s.run s.tally m))
effect Settle s = done (now_settled s)
effect (Tick m) s = tick_run m s

-- an event applied to a run and lent buffers, whatever they hold
unfoldable pub applied : Event → State → After
applied e s = judged (refused s) (checks e s) (effect e s)
