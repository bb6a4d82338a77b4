-- "A schedule and its printout": what each line makes of the program's state, what is printed for it, and what comes at the end.
use Rattle.std.specs.Prelude.{ℕ, zero, suc, Bool, true, false, ◌||◌, cond, List, [], ◌∷◌, ◌++◌, replicate, eqb, ltb}
use Rattle.types.specs.declared.Event.{Event}
use Rattle.types.specs.declared.Event.TheVariants.{Deliver, Sign, Show, Settle, Tick}
use Rattle.types.specs.declared.Answer.{Answer}
use Rattle.types.specs.declared.Answer.TheVariants.{Done, Stopped, Refused}
use Rattle.types.specs.declared.Setup.{Setup}
use Rattle.types.specs.declared.Run.{Run}
use Rattle.types.specs.Quantities.{table_clocks}
use Rattle.types.specs.Traffic.{no_traffic}
use Rattle.model.specs.State.{State, state_of, run_of, accepted, is_correct, view_of, clock_of}
use Rattle.model.specs.Opening.{opening}
use Rattle.model.specs.Events.{applied}
use Rattle.lines.specs.declared.Read.{Read}
use Rattle.lines.specs.Clauses.{Reading, no_setup, line}
use Rattle.lines.specs.Splitting.{Cut, input_lines, cut_read}
use Rattle.lines.specs.Printout.{answer_form, processor_form}
use Rattle.reader.specs.Lines.{reading}
use Rattle.printout.specs.declared.Session.{Session}

-- ---- the state of the program

-- whether a run is open, and the run with the two buffers that are lent, which the simulator is given and leaves
pub record Standing : Type 0 where
  pub opened : Bool
  pub state : State

abbrev pub leaving : Bool → State → Standing
leaving opened s = record { opened = opened; state = s }

abbrev pub standing_of : Session → List ℕ → List ℕ → Standing
standing_of session tally network = leaving session.opened (state_of session.run tally network)

-- the same without the buffers
abbrev pub session_of : Standing → Session
session_of x = record { opened = x.opened; run = x.state.run }

-- before an accepted opening there is no run: 0 everywhere stands for it
abbrev pub unopened_session : Session
unopened_session = record { opened = false; run = run_of no_setup.plan 0 0 false 0 0 (replicate table_clocks 0) (replicate table_clocks 0) no_traffic }

-- "lends 3,600 ledger words and 2,048 post words"
abbrev pub tally_lent : ℕ
tally_lent = 3600

abbrev pub network_lent : ℕ
network_lent = 2048

abbrev pub at_start : Standing
at_start = standing_of unopened_session (replicate tally_lent 0) (replicate network_lent 0)

-- ---- a line

-- what a line leaves, and the answer that is printed for it
pub record Reply : Type 0 where
  pub standing : Standing
  pub answer : Answer

abbrev pub refused_reply : ℕ → Standing → Reply
refused_reply r x = record { standing = x; answer = Refused r }

-- "ticks ended by check 16, 17 or 18"
abbrev pub ends_ticks : ℕ → Bool
ends_ticks r = eqb r 16 || eqb r 17 || eqb r 18

-- "(stopped a h r) for ticks ended by check 16, 17 or 18, a being 0 if the first was refused"
unfoldable pub ticks_printed : ℕ → Answer → Answer
ticks_printed h (Done a k) = Done a k
ticks_printed h (Stopped a k r) = Stopped a k r
ticks_printed h (Refused r) = cond (ends_ticks r) (Stopped 0 h r) (Refused r)

-- "(done a h), a ticks done (0 for other forms), h messages held; .. or (refused r)": but for such ticks it is the simulator's answer
unfoldable pub printed_answer : Event → ℕ → Answer → Answer
printed_answer (Deliver m) h a = a
printed_answer (Sign m) h a = a
printed_answer (Show m) h a = a
printed_answer Settle h a = a
printed_answer (Tick m) h a = ticks_printed h a

-- "Before an accepted opening an event gets 9."
unfoldable pub event_reply : Event → Standing → Reply
event_reply e x =
    let a = applied e x.state in
    cond x.opened (record { standing = leaving true a.state; answer = printed_answer e a.state.run.held a.answer }) (refused_reply 9 x)

-- whether a run is open after an opening with such an answer
abbrev pub stays_open : Bool → Answer → Bool
stays_open opened a = opened || accepted a

-- "A later accepted opening begins a new run in place of the old; a refused one leaves the old run going."
unfoldable pub opening_reply : Setup → Standing → Reply
opening_reply u x =
    let a = opening u x.state in record { standing = leaving (stays_open x.opened a.answer) a.state; answer = a.answer }

-- an event, an opening, or none of the forms
abbrev pub read_reply : Read → Setup → Standing → Reply
read_reply (Read.Event e) u x = event_reply e x
read_reply Read.Opening u x = opening_reply u x
read_reply Read.NoForm u x = refused_reply 1 x

abbrev pub reply : Reading → Standing → Reply
reply r x = read_reply r.read r.setup x

-- a line, without its newline
abbrev pub line_reply : List ℕ → Standing → Reply
line_reply s x = reply (reading s) x

-- whether the line was accepted, by what is printed for it: a printed `(stopped 0 h r)` is a refused first tick
abbrev pub line_accepted : Answer → Bool
line_accepted (Done a h) = true
line_accepted (Stopped a h r) = ltb 0 a
line_accepted (Refused r) = false

-- what is printed for it
abbrev pub printed_line : Reply → List ℕ
printed_line r = line (answer_form r.answer)

-- ---- the end

-- "(cabinet p view clock) for each correct p": of those below k
abbrev pub processor_lines : Run → ℕ → List ℕ
processor_lines r zero = []
processor_lines r (suc k) = processor_lines r k ++ cond (is_correct r k) (line (processor_form k (view_of r k) (clock_of r k))) []

-- "At the end come .., if a run is open." Of a run handed in with more processors than its tables hold, those in the tables
unfoldable pub closing : Session → List ℕ
closing s = cond s.opened (processor_lines s.run table_clocks) []

-- ---- a whole input

-- what its lines leave
abbrev pub standing_after : Standing → List Cut → Standing
standing_after x [] = x
standing_after x (c ∷ cs) = standing_after (reply (cut_read reading c) x).standing cs

-- what is printed for its lines, and at the end
abbrev pub printed_from : Standing → List Cut → List ℕ
printed_from x [] = closing (session_of x)
printed_from x (c ∷ cs) = let r = reply (cut_read reading c) x in printed_line r ++ printed_from r.standing cs

-- "The bench program reads lines from standard input .. Per line it prints .."
unfoldable pub printout : List ℕ → List ℕ
printout s = printed_from at_start (input_lines s)
