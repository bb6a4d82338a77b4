-- What a line is read as, from the left. That this is the reading of the forms and of nothing else is proved (proofs/RoundTrip).
use Rattle.std.specs.Prelude.{ℕ, ◌-◌, cond, List, ◌∷◌, ◌++◌, Option, Some, None, length, get_or, replicate, eqb, ltb}
use Rattle.types.specs.declared.Plan.{Plan}
use Rattle.types.specs.declared.Message.{Message}
use Rattle.types.specs.declared.Message.TheVariants.{View, Vote, Vc, Qc}
use Rattle.types.specs.declared.Event.{Event}
use Rattle.types.specs.declared.Event.TheVariants.{Deliver, Sign, Show, Settle, Tick}
use Rattle.types.specs.declared.Setup.{Setup}
use Rattle.types.specs.Quantities.{n_most, table_clocks}
use Rattle.types.specs.Runs.{plan_in, usual_plan_in}
use Rattle.types.specs.Messages.{lacks_form}
use Rattle.lines.specs.declared.Read.{Read}
use Rattle.lines.specs.declared.Read.TheVariants.{NoForm}
use Rattle.lines.specs.Forms.{open_bracket, close_bracket, one_blank, open_word, deliver_word, sign_word, show_word, settle_word, tick_word, view_word, vote_word, vc_word, qc_word}
use Rattle.lines.specs.Clauses.{Reading, read_as, no_setup, event_reading, opening_reading, no_form}
use Rattle.reader.specs.declared.Kind.{Kind}
use Rattle.reader.specs.declared.Heading.{Heading}
use Rattle.reader.specs.declared.Table.{Table}
use Rattle.reader.specs.Scan.{after_word, number_at, on_after, on_number, next_number_at, Series, series_at}

-- ---- "(view w p)", and so for vote, vc, qc

-- the kind whose word stands at the place, and the place after it
unfoldable pub kind_found_at : List ℕ → ℕ → Option (Kind × ℕ)
kind_found_at s at =
    on_after (after_word s at view_word) (λ a. Some (Kind.View, a))
    (on_after (after_word s at vote_word) (λ a. Some (Kind.Vote, a))
    (on_after (after_word s at vc_word) (λ a. Some (Kind.Vc, a))
    (on_after (after_word s at qc_word) (λ a. Some (Kind.Qc, a)) None)))

abbrev pub message_of : Kind → ℕ → ℕ → Message
message_of Kind.View w p = View w p
message_of Kind.Vote w p = Vote w p
message_of Kind.Vc w p = Vc w p
message_of Kind.Qc w p = Qc w p

-- " w p)"
abbrev pub pair_at : List ℕ → Kind → ℕ → Option (Message × ℕ)
pair_at s k a =
    on_number (next_number_at s a)
    (λ w b. on_number (next_number_at s b) (λ p c. on_after (after_word s c close_bracket) (λ e. Some (message_of k w p, e)) None) None) None

abbrev pub said_kind : List ℕ → Option (Kind × ℕ) → Option (Message × ℕ)
said_kind s (Some (k, a)) = pair_at s k a
said_kind s None = None

-- the message behind a blank, and the place after it
unfoldable pub message_at : List ℕ → ℕ → Option (Message × ℕ)
message_at s at = on_after (after_word s at (one_blank ++ open_bracket)) (λ a. said_kind s (kind_found_at s a)) None

-- ---- the events

-- the event, if it has this form and the line ends behind a bracket at the place
unfoldable pub ending_at : List ℕ → ℕ → Event → Option Event
ending_at s at e = on_after (after_word s at close_bracket) (λ k. cond (eqb k (length s)) (cond (lacks_form e) None (Some e)) None) None

-- " (view w p))" behind the word of an event that carries a message
abbrev pub ending_said : List ℕ → (Message → Event) → Option (Message × ℕ) → Option Event
ending_said s make (Some (m, k)) = ending_at s k (make m)
ending_said s make None = None

unfoldable pub deliver_at : List ℕ → ℕ → Option Event
deliver_at s at = ending_said s Deliver (message_at s at)

unfoldable pub sign_at : List ℕ → ℕ → Option Event
sign_at s at = ending_said s Sign (message_at s at)

unfoldable pub show_at : List ℕ → ℕ → Option Event
show_at s at = ending_said s Show (message_at s at)

-- " m", and the bracket behind it
unfoldable pub ticks_at : List ℕ → ℕ → Option Event
ticks_at s at = on_number (next_number_at s at) (λ m k. ending_at s k (Tick m)) None

-- by the word behind the first bracket
unfoldable pub event_at : List ℕ → ℕ → Option Event
event_at s at =
    on_after (after_word s at deliver_word) (deliver_at s)
    (on_after (after_word s at tick_word) (ticks_at s)
    (on_after (after_word s at sign_word) (sign_at s)
    (on_after (after_word s at show_word) (show_at s)
    (on_after (after_word s at settle_word) (λ a. ending_at s a Settle) None))))

-- ---- the opening

-- a plan and a mask, and the place after them
abbrev pub heading_of : Plan → ℕ → ℕ → Heading
heading_of plan faulty k = record { plan = plan; faulty = faulty; end = k }

-- "n Δ Γ V mask" with k "after V": which numbers stand before the table, their count tells
abbrev pub heading_most : ℕ
heading_most = 6

-- those of an "opening line without it"
abbrev pub heading_usual : ℕ
heading_usual = 5

-- the mask comes last; "any opening line without it is read as k=3"
abbrev pub heading_series : Series → Option Heading
heading_series x =
    let ns = x.numbers in
    cond (eqb (length ns) heading_most) (Some (heading_of (plan_in ns) (get_or ns 5 0) x.end))
    (cond (eqb (length ns) heading_usual) (Some (heading_of (usual_plan_in ns) (get_or ns 4 0) x.end)) None)

unfoldable pub heading_at : List ℕ → ℕ → Option Heading
heading_at s at = heading_series (series_at heading_most s at)

-- " (c0"
unfoldable pub first_clock_at : List ℕ → ℕ → Option (ℕ × ℕ)
first_clock_at s at = on_after (after_word s at (one_blank ++ open_bracket)) (number_at s) None

-- "))"
unfoldable pub table_end_at : List ℕ → ℕ → Option ℕ
table_end_at s at = after_word s at (close_bracket ++ close_bracket)

-- the clocks read, and 0 behind them
abbrev pub table_of : List ℕ → ℕ → Table
table_of cs k = record { clocks = cs ++ replicate (table_clocks - length cs) 0; end = k }

-- behind the first of n clocks, c: the others and the brackets
abbrev pub table_series : List ℕ → ℕ → ℕ → Series → Option Table
table_series s n c x = cond (eqb (length x.numbers) (n - 1)) (on_after (table_end_at s x.end) (λ k. Some (table_of (c ∷ x.numbers) k)) None) None

-- " (c0 c1 ..))", n clocks from 1
unfoldable pub table_at : List ℕ → ℕ → ℕ → Option Table
table_at s at n = on_number (first_clock_at s at) (λ c k. table_series s n c (series_at (n - 1) s k)) None

-- the setup, if the line ends behind its table
abbrev pub ending_table : List ℕ → Plan → ℕ → Option Table → Option Setup
ending_table s plan faulty (Some t) = cond (eqb t.end (length s)) (Some (record { plan = plan; faulty = faulty; clocks = t.clocks })) None
ending_table s plan faulty None = None

abbrev pub ending_heading : List ℕ → Option Heading → Option Setup
ending_heading s (Some h) =
    cond (eqb h.plan.n 0) None (cond (ltb n_most h.plan.n) None (ending_table s h.plan h.faulty (table_at s h.end h.plan.n)))
ending_heading s None = None

-- the setup behind the word of an opening
unfoldable pub opening_at : List ℕ → ℕ → Option Setup
opening_at s at = ending_heading s (heading_at s at)

-- ---- a line

abbrev pub event_as : Option Event → Read
event_as (Some e) = Read.Event e
event_as None = NoForm

abbrev pub opening_as : Option Setup → Reading
opening_as (Some u) = opening_reading u
opening_as None = no_form

unfoldable pub reading : List ℕ → Reading
reading s =
    on_after (after_word s 0 open_bracket)
    (λ a. on_after (after_word s a open_word) (λ b. opening_as (opening_at s b)) (read_as (event_as (event_at s a)) no_setup))
    no_form

-- ---- a line skimmed: one that begins as an opening does is taken for one, whatever comes behind; any other is read

unfoldable pub skimmed : List ℕ → Read
skimmed s = on_after (after_word s 0 open_bracket) (λ a. on_after (after_word s a open_word) (λ b. Read.Opening) (event_as (event_at s a))) NoForm

-- what such a line is read as, its setup tells: no opening is of 0 processors
abbrev pub opening_or : Setup → Reading
opening_or u = cond (eqb u.plan.n 0) no_form (opening_reading u)

-- what is read of any line, by what it is skimmed as and its setup
abbrev pub skimmed_reading : Read → Setup → Reading
skimmed_reading (Read.Event e) u = event_reading e
skimmed_reading Read.Opening u = opening_or u
skimmed_reading Read.NoForm u = no_form
