-- "Events, one form a line": the bytes of each form. The grammar is nothing else: a line is the form of an event or of a setup.
use Rattle.std.specs.Prelude.{ℕ, ◌-◌, ◌<◌, ◌≡◌, Bool, false, ◌||◌, ◌⊎◌, List, [], ◌∷◌, ◌++◌, length, take, replicate, eqb, ltb}
use Rattle.base.specs.Members.{Every}
use Rattle.types.specs.declared.Message.{Message}
use Rattle.types.specs.declared.Message.TheVariants.{View, Vote, Vc, Qc}
use Rattle.types.specs.declared.Event.{Event}
use Rattle.types.specs.declared.Event.TheVariants.{Deliver, Sign, Show, Settle, Tick}
use Rattle.types.specs.declared.Setup.{Setup}
use Rattle.types.specs.Quantities.{n_most, table_clocks, per_leader, per_leader_usual}
use Rattle.types.specs.Runs.{plan_numbers, usual_numbers}
use Rattle.types.specs.Messages.{view_in, processor_in, lacks_form}
use Rattle.lines.specs.Decimal.{decimal, field_limit}

-- ---- the fixed bytes

-- "("
abbrev pub open_byte : ℕ
open_byte = 40

-- ")"
abbrev pub close_byte : ℕ
close_byte = 41

-- "separated by one blank"
abbrev pub blank_byte : ℕ
blank_byte = 32

-- "and then one newline"
abbrev pub newline : ℕ
newline = 10

abbrev pub open_bracket : List ℕ
open_bracket = open_byte ∷ []

abbrev pub close_bracket : List ℕ
close_bracket = close_byte ∷ []

abbrev pub one_blank : List ℕ
one_blank = blank_byte ∷ []

-- "open"
abbrev pub open_word : List ℕ
open_word = 111 ∷ 112 ∷ 101 ∷ 110 ∷ []

-- "deliver"
abbrev pub deliver_word : List ℕ
deliver_word = 100 ∷ 101 ∷ 108 ∷ 105 ∷ 118 ∷ 101 ∷ 114 ∷ []

-- "sign"
abbrev pub sign_word : List ℕ
sign_word = 115 ∷ 105 ∷ 103 ∷ 110 ∷ []

-- "show"
abbrev pub show_word : List ℕ
show_word = 115 ∷ 104 ∷ 111 ∷ 119 ∷ []

-- "settle"
abbrev pub settle_word : List ℕ
settle_word = 115 ∷ 101 ∷ 116 ∷ 116 ∷ 108 ∷ 101 ∷ []

-- "tick"
abbrev pub tick_word : List ℕ
tick_word = 116 ∷ 105 ∷ 99 ∷ 107 ∷ []

-- "view"
abbrev pub view_word : List ℕ
view_word = 118 ∷ 105 ∷ 101 ∷ 119 ∷ []

-- "vote"
abbrev pub vote_word : List ℕ
vote_word = 118 ∷ 111 ∷ 116 ∷ 101 ∷ []

-- "vc"
abbrev pub vc_word : List ℕ
vc_word = 118 ∷ 99 ∷ []

-- "qc"
abbrev pub qc_word : List ℕ
qc_word = 113 ∷ 99 ∷ []

-- ---- the forms

-- one after the other
abbrev pub joined : List (List ℕ) → List ℕ
joined [] = []
joined (a ∷ l) = a ++ joined l

-- "the message inside the form is one of four kinds": its word
abbrev pub kind_word : Message → List ℕ
kind_word (View w p) = view_word
kind_word (Vote w p) = vote_word
kind_word (Vc w p) = vc_word
kind_word (Qc w p) = qc_word

-- numbers, each behind "one blank"
abbrev pub spaced : List ℕ → List (List ℕ)
spaced [] = []
spaced (n ∷ l) = one_blank ∷ decimal n ∷ spaced l

-- a word and numbers behind it, in brackets
abbrev pub numbers_form : List ℕ → List ℕ → List ℕ
numbers_form w l = joined (open_bracket ∷ w ∷ spaced l ++ (close_bracket ∷ []))

-- its numbers: "w is a view, p a cabinet"
abbrev pub message_fields : Message → List ℕ
message_fields m = view_in m ∷ processor_in m ∷ []

-- "(view w p)", "and so for vote, vc, qc"
unfoldable pub message_form : Message → List ℕ
message_form m = numbers_form (kind_word m) (message_fields m)

-- "(deliver (view w p))" and the like
abbrev pub carrying_form : List ℕ → Message → List ℕ
carrying_form w m = joined (open_bracket ∷ w ∷ one_blank ∷ message_form m ∷ close_bracket ∷ [])

unfoldable pub event_form : Event → List ℕ
event_form (Deliver m) = carrying_form deliver_word m
event_form (Sign m) = carrying_form sign_word m
event_form (Show m) = carrying_form show_word m
event_form Settle = joined (open_bracket ∷ settle_word ∷ close_bracket ∷ [])
event_form (Tick m) = numbers_form tick_word (m ∷ [])

-- " c1 c2 .."
abbrev pub further_clocks : List ℕ → List ℕ
further_clocks l = joined (spaced l)

-- "c0 c1 .."
abbrev pub clocks_form : List ℕ → List ℕ
clocks_form [] = []
clocks_form (c ∷ l) = decimal c ++ further_clocks l

-- the clocks that the line has: "n clocks"
abbrev pub line_clocks : Setup → List ℕ
line_clocks u = take u.plan.n u.clocks

-- an opening: a word, numbers, a set and a table in its brackets
abbrev pub opening_form : List ℕ → List ℕ → List ℕ → List ℕ → List ℕ
opening_form w ns set table = joined (
    open_bracket ∷ w ∷ spaced ns ++ (set ∷ one_blank ∷ open_bracket ∷ table ∷ close_bracket ∷ close_bracket ∷ []))

-- its set: " mask"
abbrev pub set_form : ℕ → List ℕ
set_form faulty = one_blank ++ decimal faulty

-- the opening of a setup, with these numbers before its set
abbrev pub plan_form : List ℕ → Setup → List ℕ
plan_form ns u = opening_form open_word ns (set_form u.faulty) (clocks_form (line_clocks u))

-- "(open n Δ Γ V mask (c0 c1 ..))", with k "after V": "Lines are written with k"
unfoldable pub setup_form : Setup → List ℕ
setup_form u = plan_form (plan_numbers u.plan) u

-- the "opening line without it"
unfoldable pub usual_form : Setup → List ℕ
usual_form u = plan_form (usual_numbers u.plan) u

-- ---- what has a form

-- "n clocks, 1 to 64 of them": check 1, "a line to be written has no form (n is 0 or above 64)". Which events have none, `lacks_form` says
abbrev pub lacks_setup_form : Setup → Bool
lacks_setup_form u = eqb u.plan.n 0 || ltb n_most u.plan.n

-- the numbers in the form
abbrev pub event_fields : Event → List ℕ
event_fields (Deliver m) = message_fields m
event_fields (Sign m) = message_fields m
event_fields (Show m) = message_fields m
event_fields Settle = []
event_fields (Tick m) = m ∷ []

abbrev pub setup_fields : Setup → List ℕ
setup_fields u = plan_numbers u.plan ++ (u.faulty ∷ line_clocks u)

-- "below 2^64"
abbrev pub Below : List ℕ → Type 0
Below l = Every (λ (n : ℕ). n < field_limit) l

-- the line s is the form of the event e
pub record EventLine (s : List ℕ) (e : Event) : Type 0 where
  pub formed : lacks_form e ≡ false
  pub below : Below (event_fields e)
  pub bytes : s ≡ event_form e

-- "any opening line without it is read as k=3": the bytes of the setup u are those that are written, or those without k where it is 3
abbrev pub SetupBytes : List ℕ → Setup → Type 0
SetupBytes s u = (s ≡ setup_form u) ⊎ ((s ≡ usual_form u) × (per_leader u.plan ≡ per_leader_usual))

-- the line s is a form of the setup u, which has a whole table
pub record SetupLine (s : List ℕ) (u : Setup) : Type 0 where
  pub formed : lacks_setup_form u ≡ false
  pub below : Below (setup_fields u)
  pub table : length u.clocks ≡ table_clocks
  pub bytes : SetupBytes s u

-- "tables that differ only from n on are the same event": the setup with those clocks 0
unfoldable pub trimmed : Setup → Setup
trimmed u = record { plan = u.plan; faulty = u.faulty; clocks = line_clocks u ++ replicate (table_clocks - u.plan.n) 0 }
