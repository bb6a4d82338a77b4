-- What messages and events are: their kinds, what they name, and which have a form.
use Rattle.std.specs.Prelude.{Bool, true, false, not, cond, ℕ, ◌≤◌, eqb, leb}
use Rattle.types.specs.declared.Plan.{Plan}
use Rattle.types.specs.declared.Message.{Message}
use Rattle.types.specs.declared.Message.TheVariants.{View, Vote, Vc, Qc}
use Rattle.types.specs.declared.Event.{Event}
use Rattle.types.specs.declared.Event.TheVariants.{Deliver, Sign, Show, Settle, Tick}
use Rattle.types.specs.Quantities.{lead}

-- ---- the two stages of a view: view messages make a view certificate, votes make a quorum certificate

abbrev pub view_stage : Bool
view_stage = false

abbrev pub vote_stage : Bool
vote_stage = true

-- ---- "kind (1 view, 2 vote, 3 view certificate, 4 quorum certificate), view, cabinet"

abbrev pub kind_of : Message → ℕ
kind_of (View w p) = 1
kind_of (Vote w p) = 2
kind_of (Vc w p) = 3
kind_of (Qc w p) = 4

abbrev pub view_in : Message → ℕ
view_in (View w p) = w
view_in (Vote w p) = w
view_in (Vc w p) = w
view_in (Qc w p) = w

abbrev pub processor_in : Message → ℕ
processor_in (View w p) = p
processor_in (Vote w p) = p
processor_in (Vc w p) = p
processor_in (Qc w p) = p

abbrev pub kind_least : ℕ
kind_least = 1

abbrev pub kind_most : ℕ
kind_most = 4

-- a number is the kind of a message
abbrev pub IsKind : ℕ → Type 0
IsKind k = (kind_least ≤ k) × (k ≤ kind_most)

-- the stage that a message belongs to
abbrev pub stage_of : Message → Bool
stage_of (View w p) = view_stage
stage_of (Vote w p) = vote_stage
stage_of (Vc w p) = view_stage
stage_of (Qc w p) = vote_stage

-- a view message or a vote, and no certificate
abbrev pub is_signature : Message → Bool
is_signature (View w p) = true
is_signature (Vote w p) = true
is_signature (Vc w p) = false
is_signature (Qc w p) = false

-- "The cabinet is the sender for kinds 1 and 2, the receiver for 3 and 4": whom a stored message is for
abbrev pub last_signature_kind : ℕ
last_signature_kind = 2

abbrev pub addressee : Plan → ℕ → ℕ → ℕ → ℕ
addressee plan kind w p = cond (leb kind last_signature_kind) (lead plan w) p

-- ---- events

-- 1. "an event handed in has 0 ticks or a kind its form lacks"
abbrev pub lacks_form : Event → Bool
lacks_form (Deliver m) = false
lacks_form (Sign m) = not (is_signature m)
lacks_form (Show m) = is_signature m
lacks_form Settle = false
lacks_form (Tick m) = eqb m 0
