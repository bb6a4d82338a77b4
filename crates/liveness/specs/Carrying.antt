-- What is promised of the network's forms: a schedule on two networks, and a run carried over from one to another; of any runs and buffers, of
-- every form, be they the same one or not. proofs/Promises.antt has a proof of each promise, under its name in small letters with hyphens.
use Rattle.std.specs.Prelude.{◌≡◌, Bool, true, false, ◌&&◌, ◌≢◌, List, [], ◌∷◌, ℕ, ◌*◌, ◌<◌, T, eqb, leb, length}
use Rattle.types.specs.declared.Plan.{Plan}
use Rattle.types.specs.declared.Form.{Form}
use Rattle.types.specs.declared.Event.{Event}
use Rattle.types.specs.declared.Answer.{Answer}
use Rattle.types.specs.declared.Setup.{Setup}
use Rattle.types.specs.Quantities.{row_words, width, network_most}
use Rattle.model.specs.State.{State, After, held_in, check_of, accepted}
use Rattle.model.specs.Checks.{unsound}
use Rattle.model.specs.Opening.{opening}
use Rattle.model.specs.Events.{applied}
use Rattle.model.specs.Carrying.{target_outside, carried_over, carried_to}

-- ---- one schedule on two networks

-- a line of a schedule: an opening or an event
pub data Line : Type 0 where
  opens : Setup → Line
  happens : Event → Line

-- what a line leaves, and its answer
abbrev pub line_after : Line → State → After
line_after (opens u) s = opening u s
line_after (happens e) s = applied e s

-- the answers to a schedule, and the state that it leaves
unfoldable pub line_answers : State → List Line → List Answer
line_answers s [] = []
line_answers s (x ∷ ls) = (line_after x s).answer ∷ line_answers (line_after x s).state ls

unfoldable pub after_lines : State → List Line → State
after_lines s [] = s
after_lines s (x ∷ ls) = after_lines (line_after x s).state ls

-- "check 18"
abbrev pub full_check : ℕ
full_check = 18

-- refused or stopped for the network's length: an opening by 6 though the tally is long enough, be the network too short or above 524,288
-- words; an event by 18
abbrev pub refused_for_network : Line → State → Bool
refused_for_network (opens u) s = eqb (check_of (opening u s).answer) 6 && leb (row_words * u.plan.views) (length s.tally)
refused_for_network (happens e) s = eqb (check_of (applied e s).answer) full_check

-- the network "could hold" the schedule: no line of it is refused for that
unfoldable pub CanHold : State → List Line → Type 0
CanHold s [] = Unit {0}
CanHold s (x ∷ ls) = (T (refused_for_network x s) → ⊥) × CanHold (line_after x s).state ls

-- "alike but for those words": run and tally are the same, and so are the four numbers of each held message, "in order"
pub record HeldAlike (a b : State) : Type 0 where
  pub run : a.run ≡ b.run
  pub tally : a.tally ≡ b.tally
  pub held : (i : ℕ) → i < a.run.held → held_in a i ≡ held_in b i

-- "A schedule that both posts could hold is answered alike but for those words.", and so is one whose first lines are refused since no sound run
-- is there
abbrev pub AnsweredAlike : Type 0
AnsweredAlike =
    (a b : State) → unsound a ≡ unsound b → HeldAlike a b → (ls : List Line) → CanHold a ls → CanHold b ls
    → (line_answers a ls ≡ line_answers b ls) × HeldAlike (after_lines a ls) (after_lines b ls)

-- and so is one that opens a run, whatever run and messages the two networks' states held; the tallies are the same, word for word, since words
-- beyond 4V stay
abbrev pub AlikeFromOpening : Type 0
AlikeFromOpening =
    (a b : State) → a.tally ≡ b.tally → (u : Setup) → T (accepted (opening u a).answer) → (ls : List Line)
    → CanHold a (opens u ∷ ls) → CanHold b (opens u ∷ ls)
    → (line_answers a (opens u ∷ ls) ≡ line_answers b (opens u ∷ ls)) × HeldAlike (after_lines a (opens u ∷ ls)) (after_lines b (opens u ∷ ls))

-- ---- a run carried over

-- "Held runs are carried over in order": what is left is sound, and holds the same
abbrev pub CarriedAlike : Type 0
CarriedAlike =
    (to : Form) (s : State) (target : List ℕ) → (carried_over to s target).check ≡ 0
    → (unsound (carried_to to s target) ≡ false) × HeldAlike s (carried_to to s target)

-- "turning them back gives the same four numbers", and on a network as long as the first the state as it was, word for word
abbrev pub TurnsBack : Type 0
TurnsBack =
    (to : Form) (s : State) (target back : List ℕ) → (carried_over to s target).check ≡ 0
    → (carried_over s.form (carried_to to s target) back).check ≡ 0
    → HeldAlike s (carried_to s.form (carried_to to s target) back)
    × (length back ≡ length s.network → carried_to s.form (carried_to to s target) back ≡ s)

-- which is never refused
abbrev pub BackFits : Type 0
BackFits =
    (to : Form) (s : State) (target back : List ℕ) → (carried_over to s target).check ≡ 0 → length back ≡ length s.network
    → (carried_over s.form (carried_to to s target) back).check ≡ 0

-- a sound run is refused for its target alone: no kind, view or processor that it holds is one "the other form can't hold"
abbrev pub EverySoundCarries : Type 0
EverySoundCarries =
    (to : Form) (s : State) (target : List ℕ) → unsound s ≡ false → target_outside to s.run.plan s.run.held (length target) ≡ false
    → ((carried_over to s target).check ≡ 0) × (unsound (carried_to to s target) ≡ false) × HeldAlike s (carried_to to s target)

-- where it holds more messages than any network of that form may have words for, as a packed run may for a wide one, every target is refused
-- by 6
abbrev pub NoTargetForMore : Type 0
NoTargetForMore = (to : Form) (plan : Plan) (held words : ℕ) → network_most < width to * held → target_outside to plan held words ≡ true

-- "nothing is then written"
abbrev pub RefusedCarriesNothing : Type 0
RefusedCarriesNothing = (to : Form) (s : State) (target : List ℕ) → (carried_over to s target).check ≢ 0 → (carried_over to s target).target ≡ target
