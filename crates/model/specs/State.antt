-- "Quantities", continued: the run, the tally and the network as they are lent, word by word, and what an answer says.
pub use Rattle.types.specs.Runs.{run_from, head_of}
use Rattle.std.specs.Prelude.{Bool, true, false, List, [], ◌∷◌, ◌++◌, ℕ, ◌+◌, ◌-◌, ◌*◌, ◌/◌, ◌%◌, length, get_or, set, take, drop, replicate}
use Rattle.std.proofs.Math.Seq.{slice}
use Rattle.base.specs.Sets.{insert}
use Rattle.types.specs.declared.Plan.{Plan}
use Rattle.types.specs.declared.Message.{Message}
use Rattle.types.specs.declared.Form.{Form}
use Rattle.types.specs.declared.Form.TheVariants.{Wide, Packed}
use Rattle.types.specs.declared.Run.{Run}
use Rattle.types.specs.declared.Traffic.{Traffic}
use Rattle.types.specs.declared.Answer.{Answer}
use Rattle.types.specs.declared.Applied.{Applied}
use Rattle.types.specs.declared.AppliedHead.{AppliedHead}
use Rattle.types.specs.declared.Answer.TheVariants.{Done, Stopped, Refused}
use Rattle.types.specs.Quantities.{correct, row_words, width}
use Rattle.types.specs.Messages.{kind_of, view_in, processor_in}

-- the run, and the two lent buffers: tally ("The ledger") and network ("The post"), whose words are of a form
pub record State : Type 0 where
  pub run : Run
  pub tally : List ℕ
  pub network : List ℕ
  pub form : Form

abbrev pub state_in : Form → Run → List ℕ → List ℕ → State
state_in form run tally network = record { run = run; tally = tally; network = network; form = form }

-- what is lent now: "A message now takes two words"
abbrev pub state_of : Run → List ℕ → List ℕ → State
state_of run tally network = state_in Packed run tally network

-- a state with another run, tally or network
abbrev pub with_run : Run → State → State
with_run r s = record { run = r; tally = s.tally; network = s.network; form = s.form }

abbrev pub with_tally : List ℕ → State → State
with_tally t s = record { run = s.run; tally = t; network = s.network; form = s.form }

abbrev pub with_network : List ℕ → State → State
with_network ws s = record { run = s.run; tally = s.tally; network = ws; form = s.form }

-- ---- the run

abbrev pub run_of : Plan → ℕ → ℕ → Bool → ℕ → ℕ → List ℕ → List ℕ → Traffic → Run
run_of plan faulty time settled gst held clocks views traffic = record {
  plan = plan;
  faulty = faulty;
  time = time;
  settled = settled;
  gst = gst;
  held = held;
  clocks = clocks;
  views = views;
  traffic = traffic;
}

abbrev pub with_held : ℕ → Run → Run
with_held h r = run_of r.plan r.faulty r.time r.settled r.gst h r.clocks r.views r.traffic

abbrev pub with_time : ℕ → Run → Run
with_time t r = run_of r.plan r.faulty t r.settled r.gst r.held r.clocks r.views r.traffic

abbrev pub with_gst : ℕ → Run → Run
with_gst g r = run_of r.plan r.faulty r.time true g r.held r.clocks r.views r.traffic

abbrev pub with_clocks : List ℕ → Run → Run
with_clocks l r = run_of r.plan r.faulty r.time r.settled r.gst r.held l r.views r.traffic

abbrev pub with_views : List ℕ → Run → Run
with_views l r = run_of r.plan r.faulty r.time r.settled r.gst r.held r.clocks l r.traffic

abbrev pub with_traffic : Traffic → Run → Run
with_traffic x r = run_of r.plan r.faulty r.time r.settled r.gst r.held r.clocks r.views x

abbrev pub clock_of : Run → ℕ → ℕ
clock_of r p = get_or r.clocks p 0

abbrev pub view_of : Run → ℕ → ℕ
view_of r p = get_or r.views p 0

abbrev pub is_correct : Run → ℕ → Bool
is_correct r p = correct r.plan r.faulty p

-- ---- the tally: "four 64-bit words a view, being the correct cabinets that entered it, those whose view message its leader heard,
-- those whose vote it heard, and two marks (1 view certificate formed, 2 quorum certificate formed)"; "A mark is one bit of its word"

abbrev pub entered_word : ℕ
entered_word = 0

abbrev pub heard_word : Bool → ℕ
heard_word false = 1
heard_word true = 2

abbrev pub marks_word : ℕ
marks_word = 3

abbrev pub mark_bit : Bool → ℕ
mark_bit false = 0
mark_bit true = 1

abbrev pub slot : ℕ → ℕ → ℕ
slot w j = row_words * w + j

abbrev pub word : List ℕ → ℕ → ℕ → ℕ
word t w j = get_or t (slot w j) 0

-- word j of view w with bit p set
abbrev pub added : List ℕ → ℕ → ℕ → ℕ → List ℕ
added t w j p = set t (slot w j) (insert (word t w j) p)

-- ---- the network: messages in flight, each with "kind (1 view, 2 vote, 3 view certificate, 4 quorum certificate), view, cabinet, sending time"

-- a held message: its four numbers
pub record Held : Type 0 where
  pub kind : ℕ
  pub view : ℕ
  pub processor : ℕ
  pub sent : ℕ

-- a message that is sent now
abbrev pub held_as : ℕ → Message → Held
held_as now m = record { kind = kind_of m; view = view_in m; processor = processor_in m; sent = now }

-- "view × 512 + (kind − 1) × 64 + cabinet", and the three numbers again
abbrev pub packed_word : ℕ → ℕ → ℕ → ℕ
packed_word kind view processor = view * 512 + (kind - 1) * 64 + processor

abbrev pub unpacked : ℕ → ℕ → Held
unpacked x sent = record { kind = x / 64 % 8 + 1; view = x / 512; processor = x % 64; sent = sent }

-- the words of a held message: its four numbers; or the packed word, "then the sending time"
abbrev pub held_words : Form → Held → List ℕ
held_words Wide h = h.kind ∷ h.view ∷ h.processor ∷ h.sent ∷ []
held_words Packed h = packed_word h.kind h.view h.processor ∷ h.sent ∷ []

-- message i, read from the network's words
abbrev pub held_at : Form → List ℕ → ℕ → Held
held_at Wide ws i = record { kind = get_or ws (4 * i) 0; view = get_or ws (4 * i + 1) 0; processor = get_or ws (4 * i + 2) 0; sent = get_or ws (4 * i + 3) 0 }
held_at Packed ws i = unpacked (get_or ws (2 * i) 0) (get_or ws (2 * i + 1) 0)

-- how many messages fit: "the post's words divided by 4, rounded down"; "check 18 divides its words by 2"
abbrev pub capacity : Form → List ℕ → ℕ
capacity form ws = length ws / width form

-- of a state: held message i, and how many fit
abbrev pub held_in : State → ℕ → Held
held_in s i = held_at s.form s.network i

abbrev pub room_in : State → ℕ
room_in s = capacity s.form s.network

abbrev pub words_of : Form → ℕ → List Message → List ℕ
words_of form now [] = []
words_of form now (m ∷ ms) = held_words form (held_as now m) ++ words_of form now ms

-- "They stand in sending order": messages sent now, behind the h that are held
unfoldable pub posted : Form → List ℕ → ℕ → ℕ → List Message → List ℕ
posted form ws h now ms = take (width form * h) ws ++ words_of form now ms ++ drop (width form * (h + length ms)) ws

-- "a delivered one is removed and the rest close up, so its place is used again. Words beyond the last message are 0."
unfoldable pub removed : Form → List ℕ → ℕ → ℕ → List ℕ
removed form ws h i =
    take (width form * i) ws ++ slice (width form * (i + 1)) (width form * h) ws ++ replicate (width form) 0 ++ drop (width form * h) ws

-- ---- the answer: document 01's numbers for each of its cases

-- the check that refused the call or ended the ticks; 0: none
abbrev pub check_of : Answer → ℕ
check_of (Done a h) = 0
check_of (Stopped a h r) = r
check_of (Refused r) = r

-- the ticks done; "a refused one did none"
abbrev pub ticks_of : Answer → ℕ
ticks_of (Done a h) = a
ticks_of (Stopped a h r) = a
ticks_of (Refused r) = 0

-- the messages held afterwards; a refusal tells none
abbrev pub held_of : Answer → ℕ
held_of (Done a h) = h
held_of (Stopped a h r) = h
held_of (Refused r) = 0

abbrev pub accepted : Answer → Bool
accepted (Done a h) = true
accepted (Stopped a h r) = true
accepted (Refused r) = false

-- what a call leaves, and its answer
pub record After : Type 0 where
  pub state : State
  pub answer : Answer

-- what a function handed back, with the buffers as it left them
abbrev pub handed_back : Applied → List ℕ → List ℕ → After
handed_back a tally network = record { state = state_of a.run tally network; answer = a.answer }

-- the same where the run's tables are lent too
abbrev pub left_behind : AppliedHead → List ℕ → List ℕ → List ℕ → List ℕ → After
left_behind o clocks views tally network = record { state = state_of (run_from o.head clocks views) tally network; answer = o.answer }

-- "A refusal answers its number alone and changes nothing"
abbrev pub refused : State → ℕ → After
refused s r = record { state = s; answer = Refused r }

abbrev pub done : State → After
done s = record { state = s; answer = Done 0 s.run.held }
