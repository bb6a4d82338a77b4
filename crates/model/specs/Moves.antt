-- "How a cabinet moves": entering a view, and rules 1 to 5. No move knows the network's words.
use Rattle.std.specs.Prelude.{Bool, true, false, not, ◌&&◌, ◌||◌, cond, List, [], ◌∷◌, ◌++◌, ℕ, zero, suc, ◌+◌, ◌-◌, ◌/◌, ◌%◌, eqb, leb, ltb, length, set}
use Rattle.base.specs.Sets.{member, insert, size}
use Rattle.types.specs.declared.Plan.{Plan}
use Rattle.types.specs.declared.Message.{Message}
use Rattle.types.specs.declared.Message.TheVariants.{View, Vote, Vc, Qc}
use Rattle.types.specs.declared.Run.{Run}
use Rattle.types.specs.Quantities.{tolerated, lead, initial, clock_time, correct}
use Rattle.types.specs.Traffic.{traffic_sent}
use Rattle.types.specs.Messages.{view_stage, vote_stage, kind_of, view_in, processor_in, addressee}
use Rattle.model.specs.State.{State, with_run, with_tally, with_network, with_held, with_time, with_clocks, with_views, with_traffic, clock_of, view_of, is_correct, entered_word, heard_word, marks_word, mark_bit, word, added, posted}

-- what a move leaves of clocks, views and tally, and the messages that it sends, in order; nothing else of the run moves
pub record Change : Type 0 where
  pub clocks : List ℕ
  pub views : List ℕ
  pub tally : List ℕ
  pub sent : List Message

abbrev pub changed : Run → Change → Run
changed r c = with_views c.views (with_clocks c.clocks r)

abbrev pub still : Run → List ℕ → Change
still r t = record { clocks = r.clocks; views = r.views; tally = t; sent = [] }

-- one change, and then another
abbrev pub also : Change → Change → Change
also c d = record { clocks = d.clocks; views = d.views; tally = d.tally; sent = c.sent ++ d.sent }

-- "messages sent to correct cabinets": those that go into the network; "Messages to a faulty leader are not posted."
unfoldable pub to_correct : Plan → ℕ → List Message → List Message
to_correct plan faulty [] = []
to_correct plan faulty (m ∷ ms) =
    cond (correct plan faulty (addressee plan (kind_of m) (view_in m) (processor_in m))) (m ∷ to_correct plan faulty ms) (to_correct plan faulty ms)

-- ---- "Entering view w: the view becomes w, a clock below wΓ becomes wΓ, and the cabinet sends its vote for w to the leader of w;
-- for an initial w its view message goes before the vote."

abbrev pub entry_clock : Plan → ℕ → ℕ → ℕ
entry_clock plan clock w = cond (ltb clock (clock_time plan w)) (clock_time plan w) clock

abbrev pub entry_messages : Plan → ℕ → ℕ → List Message
entry_messages plan p w = cond (initial plan w) (View w p ∷ Vote w p ∷ []) (Vote w p ∷ [])

-- p has this clock and view, the tally is t, and the messages are sent
abbrev pub moved_to : Run → List ℕ → ℕ → ℕ → ℕ → List Message → Change
moved_to r t p clock view ms = record {
  clocks = set r.clocks p clock;
  views = set r.views p view;
  tally = t;
  sent = to_correct r.plan r.faulty ms;
}

unfoldable pub entering : Run → List ℕ → ℕ → ℕ → Change
entering r t p w = moved_to r (added t w entered_word p) p (entry_clock r.plan (clock_of r p) w) w (entry_messages r.plan p w)

-- ---- which view rules 1 to 3 make a processor enter, if any

pub data Entry : Type 0 where
  stay : Entry
  into : ℕ → Entry

-- 1. "Clock: a tick that brings the clock to wΓ, w initial, enters w.", the clock being that after the tick
abbrev pub by_clock : Plan → ℕ → Entry
by_clock plan clock =
    let w = clock / plan.gamma in
    cond (eqb (clock % plan.gamma) 0 && initial plan w) (into w) stay

-- 2. "Quorum certificate for w at or above the present view: enter w+1. Below it, nothing."
abbrev pub by_quorum : ℕ → ℕ → Entry
by_quorum view w = cond (leb view w) (into (w + 1)) stay

-- 3. "View certificate for initial w above the present view: enter w. Otherwise nothing."
abbrev pub by_view : Plan → ℕ → ℕ → Entry
by_view plan view w = cond (initial plan w && ltb view w) (into w) stay

unfoldable pub taking : Run → List ℕ → ℕ → Entry → Change
taking r t p stay = still r t
taking r t p (into w) = entering r t p w

-- the processors below k, each with its entry: "In one event messages go out by rising cabinet number."
unfoldable pub entries : (ℕ → Entry) → Run → List ℕ → ℕ → Change
entries e r t zero = still r t
entries e r t (suc k) = let c = entries e r t k in also c (taking (changed r c) c.tally k (e k))

-- ---- rules 4 and 5

-- 4. "With t+1 signers or more", 5. "with n−t signers or more"
abbrev pub needed : Bool → Plan → ℕ
needed false plan = tolerated plan + 1
needed true plan = plan.n - tolerated plan

-- "no such certificate formed yet and its own view at most w" (5: "whatever its own view"), p being the signer just heard
unfoldable pub ripe : Bool → Plan → ℕ → List ℕ → ℕ → ℕ → Bool
ripe stage plan own t w p =
    leb (needed stage plan) (size (insert (word t w (heard_word stage)) p))
    && not (member (word t w marks_word) (mark_bit stage))
    && (stage || leb own w)

abbrev pub forms : Bool → Run → List ℕ → ℕ → ℕ → Bool
forms stage r t w p = ripe stage r.plan (view_of r (lead r.plan w)) t w p

abbrev pub certificate : Bool → ℕ → ℕ → Message
certificate false w p = Vc w p
certificate true w p = Qc w p

-- a certificate for each processor below k
unfoldable pub to_each : Bool → ℕ → ℕ → List Message
to_each stage w zero = []
to_each stage w (suc k) = to_each stage w k ++ (certificate stage w k ∷ [])

-- the tally with the signer heard, and the mark of a certificate that is formed
abbrev pub heard_tally : List ℕ → Bool → ℕ → ℕ → Bool → List ℕ
heard_tally t stage w p formed =
    let heard = added t w (heard_word stage) p in
    cond formed (added heard w marks_word (mark_bit stage)) heard

-- "A formed certificate is sent to every correct cabinet, the leader included."
abbrev pub formed_messages : Plan → ℕ → Bool → ℕ → Bool → List Message
formed_messages plan faulty stage w formed = cond formed (to_correct plan faulty (to_each stage w plan.n)) []

-- what a leader that hears p's signature for w changes, the certificate being formed or not
abbrev pub heard_change : Bool → Run → List ℕ → ℕ → ℕ → Bool → Change
heard_change stage r t w p formed = record {
  clocks = r.clocks;
  views = r.views;
  tally = heard_tally t stage w p formed;
  sent = formed_messages r.plan r.faulty stage w formed;
}

-- "A correct leader that hears a view message for w adds the signer." (That it is correct is tested by `signing`, and by check 9 for what
-- is delivered.)
unfoldable pub hearing : Bool → Run → List ℕ → ℕ → ℕ → Change
hearing stage r t w p = heard_change stage r t w p (forms stage r t w p)

-- a message that reaches whom it is for
unfoldable pub handling : Run → List ℕ → Message → Change
handling r t (View w p) = hearing view_stage r t w p
handling r t (Vote w p) = hearing vote_stage r t w p
handling r t (Vc w p) = taking r t p (by_view r.plan (view_of r p) w)
handling r t (Qc w p) = taking r t p (by_quorum (view_of r p) w)

-- ---- "A single tick adds 1 to time and to every correct clock", and rule 1

-- one more on each correct clock below k
unfoldable pub clocks_on : Run → ℕ → List ℕ
clocks_on r zero = r.clocks
clocks_on r (suc k) = cond (is_correct r k) (set (clocks_on r k) k (clock_of r k + 1)) (clocks_on r k)

abbrev pub advanced : State → State
advanced s = with_run (with_time (s.run.time + 1) (with_clocks (clocks_on s.run s.run.plan.n) s.run)) s

abbrev pub arrival : Run → ℕ → Entry
arrival r p = cond (is_correct r p) (by_clock r.plan (clock_of r p)) stay

-- the entries of a tick that has advanced time and clocks
unfoldable pub arrivals : State → Change
arrivals a = entries (arrival a.run) a.run a.tally a.run.plan.n

-- ---- a change made, and its messages posted: "Sent means posted."

unfoldable pub made : State → Change → State
made s c =
    with_run (with_traffic (traffic_sent s.run.traffic c.sent) (with_held (s.run.held + length c.sent) (changed s.run c)))
    (with_tally c.tally (with_network (posted s.form s.network s.run.held s.run.time c.sent) s))
