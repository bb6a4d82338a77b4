-- What the driver's own functions hand to each other.
use Rattle.std.specs.Prelude.{ℕ, ◌+◌, ◌≤◌, ◌<◌, ◌≡◌, ◌⊎◌, Bool, true, false, cond, List, [], length, take, drop, ltb}
use Rattle.lines.specs.declared.Next.{Next}
use Rattle.lines.specs.declared.Next.TheVariants.{Line, Unfinished}
use Rattle.lines.specs.Clauses.{Put}
use Rattle.lines.specs.Printout.{printed_most}
use Rattle.lines.specs.Splitting.{next_line}
use Rattle.printout.specs.declared.Session.{Session}
use Rattle.driver.specs.declared.Turned.{Turned}
use Rattle.printout.specs.declared.Served.{Served}
use Rattle.printout.specs.Printout.{Standing, standing_of, Reply, refused_reply, printed_line}
use Rattle.printout.specs.Clauses.{place_at, Advance, Begun, Feeds}

-- what bytes left, with the session as it was left
abbrev pub served_as : Session → Turned → Served
served_as s r = record { session = s; late = r.late; used = r.used; printed = r.printed }

-- ---- what is owed

-- where a line with such a reply leads, and what is printed for it
abbrev pub replying : Reply → Advance
replying r = record { place = place_at r.standing []; text = printed_line r }

-- that k bytes were used, whole lines: they led where f says, and its text was printed
pub record Passes (k : ℕ) (f : Advance) (out tally network : List ℕ) (r : Served) (after : List ℕ) : Type 0 where
  pub used : r.used ≡ k
  pub late : r.late ≡ false
  pub state : standing_of r.session tally network ≡ f.place.standing
  pub put : Put f.text out r.printed after

-- that a line that is too long, e of its bytes being at hand, was refused
abbrev pub Refuses : ℕ → List ℕ → Turned → List ℕ → Type 0
Refuses e out r after =
    (s : Session) (tally network : List ℕ) → Passes (e + 1) (replying (refused_reply 1 (standing_of s tally network))) out tally network (served_as s r) after

-- the next line, if it is to be answered: nothing of it was passed over, and its answer has room
unfoldable pub due_line : Bool → List ℕ → ℕ → Next
due_line late s room = cond late Unfinished (cond (ltb room printed_most) Unfinished (next_line s))

-- that it is not
abbrev pub NotDue : Bool → List ℕ → ℕ → Type 0
NotDue late s room = (e : ℕ) → next_line s ≡ Line e → printed_most ≤ room → late ≡ true

-- one turn: some of the bytes at hand were used, or none could be
pub record Turns (x : Standing) (late : Bool) (bytes out tally network : List ℕ) (r : Served) (after : List ℕ) : Type 0 where
  pub within : r.used ≤ length bytes
  pub room : r.printed ≤ length out
  pub feeds : (begun : List ℕ) → Begun late begun
      → Feeds x begun (take r.used bytes) out (standing_of r.session tally network) r.late r.printed after
  pub stops : r.used ≡ 0 → (length out < r.printed + printed_most) ⊎ (next_line (drop r.used bytes) ≡ Unfinished)

-- that such a turn moved no run, whichever it is
abbrev pub TurnsAside : Bool → List ℕ → List ℕ → Turned → List ℕ → Type 0
TurnsAside late bytes out r after =
    (s : Session) (tally network : List ℕ) → Turns (standing_of s tally network) late bytes out tally network (served_as s r) after
