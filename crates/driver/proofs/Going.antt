-- The lines of the bytes at hand, turn by turn. Assumes nothing.
use mathlib.Core.Path.{◌≡◌, refl, sym, ap, ◌∙◌, subst}
use mathlib.Core.Logic.{◌⊎◌, inl, inr, ⊎_elim}
use mathlib.Core.Bool.{Bool}
use Prim.Native.Nat.{ℕ, ◌+◌, ◌-◌, ◌≤◌, ◌<◌}
use native.Mathlib.Omega.{arith}
use mathlib.Core.List.{List, ◌++◌}
use lib.ListN.{length, take, drop, drop_of_length-le}
use lib.Seq.{take-add, drop-drop}
use borrow.Rule.Slice.PartMut.{mid_of, put_mid, same_len_mid}
use Rattle.lines.specs.declared.Next.TheVariants.{Unfinished}
use Rattle.lines.specs.Printout.{printed_most}
use Rattle.lines.specs.Splitting.{before_newline, next_line}
use Rattle.lines.proofs.Putting.{left_over, rest_back, rest-lent}
use Rattle.printout.specs.declared.Session.{Session}
use Rattle.printout.specs.declared.Served.{Served}
use Rattle.printout.specs.Printout.{Standing, standing_of}
use Rattle.printout.specs.Clauses.{Begun, Feeds, Serves}
use Rattle.driver.specs.Inner.{Turns}
use Rattle.driver.proofs.Serving.{feeds-none, feeds-then}

-- the first `used` of the bytes at hand led here
pub record Going (x : Standing) (late : Bool) (bytes out tally network after : List ℕ) (s : Session) (passed : Bool) (used printed : ℕ) : Type 0 where
  pub within : used ≤ length bytes
  pub room : printed ≤ length after
  pub same : length after ≡ length out
  pub feeds : (begun : List ℕ) → Begun late begun → Feeds x begun (take used bytes) out (standing_of s tally network) passed printed after

pub going-none : (late : Bool) (bytes out tally network : List ℕ) (s : Session) → Going (standing_of s tally network) late bytes out tally network out s late 0 0
going-none late bytes out tally network s =
    record { within = omega arith; room = omega arith; same = refl; feeds = λ begun b. feeds-none (standing_of s tally network) begun out late b }

-- a turn uses no more than is left
pub turn-within : (x : Standing) (late : Bool) (bytes out tally network : List ℕ) (used : ℕ) (r : Served) (after : List ℕ) → used ≤ length bytes
    → Turns x late (mid_of used (length bytes - used) bytes) out tally network r after → used + r.used ≤ length bytes
turn-within x late bytes out tally network used r after h t = omega (arith, t.within, left_over used bytes)

pub turn-room : (x : Standing) (late : Bool) (bytes out tally network : List ℕ) (printed : ℕ) (r : Served) (after : List ℕ) → printed ≤ length out
    → Turns x late bytes (mid_of printed (length out - printed) out) tally network r after → printed + r.printed ≤ length out
turn-room x late bytes out tally network printed r after h t = omega (arith, t.room, left_over printed out)

pub going_more : (x : Standing) (late : Bool) (bytes out tally network e : List ℕ) (s : Session) (passed : Bool) (used printed : ℕ) (tally' network' : List ℕ) (r : Served) (f : List ℕ)
    → Going x late bytes out tally network e s passed used printed
    → Turns (standing_of s tally network) passed (mid_of used (length bytes - used) bytes) (mid_of printed (length e - printed) e) tally' network' r f
    → length f ≡ length (mid_of printed (length e - printed) e)
    → Going x late bytes out tally' network' (put_mid printed (length e - printed) e f) r.session r.late (used + r.used) (printed + r.printed)
going_more x late bytes out tally network e s passed used printed tally' network' r f g t q =
    let same : length (put_mid printed (length e - printed) e f) ≡ length e = same_len_mid printed (length e - printed) e f q in
    record {
      within = turn-within _ passed bytes _ tally' network' used r f g.within t;
      room = omega (arith, turn-room _ passed _ e tally' network' printed r f g.room t, same);
      same = same ∙ g.same;
      feeds = λ begun b. joined begun (feeds-then (g.feeds begun b) (λ begun' b'. further begun' (t.feeds begun' b')));
    }
  where
    further : (begun' : List ℕ) → Feeds (standing_of s tally network) begun' (take r.used (mid_of used (length bytes - used) bytes)) (mid_of printed (length e - printed) e) (standing_of r.session tally' network') r.late r.printed f
        → Feeds (standing_of s tally network) begun' (take r.used (drop used bytes)) (drop printed e) (standing_of r.session tally' network') r.late r.printed f
    further begun' h =
        subst (λ (b : List ℕ). Feeds (standing_of s tally network) begun' (take r.used b) (drop printed e) (standing_of r.session tally' network') r.late r.printed f) (rest-lent used bytes)
        (subst (λ (o : List ℕ). Feeds (standing_of s tally network) begun' (take r.used (mid_of used (length bytes - used) bytes)) o (standing_of r.session tally' network') r.late r.printed f) (rest-lent printed e) h)

    joined : (begun : List ℕ) → Feeds x begun (take used bytes ++ take r.used (drop used bytes)) out (standing_of r.session tally' network') r.late (printed + r.printed) (take printed e ++ f)
        → Feeds x begun (take (used + r.used) bytes) out (standing_of r.session tally' network') r.late (printed + r.printed) (put_mid printed (length e - printed) e f)
    joined begun h =
        subst (λ (b : List ℕ). Feeds x begun b out (standing_of r.session tally' network') r.late (printed + r.printed) (put_mid printed (length e - printed) e f)) (sym (take-add used r.used bytes))
        (subst (Feeds x begun (take used bytes ++ take r.used (drop used bytes)) out (standing_of r.session tally' network') r.late (printed + r.printed)) (sym (rest_back printed e f g.room)) h)

-- ---- why it stops

pub going-stops : (x : Standing) (late : Bool) (bytes out tally network e : List ℕ) (s : Session) (passed : Bool) (used printed : ℕ) (tally' network' : List ℕ) (r : Served) (f : List ℕ)
    → Going x late bytes out tally network e s passed used printed
    → Turns (standing_of s tally network) passed (mid_of used (length bytes - used) bytes) (mid_of printed (length e - printed) e) tally' network' r f → r.used ≡ 0
    → (length out < printed + r.printed + printed_most) ⊎ (next_line (drop (used + r.used) bytes) ≡ Unfinished)
going-stops x late bytes out tally network e s passed used printed tally' network' r f g t z =
    ⊎_elim (λ (h : length (mid_of printed (length e - printed) e) < r.printed + printed_most). inl (omega (arith, left_over printed e, g.same, g.room)))
    (λ (h : next_line (drop r.used (mid_of used (length bytes - used) bytes)) ≡ Unfinished).
    inr (ap next_line (sym (ap (drop r.used) (rest-lent used bytes) ∙ drop-drop r.used used bytes)) ∙ h)) (t.stops z)

pub stops-all : (bytes : List ℕ) (used : ℕ) → length bytes ≤ used → next_line (drop used bytes) ≡ Unfinished
unfolding next_line before_newline
stops-all bytes used h = rw (drop_of_length-le bytes h) refl

pub going-serves : (x : Standing) (late : Bool) (bytes out tally network e : List ℕ) (s : Session) (passed : Bool) (used printed : ℕ)
    → Going x late bytes out tally network e s passed used printed → (length out < printed + printed_most) ⊎ (next_line (drop used bytes) ≡ Unfinished)
    → Serves x late bytes out tally network (record { session = s; late = passed; used = used; printed = printed }) e
going-serves x late bytes out tally network e s passed used printed g h =
    record { within = g.within; room = omega (arith, g.room, g.same); feeds = g.feeds; stops = h }
