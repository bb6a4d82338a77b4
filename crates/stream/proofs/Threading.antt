-- The state handed from call to call. Assumes nothing.
use mathlib.Core.Path.{◌≡◌, refl, sym, ap, ap₂, ◌∙◌, subst}
use mathlib.Core.Bool.{Bool, false}
use Prim.Native.Nat.{ℕ, ◌+◌, ◌-◌, ◌≤◌}
use native.Mathlib.Omega.{arith}
use mathlib.Core.List.{List, [], ◌++◌}
use lib.ListN.{length, take, drop, replicate}
use lib.Seq.{take-add, length-take-le, paste}
use borrow.Rule.Slice.PartMut.{mid_of}
use Rattle.lines.specs.declared.Next.TheVariants.{Unfinished}
use Rattle.lines.specs.Printout.{printed_most}
use Rattle.lines.specs.Splitting.{before_newline, next_line}
use Rattle.lines.proofs.Putting.{left_over, rest-lent}
use Rattle.printout.specs.declared.Session.{Session}
use Rattle.printout.specs.declared.Served.{Served}
use Rattle.printout.specs.Printout.{Standing, standing_of, unopened_session, tally_lent, network_lent}
use Rattle.printout.specs.Clauses.{place_at, Advance, fed, Begun, Serves}
use Rattle.printout.proofs.Feeding.{fed-append}
use Rattle.printout.proofs.Promises.{goes_on}
use Rattle.stream.specs.declared.Progress.{Progress}
use Rattle.stream.specs.Threads.{Leads, Threads, Reaches}
use Rattle.stream.proofs.Keeping.{kept-bytes}

pub leads-none : (x : Standing) (begun : List ℕ) (late : Bool) → Begun late begun → Leads x begun [] x late
leads-none x begun late b = record { state = refl; begins = b }

-- one piece and then another
pub leads-then : {x y z : Standing} {begun a b : List ℕ} {late late' : Bool} → Leads x begun a y late
    → ((begun' : List ℕ) → Begun late begun' → Leads y begun' b z late') → Leads x begun (a ++ b) z late'
leads-then {x} {y} {z} {begun} {a} {b} {late} {late'} h g =
    let F : Advance = fed (place_at x begun) a in
    let u : Leads F.place.standing F.place.begun b z late' =
    subst (λ (s : Standing). Leads s F.place.begun b z late') h.state (g F.place.begun h.begins) in
    let e : (fed (place_at x begun) (a ++ b)).place ≡ (fed F.place b).place = ap (λ (f : Advance). f.place) (fed-append (place_at x begun) a b) in
    record { state = u.state ∙ ap (λ p. p.standing) (sym e); begins = subst (λ p. Begun late' p.begun) (sym e) u.begins }

-- ---- the lines of the bytes at hand, call by call

-- the first `used` of them led here
pub record Going (x : Standing) (late : Bool) (bytes tally network : List ℕ) (s : Session) (passed : Bool) (used : ℕ) : Type 0 where
  pub within : used ≤ length bytes
  pub leads : (begun : List ℕ) → Begun late begun → Leads x begun (take used bytes) (standing_of s tally network) passed

pub going-none : (late : Bool) (bytes tally network : List ℕ) (s : Session) → Going (standing_of s tally network) late bytes tally network s late 0
going-none late bytes tally network s = record { within = omega arith; leads = λ begun b. leads-none (standing_of s tally network) begun late b }

pub going_more : (x : Standing) (late : Bool) (bytes tally network : List ℕ) (s : Session) (passed : Bool) (used : ℕ) (out tally' network' : List ℕ) (r : Served) (after : List ℕ)
    → Going x late bytes tally network s passed used
    → Serves (standing_of s tally network) passed (mid_of used (length bytes - used) bytes) out tally' network' r after
    → Going x late bytes tally' network' r.session r.late (used + r.used)
going_more x late bytes tally network s passed used out tally' network' r after g t = record {
  within = omega (arith, t.within, left_over used bytes, g.within);
  leads = λ begun b.
      subst (λ (l : List ℕ). Leads x begun l (standing_of r.session tally' network') r.late) (sym (take-add used r.used bytes))
      (leads-then (g.leads begun b) (λ begun' b'. further begun' b'));
}
  where
    further : (begun' : List ℕ) → Begun passed begun' → Leads (standing_of s tally network) begun' (take r.used (drop used bytes)) (standing_of r.session tally' network') r.late
    further begun' b' =
        let f = t.feeds begun' b' in
        subst (λ (l : List ℕ). Leads (standing_of s tally network) begun' (take r.used l) (standing_of r.session tally' network') r.late) (rest-lent used bytes)
        (record { state = f.state; begins = f.begins })

-- a call that used nothing was the last
pub going-stops : (x : Standing) (passed : Bool) (bytes out tally' network' : List ℕ) (used : ℕ) (r : Served) (after : List ℕ)
    → Serves x passed (mid_of used (length bytes - used) bytes) out tally' network' r after → r.used ≡ 0 → printed_most ≤ length out → next_line (drop (used + r.used) bytes) ≡ Unfinished
going-stops x passed bytes out tally' network' used r after t z h =
    let k : used + r.used ≡ used = omega arith in
    ap (λ (i : ℕ). next_line (drop i bytes)) k ∙ ap next_line (sym (rest-lent used bytes)) ∙ goes_on x passed (mid_of used (length bytes - used) bytes) out tally' network' r after t h z

pub going-threads : (x : Standing) (late : Bool) (bytes out tally network : List ℕ) (s : Session) (passed : Bool) (used : ℕ) → Going x late bytes tally network s passed used
    → (printed_most ≤ length out → next_line (drop used bytes) ≡ Unfinished) → Threads x late bytes out tally network (record { session = s; late = passed; bytes = used })
going-threads x late bytes out tally network s passed used g h = record { within = g.within; leads = g.leads; stops = h }

-- ---- read after read

pub reaches-start : (tally network window : List ℕ) (s : Session) → s ≡ unopened_session → tally ≡ replicate tally_lent 0 → network ≡ replicate network_lent 0
    → Reaches tally network window (record { session = s; late = false; bytes = 0 })
unfolding next_line before_newline
reaches-start tally network window s e t n =
    record { input = []; leads = record { state = λ i. standing_of (e i) (t i) (n i); begins = refl }; within = omega arith; rest = refl }

pub threads-within : (x : Standing) (late : Bool) (filled : ℕ) (w out tally network : List ℕ) (a : Progress) → filled ≤ length w → Threads x late (take filled w) out tally network a → a.bytes ≤ filled
threads-within x late filled w out tally network a f t = omega (arith, t.within, length-take-le filled w f)

-- what was read is answered, and the bytes that are left go to the start of the window
pub reaches_more : (tally network w : List ℕ) (r : Progress) (w' : List ℕ) (filled room : ℕ) (out tally' network' : List ℕ) (a : Progress) (k : ℕ) (w'' : List ℕ)
    → Reaches tally network w r → filled ≤ length w' → printed_most ≤ room → length out ≡ room
    → Threads (standing_of r.session tally network) r.late (take filled w') out tally' network' a
    → k ≡ filled - a.bytes → w'' ≡ paste w' 0 (drop a.bytes w') k → length w'' ≡ length w'
    → Reaches tally' network' w'' (record { session = a.session; late = a.late; bytes = k })
reaches_more tally network w r w' filled room out tally' network' a k w'' h f o l t e p q =
    let b : a.bytes ≤ filled = threads-within _ r.late filled w' out tally' network' a f t in
    record {
      input = h.input ++ take a.bytes (take filled w');
      leads = leads-then h.leads t.leads;
      within = omega arith;
      rest =
          ap next_line (ap₂ (λ (i : ℕ) (y : List ℕ). take i y) e (p ∙ ap (paste w' 0 (drop a.bytes w')) e) ∙ kept-bytes w' a.bytes filled b f) ∙ t.stops (omega arith);
    }
