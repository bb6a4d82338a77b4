-- Lines answered one after the other. Assumes nothing.
use mathlib.Core.Path.{◌≡◌, refl, sym, ap, ◌∙◌, subst}
use mathlib.Core.Bool.{Bool, true, false}
use Prim.Native.Nat.{ℕ, ◌+◌, ◌≤◌, ◌<◌}
use native.Mathlib.Omega.{arith}
use native.Mathlib.Numerals.{add-one}
use mathlib.Core.List.{List, [], ◌++◌}
use lib.ListN.{length, take, drop, length-append}
use lib.Seq.{length-take-le, take_all}
use borrow.Author.Tests.{le-leb, lt-leb}
use Rattle.base.specs.Choice.{cond_yes, cond_no}
use Rattle.lines.specs.declared.Next.{Next}
use Rattle.lines.specs.declared.Next.TheVariants.{Line, Long, Endless}
use Rattle.lines.specs.Splitting.{line_most, before_newline, next_line}
use Rattle.lines.proofs.Splitting.{found}
use Rattle.lines.proofs.Putting.{put-none, put_then, put-inside}
use Rattle.lines.specs.Clauses.{Reading, Put}
use Rattle.printout.specs.declared.Session.{Session}
use Rattle.printout.specs.declared.Served.{Served}
use Rattle.printout.specs.Printout.{Standing, standing_of, reply, refused_reply, line_reply}
use Rattle.printout.specs.Clauses.{Place, place_at, line_ended, Advance, behind, fed, Begun, Feeds}
use Rattle.driver.specs.Inner.{replying, Passes, Turns}
use Rattle.printout.proofs.Feeding.{fed-append, within, fed-within, told, fed-line}

-- ---- one piece behind another

abbrev fed_put : {x : Standing} {begun s out : List ℕ} {y : Standing} {late : Bool} {k : ℕ} {after : List ℕ} → Feeds x begun s out y late k after → Put (fed (place_at x begun) s).text out k after
fed_put h = record { bytes = h.bytes; text = h.text }

pub feeds-none : (x : Standing) (begun out : List ℕ) (late : Bool) → Begun late begun → Feeds x begun [] out x late 0 out
feeds-none x begun out late b = record { state = refl; begins = b; bytes = refl; text = refl }

-- fed from where the first piece led
feeds-at : (x : Standing) (begun s out : List ℕ) (y : Standing) (late : Bool) (k : ℕ) (after : List ℕ) (f : Advance) → fed (place_at x begun) s ≡ f
    → y ≡ f.place.standing → Begun late f.place.begun → Put f.text out k after → Feeds x begun s out y late k after
feeds-at x begun s out y late k after f e q b p =
    record {
      state = q ∙ ap (λ (z : Advance). z.place.standing) (sym e);
      begins = subst (λ (z : Advance). Begun late z.place.begun) (sym e) b;
      bytes = p.bytes ∙ ap (λ (z : Advance). length z.text) (sym e);
      text = p.text ∙ ap (λ (z : Advance). z.text ++ drop k out) (sym e);
    }

pub feeds-then : {x y z : Standing} {begun a b out e f : List ℕ} {late late' : Bool} {k m : ℕ} → Feeds x begun a out y late k e
    → ((begun' : List ℕ) → Begun late begun' → Feeds y begun' b (drop k e) z late' m f) → Feeds x begun (a ++ b) out z late' (k + m) (take k e ++ f)
feeds-then {x} {y} {z} {begun} {a} {b} {out} {e} {f} {late} {late'} {k} {m} h g =
    let F : Advance = fed (place_at x begun) a in
    let u : Feeds F.place.standing F.place.begun b (drop k e) z late' m f =
    subst (λ (s : Standing). Feeds s F.place.begun b (drop k e) z late' m f) h.state (g F.place.begun h.begins) in
    feeds-at x begun (a ++ b) out z late' (k + m) (take k e ++ f) (behind F.text (fed F.place b)) (fed-append (place_at x begun) a b)
    u.state u.begins (put_then (fed_put h) (fed_put u))

-- ---- one line

-- the bytes up to its newline
fed-ended : (p : Place) (s : List ℕ) (e : ℕ) → e ≡ before_newline s → e < length s → fed p (take (e + 1) s) ≡ told (within p (take e s))
fed-ended p s e q h = rw (add-one, q) (fed-line p s (subst (λ (k : ℕ). k < length s) q h))

-- a line that is not too long is read
line_read : (x : Standing) (s : List ℕ) → length s ≤ line_most → line_ended (place_at x s) ≡ line_reply s x
line_read x s h = ap (λ (r : Reading). reply r x) (sym (cond_yes _ _ _ _ (le-leb _ _ h) refl))

-- one that is too long fails check 1
line_refused : (x : Standing) (s : List ℕ) → line_most < length s → line_ended (place_at x s) ≡ refused_reply 1 x
line_refused x s h = ap (λ (r : Reading). reply r x) (sym (cond_no _ _ _ _ (lt-leb _ _ h) refl))

-- where a line ends, of which nothing was passed over
pub fed-read : (x : Standing) (s : List ℕ) (n : Next) (e : ℕ) → n ≡ next_line s → n ≡ Line e → (begun : List ℕ) → Begun false begun
    → fed (place_at x begun) (take (e + 1) s) ≡ replying (line_reply (take e s) x)
fed-read x s n e q p begun b =
    let f : (e ≡ before_newline s) × (e < length s) × (e ≤ line_most) = found s n (Line e) q p in
    let l : length (take e s) ≤ line_most = omega (arith, length-take-le e s (omega (arith, f.1)), f.2) in
    ap (λ (z : List ℕ). fed (place_at x z) (take (e + 1) s)) b ∙ fed-ended (place_at x []) s e f.0 f.1 ∙ ap replying (line_read x (take e s) l)

-- of which too much was passed over
pub fed-late : (x : Standing) (s : List ℕ) (n : Next) (e : ℕ) → n ≡ next_line s → n ≡ Line e → (begun : List ℕ) → Begun true begun
    → fed (place_at x begun) (take (e + 1) s) ≡ replying (refused_reply 1 x)
fed-late x s n e q p begun b =
    let f : (e ≡ before_newline s) × (e < length s) × (e ≤ line_most) = found s n (Line e) q p in
    let l : line_most < length (begun ++ take e s) = omega (arith, length-append begun (take e s), b) in
    fed-ended (place_at x begun) s e f.0 f.1 ∙ ap replying (line_refused x (begun ++ take e s) l)

-- that is too long by itself
pub fed-long : (x : Standing) (s : List ℕ) (n : Next) (e : ℕ) → n ≡ next_line s → n ≡ Long e → (begun : List ℕ)
    → fed (place_at x begun) (take (e + 1) s) ≡ replying (refused_reply 1 x)
fed-long x s n e q p begun =
    let f : (e ≡ before_newline s) × (e < length s) × (line_most < e) = found s n (Long e) q p in
    let l : line_most < length (begun ++ take e s) = omega (arith, length-append begun (take e s), length-take-le e s (omega (arith, f.1)), f.2) in
    fed-ended (place_at x begun) s e f.0 f.1 ∙ ap replying (line_refused x (begun ++ take e s) l)

-- bytes of a line that is too long and goes on
pub feeds-endless : (x : Standing) (s out : List ℕ) (n : Next) (late : Bool) → n ≡ next_line s → n ≡ Endless
    → (begun : List ℕ) → Begun late begun → Feeds x begun (take (length s) s) out x true 0 out
feeds-endless x s out n late q p begun b =
    let f : (length s ≤ before_newline s) × (line_most < length s) = found s n Endless q p in
    let l : line_most < length (begun ++ s) = omega (arith, length-append begun s, f.1) in
    subst (λ (z : List ℕ). Feeds x begun z out x true 0 out) (sym (take_all (length s) s (omega arith)))
    (feeds-at x begun s out x true 0 out (record { place = within (place_at x begun) s; text = [] }) (fed-within (place_at x begun) s f.0) refl l (put-none out))

-- ---- turns

-- lines were used
pub turn-passed : (x : Standing) (late : Bool) (bytes out tally network : List ℕ) (r : Served) (after : List ℕ) (used : ℕ) (f : Advance)
    → 0 < used → used ≤ length bytes → Begun false f.place.begun → ((begun : List ℕ) → Begun late begun → fed (place_at x begun) (take used bytes) ≡ f)
    → Passes used f out tally network r after → length after ≡ length out → Turns x late bytes out tally network r after
turn-passed x late bytes out tally network r after used f some inside fresh e p same = record {
  within = omega (arith, p.used);
  room = put-inside f.text out r.printed after p.put same;
  feeds = λ begun b.
      subst (λ (k : ℕ). Feeds x begun (take k bytes) out (standing_of r.session tally network) r.late r.printed after) (sym p.used)
      (subst (λ (t : Bool). Feeds x begun (take used bytes) out (standing_of r.session tally network) t r.printed after) (sym p.late)
      (feeds-at x begun (take used bytes) out (standing_of r.session tally network) false r.printed after f (e begun b) p.state fresh p.put));
  stops = λ z. absurd (omega (arith, p.used));
}

-- a line of which too much was passed over, or that is too long by itself, was refused
pub turn-late : (x : Standing) (late : Bool) (bytes out tally network : List ℕ) (n : Next) (e : ℕ) (r : Served) (after : List ℕ) → late ≡ true → n ≡ next_line bytes → n ≡ Line e
    → Passes (e + 1) (replying (refused_reply 1 x)) out tally network r after → length after ≡ length out → Turns x late bytes out tally network r after
turn-late x late bytes out tally network n e r after l q p h same =
    turn-passed x late bytes out tally network r after (e + 1) (replying (refused_reply 1 x)) (omega arith) (omega (arith, (found bytes n (Line e) q p).1)) refl
    (λ begun b. fed-late x bytes n e q p begun (subst (λ (t : Bool). Begun t begun) l b)) h same

pub turn-long : (x : Standing) (late : Bool) (bytes out tally network : List ℕ) (n : Next) (e : ℕ) (r : Served) (after : List ℕ) → n ≡ next_line bytes → n ≡ Long e
    → Passes (e + 1) (replying (refused_reply 1 x)) out tally network r after → length after ≡ length out → Turns x late bytes out tally network r after
turn-long x late bytes out tally network n e r after q p h same =
    turn-passed x late bytes out tally network r after (e + 1) (replying (refused_reply 1 x)) (omega arith) (omega (arith, (found bytes n (Long e) q p).1)) refl
    (λ begun b. fed-long x bytes n e q p begun) h same

-- a line was answered
pub turn-line : (x : Standing) (late : Bool) (bytes out tally network : List ℕ) (n : Next) (e : ℕ) (r : Served) (after : List ℕ) → late ≡ false → n ≡ next_line bytes → n ≡ Line e
    → Passes (length (take e bytes) + 1) (replying (line_reply (take e bytes) x)) out tally network r after → length after ≡ length out → Turns x late bytes out tally network r after
turn-line x late bytes out tally network n e r after l q p h same =
    let i : e < length bytes = (found bytes n (Line e) q p).1 in
    let k : length (take e bytes) ≡ e = length-take-le e bytes (omega arith) in
    let f : Advance = replying (line_reply (take e bytes) x) in
    turn-passed x late bytes out tally network r after (e + 1) f (omega arith) (omega arith) refl
    (λ begun b. fed-read x bytes n e q p begun (subst (λ (t : Bool). Begun t begun) l b)) (subst (λ (z : ℕ). Passes (z + 1) f out tally network r after) k h) same

-- bytes of a line that is too long and goes on were passed over
pub turn-endless : (s : Session) (late : Bool) (bytes out tally network : List ℕ) (n : Next) → n ≡ next_line bytes → n ≡ Endless
    → Turns (standing_of s tally network) late bytes out tally network (record { session = s; late = true; used = length bytes; printed = 0 }) out
turn-endless s late bytes out tally network n q p = record {
  within = omega arith;
  room = omega arith;
  feeds = feeds-endless (standing_of s tally network) bytes out n late q p;
  stops = λ z. absurd (omega (arith, (found bytes n Endless q p).1));
}
