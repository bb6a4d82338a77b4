-- Texts put into lent bytes, one behind the other, each into what the last ones left. Assumes nothing.
use Rattle.std.specs.Prelude.{Err, Ok, Result}
use mathlib.Core.Path.{◌≡◌, refl, sym, ap, ap₂, ◌∙◌, subst}
use mathlib.Core.Bool.{true, false}
use mathlib.Core.List.{List, [], ◌++◌, append_assoc, append-nil}
use Prim.Native.Nat.{ℕ, ◌+◌, ◌-◌, ◌≤◌, ◌<◌}
use native.Mathlib.Omega.{arith}
use lib.Dec.{ltb}
use lib.ListN.{length, take, drop, length-append, length-drop, drop_of_length-le}
use lib.Seq.{take_at, drop_at, drop-drop, take_all}
use borrow.Rule.Slice.PartMut.{mid_of, put_mid, Post-is}
use borrow.Author.Tests.{lt-ltb, le-ltb}
use Rattle.lines.specs.Clauses.{line, Writes, written_as, written_in, Put, Prints}

-- ---- one text behind another

pub put-none : (out : List ℕ) → Put [] out 0 out
put-none out = record { bytes = refl; text = refl }

pub put_then : {v w out e f : List ℕ} {k m : ℕ} → Put v out k e → Put w (drop k e) m f → Put (v ++ w) out (k + m) (take k e ++ f)
put_then {v} {w} {out} {e} {f} {k} {m} a b =
    let t : take k e ≡ v = ap (take k) a.text ∙ take_at v (drop k out) k (sym a.bytes) in
    let d : drop k e ≡ drop k out = ap (drop k) a.text ∙ drop_at v (drop k out) k (sym a.bytes) in
    record {
      bytes = omega (arith, a.bytes, b.bytes, length-append v w);
      text = ap₂ (λ (x y : List ℕ). x ++ y) t (b.text ∙ ap (λ (x : List ℕ). w ++ x) (ap (drop m) d ∙ drop-drop m k out)) ∙ sym (append_assoc v w (drop (k + m) out));
    }

pub put-inside : (words out : List ℕ) (k : ℕ) (after : List ℕ) → Put words out k after → length after ≡ length out → k ≤ length out
put-inside words out k after p h = omega (arith, p.bytes, ap length p.text, length-append words (drop k out))

-- lent from k on, and put back
pub rest-lent : (k : ℕ) (e : List ℕ) → mid_of k (length e - k) e ≡ drop k e
rest-lent k e = take_all (length e - k) (drop k e) (omega (arith, length-drop k e))

-- how many are left
pub left_over : (k : ℕ) (l : List ℕ) → length (mid_of k (length l - k) l) ≡ length l - k
left_over k l = ap length (rest-lent k l) ∙ length-drop k l

pub rest_back : (k : ℕ) (e f : List ℕ) → k ≤ length e → put_mid k (length e - k) e f ≡ take k e ++ f
rest_back k e f h =
    let l : length e ≤ length e = omega arith in
    ap (λ (z : List ℕ). take k e ++ (f ++ z)) (Post-is k (length e) e h ∙ drop_of_length-le e l) ∙ ap (λ (z : List ℕ). take k e ++ z) (append-nil f)

pub put-part : {v w out e f : List ℕ} {k m : ℕ} → Put v out k e → k ≤ length e → Put w (mid_of k (length e - k) e) m f → Put (v ++ w) out (k + m) (put_mid k (length e - k) e f)
put-part {v} {w} {out} {e} {f} {k} {m} a h b =
    subst (Put (v ++ w) out (k + m)) (sym (rest_back k e f h)) (put_then a (subst (λ (d : List ℕ). Put w d m f) (rest-lent k e) b))

-- ---- what the writer wrote, where it has room

pub room-written : (form out after : List ℕ) (r : Result ℕ ℕ) → Writes false form out r after → length (line form) ≤ length out
    → (r ≡ Ok (length (line form))) × (after ≡ line form ++ drop (length (line form)) out)
unfolding written_as written_in
room-written form out after r w h =
    let n : ltb (length out) (length (line form)) ≡ false = le-ltb _ _ h in (rw n at w.0, rw n at w.1)

pub put_written : (form out after : List ℕ) (r : Result ℕ ℕ) (k : ℕ) → Writes false form out r after → length (line form) ≤ length out → r ≡ Ok k → Put (line form) out k after
put_written form out after r k w h e =
    let u = room-written form out after r w h in
    let q : Ok k ≡ Ok (length (line form)) = sym e ∙ u.0 in
    let n : k ≡ length (line form) = cc in
    record { bytes = n; text = u.1 ∙ ap (λ (i : ℕ). line form ++ drop i out) (sym n) }

pub never-refused : (form out after : List ℕ) (r : Result ℕ ℕ) (c : ℕ) → Writes false form out r after → length (line form) ≤ length out → r ≡ Err c → ⊥
never-refused form out after r c w h e =
    let q : Err c ≡ Ok (length (line form)) = sym e ∙ (room-written form out after r w h).0 in
    let z : ◌≡◌ {A = ℕ} 0 1 = cc in
    omega arith

-- where it has no room
pub few-written : (form out after : List ℕ) (r : Result ℕ ℕ) → Writes false form out r after → length out < length (line form) → (r ≡ Err 1) × (after ≡ out)
unfolding written_as written_in
few-written form out after r w h = let y : ltb (length out) (length (line form)) ≡ true = lt-ltb _ _ h in (rw y at w.0, rw y at w.1)

-- ---- a text printed, or refused for too few bytes

pub too_few : (most : ℕ) (text out : List ℕ) → length out < most → Prints most text out (Err 1) out
too_few most text out h = let y = lt-ltb _ _ h in (rw y, rw y)

pub put-prints : (most : ℕ) (text out : List ℕ) (k : ℕ) (after : List ℕ) → most ≤ length out → Put text out k after → Prints most text out (Ok k) after
put-prints most text out k after h p =
    let n = le-ltb _ _ h in (rw n (ap Ok p.bytes), rw n (p.text ∙ ap (λ (i : ℕ). text ++ drop i out) p.bytes))
