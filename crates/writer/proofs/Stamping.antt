-- Writes into lent bytes, one after the other. Assumes nothing.
use Rattle.std.proofs.Common.{◌≡◌, ℕ, suc, ◌+◌, ◌-◌, ◌<◌, ◌≤◌, List, [], ◌∷◌, ◌++◌, length, get_or, take, drop, set, sym, refl, ap, ◌∙◌, ap₂, append_assoc, append-nil, add-zero, add_assoc, add-one, arith, length-append, length-drop, take-append-drop, length-take-le, take-suc, drop-drop, take_at, drop_at}
use lib.Seq.{set_split, set_at}
use borrow.Rule.Slice.PartMut.{put_mid}
use Rattle.writer.specs.Stamps.{stamp, Room, Stamped}

pub stamp-none : (d : List ℕ) (a : ℕ) → stamp d a [] ≡ d
unfolding stamp
stamp-none d a = rw (append-nil, add-zero, take-append-drop)

head-length : (d : List ℕ) (a : ℕ) (w : List ℕ) → a ≤ length d → length (take a d ++ w) ≡ a + length w
head-length d a w h = length-append (take a d) w ∙ ap (λ (k : ℕ). k + length w) (length-take-le a d h)

pub stamp-length : (d : List ℕ) (a : ℕ) (w : List ℕ) → a + length w ≤ length d → length (stamp d a w) ≡ length d
unfolding stamp
stamp-length d a w h =
    let l : a ≤ length d = omega arith in
    length-append (take a d ++ w) (drop (a + length w) d) ∙ rw (head-length d a w l, length-drop) (omega arith)

-- two writes in a row are one
pub stamp-stamp : (d : List ℕ) (a : ℕ) (v w : List ℕ) → a ≤ length d → stamp (stamp d a v) (a + length v) w ≡ stamp d a (v ++ w)
unfolding stamp
stamp-stamp d a v w h =
    let n : length (take a d ++ v) ≡ a + length v = head-length d a v h in
    let t : take (a + length v) (take a d ++ v ++ drop (a + length v) d) ≡ take a d ++ v = take_at (take a d ++ v) (drop (a + length v) d) (a + length v) n in
    let u : drop (a + length v + length w) (take a d ++ v ++ drop (a + length v) d) ≡ drop (a + length (v ++ w)) d =
    sym (drop-drop (length w) (a + length v) (take a d ++ v ++ drop (a + length v) d))
    ∙ ap (drop (length w)) (drop_at (take a d ++ v) (drop (a + length v) d) (a + length v) n)
    ∙ drop-drop (length w) (a + length v) d ∙ rw (length-append, add_assoc) in
    ap₂ (λ (x y : List ℕ). x ++ w ++ y) t u ∙ ap (λ (x : List ℕ). x ++ drop (a + length (v ++ w)) d) (append_assoc (take a d) v w)

-- a store is a write of one byte
pub set-stamp : (d : List ℕ) (a x : ℕ) → a < length d → set d a x ≡ stamp d a (x ∷ [])
unfolding stamp
set-stamp d a x h =
    set_split d a x h ∙ sym (ap (λ (k : ℕ). take a d ++ (x ∷ []) ++ drop k d) (add-one a) ∙ append_assoc (take a d) (x ∷ []) (drop (suc a) d))

pub stamped-byte : (d : List ℕ) (a x : ℕ) → Room d a (x ∷ []) → Stamped d a (x ∷ []) (a + 1) (set d a x)
stamped-byte d a x r = let l : a < length d = omega (arith, r.fits) in record { behind = refl; bytes = set-stamp d a x l }

-- a store before what is written is a write of one byte more
pub stamp-before : (d : List ℕ) (a x : ℕ) (w : List ℕ) → suc a + length w ≤ length d → set (stamp d (suc a) w) a x ≡ stamp d a (x ∷ w)
unfolding stamp
stamp-before d a x w h =
    let l : a < length d = omega arith in
    let k : suc a + length w ≡ a + length (x ∷ w) = omega arith in
    let t : take (suc a) d ≡ take a d ++ (get_or d a 0 ∷ []) = take-suc d a 0 l in
    ap (λ (z : List ℕ). set (z ++ w ++ drop (suc a + length w) d) a x) t
    ∙ ap (λ (z : List ℕ). set z a x) (append_assoc (take a d ++ (get_or d a 0 ∷ [])) w (drop (suc a + length w) d) ∙ append_assoc (take a d) (get_or d a 0 ∷ []) (w ++ drop (suc a + length w) d))
    ∙ set_at (take a d) (get_or d a 0) (w ++ drop (suc a + length w) d) x a (length-take-le a d (omega arith))
    ∙ sym (append_assoc (take a d) (x ∷ w) (drop (suc a + length w) d))
    ∙ ap (λ (k : ℕ). take a d ++ (x ∷ w) ++ drop k d) k

-- ---- a word

-- the part that was lent for it holds it
pub stamped-part : {A : Type 0} (d : List A) (a : ℕ) (w f : List A) → f ≡ w → Stamped d a w (a + length w) (put_mid a (a + length w - a) d f)
unfolding stamp
stamped-part {A} d a w f e =
    let k : a + (a + length w - a) ≡ a + length w = omega arith in
    record {
      behind = refl;
      bytes = ap (λ (z : List A). take a d ++ (z ++ drop (a + length w - a) (drop a d))) e
          ∙ ap (λ (z : List A). take a d ++ (w ++ z)) (drop-drop (a + length w - a) a d ∙ ap (λ (z : ℕ). drop z d) k)
          ∙ sym (append_assoc (take a d) w (drop (a + length w) d));
    }

-- ---- a row of writes

-- room for two is room for the first
pub room-first : {d : List ℕ} {a : ℕ} (v w : List ℕ) → Room d a (v ++ w) → Room d a v
room-first v w h = record { fits = omega (arith, h.fits, length-append v w) }

-- and, when it is written, for the second
pub room-second : {d e : List ℕ} {a b : ℕ} {v : List ℕ} (w : List ℕ) → Stamped d a v b e → Room d a (v ++ w) → Room e b w
room-second {d} {e} {a} {b} {v} w s h =
    let l : a + length v ≤ length d = omega (arith, h.fits, length-append v w) in
    record { fits = omega (arith, h.fits, length-append v w, s.behind, ap length s.bytes, stamp-length d a v l) }

pub stamped-none : (d : List ℕ) (a : ℕ) → Stamped d a [] a d
stamped-none d a = record { behind = sym (add-zero a); bytes = sym (stamp-none d a) }

-- both are one write
pub written_both : {d e f : List ℕ} {a b c : ℕ} {v w : List ℕ} → a ≤ length d → Stamped d a v b e → Stamped e b w c f → Stamped d a (v ++ w) c f
written_both {d} {e} {f} {a} {b} {c} {v} {w} l s t =
    record {
      behind = omega (arith, t.behind, s.behind, length-append v w);
      bytes = t.bytes ∙ ap₂ (λ (x : List ℕ) (k : ℕ). stamp x k w) s.bytes s.behind ∙ stamp-stamp d a v w l;
    }

-- the same for a row of them: `written_then` for each but the last
pub written_then : {d e f : List ℕ} {a b c : ℕ} {v : List ℕ} (w : List ℕ) → Stamped d a v b e → (Room e b w → Stamped e b w c f) → Room d a (v ++ w) → Stamped d a (v ++ w) c f
written_then w s t r = let l = r.fits in written_both (omega arith) s (t (room-second w s r))

pub written_last : {d e : List ℕ} {a b : ℕ} {w : List ℕ} → Stamped d a w b e → Room d a (w ++ []) → Stamped d a (w ++ []) b e
written_last s r = rw append-nil s
