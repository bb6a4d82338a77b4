-- Words stored in a row, words that move down by a message's, and what both leave. Assumes nothing.
use mathlib.Core.Path.{◌≡◌, refl, sym, ap, ap₂, ◌∙◌}
use mathlib.Core.List.{List, [], ◌∷◌, ◌++◌}
use Rattle.std.proofs.Common.{append_assoc}
use Prim.Native.Nat.{ℕ, suc, ◌+◌, ◌-◌, ◌*◌, ◌≤◌, ◌<◌}
use native.Mathlib.Omega.{arith}
use native.Mathlib.Numerals.{add-one}
use lib.ListN.{length, take, drop, set, replicate, length-drop, length-replicate}
use lib.Seq.{take-add, drop_at, length-take-le, drop-drop, slice, paste, sets-eq, take-paste, drop-paste}
use borrow.Rule.Slice.PartMut.{put_mid}
use Rattle.std.specs.List.{copy_within}
use Rattle.std.proofs.lemmas.List.Edits.{paste_all}
use Rattle.std.proofs.lemmas.Slice.{put_mid-paste}
use Rattle.types.specs.declared.Message.{Message}
use Rattle.types.specs.declared.Form.TheVariants.{Wide, Packed}
use Rattle.types.specs.Quantities.{width}
use Rattle.types.specs.Messages.{kind_of, view_in, processor_in}
use Rattle.model.specs.State.{packed_word, posted, removed}

-- four stores in a row
pub four : (ws : List ℕ) (a k v p t : ℕ) → a + width Wide ≤ length ws
    → set (set (set (set ws a k) (a + 1) v) (a + 2) p) (a + 3) t ≡ take a ws ++ (k ∷ v ∷ p ∷ t ∷ []) ++ drop (a + width Wide) ws
four ws a k v p t h =
    let x : a + 1 ≡ suc a = add-one a in
    let y : a + 2 ≡ suc (suc a) = omega arith in
    let z : a + 3 ≡ suc (suc (suc a)) = omega arith in
    rw (x, y, z) (sets-eq (k ∷ v ∷ p ∷ t ∷ []) ws a h)

-- and two
pub two : (ws : List ℕ) (a x t : ℕ) → a + width Packed ≤ length ws → set (set ws a x) (a + 1) t ≡ take a ws ++ (x ∷ t ∷ []) ++ drop (a + width Packed) ws
two ws a x t h = let e : a + 1 ≡ suc a = add-one a in rw e (sets-eq (x ∷ t ∷ []) ws a h)

pub posted-wide : (ws : List ℕ) (h : ℕ) (m : Message) (sent : ℕ) → width Wide * h + width Wide ≤ length ws
    → set (set (set (set ws (width Wide * h) (kind_of m)) (width Wide * h + 1) (view_in m)) (width Wide * h + 2) (processor_in m)) (width Wide * h + 3) sent
    ≡ posted Wide ws h sent (m ∷ [])
unfolding posted
posted-wide ws h m sent l =
    let e : width Wide * (h + 1) ≡ width Wide * h + width Wide = omega arith in
    rw e (four ws (width Wide * h) (kind_of m) (view_in m) (processor_in m) sent l)

pub posted-packed : (ws : List ℕ) (h : ℕ) (m : Message) (sent : ℕ) → width Packed * h + width Packed ≤ length ws
    → set (set ws (width Packed * h) (packed_word (kind_of m) (view_in m) (processor_in m))) (width Packed * h + 1) sent ≡ posted Packed ws h sent (m ∷ [])
unfolding posted
posted-packed ws h m sent l =
    let e : width Packed * (h + 1) ≡ width Packed * h + width Packed = omega arith in
    rw e (two ws (width Packed * h) (packed_word (kind_of m) (view_in m) (processor_in m)) sent l)

-- a part in the middle, the other way round
slice-take : (m n : ℕ) (l : List ℕ) → m ≤ length l → slice m (m + n) l ≡ take n (drop m l)
slice-take m n l h = ap (drop m) (take-add m n l) ∙ drop_at (take m l) (take n (drop m l)) m (length-take-le m l h)

-- what moving n words down to place a and clearing the two places behind them leave, e being the end of what is held
closed : (ws : List ℕ) (a n e : ℕ) → a + width Packed + n ≡ e → e ≤ length ws
    → take (a + n) (paste ws a (drop (a + width Packed) ws) n) ++ (0 ∷ 0 ∷ []) ++ drop (a + n + width Packed) (paste ws a (drop (a + width Packed) ws) n)
    ≡ take a ws ++ slice (a + width Packed) e ws ++ (0 ∷ 0 ∷ []) ++ drop e ws
closed ws a n e q m =
    let s : List ℕ = drop (a + width Packed) ws in
    let d : length s ≡ length ws - (a + width Packed) = length-drop (a + width Packed) ws in
    let t : take (a + n) (paste ws a s n) ≡ take a ws ++ slice (a + width Packed) e ws =
    take-paste ws a s n (omega arith) (omega arith)
    ∙ ap (λ (x : List ℕ). take a ws ++ x) (sym (slice-take (a + width Packed) n ws (omega arith)) ∙ ap (λ (x : ℕ). slice (a + width Packed) x ws) q) in
    let z : a + n + width Packed ≡ e = omega arith in
    let u : drop (a + n + width Packed) (paste ws a s n) ≡ drop e ws =
    sym (drop-drop (width Packed) (a + n) (paste ws a s n))
    ∙ ap (drop (width Packed)) (drop-paste ws a s n (omega arith) (omega arith))
    ∙ drop-drop (width Packed) (a + n) ws ∙ ap (λ (x : ℕ). drop x ws) z in
    ap₂ (λ (x y : List ℕ). x ++ (0 ∷ 0 ∷ []) ++ y) t u

-- up: the words behind message i moved down over it; zs: the part of two words behind them, cleared
pub closed_up : (ws up zs : List ℕ) (h i k : ℕ) → i < h → width Packed * h ≤ length ws
    → up ≡ copy_within ws (width Packed * i + width Packed) (width Packed * h) (width Packed * i) → k ≡ width Packed → zs ≡ replicate k 0
    → put_mid (width Packed * h - width Packed) k up zs ≡ removed Packed ws h i
unfolding removed
closed_up ws up zs h i k l m x y z =
    let n : ℕ = width Packed * h - (width Packed * i + width Packed) in
    let last : ℕ = width Packed * h - width Packed in
    let b : width Packed * h - width Packed ≡ width Packed * i + n = omega arith in
    let e : width Packed * (i + 1) ≡ width Packed * i + width Packed = omega arith in
    let r : k ≡ length (replicate {A = ℕ} k 0) = sym (length-replicate {A = ℕ} k 0) in
    put_mid-paste last k up zs (replicate k 0) k z refl r
    ∙ paste_all up last (replicate k 0) k r
    ∙ sym (append_assoc (take last up) (replicate k 0) (drop (last + k) up))
    ∙ rw (y, x, b, e) (closed ws (width Packed * i) n (width Packed * h) (omega arith) m)
