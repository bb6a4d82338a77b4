-- Messages posted one after another, as words. Assumes nothing.
use Rattle.std.specs.Prelude.{◌≡◌, refl, List, [], ◌∷◌, ◌++◌, ℕ, ◌+◌, ◌*◌, ◌≤◌, length, take, drop}
use Rattle.std.proofs.Common.{sym, ap, ◌∙◌, append_assoc, append-nil, arith, length-append, length-drop, take-append-drop, take_at, drop_at, drop-drop, length-take-le}
use Rattle.types.specs.declared.Message.{Message}
use Rattle.types.specs.declared.Form.{Form}
use Rattle.types.specs.declared.Form.TheVariants.{Wide, Packed}
use Rattle.types.specs.Quantities.{width}
use Rattle.model.specs.State.{held_as, held_words, words_of, posted, capacity}

pub length-words_of : (form : Form) (now : ℕ) (ms : List Message) → length (words_of form now ms) ≡ width form * length ms
length-words_of Wide now [] = refl
length-words_of Wide now (m ∷ ms) = omega (arith, length-words_of Wide now ms)
length-words_of Packed now [] = refl
length-words_of Packed now (m ∷ ms) = omega (arith, length-words_of Packed now ms)

pub words_of-append : (now : ℕ) (a b : List Message) → words_of Packed now (a ++ b) ≡ words_of Packed now a ++ words_of Packed now b
words_of-append now [] b = refl
words_of-append now (m ∷ a) b = ap (λ (l : List ℕ). held_words Packed (held_as now m) ++ l) (words_of-append now a b)

pub posted-none : (form : Form) (ws : List ℕ) (h now : ℕ) → ws ≡ posted form ws h now []
unfolding posted
posted-none form ws h now =
    let e : width form * (h + 0) ≡ width form * h = ap (λ (x : ℕ). width form * x) (omega arith) in
    rw (e, append-nil) (sym (take-append-drop (width form * h) ws))

pub posted-length : (form : Form) (ws : List ℕ) (h now : ℕ) (a : List Message) → h + length a ≤ capacity form ws → length (posted form ws h now a) ≡ length ws
unfolding posted
posted-length Wide ws h now a l = simp (length-append, length-words_of, length-drop) (omega (arith, length-take-le (width Wide * h) ws (omega arith)))
posted-length Packed ws h now a l = simp (length-append, length-words_of, length-drop) (omega (arith, length-take-le (width Packed * h) ws (omega arith)))

-- some, and then more
pub posted-more : (ws : List ℕ) (h now : ℕ) (a b : List Message) → h + length a ≤ capacity Packed ws
    → posted Packed (posted Packed ws h now a) (h + length a) now b ≡ posted Packed ws h now (a ++ b)
unfolding posted
posted-more ws h now a b l =
    let k : ℕ = width Packed * (h + length a) in
    let front : List ℕ = take (width Packed * h) ws ++ words_of Packed now a in
    let back : List ℕ = drop k ws in
    let n : length front ≡ k =
    length-append (take (width Packed * h) ws) (words_of Packed now a)
    ∙ omega (arith, length-take-le (width Packed * h) ws (omega arith), length-words_of Packed now a) in
    let t : take k (front ++ back) ≡ front = take_at front back k n in
    let d : drop k (front ++ back) ≡ back = drop_at front back k n in
    let x : width Packed * (h + length a + length b) ≡ k + width Packed * length b = omega arith in
    let y : k + width Packed * length b ≡ width Packed * (h + length (a ++ b)) = omega (arith, length-append a b) in
    let e : drop (width Packed * (h + length a + length b)) (front ++ back) ≡ drop (width Packed * (h + length (a ++ b))) ws =
    ap (λ (z : ℕ). drop z (front ++ back)) x
    ∙ sym (drop-drop (width Packed * length b) k (front ++ back))
    ∙ ap (drop (width Packed * length b)) d ∙ drop-drop (width Packed * length b) k ws ∙ ap (λ (z : ℕ). drop z ws) y in
    rw (t, e, words_of-append) (simp append_assoc)

-- a turn of a loop that posts
pub posted-turn : (ws x y : List ℕ) (h k now : ℕ) (a b c : List Message) → x ≡ posted Packed ws h now a → k ≡ h + length a
    → y ≡ posted Packed x k now b → c ≡ a ++ b → h + length a ≤ capacity Packed ws → y ≡ posted Packed ws h now c
posted-turn ws x y h k now a b c ex ek ey ec l = ey ∙ rw (ex, ek, ec) (posted-more ws h now a b l)
