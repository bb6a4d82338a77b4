-- The network's words as a list of messages in flight, and what posting and removing do to the list. Assumes nothing.
use mathlib.Core.Path.{◌≡◌, refl, sym, ap, ◌∙◌, subst}
use mathlib.Core.Bool.{◌&&◌}
use mathlib.Core.Logic.{◌⊎◌, inl, inr}
use mathlib.Core.List.{List, [], ◌∷◌, ◌++◌, append_assoc}
use Prim.Native.Nat.{ℕ, zero, suc, ◌+◌, ◌*◌, ◌≤◌, ◌<◌}
use native.Mathlib.Omega.{arith}
use native.Mathlib.Nat.{mul-le-mul_left}
use lib.Dec.{T, eqb, eqb_refl, eqb→eq}
use lib.ListN.{length, take, drop, replicate, length-append, length-replicate, length-drop}
use lib.Seq.{slice, take_at, drop_at, drop-drop, length-take-le, length-slice}
use Rattle.base.specs.Members.{Elem, elem-right, elem-without, elem-with}
use Rattle.base.specs.Tests.{T-left, T-right, T_and}
use Rattle.types.specs.declared.Message.{Message}
use Rattle.types.specs.declared.Form.{Form}
use Rattle.types.specs.Quantities.{n_most, width}
use Rattle.types.specs.Messages.{kind_of, view_in, processor_in}
use Rattle.types.proofs.MessageLaws.{kind-of-message, same-message}
use Rattle.model.specs.State.{Held, held_as, held_words, held_at, words_of, posted, removed}
use Rattle.model.specs.FormLaws.{held-length}
use Rattle.model.specs.Checks.{held_is, is_at}
use Rattle.liveness.proofs.Forms.{Holdable, read_back, time-back, read-on}

-- ---- messages in flight

-- one of them, and when it was sent
pub record Sent : Type 0 where
  pub message : Message
  pub time : ℕ

abbrev pub sent_as : Message → ℕ → Sent
sent_as m t = record { message = m; time = t }

abbrev pub numbers : Sent → Held
numbers x = held_as x.time x.message

-- the words of a list of them
abbrev pub all_words : Form → List Sent → List ℕ
all_words form [] = []
all_words form (x ∷ xs) = held_words form (numbers x) ++ all_words form xs

-- the words of the messages, with z words of 0 beyond them
abbrev pub laid : Form → List Sent → ℕ → List ℕ
laid form xs z = all_words form xs ++ replicate z 0

-- messages that are sent now
abbrev pub stamped : ℕ → List Message → List Sent
stamped now [] = []
stamped now (m ∷ ms) = sent_as m now ∷ stamped now ms

pub length-words : (form : Form) (xs : List Sent) → length (all_words form xs) ≡ width form * length xs
length-words form [] = omega arith
length-words form (x ∷ xs) =
    length-append (held_words form (numbers x)) (all_words form xs) ∙ omega (arith, held-length form (numbers x), length-words form xs)

pub length-laid : (form : Form) (xs : List Sent) (z : ℕ) → length (laid form xs z) ≡ width form * length xs + z
length-laid form xs z = length-append (all_words form xs) (replicate z 0) ∙ omega (arith, length-words form xs, length-replicate {A = ℕ} z 0)

pub length-stamped : (now : ℕ) (ms : List Message) → length (stamped now ms) ≡ length ms
length-stamped now [] = refl
length-stamped now (m ∷ ms) = ap suc (length-stamped now ms)

words_append : (form : Form) (a b : List Sent) → all_words form (a ++ b) ≡ all_words form a ++ all_words form b
words_append form [] b = refl
words_append form (x ∷ a) b =
    ap (λ (l : List ℕ). held_words form (numbers x) ++ l) (words_append form a b)
    ∙ sym (append_assoc (held_words form (numbers x)) (all_words form a) (all_words form b))

words-stamped : (form : Form) (now : ℕ) (ms : List Message) → words_of form now ms ≡ all_words form (stamped now ms)
words-stamped form now [] = refl
words-stamped form now (m ∷ ms) = ap (λ (l : List ℕ). held_words form (held_as now m) ++ l) (words-stamped form now ms)

zeros-off : (k z : ℕ) → drop k (replicate {A = ℕ} (k + z) 0) ≡ replicate z 0
zeros-off zero z = let e : 0 + z ≡ z = omega arith in rw e
zeros-off (suc k) z = let e : suc k + z ≡ suc (k + z) = omega arith in rw e (zeros-off k z)

zeros-on : (k z : ℕ) → replicate {A = ℕ} (k + z) 0 ≡ replicate k 0 ++ replicate z 0
zeros-on zero z = let e : 0 + z ≡ z = omega arith in rw e
zeros-on (suc k) z = let e : suc k + z ≡ suc (k + z) = omega arith in rw e (ap (λ (l : List ℕ). 0 ∷ l) (zeros-on k z))

-- the words beyond the last message
pub laid-beyond : (form : Form) (xs : List Sent) (z : ℕ) → drop (width form * length xs) (laid form xs z) ≡ replicate z 0
laid-beyond form xs z = drop_at (all_words form xs) (replicate z 0) (width form * length xs) (length-words form xs)

-- posting adds at the end
pub posted-laid : (form : Form) (xs : List Sent) (z now : ℕ) (ms : List Message)
    → posted form (laid form xs (width form * length ms + z)) (length xs) now ms ≡ laid form (xs ++ stamped now ms) z
unfolding posted
posted-laid form xs z now ms =
    let n : length (all_words form xs) ≡ width form * length xs = length-words form xs in
    let w : List ℕ = laid form xs (width form * length ms + z) in
    let a : take (width form * length xs) w ≡ all_words form xs =
    take_at (all_words form xs) (replicate (width form * length ms + z) 0) (width form * length xs) n in
    let e : width form * (length xs + length ms) ≡ width form * length xs + width form * length ms = omega arith in
    let b : drop (width form * (length xs + length ms)) w ≡ replicate z 0 =
    rw e (sym (drop-drop (width form * length ms) (width form * length xs) w)
    ∙ ap (drop (width form * length ms)) (laid-beyond form xs (width form * length ms + z)) ∙ zeros-off (width form * length ms) z) in
    rw (a, b, words_append, words-stamped)

-- one in the middle goes, and the rest close up
pub removed-laid : (form : Form) (a b : List Sent) (x : Sent) (z : ℕ)
    → removed form (laid form (a ++ x ∷ b) z) (length (a ++ x ∷ b)) (length a) ≡ laid form (a ++ b) (width form + z)
unfolding removed
removed-laid form a b x z =
    let w : List ℕ = all_words form a in
    let t : List ℕ = held_words form (numbers x) ++ all_words form b in
    let all : List ℕ = all_words form (a ++ x ∷ b) in
    let h : ℕ = length (a ++ x ∷ b) in
    let n : length w ≡ width form * length a = length-words form a in
    let k : length all ≡ width form * h = length-words form (a ++ x ∷ b) in
    let e : all ≡ w ++ t = words_append form a (x ∷ b) in
    let before : take (width form * length a) (all ++ replicate z 0) ≡ w =
    rw (e, append_assoc) (take_at w (t ++ replicate z 0) (width form * length a) n) in
    let up_to : take (width form * h) (all ++ replicate z 0) ≡ w ++ t = take_at all (replicate z 0) (width form * h) k ∙ e in
    let i : width form * (length a + 1) ≡ width form * length a + width form = omega arith in
    let behind : drop (width form * (length a + 1)) (w ++ t) ≡ all_words form b =
    rw i (sym (drop-drop (width form) (width form * length a) (w ++ t)) ∙ ap (drop (width form)) (drop_at w t (width form * length a) n)
    ∙ drop_at (held_words form (numbers x)) (all_words form b) (width form) (held-length form (numbers x))) in
    let rest : drop (width form * h) (all ++ replicate z 0) ≡ replicate z 0 = drop_at all (replicate z 0) (width form * h) k in
    rw (before, up_to, behind, rest, append_assoc (w ++ all_words form b) (replicate (width form) 0) (replicate z 0), words_append, zeros-on)

-- ---- membership

-- message m, sent at time s, is in flight
abbrev pub In : Message → ℕ → List Sent → Type 0
In m s xs = Elem (sent_as m s) xs

-- each of them names a processor that every form can hold
abbrev pub Named : List Sent → Type 0
Named xs = (x : Sent) → Elem x xs → processor_in x.message < n_most

named-first : (x : Sent) → processor_in x.message < n_most → Holdable (numbers x)
named-first x low = record { kind = kind-of-message x.message; processor = low }

module _ (form : Form) (x : Sent) (xs : List Sent) (z : ℕ) where
  pub laid-front : laid form (x ∷ xs) z ≡ held_words form (numbers x) ++ laid form xs z
  laid-front = append_assoc (held_words form (numbers x)) (all_words form xs) (replicate z 0)

  pub laid-first : processor_in x.message < n_most → held_at form (laid form (x ∷ xs) z) 0 ≡ numbers x
  laid-first low = ap (λ (ws : List ℕ). held_at form ws 0) laid-front ∙ read_back form (numbers x) (laid form xs z) (named-first x low)

  time-first : (held_at form (laid form (x ∷ xs) z) 0).sent ≡ x.time
  time-first = ap (λ (ws : List ℕ). (held_at form ws 0).sent) laid-front ∙ time-back form (numbers x) (laid form xs z)

  pub laid_on : (i : ℕ) → held_at form (laid form (x ∷ xs) z) (suc i) ≡ held_at form (laid form xs z) i
  laid_on i = ap (λ (ws : List ℕ). held_at form ws (suc i)) laid-front ∙ read-on form (numbers x) (laid form xs z) i

-- what is read at a place is a message in flight
pub record Read (form : Form) (ws : List ℕ) (i : ℕ) (xs : List Sent) : Type 0 where
  pub sent : Sent
  pub within : Elem sent xs
  pub is : held_at form ws i ≡ numbers sent

pub read_at : (form : Form) (xs : List Sent) (z i : ℕ) → Named xs → i < length xs → Read form (laid form xs z) i xs
read_at form [] z i named l = absurd (omega arith)
read_at form (x ∷ xs) z zero named l = record { sent = x; within = inl refl; is = laid-first form x xs z (named x (inl refl)) }
read_at form (x ∷ xs) z (suc i) named l =
    let r = read_at form xs z i (λ y j. named y (inr j)) (omega arith) in
    record { sent = r.sent; within = inr r.within; is = laid_on form x xs z i ∙ r.is }

-- the time of a message in flight is read at some place
pub stands_at : (form : Form) (x : Sent) (xs : List Sent) (z : ℕ) → Elem x xs
    → (i : ℕ) × (i < length xs) × ((held_at form (laid form xs z) i).sent ≡ x.time)
stands_at form x [] z i = absurd i
stands_at form x (y ∷ xs) z (inl e) = (0, omega arith, time-first form y xs z ∙ sym (ap (λ (u : Sent). u.time) e))
stands_at form x (y ∷ xs) z (inr i) =
    let r = stands_at form x xs z i in
    (suc r.0, omega (arith, r.1), ap (λ (h : Held). h.sent) (laid_on form y xs z r.0) ∙ r.2)

-- ---- the message that a delivery finds

-- a message is held as itself, and as no other
pub held-itself : (t : ℕ) (m : Message) → T (held_is m (held_as t m))
held-itself t m = T_and (eqb (kind_of m) (kind_of m) && eqb (view_in m) (view_in m)) (eqb (processor_in m) (processor_in m))
    (T_and (eqb (kind_of m) (kind_of m)) (eqb (view_in m) (view_in m)) (eqb_refl (kind_of m)) (eqb_refl (view_in m))) (eqb_refl (processor_in m))

held-alone : (t : ℕ) (a m : Message) → T (held_is m (held_as t a)) → a ≡ m
held-alone t a m is =
    let both = T-left (eqb (kind_of a) (kind_of m) && eqb (view_in a) (view_in m)) _ is in
    same-message a m (eqb→eq _ _ (T-left (eqb (kind_of a) (kind_of m)) _ both)) (eqb→eq _ _ (T-right (eqb (kind_of a) (kind_of m)) _ both))
    (eqb→eq _ _ (T-right (eqb (kind_of a) (kind_of m) && eqb (view_in a) (view_in m)) _ is))

-- the list around it, and that it is m
pub record Found (xs : List Sent) (m : Message) (i : ℕ) : Type 0 where
  pub ahead : List Sent
  pub behind : List Sent
  pub time : ℕ
  pub split : xs ≡ ahead ++ sent_as m time ∷ behind
  pub place : length ahead ≡ i

pub found_at : (form : Form) (xs : List Sent) (z : ℕ) (m : Message) (i : ℕ) → Named xs → i < length xs
    → T (is_at form (laid form xs z) m i) → Found xs m i
found_at form [] z m i named l t = absurd (omega arith)
found_at form (x ∷ xs) z m zero named l t = record { ahead = []; behind = xs; time = x.time; split = λ j. sent_as (e j) x.time ∷ xs; place = refl }
  where
    e : x.message ≡ m
    e = held-alone x.time x.message m (subst (λ (h : Held). T (held_is m h)) (laid-first form x xs z (named x (inl refl))) t)
found_at form (x ∷ xs) z m (suc i) named l t =
    go (found_at form xs z m i (λ y j. named y (inr j)) (omega arith) (subst (λ (h : Held). T (held_is m h)) (laid_on form x xs z i) t))
  where
    go : Found xs m i → Found (x ∷ xs) m (suc i)
    go f = record { ahead = x ∷ f.ahead; behind = f.behind; time = f.time; split = ap (λ (l : List Sent). x ∷ l) f.split; place = ap suc f.place }

module _ {xs : List Sent} {m : Message} {i : ℕ} (found : Found xs m i) where
  pub found_in : In m found.time xs
  found_in = subst (In m found.time) (sym found.split)
      (elem-right (sent_as m found.time) found.ahead (sent_as m found.time ∷ found.behind) (inl refl))

  -- the others, which stay when it goes
  abbrev pub rest : List Sent
  rest = found.ahead ++ found.behind

  pub rest_in : (x : Sent) → Elem x rest → Elem x xs
  rest_in x e = subst (Elem x) (sym found.split) (elem-with x found.ahead found.behind (sent_as m found.time) e)

  pub in_rest : (x : Sent) → Elem x xs → Elem x rest ⊎ (x ≡ sent_as m found.time)
  in_rest x e = elem-without x found.ahead found.behind (sent_as m found.time) (subst (Elem x) found.split e)

-- ---- of any words

pub length_removed : (form : Form) (ws : List ℕ) (h i : ℕ) → i < h → width form * h ≤ length ws → length (removed form ws h i) ≡ length ws
unfolding removed
length_removed form ws h i l k =
    let at : width form * (i + 1) ≤ width form * h = mul-le-mul_left (width form) (omega arith) in
    let a : List ℕ = take (width form * i) ws in
    let b : List ℕ = slice (width form * (i + 1)) (width form * h) ws in
    let z : List ℕ = replicate (width form) 0 in
    let d : List ℕ = drop (width form * h) ws in
    length-append (a ++ b ++ z) d ∙ omega (
      arith,
      length-replicate {A = ℕ} (width form) 0,
      length-append (a ++ b) z,
      length-append a b,
      length-take-le (width form * i) ws (omega arith),
      length-slice (width form * (i + 1)) (width form * h) ws k,
      length-drop (width form * h) ws,
    )
