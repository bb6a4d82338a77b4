-- How many messages of a stage may have been posted for one view: one of each processor that entered it, and one to each once the certificate
-- is formed. An entry and a formed certificate add as many as they send. Assumes nothing.
use mathlib.Core.Path.{◌≡◌, refl, sym, ap, subst}
use mathlib.Core.Bool.{Bool, true, false, ◌&&◌}
use mathlib.Core.Logic.{⊎_elim}
use mathlib.Core.List.{List, [], ◌∷◌, ◌++◌}
use Prim.Native.Nat.{ℕ, zero, suc, ◌+◌, ◌*◌, ◌≤◌, ◌<◌}
use native.Mathlib.Omega.{arith}
use native.Mathlib.Nat.{suc-mul, mul-add, mul-le-mul_left}
use lib.Dec.{T, eqb, eqb→eq}
use Rattle.base.specs.Tests.{passes?, T-left, T-right, T_true, T_false, eq?, by_cond}
use Rattle.base.specs.Count.{bit, bit-mono, bit_le, count, count-mono, count-le}
use Rattle.types.specs.declared.Plan.{Plan}
use Rattle.types.specs.declared.Message.{Message}
use Rattle.types.specs.declared.Message.TheVariants.{View, Vote}
use Rattle.types.specs.Quantities.{initial, correct}
use Rattle.types.specs.Messages.{kind_of, view_in, processor_in, addressee}
use Rattle.model.specs.Moves.{to_correct, entry_messages, certificate, to_each}
use Rattle.model.specs.Traffic.{same_stage, of_view}

-- ---- how many of a stage for a view are sent

pub view-append : (stage : Bool) (w : ℕ) (a b : List Message) → of_view stage w (a ++ b) ≡ of_view stage w a + of_view stage w b
view-append stage w [] b = omega arith
view-append stage w (m ∷ a) b = omega (arith, view-append stage w a b)

-- only some of the messages go into the network
posted-fewer : (plan : Plan) (faulty : ℕ) (stage : Bool) (w : ℕ) (ms : List Message) → of_view stage w (to_correct plan faulty ms) ≤ of_view stage w ms
unfolding to_correct
posted-fewer plan faulty stage w [] = omega arith
posted-fewer plan faulty stage w (m ∷ ms) =
    let i : of_view stage w (to_correct plan faulty ms) ≤ of_view stage w ms = posted-fewer plan faulty stage w ms in
    by_cond (λ (l : List Message). of_view stage w l ≤ of_view stage w (m ∷ ms))
    (correct plan faulty (addressee plan (kind_of m) (view_in m) (processor_in m))) (m ∷ to_correct plan faulty ms) (to_correct plan faulty ms)
    (λ t. omega (arith, i)) (λ t. omega (arith, i))

-- on entering u: one of each stage at most, and for u
pub entry-once : (plan : Plan) (faulty p u : ℕ) (stage : Bool) (w : ℕ)
    → of_view stage w (to_correct plan faulty (entry_messages plan p u)) ≤ bit (eqb u w)
entry-once plan faulty p u stage w = omega (arith, posted-fewer plan faulty stage w (entry_messages plan p u), all)
  where
    both : (d b : Bool) → bit (same_stage d false && b) + (bit (same_stage d true && b) + 0) ≤ bit b
    both true true = omega arith
    both true false = omega arith
    both false true = omega arith
    both false false = omega arith

    alone : (d b : Bool) → bit (same_stage d true && b) + 0 ≤ bit b
    alone true true = omega arith
    alone true false = omega arith
    alone false true = omega arith
    alone false false = omega arith

    all : of_view stage w (entry_messages plan p u) ≤ bit (eqb u w)
    all = by_cond (λ (l : List Message). of_view stage w l ≤ bit (eqb u w)) (initial plan u) (View u p ∷ Vote u p ∷ []) (Vote u p ∷ [])
        (λ t. both stage (eqb u w)) (λ t. alone stage (eqb u w))

-- of a formed certificate: one to each at most, of its stage and for its view
each-once : (d : Bool) (v k : ℕ) (stage : Bool) (w : ℕ) → of_view stage w (to_each d v k) ≡ k * bit (same_stage stage d && eqb v w)
unfolding to_each
each-once d v zero stage w = omega arith
each-once d v (suc k) stage w = omega (
  arith,
  each-once d v k stage w,
  one d,
  suc-mul k (bit (same_stage stage d && eqb v w)),
  view-append stage w (to_each d v k) (certificate d v k ∷ []),
)
  where
    one : (b : Bool) → of_view stage w (certificate b v k ∷ []) ≡ bit (same_stage stage b && eqb v w)
    one true = omega arith
    one false = omega arith

pub certificate-once : (plan : Plan) (faulty : ℕ) (d : Bool) (v k : ℕ) (stage : Bool) (w : ℕ)
    → of_view stage w (to_correct plan faulty (to_each d v k)) ≤ k * bit (same_stage stage d && eqb v w)
certificate-once plan faulty d v k stage w = omega (arith, posted-fewer plan faulty stage w (to_each d v k), each-once d v k stage w)

-- ---- how many are due

-- what has been done so far: by view and processor, who entered; by stage and view, whether the certificate is formed
pub record Progress : Type 0 where
  pub entered : ℕ → ℕ → Bool
  pub formed : Bool → ℕ → Bool

-- so many may have been posted of the stage for w
abbrev pub due : ℕ → Progress → Bool → ℕ → ℕ
due n a stage w = count n (a.entered w) + n * bit (a.formed stage w)

pub due-most : (n : ℕ) (a : Progress) (stage : Bool) (w : ℕ) → due n a stage w ≤ 2 * n
due-most n a stage w = omega (arith, count-le n (a.entered w), most (a.formed stage w))
  where
    most : (b : Bool) → n * bit b ≤ n
    most true = omega arith
    most false = omega arith

-- what was done stays done
pub record Grows (a b : Progress) : Type 0 where
  pub entered : (w p : ℕ) → T (a.entered w p) → T (b.entered w p)
  pub formed : (stage : Bool) (w : ℕ) → T (a.formed stage w) → T (b.formed stage w)

pub grows-on : (a b c : Progress) → Grows a b → Grows b c → Grows a c
grows-on a b c x y = record {
  entered = λ w p t. y.entered w p (x.entered w p t);
  formed = λ stage w t. y.formed stage w (x.formed stage w t);
}

-- one more passes the test
one_more : (m : ℕ) (A B : ℕ → Bool) (p : ℕ) → p < m → (T (A p) → ⊥) → T (B p) → ((r : ℕ) → T (A r) → T (B r)) → count m A + 1 ≤ count m B
unfolding count
one_more zero A B p l fresh now old = absurd (omega arith)
one_more (suc m) A B p l fresh now old = ⊎_elim
    (λ (e : p ≡ m). let a : bit (A m) ≡ 0 = ap bit (T_false (A m) (λ x. fresh (subst (λ (z : ℕ). T (A z)) (sym e) x))) in
    let b : bit (B m) ≡ 1 = ap bit (T_true (B m) (subst (λ (z : ℕ). T (B z)) e now)) in
    omega (arith, a, b, count-mono m A B (λ r _ x. old r x)))
    (λ ne. omega (arith, one_more m A B p (omega (arith, ne)) fresh now old, bit-mono (A m) (B m) (old m)))
    (eq? p m)

module _ (n : ℕ) (a b : Progress) (grows : Grows a b) where
  formed-grows : (stage : Bool) (w : ℕ) → n * bit (a.formed stage w) ≤ n * bit (b.formed stage w)
  formed-grows stage w = mul-le-mul_left n (bit-mono (a.formed stage w) (b.formed stage w) (grows.formed stage w))

  pub due-grows : (stage : Bool) (w : ℕ) → due n a stage w ≤ due n b stage w
  due-grows stage w = omega (arith, formed-grows stage w, count-mono n (a.entered w) (b.entered w) (λ p _ t. grows.entered w p t))

  -- p enters u, and had not entered it
  pub entry-due : (p u : ℕ) → p < n → (T (a.entered u p) → ⊥) → T (b.entered u p) → (stage : Bool) (w : ℕ)
      → bit (eqb u w) + due n a stage w ≤ due n b stage w
  entry-due p u low fresh now stage w = ⊎_elim
      (λ (e : u ≡ w). omega (
        arith,
        bit_le (eqb u w),
        formed-grows stage w,
        one_more n (a.entered w) (b.entered w) p low (λ x. fresh (subst (λ (z : ℕ). T (a.entered z p)) (sym e) x))
            (subst (λ (z : ℕ). T (b.entered z p)) e now) (grows.entered w),
      ))
      (λ ne. omega (arith, ap bit (T_false (eqb u w) (λ x. ne (eqb→eq u w x))), due-grows stage w))
      (eq? u w)

  -- the certificate of the stage d is formed for v, and was not
  pub forming-due : (d : Bool) (v : ℕ) → (T (a.formed d v) → ⊥) → T (b.formed d v) → (stage : Bool) (w : ℕ)
      → n * bit (same_stage stage d && eqb v w) + due n a stage w ≤ due n b stage w
  forming-due d v fresh now stage w =
      let turns : bit (same_stage stage d && eqb v w) + bit (a.formed stage w) ≤ bit (b.formed stage w) = ⊎_elim here elsewhere
      (passes? (same_stage stage d && eqb v w)) in
      omega (
        arith,
        mul-le-mul_left n turns,
        mul-add n (bit (same_stage stage d && eqb v w)) (bit (a.formed stage w)),
        count-mono n (a.entered w) (b.entered w) (λ p _ t. grows.entered w p t),
      )
    where
      same-stage : (q d' : Bool) → T (same_stage q d') → d' ≡ q
      same-stage true true t = refl
      same-stage true false t = absurd t
      same-stage false true t = absurd t
      same-stage false false t = refl

      here : T (same_stage stage d && eqb v w) → bit (same_stage stage d && eqb v w) + bit (a.formed stage w) ≤ bit (b.formed stage w)
      here t =
          let e : d ≡ stage = same-stage stage d (T-left (same_stage stage d) (eqb v w) t) in
          let e' : v ≡ w = eqb→eq v w (T-right (same_stage stage d) (eqb v w) t) in
          let was : bit (a.formed stage w) ≡ 0 = ap bit (T_false (a.formed stage w) (subst (λ (z : ℕ). T (a.formed stage z) → ⊥) e'
          (subst (λ (z : Bool). T (a.formed z v) → ⊥) e fresh))) in
          let is : bit (b.formed stage w) ≡ 1 = ap bit (T_true (b.formed stage w) (subst (λ (z : ℕ). T (b.formed stage z)) e'
          (subst (λ (z : Bool). T (b.formed z v)) e now))) in
          omega (arith, was, is, bit_le (same_stage stage d && eqb v w))

      elsewhere : (T (same_stage stage d && eqb v w) → ⊥) → bit (same_stage stage d && eqb v w) + bit (a.formed stage w) ≤ bit (b.formed stage w)
      elsewhere no' =
          let none : bit (same_stage stage d && eqb v w) ≡ 0 = ap bit (T_false (same_stage stage d && eqb v w) no') in
          omega (arith, none, bit-mono (a.formed stage w) (b.formed stage w) (grows.formed stage w))
