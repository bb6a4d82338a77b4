-- How many messages of a list are of a kind, and what the sums make of them where none wraps. Assumes nothing.
use mathlib.Core.Path.{◌≡◌, refl, sym, ap, ◌∙◌, subst}
use mathlib.Core.List.{List, [], ◌∷◌, ◌++◌}
use Prim.Native.Nat.{ℕ, ◌+◌, ◌^◌, ◌≤◌, ◌<◌}
use native.Mathlib.Omega.{arith}
use native.Mathlib.Nat.{zero-add, mod-eq_of_lt}
use lib.Dec.{eqb}
use lib.ListN.{length}
use Rattle.base.specs.Count.{bit_le}
use Rattle.types.specs.declared.Message.{Message}
use Rattle.types.specs.declared.Message.TheVariants.{View, Vote, Vc, Qc}
use Rattle.types.specs.declared.Counts.{Counts}
use Rattle.types.specs.Messages.{kind_of}
use Rattle.types.specs.Traffic.{counts_of, no_counts, wrapped, count_one, counts_more}
use Rattle.model.specs.Traffic.{of_kind, counts_in}
use Rattle.liveness.specs.Traffic.{both_counts}

pub kind-append : (k : ℕ) (a b : List Message) → of_kind k (a ++ b) ≡ of_kind k a + of_kind k b
kind-append k [] b = omega arith
kind-append k (m ∷ a) b = omega (arith, kind-append k a b)

-- no more than there are messages, and all kinds together as many
kind-few : (k : ℕ) (ms : List Message) → of_kind k ms ≤ length ms
kind-few k [] = omega arith
kind-few k (m ∷ ms) = omega (arith, kind-few k ms, bit_le (eqb (kind_of m) k))

pub kinds-all : (ms : List Message) → of_kind 1 ms + of_kind 2 ms + of_kind 3 ms + of_kind 4 ms ≡ length ms
kinds-all [] = refl
kinds-all (View w p ∷ ms) = omega (arith, kinds-all ms)
kinds-all (Vote w p ∷ ms) = omega (arith, kinds-all ms)
kinds-all (Vc w p ∷ ms) = omega (arith, kinds-all ms)
kinds-all (Qc w p ∷ ms) = omega (arith, kinds-all ms)

-- ---- sums that do not wrap

pub one-exact : (x k : ℕ) → x + k < 2 ^ 64 → wrapped x k ≡ x + k
one-exact x k l = mod-eq_of_lt l

add-zero : (x : ℕ) → x ≡ x + 0
add-zero x = omega arith

-- no sum is 2^64 or more
record Fits (x : Counts) : Type 0 where
  views_fit : x.views < 2 ^ 64
  votes_fit : x.votes < 2 ^ 64
  vcs_fit : x.vcs < 2 ^ 64
  qcs_fit : x.qcs < 2 ^ 64

-- the sums and the messages of a list
abbrev together : Counts → List Message → Counts
together x ms = both_counts x (counts_in ms)

-- the first message, and then the others
first-apart : (x : Counts) (m : Message) (ms : List Message) → together (together x (m ∷ [])) ms ≡ together x (m ∷ ms)
first-apart x m ms =
    let a : x.views + of_kind 1 (m ∷ []) + of_kind 1 ms ≡ x.views + of_kind 1 (m ∷ ms) = omega arith in
    let b : x.votes + of_kind 2 (m ∷ []) + of_kind 2 ms ≡ x.votes + of_kind 2 (m ∷ ms) = omega arith in
    let c : x.vcs + of_kind 3 (m ∷ []) + of_kind 3 ms ≡ x.vcs + of_kind 3 (m ∷ ms) = omega arith in
    let d : x.qcs + of_kind 4 (m ∷ []) + of_kind 4 ms ≡ x.qcs + of_kind 4 (m ∷ ms) = omega arith in
    λ i. counts_of (a i) (b i) (c i) (d i)

fewer : (x : Counts) (m : Message) (ms : List Message) → Fits (together x (m ∷ ms)) → Fits (together x (m ∷ []))
fewer x m ms f = record {
  views_fit = omega (arith, f.views_fit);
  votes_fit = omega (arith, f.votes_fit);
  vcs_fit = omega (arith, f.vcs_fit);
  qcs_fit = omega (arith, f.qcs_fit);
}

one-counted : (x : Counts) (m : Message) → Fits (together x (m ∷ [])) → count_one x m ≡ together x (m ∷ [])
one-counted x (View w p) f = λ i.
    counts_of (one-exact x.views 1 f.views_fit i) (add-zero x.votes i) (add-zero x.vcs i) (add-zero x.qcs i)
one-counted x (Vote w p) f = λ i.
    counts_of (add-zero x.views i) (one-exact x.votes 1 f.votes_fit i) (add-zero x.vcs i) (add-zero x.qcs i)
one-counted x (Vc w p) f = λ i.
    counts_of (add-zero x.views i) (add-zero x.votes i) (one-exact x.vcs 1 f.vcs_fit i) (add-zero x.qcs i)
one-counted x (Qc w p) f = λ i.
    counts_of (add-zero x.views i) (add-zero x.votes i) (add-zero x.vcs i) (one-exact x.qcs 1 f.qcs_fit i)

counts-exact : (ms : List Message) (x : Counts) → Fits (together x ms) → counts_more x ms ≡ together x ms
unfolding counts_more
counts-exact [] x f = λ i. counts_of (add-zero x.views i) (add-zero x.votes i) (add-zero x.vcs i) (add-zero x.qcs i)
counts-exact (m ∷ ms) x f =
    ap (λ (y : Counts). counts_more y ms) (one-counted x m (fewer x m ms f))
    ∙ counts-exact ms (together x (m ∷ [])) (subst Fits (sym (first-apart x m ms)) f) ∙ first-apart x m ms

-- from none on
pub counts-from-none : (ms : List Message) → length ms < 2 ^ 64 → counts_more no_counts ms ≡ counts_in ms
counts-from-none ms l = counts-exact ms no_counts (record {
  views_fit = omega (arith, kind-few 1 ms);
  votes_fit = omega (arith, kind-few 2 ms);
  vcs_fit = omega (arith, kind-few 3 ms);
  qcs_fit = omega (arith, kind-few 4 ms);
}) ∙ λ i. counts_of (zero-add (of_kind 1 ms) i) (zero-add (of_kind 2 ms) i) (zero-add (of_kind 3 ms) i) (zero-add (of_kind 4 ms) i)
