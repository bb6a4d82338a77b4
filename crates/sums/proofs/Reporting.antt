-- What a report rests on: the kinds of held messages. Assumes nothing.
use Rattle.std.proofs.Common.{◌≡◌, ℕ, ◌+◌, ◌^◌, ◌<◌, ◌≤◌, Bool, true, false, eqb, List, sym, refl, ap, ◌∙◌, arith, eqb→eq, None, Option, Some, Ok, Err}
use Rattle.base.specs.Count.{bit, count, count-on, count-le}
use Rattle.base.specs.Tests.{T_false}
use Rattle.types.specs.declared.Message.{Message}
use Rattle.types.specs.declared.Message.TheVariants.{View, Vote, Vc, Qc}
use Rattle.types.specs.declared.Form.TheVariants.{Packed}
use Rattle.types.specs.declared.Counts.{Counts}
use Rattle.types.specs.Traffic.{wrapped, count_one, no_counts}
use Rattle.types.specs.Messages.{kind_of, kind_least, kind_most}
use Rattle.model.specs.State.{State, Held, held_at, capacity}
use Rattle.model.specs.Checks.{unsound, kind_outside}
use Rattle.model.specs.Traffic.{held_counts, totals}
use Rattle.buffers.specs.Kinds.{stored}
use Rattle.buffers.specs.KindLaws.{kind-inside, stored-holds, stored-unknown}
use Rattle.liveness.proofs.Answers.{no-yes}
use Rattle.sums.specs.Held.{of_kind, counts_held}

-- ---- one message more

pub unknown : (x : Option Message) → ((m : Message) → x ≡ Some m → ⊥) → x ≡ None
unknown (Some m) h = absurd (h m refl)
unknown None h = refl

pub kind-held : (ws : List ℕ) (i : ℕ) (m : Message) (k : ℕ) → stored Packed ws i ≡ Some m → eqb (kind_of m) k ≡ eqb (held_at Packed ws i).kind k
kind-held ws i m k e = ap (λ (h : Held). eqb h.kind k) (sym (stored-holds Packed ws i m e))

-- words that are no message are of none of the kinds
pub kind-none : (ws : List ℕ) (i k : ℕ) → i < capacity Packed ws → kind_least ≤ k → k ≤ kind_most → stored Packed ws i ≡ None
    → false ≡ eqb (held_at Packed ws i).kind k
kind-none ws i k l a b e =
    sym (T_false (eqb (held_at Packed ws i).kind k)
    (λ t. no-yes (sym (stored-unknown Packed ws i l e) ∙ ap kind_outside (eqb→eq (held_at Packed ws i).kind k t) ∙ kind-inside k (a, b))))

pub held-none : (ws : List ℕ) → no_counts ≡ counts_held ws 0
unfolding count
held-none ws = refl

module _ (ws : List ℕ) (i : ℕ) where
  -- how many are of a kind, by whether this one is
  counted : (k : ℕ) (b : Bool) → of_kind ws k i ≡ b → count (i + 1) (of_kind ws k) ≡ count i (of_kind ws k) + bit b
  counted k b e = count-on i (of_kind ws k) ∙ ap (λ (x : Bool). count i (of_kind ws k) + bit x) e

  module _ (low : i + 1 < 2 ^ 64) where
    more : (k : ℕ) → of_kind ws k i ≡ true → wrapped (count i (of_kind ws k)) 1 ≡ count (i + 1) (of_kind ws k)
    more k e = omega (arith, counted k true e, count-le i (of_kind ws k))

    same : (k : ℕ) → of_kind ws k i ≡ false → count i (of_kind ws k) ≡ count (i + 1) (of_kind ws k)
    same k e = omega (arith, counted k false e)

    pub held-more : (m : Message) → stored Packed ws i ≡ Some m → count_one (counts_held ws i) m ≡ counts_held ws (i + 1)
    held-more m e = go m (λ k. sym (kind-held ws i m k e))
      where
        go : (m : Message) → ((k : ℕ) → of_kind ws k i ≡ eqb (kind_of m) k) → count_one (counts_held ws i) m ≡ counts_held ws (i + 1)
        go (View w p) h = rw (more 1 (h 1), same 2 (h 2), same 3 (h 3), same 4 (h 4))
        go (Vote w p) h = rw (same 1 (h 1), more 2 (h 2), same 3 (h 3), same 4 (h 4))
        go (Vc w p) h = rw (same 1 (h 1), same 2 (h 2), more 3 (h 3), same 4 (h 4))
        go (Qc w p) h = rw (same 1 (h 1), same 2 (h 2), same 3 (h 3), more 4 (h 4))

    pub held-same : i < capacity Packed ws → stored Packed ws i ≡ None → counts_held ws i ≡ counts_held ws (i + 1)
    held-same l e = rw (same 1 (none 1 (omega arith) (omega arith)), same 2 (none 2 (omega arith) (omega arith)), same 3 (none 3 (omega arith) (omega arith)), same 4 (none 4 (omega arith) (omega arith)))
      where
        none : (k : ℕ) → kind_least ≤ k → k ≤ kind_most → of_kind ws k i ≡ false
        none k a b = sym (kind-none ws i k l a b e)

-- ---- the report

pub totals-refused : (s : State) → unsound s ≡ true → Err 9 ≡ totals s
unfolding totals
totals-refused s e = rw e

pub totals-told : (s : State) (held : Counts) → unsound s ≡ false → held ≡ held_counts s → Ok (record { traffic = s.run.traffic; held = held }) ≡ totals s
unfolding totals
totals-told s held e h = rw (e, h)
