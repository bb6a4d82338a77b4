-- What one event posts, as the sums count it: certificates are of one kind, and who enters an initial view sends a view message and a vote. Assumes
-- nothing.
use mathlib.Core.Path.{◌≡◌, refl, sym, ap, subst, ◌∙◌}
use mathlib.Core.Bool.{Bool, true, false, ◌&&◌, cond}
use mathlib.Core.List.{List, [], ◌∷◌, ◌++◌}
use Prim.Native.Nat.{ℕ, zero, suc, ◌+◌, ◌*◌, ◌/◌, ◌%◌}
use native.Mathlib.Omega.{arith}
use lib.Dec.{eqb}
use lib.ListN.{length, replicate, length-append}
use Rattle.base.specs.Tests.{T-right, T_true, by_cond}
use Rattle.types.specs.declared.Plan.{Plan}
use Rattle.types.specs.declared.Message.{Message}
use Rattle.types.specs.declared.Message.TheVariants.{View, Vote}
use Rattle.types.specs.declared.Counts.{Counts}
use Rattle.types.specs.declared.Traffic.{Traffic}
use Rattle.types.specs.declared.Run.{Run}
use Rattle.types.specs.declared.Sends.{Sends}
use Rattle.types.specs.declared.Sends.TheVariants.{Nothing, Vote as VoteFor, ViewAndVote}
use Rattle.types.specs.Quantities.{initial, lead, correct}
use Rattle.types.specs.Messages.{kind_of, view_in, processor_in, addressee}
use Rattle.types.specs.Traffic.{count_one, counts_more, traffic_of, traffic_sent}
use Rattle.types.specs.TrafficLaws.{counts-more-append}
use Rattle.model.specs.State.{clock_of, is_correct}
use Rattle.model.specs.Moves.{Change, changed, Entry, stay, into, by_clock, to_correct, entering, taking, entries, certificate, to_each, formed_messages, arrival}
use Rattle.simulator.specs.Inner.{pairs, sent_by}

-- ---- messages that count alike

abbrev CountsAs : Message → List Message → Type 0
CountsAs m [] = Unit {0}
CountsAs m (y ∷ ys) = ((x : Counts) → count_one x y ≡ count_one x m) × CountsAs m ys

as-counted : (m : Message) (ms : List Message) → CountsAs m ms → (x : Counts) → counts_more x ms ≡ counts_more x (replicate (length ms) m)
unfolding counts_more
as-counted m [] h x = refl
as-counted m (y ∷ ys) h x = as-counted m ys h.1 (count_one x y) ∙ ap (λ (z : Counts). counts_more z (replicate (length ys) m)) (h.0 x)

as-append : (m : Message) (a b : List Message) → CountsAs m a → CountsAs m b → CountsAs m (a ++ b)
as-append m [] b h k = k
as-append m (y ∷ a) b h k = (h.0, as-append m a b h.1 k)

as-cut : (m : Message) (plan : Plan) (faulty : ℕ) (ms : List Message) → CountsAs m ms → CountsAs m (to_correct plan faulty ms)
unfolding to_correct
as-cut m plan faulty [] h = tt
as-cut m plan faulty (y ∷ ys) h =
    by_cond (CountsAs m) (correct plan faulty (addressee plan (kind_of y) (view_in y) (processor_in y))) (y ∷ to_correct plan faulty ys) (to_correct plan faulty ys)
    (λ _. (h.0, as-cut m plan faulty ys h.1)) (λ _. as-cut m plan faulty ys h.1)

as-each : (stage : Bool) (w k : ℕ) → CountsAs (certificate stage w 0) (to_each stage w k)
unfolding to_each
as-each stage w zero = tt
as-each stage w (suc k) = as-append (certificate stage w 0) (to_each stage w k) (certificate stage w k ∷ []) (as-each stage w k) (λ x. alike stage x, tt)
  where
    alike : (b : Bool) (x : Counts) → count_one x (certificate b w k) ≡ count_one x (certificate b w 0)
    alike true x = refl
    alike false x = refl

-- the copies of a certificate that is formed, or none
pub formed-counted : (plan : Plan) (faulty : ℕ) (stage : Bool) (w : ℕ) (formed : Bool) (k : ℕ) → k ≡ length (formed_messages plan faulty stage w formed)
    → (x : Traffic) → traffic_sent x (replicate k (certificate stage w 0)) ≡ traffic_sent x (formed_messages plan faulty stage w formed)
formed-counted plan faulty stage w formed k e x =
    ap (λ (c : Counts). traffic_of c x.delivered x.waits) (ap (λ (j : ℕ). counts_more x.sent (replicate j (certificate stage w 0))) e ∙ sym (go formed))
  where
    go : (b : Bool) → counts_more x.sent (formed_messages plan faulty stage w b)
        ≡ counts_more x.sent (replicate (length (formed_messages plan faulty stage w b)) (certificate stage w 0))
    go true = as-counted (certificate stage w 0) _ (as-cut (certificate stage w 0) plan faulty (to_each stage w plan.n) (as-each stage w plan.n)) x.sent
    go false = refl

-- ---- pairs of a view message and a vote

-- a vote counts the same before view messages and after them
vote-first : (k : ℕ) (x : Counts) → count_one (counts_more x (replicate k (View 0 0))) (Vote 0 0) ≡ counts_more (count_one x (Vote 0 0)) (replicate k (View 0 0))
unfolding counts_more
vote-first zero x = refl
vote-first (suc k) x = vote-first k (count_one x (View 0 0))

pub pairs-counted : (k : ℕ) (x : Counts) → counts_more (counts_more x (replicate k (View 0 0))) (replicate k (Vote 0 0)) ≡ counts_more x (pairs k)
unfolding counts_more
pairs-counted zero x = refl
pairs-counted (suc k) x = ap (λ (y : Counts). counts_more y (replicate k (Vote 0 0))) (vote-first k (count_one x (View 0 0)))
    ∙ pairs-counted k (count_one (count_one x (View 0 0)) (Vote 0 0))

pairs-more : (i j : ℕ) (x : Counts) → counts_more (counts_more x (pairs i)) (pairs j) ≡ counts_more x (pairs (i + j))
unfolding counts_more
pairs-more zero j x = let e : j ≡ 0 + j = omega arith in ap (λ (k : ℕ). counts_more x (pairs k)) e
pairs-more (suc i) j x =
    let e : suc (i + j) ≡ suc i + j = omega arith in
    pairs-more i j (count_one (count_one x (View 0 0)) (Vote 0 0)) ∙ ap (λ (k : ℕ). counts_more x (pairs k)) e

-- that messages count as so many pairs
pub record Paired (ms : List Message) : Type 0 where
  pub half : ℕ
  pub whole : length ms ≡ 2 * half
  pub counted : (x : Counts) → counts_more x ms ≡ counts_more x (pairs half)

pub paired-counted : (ms : List Message) (k : ℕ) → Paired ms → k ≡ length ms → (x : Traffic) → traffic_sent x (pairs (k / 2)) ≡ traffic_sent x ms
paired-counted ms k h e x =
    let f : k / 2 ≡ h.half = omega (arith, e, h.whole) in
    ap (λ (c : Counts). traffic_of c x.delivered x.waits) (ap (λ (j : ℕ). counts_more x.sent (pairs j)) f ∙ sym (h.counted x.sent))

paired_none : Paired []
paired_none = record { half = 0; whole = refl; counted = λ x. refl }

paired-append : (a b : List Message) → Paired a → Paired b → Paired (a ++ b)
paired-append a b h k = record {
  half = h.half + k.half;
  whole = length-append a b ∙ omega (arith, h.whole, k.whole);
  counted = λ x. counts-more-append x a b ∙ ap (λ (y : Counts). counts_more y b) (h.counted x) ∙ k.counted (counts_more x (pairs h.half))
      ∙ pairs-more h.half k.half x;
}

-- the messages of an entry into an initial view: their leader is correct, or they are not posted
paired-entry : (plan : Plan) (faulty p w : ℕ) → Paired (to_correct plan faulty (View w p ∷ Vote w p ∷ []))
unfolding to_correct counts_more
paired-entry plan faulty p w = go (correct plan faulty (lead plan w))
  where
    go : (b : Bool) → Paired (cond b (View w p ∷ cond b (Vote w p ∷ []) []) (cond b (Vote w p ∷ []) []))
    go true = record { half = 1; whole = refl; counted = λ x. refl }
    go false = paired_none

-- that an entry, if it is one, goes into an initial view
abbrev pub Initially : Plan → Entry → Type 0
Initially plan stay = Unit {0}
Initially plan (into w) = initial plan w ≡ true

pub initially-arrives : (r : Run) (p : ℕ) → Initially r.plan (arrival r p)
initially-arrives r p = by_cond (Initially plan) (is_correct r p) (by_clock plan clock) stay
    (λ _. by_cond (Initially plan) (comes && initial plan (clock / plan.gamma)) (into (clock / plan.gamma)) stay
    (λ t. T_true _ (T-right comes (initial plan (clock / plan.gamma)) t)) (λ _. tt)) (λ _. tt)
  where
    plan : Plan
    plan = r.plan

    clock : ℕ
    clock = clock_of r p

    comes : Bool
    comes = eqb (clock % plan.gamma) 0

paired-taking : (r : Run) (t : List ℕ) (p : ℕ) (e : Entry) → Initially r.plan e → Paired (taking r t p e).sent
unfolding taking entering
paired-taking r t p stay h = paired_none
paired-taking r t p (into u) h =
    subst (λ (b : Bool). Paired (to_correct r.plan r.faulty (cond b (View u p ∷ Vote u p ∷ []) (Vote u p ∷ [])))) (sym h)
    (paired-entry r.plan r.faulty p u)

pub paired-entries : (e : ℕ → Entry) (r : Run) (t : List ℕ) (k : ℕ) → ((p : ℕ) → Initially r.plan (e p)) → Paired (entries e r t k).sent
unfolding entries
paired-entries e r t zero h = paired_none
paired-entries e r t (suc k) h =
    let c : Change = entries e r t k in
    paired-append c.sent _ (paired-entries e r t k h) (paired-taking (changed r c) c.tally k (e k) (h k))

-- ---- what one processor sends

module _ (plan : Plan) (faulty p : ℕ) (sends : Sends) (w k : ℕ) (posted : k ≡ length (sent_by plan faulty p sends)) (x : Traffic) where
  abbrev Noted : List Message → Type 0
  Noted ms = traffic_sent x ms ≡ traffic_sent x (sent_by plan faulty p sends)

  pub nothing-noted : sends ≡ Nothing → x ≡ traffic_sent x (sent_by plan faulty p sends)
  unfolding counts_more to_correct
  nothing-noted e = ap (λ (y : Sends). traffic_sent x (sent_by plan faulty p y)) (sym e)

  pub vote-noted : sends ≡ VoteFor w → Noted (replicate k (Vote w p))
  vote-noted e = ap (λ (j : ℕ). traffic_sent x (replicate j (Vote w p))) (posted ∙ ap (λ (y : Sends). length (sent_by plan faulty p y)) e)
      ∙ sym (ap (λ (c : Counts). traffic_of c x.delivered x.waits) (as-counted (Vote w p) _ (as-cut (Vote w p) plan faulty (Vote w p ∷ []) (λ y. refl, tt)) x.sent))
      ∙ ap (λ (y : Sends). traffic_sent x (sent_by plan faulty p y)) (sym e)

  pub pair-noted : sends ≡ ViewAndVote w → Noted (pairs (k / 2))
  pair-noted e = paired-counted (sent_by plan faulty p (ViewAndVote w)) k (paired-entry plan faulty p w) (posted ∙ ap (λ (y : Sends). length (sent_by plan faulty p y)) e) x
      ∙ ap (λ (y : Sends). traffic_sent x (sent_by plan faulty p y)) (sym e)
