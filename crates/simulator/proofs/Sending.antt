-- What goes to correct processors, part by part. Assumes nothing.
use mathlib.Core.Path.{◌≡◌, refl, sym, ap, ◌∙◌}
use mathlib.Core.Bool.{Bool, true, false, cond}
use mathlib.Core.List.{List, [], ◌∷◌, ◌++◌}
use Prim.Native.Nat.{ℕ, zero, suc, ◌+◌, ◌-◌, ◌≤◌, ◌<◌}
use native.Mathlib.Numerals.{add-one}
use native.Mathlib.Omega.{arith}
use lib.ListN.{length, length-append}
use Rattle.base.specs.Count.{bit, count}
use Rattle.base.specs.Sets.{size}
use Rattle.types.specs.declared.Plan.{Plan}
use Rattle.types.specs.declared.Message.{Message}
use Rattle.types.specs.declared.Message.TheVariants.{View, Vote}
use Rattle.types.specs.declared.Sends.{Sends}
use Rattle.types.specs.declared.Sends.TheVariants.{Nothing, Vote as VoteFor, ViewAndVote}
use Rattle.types.specs.Quantities.{lead, initial, correct}
use Rattle.types.specs.Messages.{kind_of, view_in, processor_in, addressee}
use Rattle.model.specs.State.{added, entered_word}
use Rattle.model.specs.Moves.{to_correct, certificate, to_each, entry_messages, formed_messages}
use Rattle.model.specs.Processors.{messages_of}
use Rattle.liveness.proofs.Link.{Planned, correct_count}
use Rattle.simulator.specs.Inner.{sent_by, entered_by}

module _ (plan : Plan) (faulty : ℕ) where
  -- whether a message goes to a correct processor
  abbrev pub goes : Message → Bool
  goes m = correct plan faulty (addressee plan (kind_of m) (view_in m) (processor_in m))

  pub correct-yes : (m : Message) → goes m ≡ true → to_correct plan faulty (m ∷ []) ≡ m ∷ []
  unfolding to_correct
  correct-yes m e = rw e refl

  pub correct-no : (m : Message) → goes m ≡ false → to_correct plan faulty (m ∷ []) ≡ []
  unfolding to_correct
  correct-no m e = rw e refl

  pub correct-append : (a b : List Message) → to_correct plan faulty (a ++ b) ≡ to_correct plan faulty a ++ to_correct plan faulty b
  unfolding to_correct
  correct-append [] b = refl
  correct-append (m ∷ a) b = go (goes m) (correct-append a b)
    where
      go : (d : Bool) → to_correct plan faulty (a ++ b) ≡ to_correct plan faulty a ++ to_correct plan faulty b
          → cond d (m ∷ to_correct plan faulty (a ++ b)) (to_correct plan faulty (a ++ b))
          ≡ cond d (m ∷ to_correct plan faulty a) (to_correct plan faulty a) ++ to_correct plan faulty b
      go true e = ap (λ (l : List Message). m ∷ l) e
      go false e = e

  -- a certificate for one processor more
  pub each_more : (stage : Bool) (w k : ℕ)
      → to_correct plan faulty (to_each stage w (k + 1)) ≡ to_correct plan faulty (to_each stage w k) ++ to_correct plan faulty (certificate stage w k ∷ [])
  unfolding to_each
  each_more stage w k = rw add-one (correct-append (to_each stage w k) (certificate stage w k ∷ []))

  certificate-goes : (stage : Bool) (w k : ℕ) → goes (certificate stage w k) ≡ correct plan faulty k
  certificate-goes false w k = refl
  certificate-goes true w k = refl

  one-length : (stage : Bool) (w k : ℕ) → length (to_correct plan faulty (certificate stage w k ∷ [])) ≡ bit (correct plan faulty k)
  unfolding to_correct
  one-length stage w k = rw (certificate-goes stage w k) (go (correct plan faulty k))
    where
      go : (d : Bool) → length (cond d (certificate stage w k ∷ []) []) ≡ bit d
      go true = refl
      go false = refl

  pub each-length : (stage : Bool) (w k : ℕ) → length (to_correct plan faulty (to_each stage w k)) ≡ count k (correct plan faulty)
  unfolding to_each to_correct count
  each-length stage w zero = refl
  each-length stage w (suc k) =
      ap length (correct-append (to_each stage w k) (certificate stage w k ∷ []))
      ∙ length-append (to_correct plan faulty (to_each stage w k)) (to_correct plan faulty (certificate stage w k ∷ []))
      ∙ omega (arith, each-length stage w k, one-length stage w k)

  each-mono : (stage : Bool) (w k j : ℕ)
      → length (to_correct plan faulty (to_each stage w k)) ≤ length (to_correct plan faulty (to_each stage w (j + k)))
  each-mono stage w k zero = let e : 0 + k ≡ k = omega arith in rw e (omega arith)
  each-mono stage w k (suc j) =
      let e : suc j + k ≡ j + k + 1 = omega arith in
      rw e (omega (
        arith,
        each-mono stage w k j,
        ap length (each_more stage w (j + k)),
        length-append (to_correct plan faulty (to_each stage w (j + k))) (to_correct plan faulty (certificate stage w (j + k) ∷ [])),
      ))

  -- room for all is room for those below k and one more
  pub each-room : (stage : Bool) (w k n : ℕ) → k < n
      → length (to_correct plan faulty (to_each stage w k)) + length (to_correct plan faulty (certificate stage w k ∷ []))
      ≤ length (to_correct plan faulty (to_each stage w n))
  each-room stage w k n l =
      let j : n ≡ n - (k + 1) + (k + 1) = omega arith in
      rw j (omega (
        arith,
        each-mono stage w (k + 1) (n - (k + 1)),
        ap length (each_more stage w k),
        length-append (to_correct plan faulty (to_each stage w k)) (to_correct plan faulty (certificate stage w k ∷ [])),
      ))

  -- as many as are correct
  pub each_number : Planned plan faulty → (stage : Bool) (w : ℕ) → length (to_correct plan faulty (to_each stage w plan.n)) ≡ plan.n - size faulty
  each_number ok stage w = omega (arith, each-length stage w plan.n, correct_count plan faulty ok)

  pub formed-count : Planned plan faulty → (stage : Bool) (w : ℕ) (formed : Bool) (r : ℕ) → r ≡ cond formed (plan.n - size faulty) 0
      → (r ≡ length (formed_messages plan faulty stage w formed)) × (r ≤ 64)
  formed-count ok stage w true r e = (e ∙ sym (each_number ok stage w), omega (arith, ok.n_at_most))
  formed-count ok stage w false r e = (e, omega arith)

  -- ---- what a processor sends in one move

  pub sent-none : (p : ℕ) → sent_by plan faulty p Nothing ≡ []
  unfolding to_correct
  sent-none p = refl

  pub sent-both : (p w : ℕ) → sent_by plan faulty p (ViewAndVote w) ≡ to_correct plan faulty (View w p ∷ []) ++ to_correct plan faulty (Vote w p ∷ [])
  sent-both p w = correct-append (View w p ∷ []) (Vote w p ∷ [])

  pub share-length : (p w : ℕ) → (cond (correct plan faulty (lead plan w)) 1 0 ≡ length (sent_by plan faulty p (VoteFor w)))
      × (cond (correct plan faulty (lead plan w)) 2 0 ≡ length (sent_by plan faulty p (ViewAndVote w)))
  unfolding to_correct
  share-length p w = go (correct plan faulty (lead plan w))
    where
      go : (d : Bool) → (cond d 1 0 ≡ length (cond d (Vote w p ∷ []) []))
          × (cond d 2 0 ≡ length (cond d (View w p ∷ cond d (Vote w p ∷ []) []) (cond d (Vote w p ∷ []) [])))
      go true = (refl, refl)
      go false = (refl, refl)

  pub sent_few : (p : ℕ) (x : Sends) → length (sent_by plan faulty p x) ≤ 2
  unfolding to_correct
  sent_few p Nothing = omega arith
  sent_few p (VoteFor w) = go (correct plan faulty (lead plan w))
    where
      go : (d : Bool) → length (cond d (Vote w p ∷ []) []) ≤ 2
      go true = omega arith
      go false = omega arith
  sent_few p (ViewAndVote w) = go (correct plan faulty (lead plan w))
    where
      go : (d : Bool) → length (cond d (View w p ∷ cond d (Vote w p ∷ []) []) (cond d (Vote w p ∷ []) [])) ≤ 2
      go true = omega arith
      go false = omega arith

  pub sent-count : (p : ℕ) (x : Sends) (r : ℕ) → r ≡ length (sent_by plan faulty p x) → (r ≡ length (sent_by plan faulty p x)) × (r ≤ 64)
  sent-count p x r e = (e, omega (arith, sent_few p x))

-- the view of the first message
first_view : List Message → ℕ
first_view [] = 0
first_view (m ∷ ms) = view_in m

-- who sends what an entry of w sends has entered w; who sends nothing has entered nothing
pub entered-into : (plan : Plan) (t : List ℕ) (p w : ℕ) (x : Sends) → messages_of p x ≡ entry_messages plan p w → entered_by t p x ≡ added t w entered_word p
unfolding first_view
entered-into plan t p w x e = go (initial plan w) x e
  where
    go : (i : Bool) (y : Sends) → messages_of p y ≡ cond i (View w p ∷ Vote w p ∷ []) (Vote w p ∷ []) → entered_by t p y ≡ added t w entered_word p
    go true Nothing q = absurd (omega (arith, ap length q))
    go false Nothing q = absurd (omega (arith, ap length q))
    go true (VoteFor v) q = absurd (omega (arith, ap length q))
    go false (VoteFor v) q = ap (λ (u : ℕ). added t u entered_word p) (ap first_view q)
    go true (ViewAndVote v) q = ap (λ (u : ℕ). added t u entered_word p) (ap first_view q)
    go false (ViewAndVote v) q = absurd (omega (arith, ap length q))

pub entered-none : (t : List ℕ) (p : ℕ) (x : Sends) → messages_of p x ≡ [] → entered_by t p x ≡ t
entered-none t p Nothing e = refl
entered-none t p (VoteFor v) e = absurd (omega (arith, ap length e))
entered-none t p (ViewAndVote v) e = absurd (omega (arith, ap length e))
