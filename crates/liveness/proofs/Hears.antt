-- A leader that hears a signature does so as in the protocol. Assumes nothing.
use mathlib.Core.Path.{◌≡◌, refl, sym, ap, ◌∙◌, subst}
use mathlib.Core.Bool.{Bool, true, false, not, ◌&&◌, ◌||◌, cond}
use mathlib.Core.Logic.{◌⊎◌, inl, inr, ⊎_elim}
use mathlib.Core.List.{List, [], ◌++◌}
use Prim.Native.Nat.{ℕ, ◌≤◌, ◌<◌}
use native.Mathlib.Omega.{arith}
use lib.Dec.{T, eqb, leb, eqb→eq, leb→le, le→leb, T_not, not_T}
use lib.ListN.{length}
use Rattle.base.specs.Members.{elem-left, elem-right, elem-cases}
use Rattle.base.specs.Tests.{passes?, T-left, T-right, T_and, or_left, or_right, or_cases, eq→eqb, by_cond}
use Rattle.base.specs.Count.{count, count-ext}
use Rattle.base.specs.Sets.{member, insert, size}
use Rattle.base.specs.SetLaws.{size-count, insert-below}
use Rattle.protocol.specs.Params as proto
use Rattle.protocol.specs.Params.{Params}
use Rattle.protocol.specs.State.{Processors, Tally, Enough, Allowed}
use Rattle.protocol.specs.Moves.{Hear}
use Rattle.types.specs.declared.Plan.{Plan}
use Rattle.types.specs.declared.Message.{Message}
use Rattle.types.specs.declared.Run.{Run}
use Rattle.types.specs.Quantities.{lead}
use Rattle.model.specs.State.{view_of, is_correct, entered_word, heard_word, marks_word, mark_bit, slot, word, added}
use Rattle.model.specs.Moves.{to_correct, needed, forms, ripe, certificate, to_each}
use Rattle.liveness.proofs.TallyLaws.{heard-low, length-added, length-heard, added-same, added-other, added-member, added-below}
use Rattle.liveness.proofs.Flight.{Sent, In, stamped, sent_as}
use Rattle.liveness.proofs.Sending.{signature, signature_is, certificate-is, apart, meant, certificate-meant, in-stamped, stamped-in, elem-correct, correct-elem, each-gets, each-got}
use Rattle.liveness.proofs.Judging.{or-none}
use Rattle.liveness.proofs.Link.{Planned, params, correct_below, lead_is, flight, Books}

-- a stage is told by its word and by its mark
stage-of-word : (d q : Bool) → T (eqb (heard_word d) (heard_word q)) → d ≡ q
stage-of-word false false t = refl
stage-of-word false true t = absurd t
stage-of-word true false t = absurd t
stage-of-word true true t = refl

stage-of-mark : (d q : Bool) → T (eqb (mark_bit d) (mark_bit q)) → d ≡ q
stage-of-mark false false t = refl
stage-of-mark false true t = absurd t
stage-of-mark true false t = absurd t
stage-of-mark true true t = refl

pub needed-enough : (plan : Plan) (faulty : ℕ) (ok : Planned plan faulty) (q : Bool) (x : ℕ) → needed q plan ≤ x → Enough (params plan faulty ok) q x
needed-enough plan faulty ok false x l = omega arith
needed-enough plan faulty ok true x l = omega arith

enough-needed : (plan : Plan) (faulty : ℕ) (ok : Planned plan faulty) (q : Bool) (x : ℕ) → Enough (params plan faulty ok) q x → needed q plan ≤ x
enough-needed plan faulty ok false x l = omega arith
enough-needed plan faulty ok true x l = omega arith

-- messages of a certificate that may have been formed
pub in-chosen : (m : Message) (s now : ℕ) (b : Bool) (ms : List Message) → In m s (stamped now (cond b ms [])) → T b × In m s (stamped now ms)
in-chosen m s now true ms i = (tt, i)
in-chosen m s now false ms i = absurd i

pub chosen-in : (m : Message) (s now : ℕ) (b : Bool) (ms : List Message) → T b → In m s (stamped now ms) → In m s (stamped now (cond b ms []))
chosen-in m s now true ms t i = i
chosen-in m s now false ms t i = absurd t

module _ (q : Bool) (r : Run) (t : List ℕ) (ok : Planned r.plan r.faulty) {P : Processors} {L : Tally}
    (books : Books r.plan r.clocks r.views t P L)
    (w p : ℕ) (w-low : w < r.plan.views) (p-low : p < r.plan.n) where
  abbrev π : Params
  π = params r.plan r.faulty ok

  abbrev signers : ℕ
  signers = insert (word t w (heard_word q)) p

  abbrev pub formed_here : Bool
  formed_here = forms q r t w p

  abbrev with_signer : List ℕ
  with_signer = added t w (heard_word q) p

  abbrev pub tally_to : List ℕ
  tally_to = cond formed_here (added with_signer w marks_word (mark_bit q)) with_signer

  -- the leaders' tally afterwards
  abbrev pub hearers : Tally
  hearers = record {
    heard = λ d u x. L.heard d u x || (eqb u w && (eqb (heard_word d) (heard_word q) && eqb x p));
    formed = λ d u. L.formed d u || (formed_here && (eqb u w && eqb (mark_bit d) (mark_bit q)));
  }

  row_long : slot w marks_word < length t
  row_long = omega (arith, books.rows)

  word-long : slot w (heard_word q) < length t
  word-long = omega (arith, books.rows, heard-low q)

  pub length_to : length tally_to ≡ length t
  length_to = length-heard t q w p formed_here

  -- the words but the marks are those with the signer
  word-to : (u j : ℕ) → j < marks_word → word tally_to u j ≡ word with_signer u j
  word-to u j l = by_cond (λ (x : List ℕ). word x u j ≡ word with_signer u j) formed_here (added with_signer w marks_word (mark_bit q)) with_signer
      (λ f. added-other with_signer w marks_word (mark_bit q) u j (omega arith)) (λ f. refl)

  marks-to : (d : Bool) (u : ℕ) → member (word tally_to u marks_word) (mark_bit d) ≡
      (member (word t u marks_word) (mark_bit d) || (formed_here && (eqb u w && eqb (mark_bit d) (mark_bit q))))
  marks-to d u = go formed_here
    where
      same : word with_signer u marks_word ≡ word t u marks_word
      same = added-other t w (heard_word q) p u marks_word (omega (arith, heard-low q))

      go : (f : Bool) → member (word (cond f (added with_signer w marks_word (mark_bit q)) with_signer) u marks_word) (mark_bit d)
          ≡ (member (word t u marks_word) (mark_bit d) || (f && (eqb u w && eqb (mark_bit d) (mark_bit q))))
      go true =
          added-member with_signer w marks_word (mark_bit q) (omega arith) (rw (length-added t w (heard_word q) p) row_long) u marks_word (mark_bit d) (omega arith)
          ∙ ap (λ (x : ℕ). member x (mark_bit d) || (eqb u w && eqb (mark_bit d) (mark_bit q))) same
      go false = ap (λ (x : ℕ). member x (mark_bit d)) same ∙ sym (or-none (member (word t u marks_word) (mark_bit d)) false (λ x. x))

  pub hear-books : Books r.plan r.clocks r.views tally_to P hearers
  hear-books = record {
    clocks_long = books.clocks_long;
    views_long = books.views_long;
    rows = rw length_to books.rows;
    clock = books.clock;
    view = books.view;
    entered = λ u x l. books.entered u x l ∙ ap (λ (y : ℕ). member y x)
        (sym (word-to u entered_word (omega arith) ∙ added-other t w (heard_word q) p u entered_word (omega (arith, heard-low q))));
    heard = λ d u x l.
        ap (λ (b : Bool). b || (eqb u w && (eqb (heard_word d) (heard_word q) && eqb x p))) (books.heard d u x l)
        ∙ sym (ap (λ (y : ℕ). member y x) (word-to u (heard_word d) (heard-low d).1)
        ∙ added-member t w (heard_word q) p (omega (arith, heard-low q)) word-long u (heard_word d) x (omega (arith, heard-low d)));
    formed = λ d u l. ap (λ (b : Bool). b || (formed_here && (eqb u w && eqb (mark_bit d) (mark_bit q)))) (books.formed d u l) ∙ sym (marks-to d u);
    sets_below = λ u j l h. rw (word-to u j h) (added-below t w (heard_word q) p (omega (arith, heard-low q)) word-long r.plan.n u j (omega arith)
        p-low (books.sets_below u j l h));
  }

  -- the signers are counted as they are in the protocol
  counted : count r.plan.n (hearers.heard q w) ≡ size signers
  counted =
      let e : word tally_to w (heard_word q) ≡ signers = word-to w (heard_word q) (heard-low q).1 ∙ added-same t w (heard_word q) p word-long in
      count-ext r.plan.n (hearers.heard q w) (member signers) (λ x l. hear-books.heard q w x w-low ∙ ap (λ (y : ℕ). member y x) e)
      ∙ sym (size-count r.plan.n signers (insert-below r.plan.n (word t w (heard_word q)) p p-low
      (books.sets_below w (heard_word q) w-low (heard-low q).1)))

  forms-many : T formed_here → needed q r.plan ≤ size signers
  unfolding ripe
  forms-many f =
      leb→le _ _ (T-left (leb (needed q r.plan) (size signers)) _
      (T-left (leb (needed q r.plan) (size signers) && not (member (word t w marks_word) (mark_bit q))) _ f))

  forms-first : T formed_here → T (L.formed q w) → ⊥
  unfolding ripe
  forms-first f x = T_not (member (word t w marks_word) (mark_bit q))
      (T-right (leb (needed q r.plan) (size signers)) _ (T-left
      (leb (needed q r.plan) (size signers) && not (member (word t w marks_word) (mark_bit q))) _ f))
      (rw (books.formed q w w-low) at x)

  forms-if : needed q r.plan ≤ size signers → (T (L.formed q w) → ⊥) → T (q || leb (view_of r (lead r.plan w)) w) → T formed_here
  unfolding ripe
  forms-if m no' v =
      T_and (leb (needed q r.plan) (size signers) && not (member (word t w marks_word) (mark_bit q))) _
      (T_and (leb (needed q r.plan) (size signers)) _ (le→leb _ _ m)
      (not_T (member (word t w marks_word) (mark_bit q)) (λ x. no' (rw (books.formed q w w-low) x))))
      v

  allowed-here : Allowed π P q w → T (q || leb (view_of r (lead r.plan w)) w)
  allowed-here = go q
    where
      go : (d : Bool) → Allowed π P d w → T (d || leb (view_of r (lead r.plan w)) w)
      go true a = tt
      go false a = let l : view_of r (lead r.plan w) ≤ w = rw (books.view (proto.lead π w), lead_is r.plan r.faulty ok w) at a in le→leb _ _ l

  mark_made : T formed_here → T (hearers.formed q w)
  mark_made f = or_right (L.formed q w) (formed_here && (eqb w w && eqb (mark_bit q) (mark_bit q)))
      (T_and formed_here _ f (T_and (eqb w w) _ (eq→eqb w w refl) (eq→eqb (mark_bit q) (mark_bit q) refl)))

  -- ys is what is left of the messages in flight, xs, without the signature
  module _ (now : ℕ) (xs ys : List Sent) (kept : (m : Message) (s : ℕ) → In m s ys → In m s xs)
      (gone : (m : Message) (s : ℕ) → In m s xs → In m s ys ⊎ (m ≡ signature q w p))
      (from : (T (is_correct r p) → ⊥) ⊎ ((s : ℕ) × In (signature q w p) s xs)) (led : T (is_correct r (lead r.plan w))) where
    abbrev all_of : List Message
    all_of = to_correct r.plan r.faulty (to_each q w r.plan.n)

    abbrev pub sent_of : List Message
    sent_of = cond formed_here all_of []

    -- what is sent is the certificate, to correct processors
    sent_is : (m : Message) (s : ℕ) → In m s (stamped now sent_of) → T formed_here × (s ≡ now) × ((x : ℕ) × (m ≡ certificate q w x) × T (is_correct r x))
    sent_is m s i =
        let a = in-chosen m s now formed_here all_of i in
        let b = in-stamped m s now all_of a.1 in
        let c = elem-correct r m (to_each q w r.plan.n) b.1 in
        let e = each-got q w r.plan.n m c.0 in
        (a.0, b.0, (e.0, e.2, subst (λ (x : ℕ). T (is_correct r x)) (ap (meant r.plan) e.2 ∙ certificate-meant r.plan q w e.0) c.1))

    pub heard : Hear π P L hearers (flight xs) (flight (ys ++ stamped now sent_of)) now q w p
    unfolding proto.lead proto.row
    heard = record {
      led = led;
      from = from;
      heard_old = λ d u x y. or_left (L.heard d u x) (eqb u w && (eqb (heard_word d) (heard_word q) && eqb x p)) y;
      heard_new = λ d u x y. ⊎_elim (λ z. inl z)
          (λ z. let z' = T-right (eqb u w) _ z in inr (
            stage-of-word d q (T-left (eqb (heard_word d) (heard_word q)) _ z'),
            eqb→eq u w
                (T-left (eqb u w) _ z),
            eqb→eq x p (T-right (eqb (heard_word d) (heard_word q)) _ z'),
          ))
          (or_cases (L.heard d u x) (eqb u w && (eqb (heard_word d) (heard_word q) && eqb x p)) y);
      heard_now = or_right (L.heard q w p) (eqb w w && (eqb (heard_word q) (heard_word q) && eqb p p))
          (T_and (eqb w w) _ (eq→eqb w w refl) (T_and (eqb (heard_word q) (heard_word q)) _ (eq→eqb (heard_word q) (heard_word q) refl) (eq→eqb p p refl)));
      formed_old = λ d u y. or_left (L.formed d u) (formed_here && (eqb u w && eqb (mark_bit d) (mark_bit q))) y;
      formed_new = λ d u y. ⊎_elim (λ z. inl z)
          (λ z. let z' = T-right formed_here _ z in
          inr (
            stage-of-mark d q (T-right (eqb u w) _ z'),
            eqb→eq u w (T-left (eqb u w) _ z'),
            needed-enough r.plan r.faulty ok q _
                (rw counted (forms-many (T-left formed_here _ z))),
          ))
          (or_cases (L.formed d u) (formed_here && (eqb u w && eqb (mark_bit d) (mark_bit q))) y);
      formed_now = λ e a. ⊎_elim (λ z. or_left (L.formed q w) (formed_here && (eqb w w && eqb (mark_bit q) (mark_bit q))) z)
          (λ z. mark_made (forms-if (rw counted at (enough-needed r.plan r.faulty ok q _ e)) z (allowed-here a))) (passes? (L.formed q w));
      signature_old = λ d u x s y. ⊎_elim (λ z. inl (elem-left (sent_as (signature d u x) s) ys (stamped now sent_of) z)) (λ z. inr (signature_is d q u w x p z))
          (gone (signature d u x) s y);
      signature_new = λ d u x s y. ⊎_elim (λ z. kept (signature d u x) s z)
          (λ z. let a = sent_is (signature d u x) s z in absurd (apart d q u w x a.2.0 a.2.1))
          (elem-cases (sent_as (signature d u x) s) ys (stamped now sent_of) y);
      certificate_old = λ d u x s y. ⊎_elim (λ z. elem-left (sent_as (certificate d u x) s) ys (stamped now sent_of) z) (λ z. absurd (apart q d w u p x (sym z)))
          (gone (certificate d u x) s y);
      certificate_new = λ d u x s y. ⊎_elim (λ z. inl (kept (certificate d u x) s z))
          (λ z. let a = sent_is (certificate d u x) s z in let e = certificate-is d q u w x a.2.0 a.2.1 in
          inr (e.0, e.1, a.1, rw e.2 a.2.2, forms-first a.0, mark_made a.0))
          (elem-cases (sent_as (certificate d u x) s) ys (stamped now sent_of) y);
      sent = λ no' f x c. elem-right (sent_as (certificate q w x) now) ys (stamped now sent_of) (chosen-in (certificate q w x) now now formed_here all_of
          (⊎_elim (λ z. absurd (no' z)) (λ z. T-left formed_here _ z) (or_cases (L.formed q w) (formed_here && (eqb w w && eqb (mark_bit q) (mark_bit q))) f))
          (stamped-in (certificate q w x) now all_of (correct-elem r (certificate q w x) (to_each q w r.plan.n)
          (each-gets q w r.plan.n x (correct_below r.plan r.faulty x c))
          (subst (λ (y : ℕ). T (is_correct r y)) (sym (certificate-meant r.plan q w x)) c))));
    }
