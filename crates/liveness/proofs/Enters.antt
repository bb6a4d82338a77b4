-- A processor that enters a view does so as in the protocol. Assumes nothing.
use mathlib.Core.Path.{◌≡◌, refl, sym, ap, ◌∙◌, subst}
use mathlib.Core.Bool.{Bool, ◌&&◌, ◌||◌}
use mathlib.Core.Logic.{◌⊎◌, inl, inr, ⊎_elim}
use mathlib.Core.List.{List, ◌++◌}
use Prim.Native.Nat.{ℕ, ◌≤◌, ◌<◌, max}
use native.Mathlib.Omega.{arith}
use lib.Dec.{T, eqb, ltb, eqb→eq, ltb→lt, lt→ltb}
use lib.ListN.{length, get_or, set, length-set}
use lib.Seq.{get_or-set_same, get_or-set_other}
use Rattle.base.specs.Members.{elem-left, elem-right, elem-cases}
use Rattle.base.specs.Tests.{T-left, T-right, T_and, or_left, or_right, or_cases, le?, eq→eqb, by_cond}
use Rattle.base.specs.Sets.{member}
use Rattle.protocol.specs.Params as proto
use Rattle.protocol.specs.Params.{Params}
use Rattle.protocol.specs.State.{Processors, Tally, onward}
use Rattle.protocol.specs.Moves.{Reason, Enter}
use Rattle.types.specs.declared.Plan.{Plan}
use Rattle.types.specs.declared.Message.{Message}
use Rattle.types.specs.declared.Run.{Run}
use Rattle.types.specs.Quantities.{lead, clock_time}
use Rattle.model.specs.State.{clock_of, is_correct, entered_word, heard_word, marks_word, mark_bit, slot, added}
use Rattle.model.specs.Moves.{to_correct, entry_clock, entry_messages, certificate}
use Rattle.liveness.proofs.TallyLaws.{heard-low, length-added, added-other, added-member, added-below}
use Rattle.liveness.proofs.Flight.{Sent, In, stamped, sent_as}
use Rattle.liveness.proofs.Sending.{signature, signature_is, certificate-is, apart, meant, signature-meant, in-stamped, stamped-in, elem-correct, correct-elem, At, entry-sends, entry-sent}
use Rattle.liveness.proofs.Link.{Planned, params, correct_below, to-starts, from-starts, flight, Books}

pub entry-max : (plan : Plan) (clock w : ℕ) → entry_clock plan clock w ≡ max clock (clock_time plan w)
entry-max plan clock w = by_cond (λ (x : ℕ). x ≡ max clock (clock_time plan w)) (ltb clock (clock_time plan w)) (clock_time plan w) clock
    (λ t. let l : clock < clock_time plan w = ltb→lt _ _ t in omega arith)
    (λ t. ⊎_elim (λ (l : clock_time plan w ≤ clock). omega arith) (λ (l : clock < clock_time plan w). absurd (t (lt→ltb _ _ l))) (le? (clock_time plan w) clock))

module _ (r : Run) (t : List ℕ) (ok : Planned r.plan r.faulty) {P : Processors} {L : Tally} (books : Books r.plan r.clocks r.views t P L)
    (p w : ℕ) (c : T (is_correct r p)) (w-low : w < r.plan.views) where
  abbrev π : Params
  π = params r.plan r.faulty ok

  abbrev pub clocks_to : List ℕ
  clocks_to = set r.clocks p (entry_clock r.plan (clock_of r p) w)

  abbrev pub views_to : List ℕ
  views_to = set r.views p w

  -- the processors afterwards
  abbrev pub entrants : Processors
  entrants = record {
    clock = λ q. get_or clocks_to q 0;
    view = λ q. get_or views_to q 0;
    entered = λ u q. P.entered u q || (eqb u w && eqb q p);
  }

  p-low : p < r.plan.n
  p-low = correct_below r.plan r.faulty p c

  row_long : slot w entered_word < length t
  row_long = omega (arith, books.rows)

  pub enter-books : Books r.plan clocks_to views_to (added t w entered_word p) entrants L
  enter-books = record {
    clocks_long = rw (length-set r.clocks p (entry_clock r.plan (clock_of r p) w)) books.clocks_long;
    views_long = rw (length-set r.views p w) books.views_long;
    rows = rw (length-added t w entered_word p) books.rows;
    clock = λ q. refl;
    view = λ q. refl;
    entered = λ u q l. ap (λ (b : Bool). b || (eqb u w && eqb q p)) (books.entered u q l)
        ∙ sym (added-member t w entered_word p (omega arith) row_long u entered_word q (omega arith));
    heard = λ d u q l. books.heard d u q l ∙ ap (λ (x : ℕ). member x q) (sym (added-other t w entered_word p u (heard_word d) (omega (arith, heard-low d))));
    formed = λ d u l. books.formed d u l ∙ ap (λ (x : ℕ). member x (mark_bit d)) (sym (added-other t w entered_word p u marks_word (omega arith)));
    sets_below = λ u j l h. added-below t w entered_word p (omega arith) row_long r.plan.n u j (omega arith) p-low (books.sets_below u j l h);
  }

  -- ys is what is left of the messages in flight, xs, without a certificate for p that leads no further
  module _ (now : ℕ) (xs ys : List Sent) (kept : (m : Message) (s : ℕ) → In m s ys → In m s xs)
      (gone : (m : Message) (s : ℕ) → In m s xs → In m s ys ⊎ ((d : Bool) × (u : ℕ) × (m ≡ certificate d u p) × (onward d u ≤ w)))
      (why : Reason π P L p w) where
    abbrev pub sent_to : List Message
    sent_to = to_correct r.plan r.faulty (entry_messages r.plan p w)

    -- what is sent is p's signatures of the stages that take place at w, to a correct leader
    sent_is : (m : Message) (s : ℕ) → In m s (stamped now sent_to)
        → (d : Bool) × (m ≡ signature d w p) × (s ≡ now) × T (is_correct r (lead r.plan w)) × At r.plan d w
    sent_is m s i =
        let a = in-stamped m s now sent_to i in
        let b = elem-correct r m (entry_messages r.plan p w) a.1 in
        let e = entry-sent r.plan m w p b.0 in
        (e.0, e.1, a.0, subst (λ (x : ℕ). T (is_correct r x)) (ap (meant r.plan) e.1 ∙ signature-meant r.plan e.0 w p) b.1, e.2)

    pub entered : Enter π P entrants L (flight xs) (flight (ys ++ stamped now sent_to)) now p w
    unfolding proto.lead proto.row
    entered = record {
      for_a_correct = c;
      why = why;
      view_to = get_or-set_same r.views p w 0 (omega (arith, p-low, books.views_long));
      clock_to =
          get_or-set_same r.clocks p (entry_clock r.plan (clock_of r p) w) 0 (omega (arith, p-low, books.clocks_long))
          ∙ entry-max r.plan (clock_of r p) w ∙ ap (λ (x : ℕ). max x (clock_time r.plan w)) (sym (books.clock p));
      view_else = λ q ne. get_or-set_other r.views p q w 0 ne ∙ sym (books.view q);
      clock_else = λ q ne. get_or-set_other r.clocks p q (entry_clock r.plan (clock_of r p) w) 0 ne ∙ sym (books.clock q);
      entered_to = or_right (P.entered w p) (eqb w w && eqb p p) (T_and (eqb w w) _ (eq→eqb w w refl) (eq→eqb p p refl));
      entered_old = λ u q x. or_left (P.entered u q) (eqb u w && eqb q p) x;
      entered_new = λ u q x. ⊎_elim (λ y. inl y) (λ y. inr (eqb→eq u w (T-left (eqb u w) _ y), eqb→eq q p (T-right (eqb u w) _ y)))
          (or_cases (P.entered u q) (eqb u w && eqb q p) x);
      sent = λ d l i. elem-right (sent_as (signature d w p) now) ys (stamped now sent_to) (stamped-in (signature d w p) now sent_to
          (correct-elem r (signature d w p) (entry_messages r.plan p w) (entry-sends r.plan d w p (from-starts r.plan r.faulty ok d w i))
          (subst (λ (x : ℕ). T (is_correct r x)) (sym (signature-meant r.plan d w p)) l)));
      signature_old = λ d u q s x. ⊎_elim (λ y. elem-left (sent_as (signature d u q) s) ys (stamped now sent_to) y)
          (λ y. absurd (apart d y.0 u y.1 q p y.2)) (gone (signature d u q) s x);
      signature_new = λ d u q s x. ⊎_elim (λ y. inl (kept (signature d u q) s y))
          (λ y. let a = sent_is (signature d u q) s y in let e = signature_is d a.0 u w q p a.1 in
          inr (e.1, e.2, a.2, a.3, to-starts r.plan r.faulty ok d w (subst (λ (b : Bool). At r.plan b w) (sym e.0) a.4)))
          (elem-cases (sent_as (signature d u q) s) ys (stamped now sent_to) x);
      certificate_old = λ d u q s x. ⊎_elim (λ y. inl (elem-left (sent_as (certificate d u q) s) ys (stamped now sent_to) y))
          (λ y. let e = certificate-is d y.0 u y.1 q p y.2 in inr (e.2, rw (e.0, e.1) y.3)) (gone (certificate d u q) s x);
      certificate_new = λ d u q s x. ⊎_elim (λ y. kept (certificate d u q) s y)
          (λ y. let a = sent_is (certificate d u q) s y in absurd (apart a.0 d w u p q (sym a.1)))
          (elem-cases (sent_as (certificate d u q) s) ys (stamped now sent_to) x);
    }
