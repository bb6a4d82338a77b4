-- When an opening makes the correct processors enter view 0, one after the other. Assumes nothing.
use mathlib.Core.Path.{◌≡◌, refl, sym, ap, ◌∙◌, subst}
use mathlib.Core.Bool.{Bool, true, false, ◌&&◌, ◌||◌}
use mathlib.Core.Logic.{⊎_elim}
use mathlib.Core.List.{List, [], ◌∷◌, ◌++◌}
use Prim.Native.Nat.{ℕ, zero, suc, ◌*◌, ◌^◌, ◌≤◌, ◌<◌}
use native.Mathlib.Omega.{arith}
use native.Mathlib.Nat.{zero-mul}
use lib.Dec.{T, eqb, eqb→eq}
use lib.ListN.{length, get_or, set, drop, replicate, length-append, length-drop, length-replicate, get_or-replicate, get_or-append}
use lib.Pow.{pow_pos}
use lib.Seq.{set-get_or}
use Rattle.base.specs.Members.{Elem, elem-left, elem-right, elem-cases}
use Rattle.base.specs.Tests.{T-left, T-right, or_left, or_right, or_cases, le?, eq→eqb, by_cond}
use Rattle.base.specs.Sets.{member}
use Rattle.base.specs.SetLaws.{member-none}
use Rattle.types.specs.declared.Plan.{Plan}
use Rattle.types.specs.declared.Message.{Message}
use Rattle.types.specs.declared.Message.TheVariants.{View, Vote}
use Rattle.types.specs.declared.Run.{Run}
use Rattle.types.specs.declared.Setup.{Setup}
use Rattle.types.proofs.PlanLaws.{zero-starts}
use Rattle.types.specs.Quantities.{table_clocks, row_words, lead, initial, correct}
use Rattle.model.specs.State.{clock_of, is_correct, entered_word, slot, word, added}
use Rattle.model.specs.Moves.{Change, changed, still, also, Entry, stay, into, to_correct, entry_clock, entry_messages, entering, taking, entries}
use Rattle.model.specs.Opening.{start_clocks, blank_run, first_entry}
use Rattle.liveness.proofs.TallyLaws.{length-added, added-member, added-below}
use Rattle.liveness.proofs.Sending.{signature, meant, signature-meant, elem-correct, correct-elem, At, entry-sends, entry-sent}
use Rattle.liveness.proofs.Link.{Planned, correct_below}
use Rattle.liveness.proofs.Enters.{entry-max}

pub correct-fewer : (r : Run) (ms : List Message) → length (to_correct r.plan r.faulty ms) ≤ length ms
unfolding to_correct
correct-fewer r [] = omega arith
correct-fewer r (m ∷ ms) = by_cond (λ (l : List Message). length l ≤ suc (length ms)) (is_correct r (meant r.plan m)) (m ∷ to_correct r.plan r.faulty ms) (to_correct r.plan r.faulty ms)
    (λ t. omega (arith, correct-fewer r ms)) (λ t. omega (arith, correct-fewer r ms))

pub entry-few : (plan : Plan) (p w : ℕ) → length (entry_messages plan p w) ≤ 2
entry-few plan p w = by_cond (λ (l : List Message). length l ≤ 2) (initial plan w) (View w p ∷ Vote w p ∷ []) (Vote w p ∷ []) (λ t. omega arith)
    (λ t. omega arith)

pub zeros : (p : ℕ) → ◌≡◌ {A = ℕ} (get_or (replicate table_clocks 0) p 0) 0
zeros p = go table_clocks p
  where
    go : (m i : ℕ) → ◌≡◌ {A = ℕ} (get_or (replicate m 0) i 0) 0
    go zero i = refl
    go (suc m) zero = refl
    go (suc m) (suc i) = go m i

module _ (u : Setup) (t : List ℕ) (ok : Planned u.plan u.faulty) (long : row_words * u.plan.views ≤ length t) where
  abbrev plan : Plan
  plan = u.plan

  abbrev faulty : ℕ
  faulty = u.faulty

  abbrev pub r : Run
  r = blank_run u

  abbrev pub blank_tally : List ℕ
  blank_tally = replicate (row_words * plan.views) 0 ++ drop (row_words * plan.views) t

  pub blank-length : length blank_tally ≡ length t
  blank-length = length-append (replicate (row_words * plan.views) 0) (drop (row_words * plan.views) t)
      ∙ omega (arith, length-replicate {A = ℕ} (row_words * plan.views) 0, length-drop (row_words * plan.views) t, long)

  pub blank-word : (w j : ℕ) → w < plan.views → j < 4 → word blank_tally w j ≡ 0
  blank-word w j l h =
      get_or-append (replicate (row_words * plan.views) 0) (drop (row_words * plan.views) t) 0 (slot w j)
      (omega (arith, length-replicate {A = ℕ} (row_words * plan.views) 0))
      ∙ get_or-replicate (row_words * plan.views) (slot w j) 0 0 (omega arith)

  pub views-positive : 0 < plan.views
  views-positive = omega (arith, ok.views_at_least)

  pub at_zero : (d : Bool) → At plan d 0
  at_zero false = rw (zero-starts plan) tt
  at_zero true = tt

  -- when the correct processors below k have entered view 0
  pub record Mid (k : ℕ) (d : Change) : Type 0 where
    pub clocks_same : d.clocks ≡ start_clocks u
    pub views_same : d.views ≡ replicate table_clocks 0
    pub tally_length : length d.tally ≡ length t
    pub member_is : (w j q : ℕ) → w < plan.views → j < 4 → T (member (word d.tally w j) q) → (w ≡ 0) × (j ≡ 0) × T (correct plan faulty q)
    pub member_of : (q : ℕ) → q < k → T (correct plan faulty q) → T (member (word d.tally 0 entered_word) q)
    pub sets_below : (w j : ℕ) → w < plan.views → j < 4 → word d.tally w j < 2 ^ plan.n
    pub sent_is : (m : Message) → Elem m d.sent → (e : Bool) × (q : ℕ) × (m ≡ signature e 0 q) × T (correct plan faulty q)
        × T (correct plan faulty (lead plan 0))
    pub sent_few : length d.sent ≤ 2 * k
    pub sent_of : (e : Bool) (q : ℕ) → q < k → T (correct plan faulty q) → T (correct plan faulty (lead plan 0)) → Elem (signature e 0 q) d.sent

  mid_first : Mid 0 (still r blank_tally)
  mid_first = record {
    clocks_same = refl;
    views_same = refl;
    tally_length = blank-length;
    member_is = λ w j q l h t. absurd (member-none q (rw (blank-word w j l h) at t));
    member_of = λ q l. absurd (omega arith);
    sets_below = λ w j l h. rw (blank-word w j l h) (pow_pos plan.n);
    sent_is = λ m i. absurd i;
    sent_few = omega arith;
    sent_of = λ e q l. absurd (omega arith);
  }

  module _ (k : ℕ) (d : Change) (m : Mid k d) where
    abbrev r' : Run
    r' = changed r d

    goes : T (correct plan faulty k) → Mid (suc k) (also d (entering r' d.tally k 0))
    unfolding entering
    goes ck = record {
      clocks_same =
          let e : entry_clock plan (clock_of r' k) 0 ≡ get_or d.clocks k 0 = entry-max plan (clock_of r' k) 0 ∙ omega (arith, zero-mul plan.gamma) in
          ap (set d.clocks k) e ∙ set-get_or d.clocks k 0 ∙ m.clocks_same;
      views_same =
          let e : 0 ≡ get_or d.views k 0 = sym (ap (λ (l : List ℕ). get_or l k 0) m.views_same ∙ zeros k) in
          ap (set d.views k) e ∙ set-get_or d.views k 0 ∙ m.views_same;
      tally_length = length-added d.tally 0 entered_word k ∙ m.tally_length;
      member_is = λ w j q l h t. ⊎_elim (λ y. m.member_is w j q l h y)
          (λ y. let y' = T-right (eqb w 0) _ y in
          (eqb→eq w 0 (T-left (eqb w 0) _ y), eqb→eq j 0 (T-left (eqb j 0) _ y'), let e : q ≡ k = eqb→eq q k (T-right (eqb j 0) _ y') in rw e ck))
          (or_cases (member (word d.tally w j) q) (eqb w 0 && (eqb j 0 && eqb q k)) (rw (member_to w j q h) at t));
      member_of = λ q l cq. rw (member_to 0 entered_word q (omega arith)) (⊎_elim
          (λ (h : q < k). or_left (member (word d.tally 0 entered_word) q) (eqb q k) (m.member_of q h cq))
          (λ (h : k < suc q). let e : q ≡ k = omega arith in or_right (member (word d.tally 0 entered_word) q) (eqb q k) (eq→eqb q k e)) (le? (suc q) k));
      sets_below = λ w j l h. added-below d.tally 0 entered_word k (omega arith) row_long plan.n w j h (correct_below plan faulty k ck)
          (m.sets_below w j l h);
      sent_is = λ x i. ⊎_elim (λ y. m.sent_is x y)
          (λ y. let e = elem-correct r' x (entry_messages plan k 0) y in let f = entry-sent plan x 0 k e.0 in
          (f.0, k, f.1, ck, subst (λ (z : ℕ). T (correct plan faulty z)) (ap (meant plan) f.1 ∙ signature-meant plan f.0 0 k) e.1))
          (elem-cases x d.sent (to_correct r'.plan r'.faulty (entry_messages plan k 0)) i);
      sent_few = omega (
        arith,
        length-append d.sent (to_correct r'.plan r'.faulty (entry_messages plan k 0)),
        m.sent_few,
        correct-fewer r'
            (entry_messages plan k 0),
        entry-few plan k 0,
      );
      sent_of = λ e q l cq cl. ⊎_elim
          (λ (h : q < k). elem-left (signature e 0 q) d.sent (to_correct r'.plan r'.faulty (entry_messages plan k 0)) (m.sent_of e q h cq cl))
          (λ (h : k < suc q). let g : q ≡ k = omega arith in elem-right (signature e 0 q) d.sent (to_correct r'.plan r'.faulty (entry_messages plan k 0))
          (rw g (correct-elem r' (signature e 0 k) (entry_messages plan k 0) (entry-sends plan e 0 k (at_zero e))
          (subst (λ (z : ℕ). T (correct plan faulty z)) (sym (signature-meant plan e 0 k)) cl))))
          (le? (suc q) k);
    }
      where
        row_long : slot 0 entered_word < length d.tally
        row_long = omega (arith, m.tally_length, long, views-positive)

        member_to : (w j q : ℕ) → j < 4 → member (word (added d.tally 0 entered_word k) w j) q ≡
            (member (word d.tally w j) q || (eqb w 0 && (eqb j 0 && eqb q k)))
        member_to w j q h = added-member d.tally 0 entered_word k (omega arith) row_long w j q h

    waits : (T (correct plan faulty k) → ⊥) → Mid (suc k) (also d (still r' d.tally))
    waits nc = record {
      clocks_same = m.clocks_same;
      views_same = m.views_same;
      tally_length = m.tally_length;
      member_is = m.member_is;
      member_of = λ q l cq. m.member_of q (before q l cq) cq;
      sets_below = m.sets_below;
      sent_is = λ x i. ⊎_elim (λ y. m.sent_is x y) (λ y. absurd y) (elem-cases x d.sent [] i);
      sent_few = omega (arith, length-append {A = Message} d.sent [], m.sent_few);
      sent_of = λ e q l cq cl. elem-left (signature e 0 q) d.sent [] (m.sent_of e q (before q l cq) cq cl);
    }
      where
        before : (q : ℕ) → q < suc k → T (correct plan faulty q) → q < k
        before q l cq = ⊎_elim (λ (h : q < k). h) (λ (h : k < suc q). let e : q ≡ k = omega arith in absurd (nc (rw e at cq))) (le? (suc q) k)

    mid_more : Mid (suc k) (also d (taking r' d.tally k (first_entry u k)))
    unfolding taking
    mid_more = by_cond (λ (e : Entry). Mid (suc k) (also d (taking r' d.tally k e))) (correct plan faulty k) (into 0) stay goes waits

  pub mid_all : (k : ℕ) → Mid k (entries (first_entry u) r blank_tally k)
  unfolding entries
  mid_all zero = mid_first
  mid_all (suc k) = mid_more k (entries (first_entry u) r blank_tally k) (mid_all k)
