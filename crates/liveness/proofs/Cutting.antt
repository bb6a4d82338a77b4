-- A tally cut off behind some row moves as the whole one does. Assumes nothing.
use mathlib.Core.Path.{◌≡◌, refl, sym, ap, ◌∙◌}
use mathlib.Core.Bool.{Bool, true, false, not, ◌&&◌, ◌||◌, cond}
use mathlib.Core.Logic.{⊎_elim}
use mathlib.Core.List.{List}
use Prim.Native.Nat.{ℕ, zero, suc, ◌+◌, ◌*◌, ◌≤◌, ◌<◌}
use native.Mathlib.Omega.{arith}
use lib.Dec.{leb}
use lib.ListN.{set, take, length-take}
use lib.Seq.{get_or-take, set_out, take-set-le, take-set-lt}
use Rattle.base.specs.Tests.{le?}
use Rattle.base.specs.Sets.{member, insert, size}
use Rattle.types.specs.declared.Plan.{Plan}
use Rattle.types.specs.declared.Message.{Message}
use Rattle.types.specs.declared.Message.TheVariants.{View, Vote, Vc, Qc}
use Rattle.types.specs.declared.Run.{Run}
use Rattle.types.specs.Quantities.{row_words, lead}
use Rattle.types.specs.Messages.{view_stage, vote_stage, view_in}
use Rattle.model.specs.State.{view_of, clock_of, is_correct, entered_word, heard_word, marks_word, mark_bit, slot, word, added}
use Rattle.model.specs.Moves.{Change, changed, also, Entry, stay, into, entry_clock, entry_messages, moved_to, entering, taking, entries, by_view, by_quorum, needed, ripe, forms, heard_tally, heard_change, hearing, handling}
use Rattle.model.specs.Checks.{exists}
use Rattle.liveness.proofs.TallyLaws.{heard-low}

-- without the tally's words from k on
abbrev pub cut_change : ℕ → Change → Change
cut_change k c = record { clocks = c.clocks; views = c.views; tally = take k c.tally; sent = c.sent }

-- ---- what only writes the tally

module _ (k : ℕ) where
  added-cut : (t : List ℕ) (w j p : ℕ) → added (take k t) w j p ≡ take k (added t w j p)
  added-cut t w j p = ⊎_elim
      (λ (l : suc (slot w j) ≤ k). ap (λ (x : ℕ). set (take k t) (slot w j) (insert x p)) (get_or-take k t (slot w j) 0 l)
      ∙ sym (take-set-lt k t (slot w j) (insert (word t w j) p) l))
      (λ (l : k < suc (slot w j)). set_out (take k t) (slot w j) (insert (word (take k t) w j) p) (omega (arith, length-take k t))
      ∙ sym (take-set-le k t (slot w j) (insert (word t w j) p) (omega arith)))
      (le? (suc (slot w j)) k)

  taking-cut : (r : Run) (t : List ℕ) (p : ℕ) (e : Entry) → taking r (take k t) p e ≡ cut_change k (taking r t p e)
  unfolding taking entering
  taking-cut r t p stay = refl
  taking-cut r t p (into w) = ap (λ (l : List ℕ). moved_to r l p (entry_clock r.plan (clock_of r p) w) w (entry_messages r.plan p w))
      (added-cut t w entered_word p)

  pub entries-cut : (e : ℕ → Entry) (r : Run) (t : List ℕ) (n : ℕ) → entries e r (take k t) n ≡ cut_change k (entries e r t n)
  unfolding entries
  entries-cut e r t zero = refl
  entries-cut e r t (suc n) =
      let c = entries e r t n in
      ap (λ (d : Change). also d (taking (changed r d) d.tally n (e n))) (entries-cut e r t n)
      ∙ ap (also (cut_change k c)) (taking-cut (changed r c) c.tally n (e n))

  heard-cut : (t : List ℕ) (q : Bool) (w p : ℕ) (formed : Bool) → heard_tally (take k t) q w p formed ≡ take k (heard_tally t q w p formed)
  heard-cut t q w p true = ap (λ (l : List ℕ). added l w marks_word (mark_bit q)) (added-cut t w (heard_word q) p)
      ∙ added-cut (added t w (heard_word q) p) w marks_word (mark_bit q)
  heard-cut t q w p false = added-cut t w (heard_word q) p

-- ---- what reads it, of a row that is left

module _ (rows : ℕ) (t : List ℕ) (w : ℕ) (low : w < rows) where
  abbrev k : ℕ
  k = row_words * rows

  word_cut : (j : ℕ) → j < 4 → word (take k t) w j ≡ word t w j
  word_cut j l = get_or-take k t (slot w j) 0 (omega arith)

  ripe-cut : (q : Bool) (plan : Plan) (own p : ℕ) → ripe q plan own (take k t) w p ≡ ripe q plan own t w p
  unfolding ripe
  ripe-cut q plan own p = ap (λ (x : ℕ). leb (needed q plan) (size (insert x p)) && not (member (word (take k t) w marks_word) (mark_bit q)) && (q || leb own w))
      (word_cut (heard_word q) (omega (arith, heard-low q)))
      ∙ ap (λ (x : ℕ). leb (needed q plan) (size (insert (word t w (heard_word q)) p)) && not (member x (mark_bit q)) && (q || leb own w))
      (word_cut marks_word (omega arith))

  pub exists-cut : (q : Bool) (r : Run) → exists q r (take k t) w ≡ exists q r t w
  unfolding exists
  exists-cut q r = ap (λ (x : ℕ). cond (is_correct r (lead r.plan w)) (member x (mark_bit q))
      (leb (needed q r.plan) (size r.faulty + size (word (take k t) w entered_word))))
      (word_cut marks_word (omega arith))
      ∙ ap (λ (x : ℕ). cond (is_correct r (lead r.plan w)) (member (word t w marks_word) (mark_bit q))
      (leb (needed q r.plan) (size r.faulty + size x)))
      (word_cut entered_word (omega arith))

  hearing-cut : (q : Bool) (r : Run) (p : ℕ) → hearing q r (take k t) w p ≡ cut_change k (hearing q r t w p)
  unfolding hearing
  hearing-cut q r p = ap (heard_change q r (take k t) w p) (ripe-cut q r.plan (view_of r (lead r.plan w)) p)
      ∙ ap (λ (l : List ℕ). record { clocks = r.clocks; views = r.views; tally = l; sent = (heard_change q r t w p (forms q r t w p)).sent })
      (heard-cut k t q w p (forms q r t w p))

-- a message of such a row
pub handling-cut : (rows : ℕ) (r : Run) (t : List ℕ) (m : Message) → view_in m < rows
    → handling r (take (row_words * rows) t) m ≡ cut_change (row_words * rows) (handling r t m)
unfolding handling
handling-cut rows r t (View w p) low = hearing-cut rows t w low view_stage r p
handling-cut rows r t (Vote w p) low = hearing-cut rows t w low vote_stage r p
handling-cut rows r t (Vc w p) low = taking-cut (row_words * rows) r t p (by_view r.plan (view_of r p) w)
handling-cut rows r t (Qc w p) low = taking-cut (row_words * rows) r t p (by_quorum (view_of r p) w)
