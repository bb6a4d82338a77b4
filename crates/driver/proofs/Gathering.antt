-- Lines gathered as words, one after the other. Assumes nothing.
use mathlib.Core.Path.{◌≡◌, refl, sym, ap, ap₂, ◌∙◌}
use mathlib.Core.List.{List, [], ◌∷◌, ◌++◌, append_assoc, append-nil}
use Prim.Native.Nat.{ℕ, ◌+◌, ◌-◌, ◌≤◌, ◌<◌}
use native.Mathlib.Omega.{arith}
use lib.ListN.{length, take, drop, length-append}
use lib.Seq.{take-add}
use borrow.Rule.Slice.PartMut.{mid_of}
use Rattle.lines.specs.declared.Read.{Read}
use Rattle.lines.specs.declared.Next.{Next}
use Rattle.lines.specs.declared.Next.TheVariants.{Line}
use Rattle.lines.specs.Clauses.{Reading, no_setup}
use Rattle.lines.specs.Splitting.{next_line}
use Rattle.lines.proofs.Splitting.{line-inside}
use Rattle.lines.proofs.Putting.{left_over, rest-lent}
use Rattle.reader.specs.Lines.{skimmed}
use Rattle.reader.proofs.Skimming.{skims-plain}
use Rattle.words.specs.declared.Numbers.{Numbers}
use Rattle.words.specs.Events.{events_in, four_numbers, numbers_put}
use Rattle.words.proofs.Turning.{put-parts}
use Rattle.printout.specs.Printout.{Standing, Reply, read_reply, reply, printed_line}
use Rattle.printout.specs.Clauses.{Place, place_at, Advance, behind, fed}
use Rattle.printout.proofs.Feeding.{fed-append}
use Rattle.driver.specs.declared.Noted.{Noted}
use Rattle.types.specs.declared.Event.{Event}
use Rattle.driver.specs.Inner.{replying}
use Rattle.driver.specs.Batches.{read_numbers, gathered, NoOpening, replied, Notes, Gathers}
use Rattle.driver.proofs.Serving.{fed-read}

-- ---- one line

-- which variants are left
pub plain-read : (r : Read) → (r ≡ Read.Opening → ⊥) → NoOpening (r ∷ [])
plain-read (Read.Event e) o = tt
plain-read Read.Opening o = absurd (o refl)
plain-read Read.NoForm o = tt

pub unread : (r : Read) → ((e : Event) → r ≡ Read.Event e → ⊥) → four_numbers 0 0 0 0 ≡ read_numbers r
unread (Read.Event e) o = absurd (o e refl)
unread Read.Opening o = refl
unread Read.NoForm o = refl

-- a line that was skimmed, and does not begin as an opening
pub noted : (s : List ℕ) (n : Next) (e : ℕ) (r : Read) (k : Numbers) → n ≡ next_line s → n ≡ Line e → r ≡ skimmed (take e s)
    → (r ≡ Read.Opening → ⊥) → k ≡ read_numbers r → Notes s (record { used = e + 1; numbers = k })
noted s n e r k q p z o h =
    record {
      some = omega arith;
      within = omega (arith, line-inside s n e q p);
      read = r;
      plain = plain-read r o;
      numbers = h;
      feeds = λ x. fed-read x s (next_line s) e refl (sym q ∙ p) [] refl ∙ ap (λ (y : Reading). replying (reply y x)) (sym (skims-plain (take e s) r z o));
    }

-- ---- one line more

-- what lines lead to, and one more
replied-more : (rs : List Read) (r : Read) (x : Standing)
    → replied (rs ++ (r ∷ [])) x ≡ behind (replied rs x).text (replying (read_reply r no_setup (replied rs x).place.standing))
replied-more [] r x = ap (λ (t : List ℕ). record { place = place_at (read_reply r no_setup x).standing []; text = t }) (append-nil (printed_line (read_reply r no_setup x)))
replied-more (k ∷ rs) r x =
    let y : Reply = read_reply k no_setup x in
    ap (behind (printed_line y)) (replied-more rs r y.standing)
    ∙ ap (λ (t : List ℕ). record { place = place_at (read_reply r no_setup (replied rs y.standing).place.standing).standing []; text = t })
    (sym (append_assoc (printed_line y) (replied rs y.standing).text (printed_line (read_reply r no_setup (replied rs y.standing).place.standing))))

replied-place : (rs : List Read) (x : Standing) → (replied rs x).place ≡ place_at (replied rs x).place.standing []
replied-place [] x = refl
replied-place (r ∷ rs) x = replied-place rs (read_reply r no_setup x).standing

plain_more : (rs : List Read) (r : Read) → NoOpening rs → NoOpening (r ∷ []) → NoOpening (rs ++ (r ∷ []))
plain_more [] r p q = q
plain_more (Read.Event e ∷ rs) r p q = plain_more rs r p q
plain_more (Read.Opening ∷ rs) r p q = absurd p
plain_more (Read.NoForm ∷ rs) r p q = plain_more rs r p q

gathered-more : (rs : List Read) (r : Read) → gathered (rs ++ (r ∷ [])) ≡ gathered rs ++ gathered (r ∷ [])
gathered-more [] r = refl
gathered-more (k ∷ rs) r =
    let z : Numbers = read_numbers k in ap (λ (l : List ℕ). z.form ∷ z.kind ∷ z.view ∷ z.processor ∷ l) (gathered-more rs r)

pub gathers-more : (s : List ℕ) (most count used : ℕ) (batch : List ℕ) (n : Noted) → Gathers s most count used batch → count < most → most ≤ events_in batch
    → Notes (mid_of used (length s - used) s) n → Gathers s most (count + 1) (used + n.used) (numbers_put batch count n.numbers)
gathers-more s most count used batch n g l room a = record {
  within = omega (arith, a.within, left_over used s, g.within);
  few = omega arith;
  each = omega (arith, g.each, a.some);
  reads = rs ++ (a.read ∷ []);
  many = length-append rs (a.read ∷ []) ∙ ap (λ (k : ℕ). k + 1) g.many;
  plain = plain_more rs a.read g.plain a.plain;
  words =
      (put-parts batch count n.numbers.form n.numbers.kind n.numbers.view n.numbers.processor (omega arith)).0
      ∙ ap₂ (λ (x : List ℕ) (k : Numbers). x ++ (k.form ∷ k.kind ∷ k.view ∷ k.processor ∷ [])) g.words a.numbers
      ∙ sym (gathered-more rs a.read);
  feeds = λ x. further x;
}
  where
    rs : List Read
    rs = g.reads

    further : (x : Standing) → fed (place_at x []) (take (used + n.used) s) ≡ replied (rs ++ (a.read ∷ [])) x
    further x =
        let F : Advance = replied rs x in
        ap (fed (place_at x [])) (take-add used n.used s)
        ∙ fed-append (place_at x []) (take used s) (take n.used (drop used s))
        ∙ ap (λ (z : Advance). behind z.text (fed z.place (take n.used (drop used s)))) (g.feeds x)
        ∙ ap (λ (z : Place). behind F.text (fed z (take n.used (drop used s)))) (replied-place rs x)
        ∙ ap (λ (z : List ℕ). behind F.text (fed (place_at F.place.standing []) (take n.used z))) (sym (rest-lent used s))
        ∙ ap (behind F.text) (a.feeds F.place.standing)
        ∙ sym (replied-more rs a.read x)
