-- What moves send names views and processors that there are, and is for correct processors. Assumes nothing.
use mathlib.Core.Path.{◌≡◌, refl, ap, ◌∙◌}
use mathlib.Core.Bool.{Bool, true, false}
use mathlib.Core.Logic.{⊎_elim}
use mathlib.Core.List.{List, [], ◌++◌}
use Prim.Native.Nat.{ℕ, zero, suc, ◌≤◌, ◌<◌}
use native.Mathlib.Omega.{arith}
use lib.Dec.{T}
use lib.ListN.{length, length-set}
use Rattle.base.specs.Members.{Elem, elem-cases}
use Rattle.base.specs.Tests.{by_cond}
use Rattle.types.specs.declared.Plan.{Plan}
use Rattle.types.specs.declared.Message.{Message}
use Rattle.types.specs.declared.Message.TheVariants.{View, Vote, Vc, Qc}
use Rattle.types.specs.declared.Run.{Run}
use Rattle.types.specs.Quantities.{n_most, lead, correct}
use Rattle.types.specs.Messages.{view_in, processor_in}
use Rattle.model.specs.State.{State, is_correct, clock_of, view_of, entered_word}
use Rattle.model.specs.Moves.{Change, changed, still, also, to_correct, entry_clock, entry_messages, entering, Entry, stay, into, by_view, by_quorum, taking, entries, forms, certificate, to_each, hearing, handling, arrival, arrivals}
use Rattle.model.specs.Events.{signing}
use Rattle.liveness.proofs.TallyLaws.{length-added, length-heard}
use Rattle.liveness.proofs.Flight.{Sent, Named, stamped}
use Rattle.liveness.proofs.Sending.{signature, meant, in-stamped, elem-correct, entry-sent, each-got}

-- ---- the processors that it names, of any run

-- they are below n
abbrev pub Names : ℕ → List Message → Type 0
Names n ms = (m : Message) → Elem m ms → processor_in m < n

signature-names : (d : Bool) (w p : ℕ) → processor_in (signature d w p) ≡ p
signature-names false w p = refl
signature-names true w p = refl

certificate-names : (d : Bool) (w p : ℕ) → processor_in (certificate d w p) ≡ p
certificate-names false w p = refl
certificate-names true w p = refl

entering-names : (r : Run) (t : List ℕ) (p w n : ℕ) → p < n → Names n (entering r t p w).sent
unfolding entering
entering-names r t p w n low m i =
    let d = entry-sent r.plan m w p (elem-correct r m (entry_messages r.plan p w) i).0 in
    omega (arith, ap processor_in d.1, signature-names d.0 w p)

taking-names : (r : Run) (t : List ℕ) (p n : ℕ) (e : Entry) → p < n → Names n (taking r t p e).sent
unfolding taking
taking-names r t p n stay low m i = absurd i
taking-names r t p n (into w) low m i = entering-names r t p w n low m i

pub entries-names : (e : ℕ → Entry) (r : Run) (t : List ℕ) (k n : ℕ) → k ≤ n → Names n (entries e r t k).sent
unfolding entries
entries-names e r t zero n l m i = absurd i
entries-names e r t (suc k) n l m i =
    let c : Change = entries e r t k in
    ⊎_elim (λ j. entries-names e r t k n (omega arith) m j) (λ j. taking-names (changed r c) c.tally k n (e k) (omega arith) m j)
    (elem-cases m c.sent (taking (changed r c) c.tally k (e k)).sent i)

hearing-names : (q : Bool) (r : Run) (t : List ℕ) (w p : ℕ) → Names r.plan.n (hearing q r t w p).sent
unfolding hearing
hearing-names q r t w p m =
    by_cond (λ (l : List Message). Elem m l → processor_in m < r.plan.n) (forms q r t w p) (to_correct r.plan r.faulty (to_each q w r.plan.n)) []
    (λ _ i. let g = each-got q w r.plan.n m (elem-correct r m (to_each q w r.plan.n) i).0 in
    omega (arith, ap processor_in g.2, certificate-names q w g.0, g.1)) (λ _ i. absurd i)

pub handling-names : (r : Run) (t : List ℕ) (m : Message) → processor_in m < r.plan.n → Names r.plan.n (handling r t m).sent
unfolding handling
handling-names r t (View w p) low = hearing-names false r t w p
handling-names r t (Vote w p) low = hearing-names true r t w p
handling-names r t (Vc w p) low = taking-names r t p r.plan.n (by_view r.plan (view_of r p) w) low
handling-names r t (Qc w p) low = taking-names r t p r.plan.n (by_quorum (view_of r p) w) low

pub signing-names : (s : State) (m : Message) → processor_in m < s.run.plan.n → Names s.run.plan.n (signing s m).sent
unfolding signing
signing-names s m low = by_cond (λ (c : Change). Names s.run.plan.n c.sent) (is_correct s.run (lead s.run.plan (view_in m)))
    (handling s.run s.tally m) (still s.run s.tally) (λ _. handling-names s.run s.tally m low) (λ _ m' i. absurd i)

pub arrivals-names : (a : State) → Names a.run.plan.n (arrivals a).sent
unfolding arrivals
arrivals-names a = entries-names (arrival a.run) a.run a.tally a.run.plan.n a.run.plan.n (omega arith)

-- so what is in flight goes on naming processors that every form can hold, where no more than those are named
pub named_more : (xs : List Sent) (now n : ℕ) (ms : List Message) → n ≤ n_most → Named xs → Names n ms → Named (xs ++ stamped now ms)
named_more xs now n ms most named names x i = ⊎_elim (λ j. named x j)
    (λ j. omega (arith, names x.message (in-stamped x.message x.time now ms j).1)) (elem-cases x xs (stamped now ms) i)

-- ---- all of it

pub record Addressed (plan : Plan) (faulty : ℕ) (m : Message) : Type 0 where
  pub view_low : view_in m < plan.views
  pub processor_low : processor_in m < plan.n
  pub for_correct : T (correct plan faulty (meant plan m))

-- a change that leaves all lengths as they are and sends only such messages
pub record Sends (r : Run) (t : List ℕ) (c : Change) : Type 0 where
  pub clocks : length c.clocks ≡ length r.clocks
  pub views : length c.views ≡ length r.views
  pub tally : length c.tally ≡ length t
  pub addressed : (m : Message) → Elem m c.sent → Addressed r.plan r.faulty m

module _ (r : Run) (t : List ℕ) where
  pub still-sends : Sends r t (still r t)
  still-sends = record { clocks = refl; views = refl; tally = refl; addressed = λ m i. absurd i }

  pub entering-sends : (p w : ℕ) → p < r.plan.n → w < r.plan.views → Sends r t (entering r t p w)
  unfolding entering
  entering-sends p w low w-low = record {
    clocks = length-set r.clocks p (entry_clock r.plan (clock_of r p) w);
    views = length-set r.views p w;
    tally = length-added t w entered_word p;
    addressed = λ m i.
        let e = elem-correct r m (entry_messages r.plan p w) i in
        let d = entry-sent r.plan m w p e.0 in
        record {
          view_low = omega (arith, ap view_in d.1, view_is d.0);
          processor_low = entering-names r t p w r.plan.n low m i;
          for_correct = e.1;
        };
  }
    where
      view_is : (d : Bool) → view_in (signature d w p) ≡ w
      view_is false = refl
      view_is true = refl

  pub hearing_sends : (q : Bool) (w p : ℕ) → w < r.plan.views → Sends r t (hearing q r t w p)
  unfolding hearing
  hearing_sends q w p w-low = record {
    clocks = refl;
    views = refl;
    tally = length-heard t q w p (forms q r t w p);
    addressed = λ m. by_cond (λ (l : List Message). Elem m l → Addressed r.plan r.faulty m) (forms q r t w p)
        (to_correct r.plan r.faulty (to_each q w r.plan.n)) [] (λ _ i. sent m i) (λ _ i. absurd i);
  }
    where
      view_is : (d : Bool) (k : ℕ) → view_in (certificate d w k) ≡ w
      view_is false k = refl
      view_is true k = refl

      sent : (m : Message) → Elem m (to_correct r.plan r.faulty (to_each q w r.plan.n)) → Addressed r.plan r.faulty m
      sent m i =
          let e = elem-correct r m (to_each q w r.plan.n) i in
          let g = each-got q w r.plan.n m e.0 in
          record {
            view_low = omega (arith, ap view_in g.2, view_is q g.0);
            processor_low = omega (arith, ap processor_in g.2, certificate-names q w g.0, g.1);
            for_correct = e.1;
          }

-- one change, and then another
pub also-sends : (r : Run) (t : List ℕ) (c d : Change) → Sends r t c → Sends (changed r c) c.tally d → Sends r t (also c d)
also-sends r t c d x y = record {
  clocks = y.clocks ∙ x.clocks;
  views = y.views ∙ x.views;
  tally = y.tally ∙ x.tally;
  addressed = λ m i. ⊎_elim (λ j. x.addressed m j) (λ j. y.addressed m j) (elem-cases m c.sent d.sent i);
}
