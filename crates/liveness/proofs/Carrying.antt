-- A run carried over to a network of any form: the words are those of the same messages in flight, so the two are level, and turned back it
-- has its own words. Assumes nothing.
use mathlib.Core.Path.{◌≡◌, refl, sym, ap, ap₂, ◌∙◌, subst}
use mathlib.Core.Bool.{true, false}
use mathlib.Core.Logic.{◌≢◌, ◌⊎◌, inl, inr, ⊎_elim}
use mathlib.Core.List.{List, [], ◌∷◌, ◌++◌, append_assoc, append-nil}
use Prim.Native.Nat.{ℕ, zero, suc, ◌-◌, ◌*◌, ◌/◌, ◌≤◌, ◌<◌}
use native.Mathlib.Omega.{arith}
use lib.Dec.{ltb, lt→ltb}
use lib.ListN.{length, replicate}
use Rattle.base.specs.Choice.{or-neither}
use Rattle.base.specs.Tests.{or_left, or_right, T_true, T_false, fails, le?}
use Rattle.types.specs.declared.Form.{Form}
use Rattle.types.specs.declared.Run.{Run}
use Rattle.types.specs.Quantities.{width, network_least, network_most}
use Rattle.model.specs.State.{State, with_network, Held, held_words, held_at, held_in}
use Rattle.model.specs.FormLaws.{words-of-room}
use Rattle.model.specs.Checks.{Check, network_outside, held_too_many, unsound}
use Rattle.model.specs.Carrying.{target_outside, laid_out, carried_words, CarriedOver, carried_over, carried_to}
use Rattle.liveness.specs.Carrying.{HeldAlike, CarriedAlike, TurnsBack, BackFits, EverySoundCarries, NoTargetForMore, RefusedCarriesNothing}
use Rattle.liveness.proofs.Flight.{Sent, numbers, all_words, laid, Named, laid-first, laid_on}
use Rattle.liveness.proofs.Link.{Wire, wire-length}
use Rattle.liveness.proofs.Judging.{Passes, by-judged, by-judged-each, neither, not-ltb}
use Rattle.liveness.proofs.Soundness.{sound-of}
use Rattle.liveness.proofs.Lasting.{Lasts, lasts-named}
use Rattle.liveness.proofs.Wires.{same-words}
use Rattle.liveness.proofs.Level.{Level, level-alike, unsound-same}
use Rattle.liveness.proofs.SchedulesAlike.{sound-lasting, sound-long}

-- ---- the words

module _ (to : Form) where
  -- those of the first k messages, whatever is read at each place
  laid_from : (ℕ → Held) → ℕ → List ℕ
  laid_from h zero = []
  laid_from h (suc k) = laid_from h k ++ held_words to (h k)

  laid_out-from : (s : State) (k : ℕ) → laid_out to s k ≡ laid_from (held_in s) k
  unfolding laid_from
  laid_out-from s zero = refl
  laid_out-from s (suc k) = ap (λ (l : List ℕ). l ++ held_words to (held_in s k)) (laid_out-from s k)

  from_first : (h : ℕ → Held) (k : ℕ) → laid_from h (suc k) ≡ held_words to (h 0) ++ laid_from (λ i. h (suc i)) k
  unfolding laid_from
  from_first h zero = sym (append-nil (held_words to (h 0)))
  from_first h (suc k) =
      ap (λ (l : List ℕ). l ++ held_words to (h (suc k))) (from_first h k)
      ∙ append_assoc (held_words to (h 0)) (laid_from (λ i. h (suc i)) k) (held_words to (h (suc k)))

  -- of messages in flight, in the words of any form, they are the words of this one
  in-flight : (form : Form) (xs : List Sent) (z : ℕ) → Named xs → laid_from (held_at form (laid form xs z)) (length xs) ≡ all_words to xs
  unfolding laid_from
  in-flight form [] z named = refl
  in-flight form (x ∷ xs) z named =
      from_first (held_at form (laid form (x ∷ xs) z)) (length xs)
      ∙ (λ j. held_words to (laid-first form x xs z (named x (inl refl)) j) ++ laid_from (λ i. laid_on form x xs z i j) (length xs))
      ∙ ap (λ (l : List ℕ). held_words to (numbers x) ++ l) (in-flight form xs z (λ y i. named y (inr i)))

  pub carried-wire : (s : State) {xs : List Sent} → Wire s.form s.network s.run.held xs → Named xs → (len : ℕ)
      → Wire to (carried_words to s len) s.run.held xs
  carried-wire s {xs} wire named len = record {
    spare = len - width to * s.run.held;
    words = ap (λ (l : List ℕ). l ++ replicate (len - width to * s.run.held) 0) words;
    number = wire.number;
  }
    where
      words : laid_out to s s.run.held ≡ all_words to xs
      words =
          laid_out-from s s.run.held ∙ ap₂ (λ (ws : List ℕ) (k : ℕ). laid_from (held_at s.form ws) k) wire.words wire.number
          ∙ in-flight s.form xs wire.spare named

  carried-length : (s : State) {xs : List Sent} → Wire s.form s.network s.run.held xs → Named xs → (len : ℕ) → width to * s.run.held ≤ len
      → length (carried_words to s len) ≡ len
  unfolding carried-wire
  carried-length s wire named len room = wire-length (carried-wire s wire named len) ∙ omega arith

-- ---- carried over

abbrev tests : Form → State → List ℕ → List Check
tests to s target = (6, target_outside to s.run.plan s.run.held (length target)) ∷ (9, unsound s) ∷ []

-- what holds where they pass
record Fits (to : Form) (s : State) (target : List ℕ) : Type 0 where
  sound : unsound s ≡ false
  long : network_outside to s.run.plan (length target) ≡ false
  room : width to * s.run.held ≤ length target

module _ (to : Form) (s : State) (target : List ℕ) where
  fits : Passes (tests to s target) → Fits to s target
  fits c =
      let six = neither (network_outside to s.run.plan (length target)) (ltb (length target / width to) s.run.held) c.0 in
      record {
        sound = T_false (unsound s) c.1.0;
        long = T_false (network_outside to s.run.plan (length target)) six.0;
        room = words-of-room to s.run.held (length target) (not-ltb _ _ six.1);
      }

  -- and then the words are these
  goes : (carried_over to s target).check ≡ 0 → Fits to s target × ((carried_over to s target).target ≡ carried_words to s (length target))
  unfolding carried_over
  goes = by-judged-each (λ (c : CarriedOver). c.check ≡ 0 → Fits to s target × (c.target ≡ carried_words to s (length target)))
      (λ r. record { check = r; target = target }) (tests to s target) _ (λ t e. absurd (omega arith), (λ t e. absurd (omega arith), tt)) (λ c e. (fits c, refl))

  module _ (g : Fits to s target) where
    lasting : Lasts s
    lasting = sound-lasting s g.sound

    wire : Wire to (carried_words to s (length target)) s.run.held lasting.messages
    wire = carried-wire to s lasting.wire (lasts-named s lasting) (length target)

    as_long : length (carried_words to s (length target)) ≡ length target
    as_long = carried-length to s lasting.wire (lasts-named s lasting) (length target) g.room

  -- the two are level
  level : (e : (carried_over to s target).check ≡ 0) → Level s to (carried_over to s target).target
  level e =
      let g = goes e in
      record {
        messages = (lasting g.0).messages;
        here = (lasting g.0).wire;
        there = rw g.1 (wire g.0);
        named = lasts-named s (lasting g.0);
        long_here = sound-long s g.0.sound;
        long_there = ap (λ (ws : List ℕ). network_outside to s.run.plan (length ws)) g.1
            ∙ ap (network_outside to s.run.plan) (as_long g.0) ∙ g.0.long;
      }

pub carried-alike : CarriedAlike
carried-alike to s target e =
    let l = level to s target e in
    (sym (unsound-same l) ∙ (goes to s target e).0.sound, level-alike l)

-- ---- and back

alike_both : {a b c : State} → HeldAlike a b → HeldAlike b c → HeldAlike a c
alike_both {a} {b} {c} x y = record {
  run = x.run ∙ y.run;
  tally = x.tally ∙ y.tally;
  held = λ i l. x.held i l ∙ y.held i (subst (λ (r : Run). i < r.held) x.run l);
}

pub turns-back : TurnsBack
turns-back to s target back e e' =
    let there = carried_to to s target in
    let h = goes s.form there back e' in
    let l = level to s target e in (
      alike_both (level-alike l) (level-alike (level s.form there back e')),
      λ same.
          let again : Wire s.form (carried_words s.form there (length back)) s.run.held l.messages =
          carried-wire s.form there l.there l.named (length back) in
          let words : (carried_over s.form there back).target ≡ s.network =
          h.1 ∙ same-words again l.here (carried-length s.form there l.there l.named (length back) h.0.room ∙ same) in
          (λ i. with_network (words i) s),
    )

-- ---- which are carried

sound-carries : (to : Form) (s : State) (target : List ℕ) → unsound s ≡ false → target_outside to s.run.plan s.run.held (length target) ≡ false
    → (carried_over to s target).check ≡ 0
unfolding carried_over
sound-carries to s target sound inside = rw (inside, sound) refl

pub every-sound-carries : EverySoundCarries
every-sound-carries to s target sound inside =
    let e = sound-carries to s target sound inside in
    let x = carried-alike to s target e in
    (e, x.0, x.1)

-- above 524,288 words it is outside, and up to there too short
pub no-target-for-more : NoTargetForMore
no-target-for-more to plan held words more = ⊎_elim short long (le? words network_most)
  where
    short : words ≤ network_most → target_outside to plan held words ≡ true
    short l = T_true _ (or_right (network_outside to plan words) _ (lt→ltb (words / width to) held (few_words (le? held (words / width to)))))
      where
        few_words : (held ≤ words / width to) ⊎ (words / width to < held) → words / width to < held
        few_words (inl h) = absurd (omega (arith, words-of-room to held words h))
        few_words (inr h) = h

    long : network_most < words → target_outside to plan held words ≡ true
    long l = T_true _ (or_left (network_outside to plan words) _ (or_right (ltb words (network_least to plan)) _ (lt→ltb network_most words l)))

pub refused-carries-nothing : RefusedCarriesNothing
unfolding carried_over
refused-carries-nothing to s target = by-judged (λ (c : CarriedOver). c.check ≢ 0 → c.target ≡ target)
    (λ r. record { check = r; target = target }) (tests to s target) _ (λ r ne. refl) (λ c ne. absurd (ne refl))

pub back_fits : BackFits
back_fits to s target back e same =
    let sound = (goes to s target e).0.sound in
    let long : network_outside s.form s.run.plan (length back) ≡ false = ap (network_outside s.form s.run.plan) same ∙ sound-long s sound in
    let room : ltb (length back / width s.form) s.run.held ≡ false =
    ap (λ (n : ℕ). ltb (n / width s.form) s.run.held) same ∙ T_false (held_too_many s) (sound-of s (fails (unsound s) sound)).room in
    sound-carries s.form (carried_to to s target) back (carried-alike to s target e).0
    (or-neither (network_outside s.form s.run.plan (length back)) (ltb (length back / width s.form) s.run.held) long room)
