-- The words of a run and of what was read, written piece by piece. Assumes nothing.
use mathlib.Core.Path.{◌≡◌, refl, sym, ap, ◌∙◌, subst}
use mathlib.Core.Logic.{◌≢◌}
use mathlib.Core.List.{List, [], ◌∷◌, ◌++◌}
use Prim.Native.Nat.{ℕ, ◌+◌, ◌-◌, ◌≤◌}
use native.Mathlib.Omega.{arith}
use borrow.Rule.Slice.PartMut.{put_mid, Post-is}
use Rattle.std.proofs.Common.{append_assoc}
use lib.ListN.{length, take, drop, replicate, length-append, length-drop}
use lib.Seq.{length-take-le}
use Rattle.types.specs.declared.Event.{Event}
use Rattle.types.specs.declared.Run.{Run}
use Rattle.types.specs.declared.Setup.{Setup}
use Rattle.types.specs.Quantities.{table_clocks}
use Rattle.lines.specs.Clauses.{Reading, no_setup, event_reading, read_check}
use Rattle.reader.specs.Lines.{opening_or}
use Rattle.reader.proofs.Skimming.{some-opening}
use Rattle.writer.specs.Stamps.{stamp, Room, Stamped}
use Rattle.writer.proofs.Stamping.{written_then}
use Rattle.words.specs.declared.Numbers.{Numbers}
use Rattle.words.specs.Events.{event_numbers}
use Rattle.types.specs.Runs.{settled_as, plan_numbers}
use Rattle.types.specs.Traffic.{count_numbers}
use Rattle.fever.specs.Layout.{clocks_word, run_length, sum_words, run_over, setup_words, reading_length}
use Rattle.fever.specs.Clauses.{reading_left}

-- words from the first on
pub laid : (d e w : List ℕ) (b n : ℕ) → length w ≡ n → Stamped d 0 w b e → e ≡ w ++ drop n d
unfolding stamp
laid d e w b n l s = let q : 0 + length w ≡ n = omega (arith, l) in s.bytes ∙ ap (λ (k : ℕ). w ++ drop k d) q

-- words put in the place of a part are stamped there
pub part-stamped : (d e : List ℕ) (a b : ℕ) (w : List ℕ) → b ≡ a + length w → e ≡ w → Stamped d a w b (put_mid a (b - a) d e)
unfolding stamp
part-stamped d e a b w behind q =
    let h : a ≤ b = omega arith in
    record {
      behind = behind;
      bytes =
          ap (λ (l : List ℕ). put_mid a (b - a) d l) q ∙ ap (λ (l : List ℕ). take a d ++ (w ++ l)) (Post-is a b d h)
          ∙ sym (append_assoc (take a d) w (drop b d)) ∙ ap (λ (k : ℕ). take a d ++ w ++ drop k d) behind;
    }

-- ---- a run: its numbers, two tables and nine sums

module _ (numbers clocks views sums d : List ℕ) (some : length numbers ≡ clocks_word) (c : length clocks ≡ table_clocks) (v : length views ≡ table_clocks)
    (nine : length sums ≡ 9) (fits : run_length ≤ length d) where
  abbrev words : List ℕ
  words = numbers ++ (clocks ++ (views ++ sums))

  run_length_lem : length words ≡ run_length
  run_length_lem = omega (arith, length-append numbers (clocks ++ (views ++ sums)), length-append clocks (views ++ sums), length-append views sums)

  run_room : Room d 0 words
  run_room = record { fits = omega (arith, run_length_lem) }

  tables-laid : (sent delivered rest : List ℕ) → sums ≡ sent ++ (delivered ++ rest) → (e f g h i j : List ℕ) (a b c k l m : ℕ)
      → Stamped d 0 numbers a e → Stamped e a clocks b f → Stamped f b views c g → Stamped g c sent k h → Stamped h k delivered l i → Stamped i l rest m j
      → j ≡ words ++ drop run_length d
  tables-laid sent delivered rest is e f g h i j a b c k l m x y z w v u =
      laid d j words m run_length run_length_lem
      (written_then (clocks ++ (views ++ sums)) x (written_then (views ++ sums) y (written_then sums z (λ r.
      subst (λ (s : List ℕ). Stamped g c s m j) (sym is) (written_then (delivered ++ rest) w (written_then rest v (λ q. u)) (subst (Room g c) is r))))) run_room)

-- the numbers of a run, with the settled word at hand
abbrev numbers_with : Run → ℕ → List ℕ
numbers_with r s = plan_numbers r.plan ++ (r.faulty ∷ r.time ∷ s ∷ r.gst ∷ r.held ∷ [])

pub run-laid : (r : Run) (s : ℕ) (d e f g h i j : List ℕ) (a b c k l m : ℕ) → length r.clocks ≡ table_clocks → length r.views ≡ table_clocks → run_length ≤ length d
    → s ≡ settled_as r.settled → Stamped d 0 (numbers_with r s) a e → Stamped e a r.clocks b f → Stamped f b r.views c g
    → Stamped g c (count_numbers r.traffic.sent) k h → Stamped h k (count_numbers r.traffic.delivered) l i → Stamped i l (r.traffic.waits ∷ []) m j → j ≡ run_over d r
run-laid r s d e f g h i j a b c k l m n v fits q x y z w o p =
    tables-laid (numbers_with r s) r.clocks r.views (sum_words r.traffic) d refl n v refl fits
    (count_numbers r.traffic.sent) (count_numbers r.traffic.delivered) (r.traffic.waits ∷ []) refl e f g h i j a b c k l m x y z w o p
    ∙ ap (λ (t : ℕ). numbers_with r t ++ (r.clocks ++ (r.views ++ sum_words r.traffic)) ++ drop run_length d) q

-- ---- what was read: the numbers of an event or a plan, and a table

module _ (numbers clocks d : List ℕ) (some : length numbers ≡ clocks_word) (c : length clocks ≡ table_clocks) (fits : reading_length ≤ length d) where
  reading-length : length (numbers ++ clocks) ≡ reading_length
  reading-length = omega (arith, length-append numbers clocks)

  reading-room : Room d 0 (numbers ++ clocks)
  reading-room = record { fits = omega (arith, reading-length) }

  table-laid : (e f : List ℕ) (a b : ℕ) → Stamped d 0 numbers a e → Stamped e a clocks b f → f ≡ numbers ++ clocks ++ drop reading_length d
  table-laid e f a b x y = laid d f (numbers ++ clocks) b reading_length reading-length (written_then clocks x (λ r. y) reading-room)

-- of a line that may be an opening, and is none, or is one
pub setup-laid : (u : Setup) (d e f : List ℕ) (a b : ℕ) → u.plan.n ≢ 0 → length u.clocks ≡ table_clocks → reading_length ≤ length d
    → Stamped d 0 (6 ∷ 0 ∷ 0 ∷ 0 ∷ plan_numbers u.plan ++ (u.faulty ∷ [])) a e → Stamped e a u.clocks b f
    → (0 ≡ read_check (opening_or u).read) × (f ≡ reading_left d (opening_or u))
setup-laid u d e f a b some c fits y z = (
  ap (λ (x : Reading). read_check x.read) (sym (some-opening u some)),
  table-laid (6 ∷ 0 ∷ 0 ∷ 0 ∷ plan_numbers u.plan ++ (u.faulty ∷ [])) u.clocks d refl c fits e f a b y z ∙ ap (reading_left d) (sym (some-opening u some)),
)

-- zeros from the fifth word on
pub zeros_behind : (d e : List ℕ) (b : ℕ) → b ≡ 4 → length e ≡ length d → reading_length ≤ length d
    → replicate (length (take (reading_length - b) (drop b e))) 0 ≡ setup_words no_setup
zeros_behind d e b p q h =
    let fits : reading_length - b ≤ length (drop b e) = omega (arith, length-drop b e) in
    let n : length (take (reading_length - b) (drop b e)) ≡ 70 = omega (arith, length-take-le (reading_length - b) (drop b e) fits) in
    ap (λ (k : ℕ). replicate k 0) n

-- of an event: zeros behind its four numbers
pub event-laid : (v : Event) (k : Numbers) (d e f : List ℕ) (b c : ℕ) → k ≡ event_numbers v → reading_length ≤ length d
    → Stamped d 0 (k.form ∷ k.kind ∷ k.view ∷ k.processor ∷ []) b e → Stamped e b (setup_words no_setup) c f → f ≡ reading_left d (event_reading v)
event-laid v k d e f b c q fits x y =
    laid d f (k.form ∷ k.kind ∷ k.view ∷ k.processor ∷ setup_words no_setup) c reading_length refl (written_then (setup_words no_setup) x (λ r. y) (record { fits = fits }))
    ∙ ap (λ (n : Numbers). n.form ∷ n.kind ∷ n.view ∷ n.processor ∷ setup_words no_setup ++ drop reading_length d) q
