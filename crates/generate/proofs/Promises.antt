-- A load that is written in pieces is the load made at once, so whoever reads it accepts it. Assumes nothing.
use mathlib.Core.Path.{◌≡◌, refl, sym, ap, ap₂, ◌∙◌, subst}
use mathlib.Core.Bool.{Bool, true}
use mathlib.Core.Logic.{◌≢◌}
use mathlib.Core.List.{List, [], ◌∷◌, ◌++◌}
use Prim.Native.Nat.{ℕ, zero, suc, ◌+◌, ◌-◌, ◌≤◌, ◌<◌}
use native.Mathlib.Omega.{arith}
use lib.ListN.{length, length-append}
use Rattle.types.specs.declared.Setup.{Setup}
use Rattle.model.specs.State.{accepted}
use Rattle.model.specs.Opening.{opening}
use Rattle.liveness.proofs.Answers.{no-yes}
use Rattle.lines.specs.Forms.{newline, setup_form}
use Rattle.lines.specs.Splitting.{input_lines}
use Rattle.lines.specs.Promises.{schedule_of}
use Rattle.reader.proofs.Lengths.{setup-length}
use Rattle.loads.specs.Loads.{Point, Load, line_bytes, followed, further_load, whole_load}
use Rattle.loads.proofs.Turns.{by_whole}
use Rattle.workload.specs.Promises.{AllAccepted, standing_after, StandsAt, gone_on}
use Rattle.workload.proofs.Making.{setup-formed}
use Rattle.workload.proofs.Endings.{line-more}
use Rattle.workload.proofs.Promises.{load-accepted, load-leads, first-pieces-join}
use Rattle.generate.specs.Pieces.{start_state, piece_least, piece}
use Rattle.generate.specs.Promises.{lines_of, Uncut, WrittenAccepted}

-- lines behind lines have no fewer bytes
longer : (a b : List (List ℕ)) → length (schedule_of a) ≤ length (schedule_of (a ++ b))
longer [] b = omega arith
longer (f ∷ a) b = omega (arith, line-more f a, line-more f (a ++ b), longer a b)

module _ (u : Setup) (steps settle seed room : ℕ)
    (holds : accepted (opening u start_state).answer ≡ true → line_bytes (setup_form u) ≤ room) where
  abbrev whole : ℕ → Load
  whole bytes = whole_load u start_state steps settle seed bytes

  abbrev piece_at : ℕ → Load
  piece_at k = piece steps settle room (whole room) k

  abbrev lines_to : ℕ → List (List ℕ)
  lines_to k = lines_of steps settle room (whole room) k

  -- a first piece that ends for want of bytes has the opening's line
  has-line : (bytes : ℕ) → room ≤ bytes → (whole bytes).full ≡ true → (whole bytes).forms ≢ []
  has-line bytes h =
      by_whole (λ (l : Load). l.full ≡ true → l.forms ≢ []) u start_state steps settle seed bytes
      (λ e y. no-yes (sym y)) (λ e k y. absurd (omega (arith, holds e))) (λ e k y z. absurd (omega (arith, ap length z)))

  -- the first k + 1 pieces are the load with so many bytes
  record Joined (k : ℕ) : Type 0 where
    bytes : ℕ
    least : room ≤ bytes
    most : bytes ≤ length (schedule_of (lines_to (suc k))) + room
    load : whole bytes ≡ record { forms = lines_to (suc k); point = (piece_at k).point; full = (piece_at k).full }

  joined_one : Joined 0
  unfolding lines_of piece
  joined_one = record { bytes = room; least = omega arith; most = omega arith; load = refl }

  joined_more : (k : ℕ) → (piece_at k).full ≡ true → Joined k → Joined (suc k)
  unfolding lines_of piece
  joined_more k e j =
      let p : Load = whole j.bytes in
      let used : ℕ = length (schedule_of (lines_to (suc k))) in
      let full : p.full ≡ true = ap (λ (l : Load). l.full) j.load ∙ e in
      let b : ℕ = used + room - j.bytes in
      let s : j.bytes + b ≡ used + room = omega (arith, j.most) in
      let r : used + room - used ≡ room = omega arith in
      record {
        bytes = used + room;
        least = omega arith;
        most = omega (arith, longer (lines_to (suc k)) (piece_at (suc k)).forms);
        load =
            ap whole (sym s) ∙ first-pieces-join u start_state steps settle seed j.bytes b full (has-line j.bytes j.least full)
            ∙ ap₂ (gone_on steps settle) j.load s
            ∙ ap (λ (n : ℕ). followed (lines_to (suc k)) (further_load steps settle (piece_at k).point n)) r;
      }

  joined : (k : ℕ) → ((j : ℕ) → j < k → (piece_at j).full ≡ true) → Joined k
  joined zero h = joined_one
  joined (suc k) h = joined_more k (h k (omega arith)) (joined k (λ j l. h j (omega arith)))

-- a setup that opens has a form, and a line of any form has room
opens-short : (u : Setup) (room : ℕ) → piece_least ≤ room → accepted (opening u start_state).answer ≡ true → line_bytes (setup_form u) ≤ room
opens-short u room h a = omega (arith, setup-length u (setup-formed u start_state (rw a tt)), length-append (setup_form u) (newline ∷ []))

pub uncut : Uncut
uncut u steps settle seed room least tally network r c =
    let k : ℕ = c.leads.earlier in
    let j : Joined u steps settle seed room (opens-short u room least) k = joined u steps settle seed room (opens-short u room least) k c.leads.further in (
      j.bytes,
      j.load ∙ ap₂ (λ (x : Point) (full : Bool). record { forms = lines_of steps settle room (whole_load u start_state steps settle seed room) (suc k); point = x; full = full })
          (sym c.leads.last.point) (sym c.leads.last.full ∙ c.over),
    )

pub written-accepted : WrittenAccepted
written-accepted u steps settle seed r w table below x long =
    let made = uncut u steps settle seed w.room w.least w.tally w.network r w.whole.1 in
    record {
      accepts = subst (λ (l : Load). AllAccepted x (input_lines (schedule_of l.forms))) made.1
          (load-accepted u start_state steps settle seed made.0 table below x long);
      leads = λ some'.
          subst (λ (l : Load). l.forms ≢ [] → StandsAt l.point (standing_after x (input_lines (schedule_of l.forms)))) made.1
          (load-leads u start_state steps settle seed made.0 table below x long)
          (λ z. absurd (omega (arith, ap (λ (fs : List (List ℕ)). length (schedule_of fs)) z)));
    }
