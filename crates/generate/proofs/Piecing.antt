-- Pieces of a load one after the other. Assumes nothing.
use Rattle.std.specs.Prelude.{Ok, Err}
use mathlib.Core.Path.{◌≡◌, refl, sym, ap, ap₂, ◌∙◌, subst}
use mathlib.Core.Logic.{⊎_elim}
use mathlib.Core.Bool.{Bool, true, false, cond}
use Prim.Native.Nat.{ℕ, suc, ◌≤◌, ◌<◌}
use native.Mathlib.Omega.{arith}
use mathlib.Core.List.{List}
use lib.ListN.{length, replicate}
use Rattle.base.specs.Tests.{le?, T_true, T_false}
use Rattle.types.specs.declared.Setup.{Setup}
use Rattle.model.specs.State.{State, state_of, check_of}
use Rattle.model.specs.Checks.{unsound_for_good}
use Rattle.model.specs.Opening.{opening}
use Rattle.printout.specs.declared.Session.{Session}
use Rattle.printout.specs.Printout.{unopened_session, tally_lent, network_lent}
use Rattle.loads.specs.Loads.{Point, point_of, Load, halted, further_load, whole_load}
use Rattle.loads.specs.Clauses.{PutLoad}
use Rattle.loads.proofs.Turns.{further-unsound}
use Rattle.workload.specs.declared.Generated.{Generated}
use Rattle.workload.specs.Clauses.{Generates}
use Rattle.generate.specs.Pieces.{start_state, piece_least, piece, stood, Leaves, PiecesLead, Completes, Resumes, WritesWhole}
use Rattle.generate.proofs.Steps.{further_past}

-- where a piece that was written left the load
leaves : {l : Load} {out tally network : List ℕ} {r : Generated} {after : List ℕ} → PutLoad l out (stood r tally network) r.full r.bytes after → Leaves l tally network r
leaves p = record { point = p.point; full = p.full }

-- a piece that is refused leaves the load where it stood, and it has ended
pub stays : {tally network tally' network' : List ℕ} {k : ℕ} (steps settle room : ℕ) (r : Generated)
    → k ≡ cond (unsound_for_good (state_of r.run tally network)) 9 0 → 0 < k → state_of r.run tally' network' ≡ state_of r.run tally network
    → Leaves (further_load steps settle (stood r tally network) room) tally' network'
    (record { run = r.run; seed = r.seed; step = r.step; bytes = r.bytes; full = false })
stays {tally} {network} {k = k} steps settle room r e some' same =
    let h : further_load steps settle (stood r tally network) room ≡ halted (stood r tally network) false =
    further-unsound steps settle (stood r tally network) room (unsound (unsound_for_good (state_of r.run tally network)) e) in
    record { point = ap (λ (s : State). point_of s r.seed r.step) same ∙ ap (λ (l : Load). l.point) (sym h); full = ap (λ (l : Load). l.full) (sym h) }
  where
    unsound : (b : Bool) → k ≡ cond b 9 0 → b ≡ true
    unsound true e = refl
    unsound false e = absurd (omega (arith, e, some'))

module _ (steps settle room : ℕ) where
  -- the first piece
  pub leads-none : (tally network : List ℕ) (r : Generated) (first : Load) → Leaves first tally network r → PiecesLead steps settle room first tally network r
  unfolding piece
  leads-none tally network r first h = record { earlier = 0; further = λ j l. absurd (omega arith); last = h }

  -- one piece more, by where it left the load
  pub leads-on : {bytes : ℕ} {tally network tally' network' : List ℕ} {r r' : Generated} (first : Load)
      → PiecesLead steps settle room first tally network r → r.full ≡ true → bytes ≡ room
      → Leaves (further_load steps settle (stood r tally network) bytes) tally' network' r' → PiecesLead steps settle room first tally' network' r'
  unfolding piece
  leads-on {tally' = tally'} {network' = network'} {r' = r'} first h e o g = record {
    earlier = suc h.earlier;
    further = λ j l. ⊎_elim (h.further j)
        (λ (q : h.earlier < suc j). ap (λ (k : ℕ). (piece steps settle room first k).full) (at j l q) ∙ sym h.last.full ∙ e) (le? (suc j) h.earlier);
    last = subst (λ (l : Load). Leaves l tally' network' r') (ap₂ (further_load steps settle) h.last.point o) g;
  }
    where
      at : (j : ℕ) → j < suc h.earlier → h.earlier < suc j → j ≡ h.earlier
      at j l q = omega arith

  -- the same by what it wrote
  pub leads-more : {out tally network tally' network' : List ℕ} {r r' : Generated} {after : List ℕ} (first : Load)
      → PiecesLead steps settle room first tally network r → r.full ≡ true → length out ≡ room
      → PutLoad (further_load steps settle (stood r tally network) (length out)) out (stood r' tally' network') r'.full r'.bytes after
      → PiecesLead steps settle room first tally' network' r'
  leads-more first h e o p = leads-on first h e o (leaves p)

-- a piece without a step is the last one
pub still-over : {out tally' network' : List ℕ} {r' : Generated} {after : List ℕ} (steps settle room : ℕ) (x : Point) → piece_least ≤ room
    → PutLoad (further_load steps settle x room) out (stood r' tally' network') r'.full r'.bytes after → r'.step ≤ x.step → r'.full ≡ false
still-over {r' = r'} steps settle room x h p l =
    T_false r'.full (λ t.
    let rises : x.step < (further_load steps settle x room).point.step = further_past steps settle x room h (sym p.full ∙ T_true r'.full t) in
    omega (arith, ap (λ (y : Point). y.step) p.point))

module _ {tally network : List ℕ} {s : Session} (u : Setup) (blank : s ≡ unopened_session) (t : tally ≡ replicate tally_lent 0) (n : network ≡ replicate network_lent 0) where
  -- the program's start
  start : state_of s.run tally network ≡ start_state
  start i = state_of (blank i).run (t i) (n i)

  -- the first piece, and those behind it
  pub writes-whole : {out tally₁ network₁ after tally' network' : List ℕ} {f r : Generated} (steps settle seed : ℕ)
      → Generates (check_of (opening u (state_of s.run tally network)).answer) (whole_load u (state_of s.run tally network) steps settle seed (length out))
      (state_of s.run tally network) out tally₁ network₁ (Ok f) after
      → length after ≡ length out → Resumes steps settle (length after) tally₁ network₁ f tally' network' r
      → WritesWhole u steps settle seed (length out) tally' network' (Ok r)
  writes-whole {out} {tally' = tally'} {network'} {r = r} steps settle seed g o h =
      let first : Load = whole_load u (state_of s.run tally network) steps settle seed (length out) in (
        ap (λ (y : State). check_of (opening u y).answer) (sym start) ∙ g.0,
        subst (λ (y : State). Completes steps settle (length out) (whole_load u y steps settle seed (length out)) tally' network' r) start
            (subst (λ (k : ℕ). Completes steps settle k first tally' network' r) o (h first (leaves g.1))),
      )

  -- an opening that is refused
  pub writes-none : {out tally' network' after : List ℕ} {k : ℕ} (steps settle seed : ℕ)
      → Generates (check_of (opening u (state_of s.run tally network)).answer) (whole_load u (state_of s.run tally network) steps settle seed (length out))
      (state_of s.run tally network) out tally' network' (Err k) after
      → WritesWhole u steps settle seed (length out) tally' network' (Err k)
  writes-none {tally' = tally'} {network'} steps settle seed g = (
    g.0 ∙ ap (λ (y : State). check_of (opening u y).answer) start,
    g.1,
    subst (λ (y : State). state_of y.run tally' network' ≡ y) start g.2,
  )
