-- What `generate` hands back: its bytes are the load's lines, and its run the load's. Assumes nothing.
use mathlib.Core.Path.{◌≡◌, sym, ap, ◌∙◌, subst}
use mathlib.Core.List.{List}
use Prim.Native.Nat.{ℕ}
use native.Mathlib.Omega.{arith}
use lib.ListN.{length, take, drop}
use lib.Seq.{take_at}
use Rattle.lines.specs.Splitting.{input_lines}
use Rattle.lines.specs.Promises.{schedule_of}
use Rattle.model.specs.State.{state_of}
use Rattle.loads.specs.Loads.{Point, point_of, Load, whole_load}
use Rattle.workload.specs.Promises.{AllAccepted, standing_after, StandsAt, GeneratedAccepted}
use Rattle.workload.proofs.Following.{load-accepted, load-leads}

pub generated-accepted : GeneratedAccepted
generated-accepted u before steps settle seed out tally network r after g table below x long =
    let l : Load = whole_load u before steps settle seed (length out) in
    let k : length (schedule_of l.forms) ≡ r.bytes = sym g.1.put.bytes in
    let e : schedule_of l.forms ≡ take r.bytes after =
    sym (ap (take r.bytes) g.1.put.text ∙ take_at (schedule_of l.forms) (drop r.bytes out) r.bytes k) in
    record {
      accepts = subst (λ (w : List ℕ). AllAccepted x (input_lines w)) e (load-accepted u before steps settle seed (length out) table below x long);
      leads = λ some'.
          subst (λ (w : List ℕ). StandsAt (point_of (state_of r.run tally network) r.seed r.step) (standing_after x (input_lines w))) e
          (subst (λ (p : Point). StandsAt p (standing_after x (input_lines (schedule_of l.forms)))) (sym g.1.point)
          (load-leads u before steps settle seed (length out) table below x long
          (λ z. let h : length (schedule_of l.forms) ≡ 0 = ap (λ (fs : List (List ℕ)). length (schedule_of fs)) z in omega (arith, ap length e))));
    }
