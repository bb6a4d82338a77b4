-- What making a load owes to its definition.
use Rattle.std.specs.Prelude.{◌≡◌, List, Result, Ok, Err, ℕ, ◌<◌}
use Rattle.model.specs.State.{State, state_of}
use Rattle.loads.specs.Loads.{Load, point_of}
use Rattle.loads.specs.Clauses.{PutLoad}
use Rattle.workload.specs.declared.Generated.{Generated}

-- that the load l was made in the lent bytes `out`, as this check, 0, refuses nothing: it left r, the lent buffers and the bytes `after`. Or that the
-- check refused it: the run and the lent buffers s, and the bytes, stayed as they were
abbrev pub Generates : ℕ → Load → State → List ℕ → List ℕ → List ℕ → Result Generated ℕ → List ℕ → Type 0
Generates check l s out tally network (Ok r) after =
    (check ≡ 0) × PutLoad l out (point_of (state_of r.run tally network) r.seed r.step) r.full r.bytes after
Generates check l s out tally network (Err k) after = (k ≡ check) × (0 < k) × (state_of s.run tally network ≡ s) × (after ≡ out)
