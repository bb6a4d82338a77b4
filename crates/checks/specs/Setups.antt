-- The answer of checks 2 to 8 to a setup and the lengths of the lent buffers.
use Rattle.std.specs.Prelude.{Err, Ok, Result, ℕ, length}
use Rattle.types.specs.declared.Form.{Form}
use Rattle.types.specs.declared.Setup.{Setup}
use Rattle.model.specs.State.{State}
use Rattle.model.specs.Checks.{judged}
use Rattle.model.specs.Opening.{setup_checks}

-- the first of them whose sentence holds, as an error
unfoldable pub setup_check : Form → Setup → ℕ → ℕ → Result (Unit {0}) ℕ
setup_check form u tally network = judged (λ r. Err r) (setup_checks form u tally network) (Ok tt)

-- the same of the buffers at hand
abbrev pub opening_check : Setup → State → Result (Unit {0}) ℕ
opening_check u s = setup_check s.form u (length s.tally) (length s.network)
