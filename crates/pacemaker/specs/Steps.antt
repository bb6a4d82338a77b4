-- A step of one processor, as far as each function of it goes.
use Rattle.std.specs.Prelude.{◌≡◌, true, ℕ, ◌<◌}
use Rattle.types.specs.declared.Plan.{Plan}
use Rattle.types.specs.declared.Processor.{Processor}
use Rattle.types.specs.declared.Input.{Input}
use Rattle.types.specs.declared.Input.TheVariants.{Tick, Vc, Qc}
use Rattle.types.specs.Quantities.{initial}
use Rattle.model.specs.Checks.{judged}
use Rattle.model.specs.Moves.{into}
use Rattle.model.specs.Processors.{Moved, moving, moving_by, view_checks, end_checks, refusing}

-- the move m of c, unless check 17 refuses it
abbrev pub ending : Plan → Processor → Moved → Moved
ending plan c m = judged (refusing c) (end_checks plan m.processor.clock) m

-- the entry of c into w, unless check 17 refuses it
abbrev pub entry_into : Plan → Processor → ℕ → Moved
entry_into plan c w = ending plan c (moving plan c.number c.clock c.view (into w))

-- the step of a sound processor below n
abbrev pub stepping : Plan → Processor → Input → Moved
stepping plan c i = judged (refusing c) (view_checks plan i) (ending plan c (moving_by plan c i))

-- the view that an input names passes checks 10 and 11
abbrev pub Named : Plan → Input → Type 0
Named plan Tick = Unit {0}
Named plan (Vc w) = (w < plan.views) × (initial plan w ≡ true)
Named plan (Qc w) = w < plan.views
