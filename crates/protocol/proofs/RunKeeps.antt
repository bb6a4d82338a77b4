-- Every step and every run keeps the base invariant and, once settled, the timed one. Assumes nothing.
use Rattle.std.specs.Prelude.{ℕ}
use Rattle.protocol.specs.Params.{Params}
use Rattle.protocol.proofs.HearKeeps.{hear-keeps}
use Rattle.protocol.proofs.EnterKeeps.{enter-keeps}
use Rattle.protocol.proofs.TickKeeps.{tick-keeps}
use Rattle.protocol.specs.Timed.{Target}
use Rattle.protocol.specs.HearTimed.{hear-timed}
use Rattle.protocol.proofs.EnterTimed.{enter-timed}
use Rattle.protocol.proofs.TickTimed.{tick-timed}
use Rattle.protocol.specs.Pass.{pass-keeps, pass-timed}
use Rattle.protocol.specs.Runs.{St, Step, hears, enters, passes, ticks_on, Steps, none, more}
use Rattle.protocol.specs.RunKeeps.{Holds, OnTime}

pub step-holds : {π : Params} {s s' : St} → Step π s s' → Holds π s → Holds π s'
step-holds (hears q v p h) i = hear-keeps h i
step-holds (enters p w h) i = enter-keeps h i
step-holds (passes h) i = pass-keeps h i
step-holds (ticks_on c h) i = tick-keeps h i

pub steps-holds : (π : Params) {s s' : St} → Steps π s s' → Holds π s → Holds π s'
steps-holds π none i = i
steps-holds π (more r x) i = step-holds x (steps-holds π r i)

step-on-time : {π : Params} {M star v : ℕ} → Target π M star v → {s s' : St} → Step π s s' → Holds π s → OnTime π M star v s → OnTime π M star v s'
step-on-time g (hears q u p h) i c = (c.0, hear-timed h g c.1)
step-on-time g (enters p w h) i c = (c.0, enter-timed h c.0 i g c.1)
step-on-time g (passes h) i c = (c.0, pass-timed h c.1)
step-on-time g (ticks_on k h) i c = (c.0, tick-timed h c.0 i g c.1)

pub steps-on-time : (π : Params) (M star v : ℕ) → Target π M star v → {s s' : St} → Steps π s s' → Holds π s → OnTime π M star v s → OnTime π M star v s'
steps-on-time π M star v g none i c = c
steps-on-time π M star v g (more r x) i c = step-on-time g x (steps-holds π r i) (steps-on-time π M star v g r i c)
