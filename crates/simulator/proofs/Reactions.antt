-- What the pacemaker's step says of a reaction. Assumes nothing.
use mathlib.Core.Path.{◌≡◌, refl, sym, ap, ◌∙◌}
use mathlib.Core.Bool.{true, false}
use Prim.Native.Nat.{ℕ, ◌<◌}
use Rattle.types.specs.declared.Plan.{Plan}
use Rattle.types.specs.declared.Processor.{Processor}
use Rattle.types.specs.declared.Input.{Input}
use Rattle.types.specs.declared.Input.TheVariants.{Tick}
use Rattle.types.specs.declared.Sends.{Sends}
use Rattle.types.specs.declared.Sends.TheVariants.{Nothing}
use Rattle.types.specs.Quantities.{correct}
use Rattle.model.specs.Moves.{Entry, stay, into}
use Rattle.model.specs.Checks.{at_end}
use Rattle.model.specs.Processors.{Moved, Gives, messages_of, clock_at, entry_by, moving, processor_unsound, stepped, moving_by}
use Rattle.pacemaker.specs.Steps.{Named}
use Rattle.pacemaker.proofs.AnswerLaws.{steps, sent-before-end, refused-at-end, sent-messages, tick-clock}
use Rattle.simulator.specs.declared.Move.{Move}
use Rattle.std.specs.Prelude.{Result, Ok, Err}
use Rattle.simulator.specs.Inner.{Reacts, arrival_ends, Arrives}

moving-number : (plan : Plan) (p clock view : ℕ) (e : Entry) → (moving plan p clock view e).processor.number ≡ p
moving-number plan p clock view stay = refl
moving-number plan p clock view (into w) = refl

module _ (plan : Plan) (c : Processor) (i : Input) (sound : processor_unsound plan c ≡ false) (low : c.number < plan.n) (named : Named plan i) where
  pub reacts-sent : (d : Processor) (x : Sends) → Gives (stepped plan c i) d (Ok x) → Reacts plan c (moving_by plan c i) (Ok (record { processor = d; sends = x }))
  reacts-sent d x g =
      let e : at_end plan (moving_by plan c i).processor.clock ≡ false = sent-before-end plan c i sound low named d x g in
      let m : stepped plan c i ≡ moving_by plan c i = steps plan c i sound low named e in
      let p : d ≡ (moving_by plan c i).processor = g.processor ∙ ap (λ (y : Moved). y.processor) m in
      (e, p, ap (λ (k : ℕ). messages_of k x) (sym (ap (λ (y : Processor). y.number) p ∙ number_kept)) ∙ sent-messages g ∙ ap (λ (y : Moved). y.sent) m)
    where
      number_kept : (moving_by plan c i).processor.number ≡ c.number
      number_kept = moving-number plan c.number (clock_at c i) c.view (entry_by plan c i)

  pub reacts_refused : (d : Processor) (r : ℕ) → Gives (stepped plan c i) d (Err r) → Reacts plan c (moving_by plan c i) (Err 17)
  reacts_refused d r g = ((refused-at-end plan c i sound low named d r g).1, refl)

module _ (plan : Plan) (faulty : ℕ) (c : Processor) where
  same : correct plan faulty c.number ≡ true → at_end plan (moving_by plan c Tick).processor.clock ≡ arrival_ends plan faulty c
  same e = rw (e, tick-clock plan c) refl

  pub arrives-correct : correct plan faulty c.number ≡ true → (x : Result Move ℕ) → Reacts plan c (moving_by plan c Tick) x → Arrives plan faulty c x
  arrives-correct e (Ok x) h = (sym (same e) ∙ h.0, h.1 ∙ rw e refl, h.2 ∙ rw e refl)
  arrives-correct e (Err k) h = (sym (same e) ∙ h.0, h.1)

  pub arrives-faulty : correct plan faulty c.number ≡ false → Arrives plan faulty c (Ok (record { processor = c; sends = Nothing }))
  arrives-faulty e = (rw e refl, rw e refl, rw e refl)
