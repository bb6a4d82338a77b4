use Rattle.simulator.proofs.Posting.{also-fits, posts-also, posts-as}
use Rattle.simulator.proofs.Sending.{sent-both}
use Rattle.model.specs.State.{entered_word}
use Rattle.buffers.specs.Tally.{added-word}
use Rattle.model.specs.Moves.{to_correct}
use Rattle.types.specs.declared.Message.TheVariants.{View, Vote}
use lib.ListN.{length, length-append}
use native.Mathlib.Omega.{arith}
use mathlib.Core.List.{[], ◌∷◌}
use mathlib.Core.Path.{◌≡◌, ◌∙◌, sym, ap, subst}
use mathlib.Core.Bool.{true}
use Rattle.base.specs.Members.{every_first, every-second}
use Rattle.types.specs.declared.Message.{Message}
use Rattle.buffers.specs.Network.{packable}
use Rattle.simulator.specs.Inner.{AllPackable}
use Rattle.simulator.proofs.moves.enter_initial.Goals as goal

pub send-h-requires : goal.send-h-requires
send-h-requires c = (c.requires.0, omega (arith, c.requires.2, ap length (sent-both c.args.plan c.args.faulty c.args.p c.args.w), length-append (to_correct c.args.plan c.args.faulty (View c.args.w c.args.p ∷ [])) (to_correct c.args.plan c.args.faulty (Vote c.args.w c.args.p ∷ []))), every_first (λ (m : Message). packable m ≡ true) (to_correct c.args.plan c.args.faulty (View c.args.w c.args.p ∷ [])) (to_correct c.args.plan c.args.faulty (Vote c.args.w c.args.p ∷ [])) (subst AllPackable (sent-both c.args.plan c.args.faulty c.args.p c.args.w) c.requires.3))

pub send-requires : goal.send-requires
send-requires c = (c.requires.0, also-fits _ _ _ _ _ _ _ c.send-h.ensures (rw (sent-both c.args.plan c.args.faulty c.args.p c.args.w) at c.requires.2), every-second (λ (m : Message). packable m ≡ true) (to_correct c.args.plan c.args.faulty (View c.args.w c.args.p ∷ [])) (to_correct c.args.plan c.args.faulty (Vote c.args.w c.args.p ∷ [])) (subst AllPackable (sent-both c.args.plan c.args.faulty c.args.p c.args.w) c.requires.3))

pub returns : goal.returns
returns c = (posts-as _ _ _ _ _ _ _ (sym (sent-both c.args.plan c.args.faulty c.args.p c.args.w)) (posts-also _ _ _ _ _ _ _ _ _ c.send-h.ensures c.send.ensures (omega (arith, c.requires.2, ap length (sent-both c.args.plan c.args.faulty c.args.p c.args.w), length-append (to_correct c.args.plan c.args.faulty (View c.args.w c.args.p ∷ [])) (to_correct c.args.plan c.args.faulty (Vote c.args.w c.args.p ∷ []))))), c.enter.ensures ∙ added-word c.args.tally.now c.args.w entered_word c.args.p c.requires.1)
