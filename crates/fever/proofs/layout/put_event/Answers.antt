use mathlib.Core.Path.{refl, ◌∙◌}
use Rattle.fever.proofs.Laying.{part-stamped, zeros_behind, event-laid}
use Rattle.fever.proofs.layout.put_event.Goals as goal

pub returns : goal.returns
returns c = (refl, event-laid c.args.event _ _ _ _ _ _ c.numbers_of-form.ensures c.requires c.put_slice-next.ensures (part-stamped _ _ _ _ _ (rw c.put_slice-next.ensures.behind refl) (c.fill.ensures.after (λ y q. q) ∙ zeros_behind c.args.words.now _ _ c.put_slice-next.ensures.behind c.put_slice-next.auto.out c.requires)))
