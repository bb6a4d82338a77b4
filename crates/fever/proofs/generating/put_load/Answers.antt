use Rattle.std.proofs.Common.{refl, ◌∙◌}
use Rattle.fever.proofs.Loading.{byte_is, load-laid}
use Rattle.fever.proofs.generating.put_load.Goals as goal

pub returns : goal.returns
returns c =
    let made = c.in-Ok.made in
    rw c.in-Ok.is (refl, c.put_back.ensures, load-laid _ _ _ _ _ _ _ made.full (c.from.ensures ∙ byte_is made.full) c.put_slice.ensures)
