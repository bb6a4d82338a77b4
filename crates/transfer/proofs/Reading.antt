-- A buffer that is filled piece by piece holds at its start what was read.
use Rattle.std.proofs.Common.{◌≡◌, ℕ, ◌+◌, ◌≤◌, List, ◌++◌, ap, ◌∙◌, length, take, drop, le_refl, drop_at, length-take-le, take-add}
use Rattle.std.proofs.lemmas.Slice.{take-put_mid_below}
use borrow.Rule.Slice.PartMut.{put_mid, post_of}
use lib.Seq.{take-append-le}

pub read-behind : (done room n : ℕ) (held more : List ℕ) → done ≤ length held → n ≤ length more → take (done + n) (put_mid done room held more) ≡ take done held ++ take n more
read-behind done room n held more within fits =
    let after = post_of done room held in
    take-add done n (put_mid done room held more)
    ∙ ap (λ (l : List ℕ). l ++ take n (drop done (put_mid done room held more))) (take-put_mid_below _ _ _ _ _ (le_refl _) within)
    ∙ ap (λ (l : List ℕ). take done held ++ take n l) (drop_at (take done held) (more ++ after) done (length-take-le done held within))
    ∙ ap (λ (l : List ℕ). take done held ++ l) (take-append-le n more after fits)
