-- The form of an opening, by the parts in which it is written. Assumes nothing.
use Rattle.std.proofs.Common.{◌≡◌, ℕ, ◌+◌, ◌<◌, List, [], ◌∷◌, ◌++◌, length, sym, ap, ◌∙◌, subst, append_assoc, arith, length-append}
use Rattle.lines.specs.Forms.{open_bracket, close_bracket, one_blank, joined, spaced, further_clocks, clocks_form, opening_form}
use Rattle.writer.specs.Setups.{front_form}
use Rattle.writer.specs.Stamps.{Room, Stamped}
use Rattle.writer.proofs.Clocks.{further-length}
use Rattle.writer.proofs.Spacing.{joined-spaced}

-- ---- what stands before the table's numbers

abbrev pub front_parts : List ℕ → List ℕ → List ℕ → List ℕ
front_parts w ns set = open_bracket ++ (w ++ (joined (spaced ns) ++ (set ++ (one_blank ++ open_bracket))))

front-parts : (w ns set : List ℕ) → front_form w ns set ≡ front_parts w ns set
front-parts w ns set = ap (λ (z : List ℕ). open_bracket ++ (w ++ z)) (joined-spaced ns (set ∷ one_blank ∷ open_bracket ∷ []))

pub front-room : {d : List ℕ} (w ns set : List ℕ) → Room d 0 (front_form w ns set) → Room d 0 (front_parts w ns set)
front-room {d} w ns set = subst (Room d 0) (front-parts w ns set)

pub front-stamped : {d e : List ℕ} {b : ℕ} (w ns set : List ℕ) → Stamped d 0 (front_parts w ns set) b e → Stamped d 0 (front_form w ns set) b e
front-stamped {d} {e} {b} w ns set = subst (λ (z : List ℕ). Stamped d 0 z b e) (sym (front-parts w ns set))

pub front_bytes : (w ns set : List ℕ) (k s : ℕ) → k ≡ length (joined (spaced ns)) → s ≡ length set → 3 + length w + k + s ≡ length (front_form w ns set)
front_bytes w ns set k s h i =
    omega (
      arith,
      ap length (front-parts w ns set),
      length-append w (joined (spaced ns) ++ (set ++ (one_blank ++ open_bracket))),
      length-append (joined (spaced ns)) (set ++ (one_blank ++ open_bracket)),
      length-append set (one_blank ++ open_bracket),
    )

-- ---- all of it

abbrev pub opening_parts : List ℕ → List ℕ → List ℕ → List ℕ → List ℕ
opening_parts w ns set table = front_form w ns set ++ (table ++ (close_bracket ++ close_bracket))

opening-parts : (w ns set table : List ℕ) → opening_form w ns set table ≡ opening_parts w ns set table
opening-parts w ns set table =
    let end : List ℕ = table ++ (close_bracket ++ close_bracket) in
    let gap : List ℕ = one_blank ++ open_bracket in
    ap (λ (z : List ℕ). open_bracket ++ (w ++ z)) (joined-spaced ns (set ∷ one_blank ∷ open_bracket ∷ table ∷ close_bracket ∷ close_bracket ∷ []))
    ∙ sym (ap (λ (z : List ℕ). z ++ end) (front-parts w ns set) ∙ ap (λ (z : List ℕ). open_bracket ++ z)
    (append_assoc w (joined (spaced ns) ++ (set ++ gap)) end ∙ ap (λ (z : List ℕ). w ++ z)
    (append_assoc (joined (spaced ns)) (set ++ gap) end ∙ ap (λ (z : List ℕ). joined (spaced ns) ++ z) (append_assoc set gap end))))

pub opening-room : {d : List ℕ} (w ns set table : List ℕ) → Room d 0 (opening_form w ns set table) → Room d 0 (opening_parts w ns set table)
opening-room {d} w ns set table = subst (Room d 0) (opening-parts w ns set table)

pub opening-stamped : {d e : List ℕ} {b : ℕ} (w ns set table : List ℕ) → Stamped d 0 (opening_parts w ns set table) b e → Stamped d 0 (opening_form w ns set table) b e
opening-stamped {d} {e} {b} w ns set table = subst (λ (z : List ℕ). Stamped d 0 z b e) (sym (opening-parts w ns set table))

pub opening-bytes : (w ns set cs : List ℕ) (f k : ℕ) → 0 < length cs → f ≡ length (front_form w ns set) → k ≡ length (further_clocks cs)
    → f + k + 1 ≡ length (opening_form w ns set (clocks_form cs))
opening-bytes w ns set cs f k p h i =
    omega (
      arith,
      ap length (opening-parts w ns set (clocks_form cs)),
      length-append (front_form w ns set) (clocks_form cs ++ (close_bracket ++ close_bracket)),
      length-append (clocks_form cs) (close_bracket ++ close_bracket),
      further-length cs p,
    )
