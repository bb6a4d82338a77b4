-- An opening in parts, as the writer's functions take it.
use Rattle.std.specs.Prelude.{ℕ, List, [], ◌∷◌, ◌++◌}
use Rattle.lines.specs.Forms.{one_blank, open_bracket, joined, spaced}

-- what its form has before the numbers of its table
abbrev pub front_form : List ℕ → List ℕ → List ℕ → List ℕ
front_form w ns set = joined (open_bracket ∷ w ∷ spaced ns ++ (set ∷ one_blank ∷ open_bracket ∷ []))
