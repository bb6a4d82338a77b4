use Rattle.std.proofs.Common.{arith, ◌≡◌, ◌∙◌, sym, subst, ap₂, ℕ, ◌-◌, ◌<◌, suc, take, take-suc, ◌++◌, ◌∷◌, [], length, List}
use Rattle.std.proofs.lemmas.Slice.Eq.{bytes_eq-Decides}
use Rattle.lines.specs.Clauses.{line}
use Rattle.try_lines.proofs.is_line.Goals as goal

pub returns : goal.returns
returns c =
    let out = c.args.out.now in
    let form = c.args.form.now in
    let k = c.args.k in
    let last : suc (k - 1) ≡ k = omega (arith, c.if-k-eq0.false) in
    let inside : k - 1 < length out = omega (arith, c.if-out-k.false, c.if-k-eq0.false) in
    λ t.
    let same : take (k - 1) out ≡ form = (bytes_eq-Decides _ _).0 (sym c.eq.ensures ∙ t) in
    subst (λ (i : ℕ). take i out ≡ line form) last
    (take-suc out (k - 1) 0 inside ∙ ap₂ (λ (a : List ℕ) (b : ℕ). a ++ b ∷ []) same c.if-out-k-ne10.false)
