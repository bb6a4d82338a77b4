-- Bytes moved to the start of the window. Assumes nothing.
use mathlib.Core.Path.{◌≡◌, sym, ap, ◌∙◌}
use Prim.Native.Nat.{ℕ, ◌+◌, ◌-◌, ◌≤◌}
use native.Mathlib.Nat.{zero-add}
use native.Mathlib.Omega.{arith}
use mathlib.Core.List.{List}
use lib.ListN.{length, take, drop, length-drop}
use lib.Seq.{drop_at, take-add, take-paste, length-take-le, paste}

-- those that were moved
pub kept-bytes : (w : List ℕ) (used filled : ℕ) → used ≤ filled → filled ≤ length w → take (filled - used) (paste w 0 (drop used w) (filled - used)) ≡ drop used (take filled w)
kept-bytes w used filled a b =
    let n : ℕ = filled - used in
    let s : List ℕ = drop used w in
    let l : n ≤ length s = omega (arith, length-drop used w) in
    let t : take (0 + n) (paste w 0 s n) ≡ take n s = take-paste w 0 s n (omega arith) l in
    let e : used + n ≡ filled = omega arith in
    let u : length (take used w) ≡ used = length-take-le used w (omega arith) in
    ap (λ (k : ℕ). take k (paste w 0 s n)) (sym (zero-add n)) ∙ t
    ∙ sym (ap (λ (k : ℕ). drop used (take k w)) (sym e) ∙ ap (drop used) (take-add used n w) ∙ drop_at (take used w) (take n s) used u)
