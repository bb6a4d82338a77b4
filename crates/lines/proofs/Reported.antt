-- A word is reported exactly when one of its bytes is a newline. Assumes nothing.
use mathlib.Core.Path.{◌≡◌, refl, sym, ap, ◌∙◌}
use mathlib.Core.Bool.{Bool, true, false, ◌||◌, false≢true}
use Prim.Native.Nat.{ℕ, zero, suc, ◌/◌, ◌%◌, ◌^◌, ◌<◌}
use native.Mathlib.Nat.{div-div-eq-div-mul, pow-succ'}
use native.Mathlib.Omega.{arith}
use lib.Dec.{eqb}
use borrow.Author.Tests.{eqb-true, eq-eqb}
use Rattle.base.specs.Choice.{or-first, or-second}
use Rattle.lines.specs.Forms.{newline}
use Rattle.lines.specs.Search.{word_bytes, bytes_in, some_newline, reported}
use Rattle.lines.specs.Promises.{ReportsExactly}

-- byte i + 1 of a word is byte i of the word without its lowest one
higher : (w i : ℕ) → w / 256 ^ suc i ≡ w / 256 / 256 ^ i
higher w i = ap (λ (z : ℕ). w / z) (pow-succ' 256 i) ∙ sym (div-div-eq-div-mul w 256 (256 ^ i))

at_zero : (w : ℕ) → w / 256 ^ 0 ≡ w
at_zero w = omega arith

abbrev Some : ℕ → ℕ → Type 0
Some k w = (i : ℕ) × (i < k) × (w / 256 ^ i % 256 ≡ newline)

has_one : (k w : ℕ) → some_newline (bytes_in k w) ≡ true → Some k w
unfolding bytes_in some_newline
has_one zero w e = absurd (false≢true e)
has_one (suc k) w e = go (eqb (w % 256) newline) refl e (has_one k (w / 256))
  where
    go : (t : Bool) → eqb (w % 256) newline ≡ t → (t || some_newline (bytes_in k (w / 256))) ≡ true → (some_newline (bytes_in k (w / 256)) ≡ true → Some k (w / 256)) → Some (suc k) w
    go true q h f = (0, omega arith, ap (λ (z : ℕ). z % 256) (at_zero w) ∙ eqb-true (w % 256) newline q)
    go false q h f = let x = f h in (suc x.0, omega (arith, x.1), ap (λ (z : ℕ). z % 256) (higher w x.0) ∙ x.2)

is-told : (k w i : ℕ) → i < k → w / 256 ^ i % 256 ≡ newline → some_newline (bytes_in k w) ≡ true
unfolding bytes_in some_newline
is-told zero w i l e = absurd (omega arith)
is-told (suc k) w zero l e = or-first _ _ (eq-eqb _ _ (ap (λ (z : ℕ). z % 256) (sym (at_zero w)) ∙ e))
is-told (suc k) w (suc i) l e = or-second (eqb (w % 256) newline) _ (is-told k (w / 256) i (omega arith) (ap (λ (z : ℕ). z % 256) (sym (higher w i)) ∙ e))

pub reports-exactly : ReportsExactly
unfolding reported
reports-exactly w = (has_one word_bytes w, is-told word_bytes w)
