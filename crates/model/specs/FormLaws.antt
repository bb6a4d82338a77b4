-- What is known of a form of the network: the words of a held message are so many, those of the packed form give its numbers back, and room for
-- messages is room for their words. Assumes nothing.
use Rattle.std.specs.Prelude.{◌≡◌, refl, ℕ, ◌+◌, ◌*◌, ◌/◌, ◌%◌, ◌≤◌, ◌<◌, length}
use Rattle.std.proofs.Common.{arith}
use Rattle.types.specs.declared.Form.{Form}
use Rattle.types.specs.declared.Form.TheVariants.{Wide, Packed}
use Rattle.types.specs.Quantities.{n_most, width}
use Rattle.types.specs.Messages.{IsKind}
use Rattle.model.specs.State.{Held, packed_word, unpacked, held_words}

pub held-length : (form : Form) (h : Held) → length (held_words form h) ≡ width form
held-length Wide h = refl
held-length Packed h = refl

-- ---- "turning them back gives the same four numbers"

pub kind-unpacked : (k w p : ℕ) → IsKind k → p < n_most → packed_word k w p / 64 % 8 + 1 ≡ k
kind-unpacked k w p is l = omega (arith, is.0, is.1)

pub view-unpacked : (k w p : ℕ) → IsKind k → p < n_most → packed_word k w p / 512 ≡ w
view-unpacked k w p is l = omega (arith, is.0, is.1)

pub processor-unpacked : (k w p : ℕ) → p < n_most → packed_word k w p % 64 ≡ p
processor-unpacked k w p l = omega arith

-- and every word is the packed word of the three numbers that it gives
pub packed-again : (x sent : ℕ) → x ≡ packed_word (unpacked x sent).kind (unpacked x sent).view (unpacked x sent).processor
packed-again x sent = omega arith

-- ---- room for k messages is room for their words, and the other way round

pub words-of-room : (form : Form) (k n : ℕ) → k ≤ n / width form → width form * k ≤ n
words-of-room Wide k n l = omega arith
words-of-room Packed k n l = omega arith

pub room-of-words : (form : Form) (k n : ℕ) → width form * k ≤ n → k ≤ n / width form
room-of-words Wide k n l = omega arith
room-of-words Packed k n l = omega arith
