-- How many bytes the forms have. Assumes nothing.
use Rattle.std.proofs.Common.{◌≡◌, ℕ, suc, ◌+◌, List, [], ◌∷◌, length, refl, arith, length-append}
use Rattle.types.specs.declared.Message.{Message}
use Rattle.types.specs.declared.Event.TheVariants.{Deliver, Sign, Show, Settle, Tick}
use Rattle.types.specs.Messages.{view_in, processor_in}
use Rattle.lines.specs.Decimal.{decimal}
use Rattle.lines.specs.Forms.{newline, kind_word, message_form, event_form}
use Rattle.lines.specs.Clauses.{line}

pub message-bytes : (m : Message) (k v p a b : ℕ) → k ≡ length (kind_word m) → v ≡ view_in m → a ≡ length (decimal v) → p ≡ processor_in m → b ≡ length (decimal p)
    → k + a + b + 4 ≡ length (message_form m)
unfolding message_form
message-bytes m k v p a b hk hv ha hp hb = rw (hk, ha, hb, hv, hp) (simp length-append (omega arith))

pub deliver-bytes : (m : Message) (k : ℕ) → k ≡ length (message_form m) → 10 + k ≡ length (event_form (Deliver m))
unfolding event_form
deliver-bytes m k h = simp length-append (omega arith)

pub sign-bytes : (m : Message) (k : ℕ) → k ≡ length (message_form m) → 7 + k ≡ length (event_form (Sign m))
unfolding event_form
sign-bytes m k h = simp length-append (omega arith)

pub show-bytes : (m : Message) (k : ℕ) → k ≡ length (message_form m) → 7 + k ≡ length (event_form (Show m))
unfolding event_form
show-bytes m k h = simp length-append (omega arith)

pub settle-bytes : 8 ≡ length (event_form Settle)
unfolding event_form
settle-bytes = refl

pub tick-bytes : (n k : ℕ) → k ≡ length (decimal n) → 7 + k ≡ length (event_form (Tick n))
unfolding event_form
tick-bytes n k h = simp length-append (omega arith)

-- and with the newline
pub line-bytes : (form : List ℕ) (j k : ℕ) → j + k ≡ length form → suc j + k ≡ length (line form)
line-bytes form j k h = omega (arith, length-append form (newline ∷ []))
