-- What a packed word says, and of which message. Assumes nothing.
use mathlib.Core.Path.{◌≡◌, sym, ap, ◌∙◌, subst}
use mathlib.Core.Bool.{true, ◌&&◌}
use mathlib.Core.List.{List}
use Prim.Native.Nat.{ℕ, ◌+◌, ◌*◌, ◌/◌, ◌%◌, ◌<◌}
use lib.Dec.{T, eqb, ltb, eqb→eq, ltb→lt}
use lib.ListN.{get_or}
use Rattle.base.specs.Scan.{first}
use Rattle.base.specs.ScanLaws.{first-ext}
use Rattle.base.specs.Tests.{T-iff, T_and, T-left, T-right, eq→eqb}
use Rattle.types.specs.declared.Message.{Message}
use Rattle.types.specs.declared.Form.TheVariants.{Packed}
use Rattle.types.specs.Quantities.{n_most}
use Rattle.types.specs.Messages.{kind_of, view_in, processor_in}
use Rattle.types.proofs.MessageLaws.{kind-of-message}
use Rattle.model.specs.State.{packed_word}
use Rattle.model.specs.Checks.{is_at}
use Rattle.model.specs.FormLaws.{kind-unpacked, view-unpacked, processor-unpacked, packed-again}
use Rattle.buffers.specs.Network.{views_packable, packable, begins_with}

module _ (m : Message) (e : packable m ≡ true) where
  passes : T (packable m)
  passes = subst T (sym e) tt

  pub view-fits : view_in m < views_packable
  view-fits = ltb→lt _ _ (T-left (ltb (view_in m) views_packable) _ passes)

  pub processor-fits : processor_in m < n_most
  processor-fits = ltb→lt _ _ (T-right (ltb (view_in m) views_packable) _ passes)

  -- a word is that of the message where its three numbers are
  says_all : (x : ℕ) → T (eqb x (packed_word (kind_of m) (view_in m) (processor_in m)))
      → T (eqb (x / 64 % 8 + 1) (kind_of m) && eqb (x / 512) (view_in m) && eqb (x % 64) (processor_in m))
  says_all x t =
      let q : x ≡ packed_word (kind_of m) (view_in m) (processor_in m) = eqb→eq _ _ t in
      let a : x / 64 % 8 + 1 ≡ kind_of m = ap (λ (z : ℕ). z / 64 % 8 + 1) q ∙ kind-unpacked (kind_of m) (view_in m) (processor_in m) (kind-of-message m) processor-fits in
      let b : x / 512 ≡ view_in m = ap (λ (z : ℕ). z / 512) q ∙ view-unpacked (kind_of m) (view_in m) (processor_in m) (kind-of-message m) processor-fits in
      let c : x % 64 ≡ processor_in m = ap (λ (z : ℕ). z % 64) q ∙ processor-unpacked (kind_of m) (view_in m) (processor_in m) processor-fits in
      T_and (eqb (x / 64 % 8 + 1) (kind_of m) && eqb (x / 512) (view_in m)) (eqb (x % 64) (processor_in m))
      (T_and (eqb (x / 64 % 8 + 1) (kind_of m)) (eqb (x / 512) (view_in m)) (eq→eqb _ _ a) (eq→eqb _ _ b)) (eq→eqb _ _ c)

  all_say : (x : ℕ) → T (eqb (x / 64 % 8 + 1) (kind_of m) && eqb (x / 512) (view_in m) && eqb (x % 64) (processor_in m))
      → T (eqb x (packed_word (kind_of m) (view_in m) (processor_in m)))
  all_say x t =
      let both = T-left (eqb (x / 64 % 8 + 1) (kind_of m) && eqb (x / 512) (view_in m)) _ t in
      let a : x / 64 % 8 + 1 ≡ kind_of m = eqb→eq _ _ (T-left (eqb (x / 64 % 8 + 1) (kind_of m)) _ both) in
      let b : x / 512 ≡ view_in m = eqb→eq _ _ (T-right (eqb (x / 64 % 8 + 1) (kind_of m)) _ both) in
      let c : x % 64 ≡ processor_in m = eqb→eq _ _ (T-right (eqb (x / 64 % 8 + 1) (kind_of m) && eqb (x / 512) (view_in m)) _ t) in
      eq→eqb x (packed_word (kind_of m) (view_in m) (processor_in m)) (packed-again x 0 ∙ (λ i. packed_word (a i) (b i) (c i)))

  begins-is : (ws : List ℕ) (i : ℕ) → begins_with ws (packed_word (kind_of m) (view_in m) (processor_in m)) i ≡ is_at Packed ws m i
  begins-is ws i = let x : ℕ = get_or ws (2 * i) 0 in
      T-iff (eqb x (packed_word (kind_of m) (view_in m) (processor_in m)))
      (eqb (x / 64 % 8 + 1) (kind_of m) && eqb (x / 512) (view_in m) && eqb (x % 64) (processor_in m)) (says_all x) (all_say x)

  -- so the first that begins with its word is the first of equal ones
  pub first-beginning : (ws : List ℕ) (h : ℕ) → first (begins_with ws (packed_word (kind_of m) (view_in m) (processor_in m))) h ≡ first (is_at Packed ws m) h
  first-beginning ws h = first-ext _ _ h (λ i l. begins-is ws i)
