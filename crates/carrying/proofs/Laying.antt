-- The messages of a sound run, laid down one behind the other in a target of zeros. Assumes nothing.
use Rattle.std.proofs.Common.{Ok, Err}
use Rattle.std.specs.Prelude.{None, Option, Some}
use mathlib.Core.Path.{◌≡◌, refl, sym, ap, ◌∙◌, subst}
use mathlib.Core.Bool.{true, false}
use mathlib.Core.List.{List, [], ◌∷◌, ◌++◌, append-nil}
use Prim.Native.Nat.{ℕ, zero, suc, ◌+◌, ◌-◌, ◌*◌, ◌/◌, ◌≤◌, ◌<◌}
use native.Mathlib.Omega.{arith}
use native.Mathlib.Nat.{le_refl}
use lib.Dec.{ltb}
use lib.ListN.{length, take, drop, replicate, length-append, length-replicate, replicate-append-replicate}
use lib.Seq.{take_at, drop_at, drop-drop}
use borrow.Author.Tests.{ltb-false}
use Rattle.base.specs.Choice.{or_parts}
use Rattle.base.specs.Tests.{fails}
use Rattle.types.specs.declared.Message.{Message}
use Rattle.types.specs.declared.Form.{Form}
use Rattle.types.specs.Quantities.{width}
use Rattle.model.specs.State.{State, held_as, held_words, held_in, room_in, capacity, posted}
use Rattle.model.specs.Checks.{network_outside, unsound}
use Rattle.model.specs.Carrying.{target_outside, laid_out, carried_words, carried_over}
use Rattle.buffers.specs.Kinds.{stored}
use Rattle.buffers.specs.KindLaws.{kind-inside, stored-holds, stored-unknown}
use Rattle.buffers.specs.Network.{is-sayable, appended-fits}
use Rattle.buffers.specs.Zeros.{zeroed, zeroed-all}
use Rattle.model.specs.FormLaws.{held-length, words-of-room}
use Rattle.liveness.proofs.Link.{Planned}
use Rattle.liveness.proofs.Answers.{no-yes}
use Rattle.liveness.proofs.Judging.{not-ltb}
use Rattle.liveness.proofs.Soundness.{SoundRun, sound-of}
use Rattle.liveness.proofs.Lasting.{Taken, held-taken, lasts-of, lasts-planned}
use Rattle.carrying.specs.Carries.{laid_behind, carried_one, carried_first, Carries}

module _ (to : Form) (s : State) where
  -- k messages, and z words of 0 behind them
  abbrev so_far : ℕ → ℕ → List ℕ
  so_far k z = laid_out to s k ++ replicate z 0

  length-laid : (k : ℕ) → length (laid_out to s k) ≡ width to * k
  length-laid zero = omega arith
  length-laid (suc k) = length-append (laid_out to s k) (held_words to (held_in s k)) ∙ omega (arith, length-laid k, held-length to (held_in s k))

  length_so_far : (k z : ℕ) → length (so_far k z) ≡ width to * k + z
  length_so_far k z = length-append (laid_out to s k) (replicate z 0) ∙ omega (arith, length-laid k, length-replicate {A = ℕ} z 0)

  -- one more
  posted-next : (k z t : ℕ) (m : Message) → held_in s k ≡ held_as t m → posted to (so_far k (width to + z)) k t (m ∷ []) ≡ so_far (suc k) z
  unfolding posted
  posted-next k z t m e =
      let a : List ℕ = laid_out to s k in
      let w : List ℕ = so_far k (width to + z) in
      let front : take (width to * k) w ≡ a = take_at a (replicate (width to + z) 0) (width to * k) (length-laid k) in
      let n : width to * (k + 1) ≡ width to * k + width to = omega arith in
      let back : drop (width to * (k + 1)) w ≡ replicate z 0 =
      rw n (sym (drop-drop (width to) (width to * k) w) ∙ ap (drop (width to)) (drop_at a (replicate (width to + z) 0) (width to * k) (length-laid k))
      ∙ ap (drop (width to)) (sym (replicate-append-replicate (width to) z 0))
      ∙ drop_at (replicate (width to) 0) (replicate z 0) (width to) (length-replicate {A = ℕ} (width to) 0)) in
      rw (front, back, e, append-nil)

  module _ (sound : SoundRun s) (n : ℕ) (room : s.run.held ≤ n / width to) where
    abbrev left : ℕ → ℕ
    left k = n - width to * k

    planned : Planned s.run.plan s.run.faulty
    planned = lasts-planned s (lasts-of s sound)

    here : s.run.held ≤ room_in s
    here = not-ltb _ _ sound.room

    module _ (k : ℕ) (low : k < s.run.held) where
      taken : Taken s.run (held_in s k)
      taken = held-taken s sound k low

      inside : width to * suc k ≤ n
      inside = words-of-room to (suc k) n (omega (arith, room))

      -- what is left for it, and behind it
      apart : left k ≡ width to + left (suc k)
      apart = omega (arith, inside)

      fits : k < capacity to (so_far k (left k))
      fits =
          let e : length (so_far k (left k)) ≡ n = length_so_far k (left k) ∙ omega (arith, inside) in
          subst (λ (x : ℕ). k < x / width to) (sym e) (omega (arith, room))

      one : (x : Option Message) → stored s.form s.network k ≡ x → laid_behind to (so_far k (left k)) k (held_in s k).sent x ≡ so_far (suc k) (left (suc k))
      one (Some m) e =
          let h : held_in s k ≡ held_as (held_in s k).sent m = stored-holds s.form s.network k m e in
          let t : Taken s.run (held_as (held_in s k).sent m) = subst (Taken s.run) h taken in
          appended-fits to (so_far k (left k)) k (held_in s k).sent m fits
          (is-sayable to m (omega (arith, t.view, planned.views_at_most)) (omega (arith, t.processor, planned.n_at_most)))
          ∙ ap (λ (z : ℕ). posted to (so_far k z) k (held_in s k).sent (m ∷ [])) apart
          ∙ posted-next k (left (suc k)) (held_in s k).sent m h
      one None e = absurd (no-yes (sym (stored-unknown s.form s.network k (omega (arith, here)) e) ∙ kind-inside (held_in s k).kind taken.kind))

    all : (k : ℕ) → k ≤ s.run.held → carried_first s.form to s.network (replicate n 0) k ≡ so_far k (left k)
    all zero low = let e : n ≡ left 0 = omega arith in ap (λ (z : ℕ). replicate z 0) e
    all (suc k) low =
        ap (λ (ws : List ℕ). carried_one s.form to s.network ws k) (all k (omega arith)) ∙ one k low (stored s.form s.network k) refl

-- ---- by the answer

module _ (to : Form) (s : State) (target : List ℕ) where
  pub six : target_outside to s.run.plan s.run.held (length target) ≡ true → Carries to s target (Err 6) target
  unfolding carried_over
  six e = rw e (refl, refl)

  pub nine : target_outside to s.run.plan s.run.held (length target) ≡ false → unsound s ≡ true → Carries to s target (Err 9) target
  unfolding carried_over
  nine e q = rw (e, q) (refl, refl)

  pub carried : target_outside to s.run.plan s.run.held (length target) ≡ false → unsound s ≡ false → (zeros after : List ℕ) → zeros ≡ zeroed target (length target)
      → after ≡ carried_first s.form to s.network zeros s.run.held → Carries to s target (Ok tt) after
  unfolding carried_over
  carried e q zeros after z a = rw (e, q) (refl, words)
    where
      room : s.run.held ≤ capacity to target
      room = ltb-false _ _ (or_parts (network_outside to s.run.plan (length target)) (ltb (capacity to target) s.run.held) e).1

      words : after ≡ carried_words to s (length target)
      words =
          a ∙ ap (λ (ws : List ℕ). carried_first s.form to s.network ws s.run.held) (z ∙ zeroed-all target)
          ∙ all to s (sound-of s (fails (unsound s) q)) (length target) room s.run.held (le_refl s.run.held)
