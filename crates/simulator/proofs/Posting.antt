-- Messages posted in several parts. Assumes nothing.
use mathlib.Core.Path.{◌≡◌, refl, sym, ap, ◌∙◌, subst}
use mathlib.Core.Bool.{Bool, true, false}
use mathlib.Core.List.{List, [], ◌∷◌, ◌++◌}
use Prim.Native.Nat.{ℕ, ◌+◌, ◌/◌, ◌≤◌, ◌<◌}
use native.Mathlib.Nat.{add-zero}
use native.Mathlib.Omega.{arith}
use lib.ListN.{length, length-append}
use Rattle.types.specs.declared.Message.{Message}
use Rattle.types.specs.Quantities.{width}
use Rattle.model.specs.State.{capacity}
use Rattle.buffers.specs.WordLaws.{posted-none, posted-length, posted-turn}
use Rattle.buffers.specs.Network.{appended, appended-fits}
use Rattle.types.specs.declared.Plan.{Plan}
use Rattle.types.specs.declared.Form.TheVariants.{Packed}
use Rattle.model.specs.Moves.{to_correct, certificate, to_each}
use Rattle.simulator.specs.Inner.{Posts, AllPackable}
use Rattle.simulator.proofs.Sending.{goes, correct-yes, correct-no, each_more, each-room}

pub posts-none : (h time : ℕ) (ws : List ℕ) → Posts [] h time ws h ws
posts-none h time ws = record { number = sym (add-zero h); words = posted-none Packed ws h time }

-- some, and then more
pub posts-also : (a b : List Message) (h k l time : ℕ) (ws ws' ws'' : List ℕ) → Posts a h time ws k ws' → Posts b k time ws' l ws'' → h + length a ≤ capacity Packed ws
    → Posts (a ++ b) h time ws l ws''
posts-also a b h k l time ws ws' ws'' x y room = record {
  number = omega (arith, x.number, y.number, length-append a b);
  words = posted-turn ws ws' ws'' h k time a b (a ++ b) x.words x.number y.words refl room;
}

-- the same messages by another name
pub posts-as : (a b : List Message) (h k time : ℕ) (ws ws' : List ℕ) → a ≡ b → Posts a h time ws k ws' → Posts b h time ws k ws'
posts-as a b h k time ws ws' e x = subst (λ (m : List Message). Posts m h time ws k ws') e x

pub posts-capacity : (a : List Message) (h k time : ℕ) (ws ws' : List ℕ) → Posts a h time ws k ws' → h + length a ≤ capacity Packed ws → capacity Packed ws' ≡ capacity Packed ws
posts-capacity a h k time ws ws' x room = ap (λ (n : ℕ). n / width Packed) (ap length x.words ∙ posted-length Packed ws h time a room)

-- what is left of the room for both
pub also-fits : (a b : List Message) (h k time : ℕ) (ws ws' : List ℕ) → Posts a h time ws k ws' → h + length (a ++ b) ≤ capacity Packed ws → k + length b ≤ capacity Packed ws'
also-fits a b h k time ws ws' x room =
    let l : h + length a ≤ capacity Packed ws = omega (arith, length-append a b) in
    omega (arith, x.number, posts-capacity a h k time ws ws' x l, length-append a b)

-- ---- one message

module _ (plan : Plan) (faulty : ℕ) (m : Message) (h time : ℕ) (ws : List ℕ) where
  pub sends-yes : (ws' : List ℕ) → goes plan faulty m ≡ true → h + length (to_correct plan faulty (m ∷ [])) ≤ capacity Packed ws
      → AllPackable (to_correct plan faulty (m ∷ [])) → ws' ≡ appended Packed ws h time m → Posts (to_correct plan faulty (m ∷ [])) h time ws (h + 1) ws'
  sends-yes ws' e room packs a =
      let y : to_correct plan faulty (m ∷ []) ≡ m ∷ [] = correct-yes plan faulty m e in
      let l : h < capacity Packed ws = omega (arith, ap length y, room) in
      posts-as (m ∷ []) (to_correct plan faulty (m ∷ [])) h (h + 1) time ws ws' (sym y)
      (record { number = refl; words = a ∙ appended-fits Packed ws h time m l (subst AllPackable y packs).0 })

  pub sends-no : goes plan faulty m ≡ false → Posts (to_correct plan faulty (m ∷ [])) h time ws h ws
  sends-no e = posts-as [] (to_correct plan faulty (m ∷ [])) h h time ws ws (sym (correct-no plan faulty m e)) (posts-none h time ws)

-- ---- a certificate for each processor below k, and for one more

module _ (plan : Plan) (faulty : ℕ) (stage : Bool) (w n h time : ℕ) (ws : List ℕ) (room : h + length (to_correct plan faulty (to_each stage w n)) ≤ capacity Packed ws)
    (k held : ℕ) (ws' : List ℕ) (x : Posts (to_correct plan faulty (to_each stage w k)) h time ws held ws') (low : k < n) where
  below-room : h + length (to_correct plan faulty (to_each stage w k)) ≤ capacity Packed ws
  below-room = omega (arith, each-room plan faulty stage w k n low, room)

  pub each_fits : held + length (to_correct plan faulty (certificate stage w k ∷ [])) ≤ capacity Packed ws'
  each_fits = omega (
    arith,
    x.number,
    posts-capacity (to_correct plan faulty (to_each stage w k)) h held time ws ws' x below-room,
    each-room plan faulty stage w k n low,
    room,
  )

  pub each_turn : (held' : ℕ) (ws'' : List ℕ) → Posts (to_correct plan faulty (certificate stage w k ∷ [])) held time ws' held' ws''
      → Posts (to_correct plan faulty (to_each stage w (k + 1))) h time ws held' ws''
  each_turn held' ws'' y = posts-as _ _ h held' time ws ws'' (sym (each_more plan faulty stage w k))
      (posts-also (to_correct plan faulty (to_each stage w k)) (to_correct plan faulty (certificate stage w k ∷ [])) h held held' time ws ws' ws'' x y below-room)
