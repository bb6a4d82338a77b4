-- Processors that enter one after another: what those below k have left, and one processor more. Assumes nothing.
use mathlib.Core.Path.{◌≡◌, refl, sym, ap, ◌∙◌, subst}
use mathlib.Core.Logic.{◌≢◌}
use mathlib.Core.Bool.{true}
use mathlib.Core.List.{List, [], ◌++◌}
use Prim.Native.Nat.{ℕ, zero, suc, ◌+◌, ◌-◌, ◌*◌, ◌≤◌, ◌<◌}
use native.Mathlib.Numerals.{add-one}
use native.Mathlib.Omega.{arith}
use lib.ListN.{length, get_or, set, length-append}
use lib.Seq.{set-get_or, get_or-set_other}
use Rattle.base.specs.Members.{every-second}
use Rattle.types.specs.declared.Message.{Message}
use Rattle.types.specs.declared.Run.{Run}
use Rattle.types.specs.declared.Form.TheVariants.{Packed}
use Rattle.model.specs.State.{clock_of, view_of, capacity}
use Rattle.model.specs.Moves.{Change, changed, to_correct, Entry, stay, into, entry_clock, entry_messages, entering, taking, entries}
use Rattle.model.specs.Processors.{Moved, messages_of, moving}
use Rattle.liveness.proofs.FirstEntries.{correct-fewer, entry-few}
use Rattle.simulator.specs.declared.Move.{Move}
use Rattle.buffers.specs.Network.{packable}
use Rattle.simulator.specs.Inner.{Posts, AllPackable, sent_by, entered_by, moved_change}
use Rattle.simulator.proofs.Moving.{moved-taking}
use Rattle.simulator.proofs.Posting.{posts-also, posts-as, also-fits}

-- ---- entries that leave the clocks alone, and views of those that have not been asked yet

pub entries-clocks : (e : ℕ → Entry) (r : Run) (t : List ℕ) (k : ℕ)
    → ((q w : ℕ) → q < k → e q ≡ into w → entry_clock r.plan (clock_of r q) w ≡ clock_of r q) → (entries e r t k).clocks ≡ r.clocks
unfolding entries taking entering
entries-clocks e r t zero same = refl
entries-clocks e r t (suc k) same = go (e k) refl (entries-clocks e r t k (λ q w l x. same q w (omega arith) x))
  where
    go : (x : Entry) → e k ≡ x → (entries e r t k).clocks ≡ r.clocks
        → (taking (changed r (entries e r t k)) (entries e r t k).tally k x).clocks ≡ r.clocks
    go stay q h = h
    go (into w) q h =
        ap (λ (l : List ℕ). set l k (entry_clock r.plan (get_or l k 0) w)) h
        ∙ ap (set r.clocks k) (same k w (omega arith) q) ∙ set-get_or r.clocks k 0

pub entries-views : (e : ℕ → Entry) (r : Run) (t : List ℕ) (k q : ℕ) → k ≤ q → get_or (entries e r t k).views q 0 ≡ view_of r q
unfolding entries taking entering
entries-views e r t zero q l = refl
entries-views e r t (suc k) q l = go (e k) (entries-views e r t k q (omega arith))
  where
    go : (x : Entry) → get_or (entries e r t k).views q 0 ≡ view_of r q
        → get_or (taking (changed r (entries e r t k)) (entries e r t k).tally k x).views q 0 ≡ view_of r q
    go stay h = h
    go (into w) h = let ne : q ≢ k = λ x. absurd (omega (arith, x)) in get_or-set_other (entries e r t k).views k q w 0 ne ∙ h

-- ---- one processor more

module _ (e : ℕ → Entry) (r : Run) (t : List ℕ) where
  abbrev below : ℕ → Change
  below = entries e r t

  -- what the definition makes of processor k
  abbrev pub turn : ℕ → Moved
  turn k = moving r.plan k (clock_of (changed r (below k)) k) (view_of (changed r (below k)) k) (e k)

  -- each sends two messages at most
  pub sent_few : (k : ℕ) → length (below k).sent ≤ 2 * k
  unfolding entries taking entering
  sent_few zero = omega arith
  sent_few (suc k) = go (e k) (sent_few k)
    where
      go : (x : Entry) → length (below k).sent ≤ 2 * k → length ((below k).sent ++ (taking (changed r (below k)) (below k).tally k x).sent) ≤ 2 * suc k
      go stay h = omega (arith, length-append (below k).sent [])
      go (into w) h = omega (
        arith,
        length-append (below k).sent (to_correct r.plan r.faulty (entry_messages r.plan k w)),
        correct-fewer (changed r (below k)) (entry_messages r.plan k w),
        entry-few r.plan k w,
      )

  sent-mono : (k j : ℕ) → length (below k).sent ≤ length (below (j + k)).sent
  unfolding entries
  sent-mono k zero = let z : 0 + k ≡ k = omega arith in subst (λ (i : ℕ). length (below k).sent ≤ length (below i).sent) (sym z) (omega arith)
  sent-mono k (suc j) =
      let z : suc j + k ≡ suc (j + k) = omega arith in
      subst (λ (i : ℕ). length (below k).sent ≤ length (below i).sent) (sym z)
      (omega (arith, sent-mono k j, length-append (below (j + k)).sent (taking (changed r (below (j + k))) (below (j + k)).tally (j + k) (e (j + k))).sent))

  sent-below : (k n : ℕ) → k ≤ n → length (below k).sent ≤ length (below n).sent
  sent-below k n l = let z : n - k + k ≡ n = omega arith in subst (λ (i : ℕ). length (below k).sent ≤ length (below i).sent) z (sent-mono k (n - k))

  -- a reaction that is this processor's turn
  module _ (k : ℕ) (x : Move) (same-processor : x.processor ≡ (turn k).processor) (same_sent : messages_of k x.sends ≡ (turn k).sent) where
    change-more : moved_change (changed r (below k)) (below k).tally k x ≡ taking (changed r (below k)) (below k).tally k (e k)
    change-more = moved-taking (changed r (below k)) (below k).tally k (e k) x same-processor same_sent

    pub views-more : (below (k + 1)).views ≡ set (below k).views k x.processor.view
    unfolding entries
    views-more = ap (λ (j : ℕ). (below j).views) (add-one k) ∙ sym (ap (λ (c : Change). c.views) change-more)

    pub tally-turn : (t' t'' : List ℕ) → t' ≡ (below k).tally → t'' ≡ entered_by t' k x.sends → t'' ≡ (below (k + 1)).tally
    unfolding entries
    tally-turn t' t'' p q = q ∙ ap (λ (y : List ℕ). entered_by y k x.sends) p
        ∙ sym (ap (λ (j : ℕ). (below j).tally) (add-one k) ∙ sym (ap (λ (c : Change). c.tally) change-more))

    sent-more : (below (k + 1)).sent ≡ (below k).sent ++ sent_by r.plan r.faulty k x.sends
    unfolding entries
    sent-more = ap (λ (j : ℕ). (below j).sent) (add-one k)
        ∙ ap (λ (m : List Message). (below k).sent ++ m) (sym (ap (λ (c : Change). c.sent) change-more))

    pub sent-length : length (below (k + 1)).sent ≡ length (below k).sent + length (sent_by r.plan r.faulty k x.sends)
    sent-length = ap length sent-more ∙ length-append (below k).sent (sent_by r.plan r.faulty k x.sends)

    -- its messages are among those of all up to it
    pub entry-packs : AllPackable (below (k + 1)).sent → AllPackable (sent_by r.plan r.faulty k x.sends)
    entry-packs h = every-second (λ (m : Message). packable m ≡ true) (below k).sent (sent_by r.plan r.faulty k x.sends) (subst AllPackable sent-more h)

    -- with room for the messages of all n
    module _ (n h time held : ℕ) (ws ws' : List ℕ) (low : k < n) (room : h + length (below n).sent ≤ capacity Packed ws) (posts : Posts (below k).sent h time ws held ws') where
      both : h + length ((below k).sent ++ sent_by r.plan r.faulty k x.sends) ≤ capacity Packed ws
      both = omega (arith, room, sent-below (k + 1) n (omega arith), ap length sent-more)

      pub entry-fits : held + length (sent_by r.plan r.faulty k x.sends) ≤ capacity Packed ws'
      entry-fits = also-fits (below k).sent (sent_by r.plan r.faulty k x.sends) h held time ws ws' posts both

      pub posts-turn : (held' : ℕ) (ws'' : List ℕ) → Posts (sent_by r.plan r.faulty k x.sends) held time ws' held' ws''
          → Posts (below (k + 1)).sent h time ws held' ws''
      posts-turn held' ws'' y = posts-as _ _ h held' time ws ws'' (sym sent-more)
          (posts-also (below k).sent (sent_by r.plan r.faulty k x.sends) h held held' time ws ws' ws'' posts y
          (omega (arith, both, length-append (below k).sent (sent_by r.plan r.faulty k x.sends))))
