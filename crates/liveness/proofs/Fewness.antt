-- How many messages a run posts, from its opening on: at most 2n of a stage for one view, so at most 4nV in all. Assumes nothing.
use mathlib.Core.Path.{◌≡◌, refl, sym, subst}
use mathlib.Core.Bool.{Bool, true, false, ◌&&◌}
use mathlib.Core.Logic.{inl, inr, ⊎_elim}
use mathlib.Core.List.{List, [], ◌∷◌}
use Prim.Native.Nat.{ℕ, zero, suc, ◌+◌, ◌*◌, ◌≤◌, ◌<◌}
use native.Mathlib.Omega.{arith}
use native.Mathlib.Nat.{mul-suc, mul-le-mul}
use lib.Dec.{T, eqb}
use lib.ListN.{length}
use Rattle.base.specs.Members.{Elem}
use Rattle.base.specs.Tests.{eq?, eq→eqb, by_cond}
use Rattle.base.specs.Count.{bit}
use Rattle.base.specs.SetLaws.{member-none}
use Rattle.types.specs.declared.Plan.{Plan}
use Rattle.types.specs.declared.Message.{Message}
use Rattle.types.specs.declared.Event.{Event}
use Rattle.types.specs.declared.Setup.{Setup}
use Rattle.types.specs.Quantities.{n_most, views_most, row_words, correct}
use Rattle.types.specs.Messages.{view_stage, vote_stage, view_in, stage_of}
use Rattle.model.specs.State.{State, entered_word, accepted}
use Rattle.model.specs.Moves.{stay, into, made}
use Rattle.model.specs.Opening.{blank_run, blank, first_entry, opened, opening_checks, opening}
use Rattle.model.specs.Events.{applied}
use Rattle.model.specs.Lists.{after}
use Rattle.model.specs.Traffic.{posted_first, posted_during, ever_posted, same_stage, of_view}
use Rattle.liveness.specs.Traffic.{FewForView}
use Rattle.liveness.proofs.Judging.{Passes}
use Rattle.liveness.proofs.Link.{Planned}
use Rattle.liveness.proofs.FirstEntries.{blank_tally, blank-length, blank-word, views-positive}
use Rattle.liveness.proofs.Tracks.{Tracked}
use Rattle.liveness.proofs.Opens.{planned, tally-long}
use Rattle.liveness.proofs.Dues.{due-most}
use Rattle.liveness.proofs.Paying.{progress_of, Paid, paid-none, paid-on, Fresh, entries-pays}
use Rattle.liveness.proofs.EventPays.{event-pays}
use Rattle.liveness.proofs.Promises.{follows_event, opened-so, c₀, tracked₀}

-- ---- a whole run pays

-- the first entries: by a blank tally nobody has entered a view
first-pays : (u : Setup) (before : State) → Passes (opening_checks u before)
    → Paid u.plan (blank u before).tally (opened u before).tally (posted_first u before)
unfolding opened blank made
first-pays u before c = entries-pays (first_entry u) (blank_run u) (blank_tally u before.tally ok long)
    (omega (arith, long, blank-length u before.tally ok long))
    (λ p. by_cond (Fresh u.plan (blank_tally u before.tally ok long) p) (correct u.plan u.faulty p) (into 0) stay
    (λ t. (positive, λ x. member-none p (rw (blank-word u before.tally ok long 0 entered_word positive (omega arith)) at x))) (λ t. tt))
    u.plan.n (omega arith)
  where
    ok : Planned u.plan u.faulty
    ok = planned u before c

    long : row_words * u.plan.views ≤ length before.tally
    long = tally-long u before c

    positive : 0 < u.plan.views
    positive = views-positive u before.tally ok long

-- and all events after them
during-pays : (plan : Plan) (faulty : ℕ) (ok : Planned plan faulty) (es : List Event) (s : State) → Tracked plan faulty ok s
    → Paid plan s.tally (after s es).tally (posted_during s es)
unfolding after posted_during
during-pays plan faulty ok [] s x = paid-none plan s.tally
during-pays plan faulty ok (e ∷ es) s x =
    let s' = (applied e s).state in
    paid-on plan s.tally s'.tally (after s' es).tally _ (posted_during s' es) (event-pays plan faulty ok e s x)
    (during-pays plan faulty ok es s' (follows_event plan faulty ok e s x).tracked)

module _ (u : Setup) (before : State) (t : T (accepted (opening u before).answer)) (es : List Event) where
  all-pays : Paid u.plan (blank u before).tally (after (opening u before).state es).tally (ever_posted u before es)
  all-pays = paid-on u.plan (blank u before).tally (opening u before).state.tally (after (opening u before).state es).tally
      (posted_first u before) (posted_during (opening u before).state es)
      (subst (λ (s : State). Paid u.plan (blank u before).tally s.tally (posted_first u before)) (sym (opened-so u before t).1)
      (first-pays u before (c₀ u before t)))
      (during-pays u.plan u.faulty (planned u before (c₀ u before t)) es (opening u before).state (tracked₀ u before t))

  -- what is posted names a view below the limit
  posted-low : (m : Message) → Elem m (ever_posted u before es) → view_in m < u.plan.views
  posted-low = all-pays.low

pub few-for-view : FewForView
few-for-view u before t es stage w =
    omega (arith, (all-pays u before t es).pays stage w, due-most u.plan.n (progress_of (after (opening u before).state es).tally) stage w)

-- ---- over all views

-- those of both stages for the views below k
abbrev of_views : ℕ → List Message → ℕ
of_views zero ms = 0
of_views (suc k) ms = of_view view_stage k ms + of_view vote_stage k ms + of_views k ms

views-more : (k : ℕ) (m : Message) (ms : List Message) → of_views k ms ≤ of_views k (m ∷ ms)
views-more zero m ms = omega arith
views-more (suc k) m ms = omega (arith, views-more k m ms)

-- a message for such a view is one of them
views-one : (k : ℕ) (m : Message) (ms : List Message) → view_in m < k → of_views k ms + 1 ≤ of_views k (m ∷ ms)
views-one zero m ms l = absurd (omega arith)
views-one (suc k) m ms l = ⊎_elim
    (λ (e : view_in m ≡ k). omega (arith, views-more k m ms, one (stage_of m) (eqb (view_in m) k) (eq→eqb (view_in m) k e)))
    (λ ne. omega (arith, views-one k m ms (omega (arith, ne))))
    (eq? (view_in m) k)
  where
    one : (d b : Bool) → T b → bit (same_stage view_stage d && b) + bit (same_stage vote_stage d && b) ≡ 1
    one true true t = omega arith
    one false true t = omega arith
    one true false t = absurd t
    one false false t = absurd t

views-all : (k : ℕ) (ms : List Message) → ((m : Message) → Elem m ms → view_in m < k) → length ms ≤ of_views k ms
views-all k [] low = omega arith
views-all k (m ∷ ms) low = omega (arith, views-one k m ms (low m (inl refl)), views-all k ms (λ m' i. low m' (inr i)))

views-few : (k n : ℕ) (ms : List Message) → ((stage : Bool) (w : ℕ) → of_view stage w ms ≤ 2 * n) → of_views k ms ≤ 4 * n * k
views-few zero n ms few = omega arith
views-few (suc k) n ms few = omega (arith, few view_stage k, few vote_stage k, views-few k n ms few, mul-suc (4 * n) k)

-- 4nV at its largest, by checks 2 and 4
abbrev pub most_posted : ℕ
most_posted = 4 * n_most * views_most

module _ (u : Setup) (before : State) (t : T (accepted (opening u before).answer)) (es : List Event) where
  -- 2n of each stage for each of V views
  posted-few : length (ever_posted u before es) ≤ 4 * u.plan.n * u.plan.views
  posted-few = omega (
    arith,
    views-all u.plan.views (ever_posted u before es) (posted-low u before t es),
    views-few u.plan.views u.plan.n (ever_posted u before es) (few-for-view u before t es),
  )

  pub posted-most : length (ever_posted u before es) ≤ most_posted
  posted-most =
      let ok = planned u before (c₀ u before t) in
      let n_at_most : 4 * u.plan.n ≤ 4 * n_most = omega (arith, ok.n_at_most) in
      omega (arith, posted-few, mul-le-mul n_at_most ok.views_at_most)
