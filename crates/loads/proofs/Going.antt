-- A load written line by line: what is written, and the load that goes on from there, are the whole. Assumes nothing.
use Rattle.std.proofs.Common.{◌≡◌, ℕ, ◌+◌, ◌-◌, ◌<◌, ◌≤◌, Bool, true, false, List, [], ◌∷◌, ◌++◌, length, sym, refl, ap, ◌∙◌, subst, append_assoc, append-nil, arith, Result}
use borrow.Rule.Slice.PartMut.{mid_of, put_mid, same_len_mid}
use Rattle.base.specs.Tests.{T_false, by_cond}
use Rattle.types.specs.declared.Event.{Event}
use Rattle.types.specs.Messages.{lacks_form}
use Rattle.model.specs.State.{State, After, accepted}
use Rattle.model.specs.Checks.{unsound_for_good}
use Rattle.model.specs.Events.{applied}
use Rattle.liveness.specs.Promises.{Tabled}
use Rattle.liveness.proofs.Answers.{no-yes}
use Rattle.liveness.proofs.Judging.{by-applied}
use Rattle.liveness.proofs.Promises.{refused-stays, events-last}
use Rattle.lines.specs.Forms.{event_form}
use Rattle.lines.specs.Clauses.{line, Writes, Put}
use Rattle.lines.specs.Promises.{schedule_of}
use Rattle.lines.proofs.Putting.{put-none, put-inside, put-part, left_over, room-written}
use Rattle.loads.specs.declared.Turn.{Turn}
use Rattle.loads.specs.Loads.{Point, point_of, step_turn, settle_due, settle_turn, Load, halted, followed, line_bytes, turned, doing, load_from, turn, further_load}
use Rattle.loads.specs.Clauses.{PutLoad}
use Rattle.loads.proofs.Turns.{doing-on, doing-short, doing-refused, from-none, further-sound, further-unsound, following, by-turns, weight, weight-falls}

-- an event that is accepted has a form
has-form : (e : Event) (s : State) → accepted (applied e s).answer ≡ true → lacks_form e ≡ false
has-form e s = by-applied (λ (a : After). accepted a.answer ≡ true → lacks_form e ≡ false) e s (λ r q. no-yes (sym q)) (λ p q. T_false (lacks_form e) p.form)

-- ---- one line more

schedule-more : (fs : List (List ℕ)) (f : List ℕ) → schedule_of (fs ++ (f ∷ [])) ≡ schedule_of fs ++ line f
schedule-more [] f = append-nil (line f)
schedule-more (g ∷ fs) f = ap (λ (w : List ℕ). line g ++ w) (schedule-more fs f) ∙ sym (append_assoc (line g) (schedule_of fs) (line f))

-- ---- a load l, so far written into `out` up to the byte `at`, that goes on from x

pub record Going (steps settle : ℕ) (l : Load) (out : List ℕ) (x : Point) (at : ℕ) (after : List ℕ) : Type 0 where
  pub forms : List (List ℕ)
  pub is : l ≡ followed forms (load_from settle (steps - x.step) x (length out - at))
  pub put : Put (schedule_of forms) out at after
  pub same : length after ≡ length out
  pub good : unsound_for_good x.state ≡ false
  pub tabled : Tabled x.state.run

pub going-first : (steps settle : ℕ) (x : Point) (out : List ℕ) → unsound_for_good x.state ≡ false → Tabled x.state.run
    → Going steps settle (further_load steps settle x (length out)) out x 0 out
going-first steps settle x out e t =
    let z : length out ≡ length out - 0 = omega arith in
    record {
      forms = [];
      is = further-sound steps settle x (length out) e ∙ ap (load_from settle (steps - x.step) x) z;
      put = put-none out;
      same = refl;
      good = e;
      tabled = t;
    }

pub never-going : (steps settle : ℕ) (x : Point) (out : List ℕ) → unsound_for_good x.state ≡ true → PutLoad (further_load steps settle x (length out)) out x false 0 out
never-going steps settle x out e =
    subst (λ (l : Load). PutLoad l out x false 0 out) (sym (further-unsound steps settle x (length out) e)) (record { point = refl; full = refl; put = put-none out })

module _ {steps settle : ℕ} {l : Load} {out : List ℕ} {x : Point} {at : ℕ} {after : List ℕ} (g : Going steps settle l out x at after) where
  pub going-inside : at ≤ length after
  going-inside = omega (arith, put-inside (schedule_of g.forms) out at after g.put g.same, g.same)

  -- it ends here
  ends : (full : Bool) → load_from settle (steps - x.step) x (length out - at) ≡ halted x full → PutLoad l out x full at after
  ends full e =
      let q : l ≡ followed g.forms (halted x full) = g.is ∙ ap (followed g.forms) e in
      subst (λ (m : Load). PutLoad m out x full at after) (sym q) (record {
        point = refl;
        full = refl;
        put = subst (λ (fs : List (List ℕ)). Put (schedule_of fs) out at after) (sym (append-nil g.forms)) g.put;
      })

  pub going-over : steps ≤ x.step → PutLoad l out x false at after
  going-over h = ends false (from-none settle steps x (length out - at) h)

  module _ (more : x.step < steps) (k : Turn) (next : k ≡ turn settle x) (bytes : ℕ) (b : bytes ≡ line_bytes (event_form k.event)) where
    on : following settle steps x (length out - at) ≡ doing k x (length out - at) (following settle steps)
    on = by-turns steps settle x (length out - at) more ∙ ap (λ (j : Turn). doing j x (length out - at) (following settle steps)) (sym next)

    pub going-short : length after - at < bytes → PutLoad l out x true at after
    going-short h = ends true (on ∙ doing-short k x (length out - at) (following settle steps) (omega (arith, g.same)))

    -- the event, done or refused, left and answered h
    module _ (room : bytes ≤ length after - at) (h : After) (left : h ≡ applied k.event x.state) where
      pub going-refused : accepted h.answer ≡ false → PutLoad l out (point_of h.state x.seed x.step) false at after
      going-refused n =
          let a : accepted (applied k.event x.state).answer ≡ false = ap (λ (y : After). accepted y.answer) (sym left) ∙ n in
          let s : h.state ≡ x.state = ap (λ (y : After). y.state) left ∙ refused-stays k.event x.state a in
          subst (λ (y : State). PutLoad l out (point_of y x.seed x.step) false at after) (sym s)
          (ends false (on ∙ doing-refused k x (length out - at) (following settle steps) (omega (arith, g.same)) a))

      pub falls : accepted h.answer ≡ true → weight steps settle (point_of h.state k.seed (x.step + k.steps)) < weight steps settle x
      falls y =
          let a : accepted (applied k.event x.state).answer ≡ true = ap (λ (z : After). accepted z.answer) (sym left) ∙ y in
          subst (λ (z : After). weight steps settle (point_of z.state k.seed (x.step + k.steps)) < weight steps settle x) (sym left)
          (subst (λ (j : Turn). accepted (applied j.event x.state).answer ≡ true → weight steps settle (turned j x) < weight steps settle x) (sym next)
          (weight-falls steps settle x more) a)

      done_more : accepted (applied k.event x.state).answer ≡ true → (r : Result ℕ ℕ) (f : List ℕ)
          → Writes (lacks_form k.event) (event_form k.event) (mid_of at (length after - at) after) r f → length f ≡ length (mid_of at (length after - at) after)
          → Going steps settle l out (turned k x) (at + bytes) (put_mid at (length after - at) after f)
      done_more a r f w n =
          let form : List ℕ = event_form k.event in
          let fits : line_bytes form ≤ length (mid_of at (length after - at) after) = omega (arith, left_over at after) in
          let w' : Writes false form (mid_of at (length after - at) after) r f =
          subst (λ (t : Bool). Writes t form (mid_of at (length after - at) after) r f) (has-form k.event x.state a) w in
          let p : Put (line form) (mid_of at (length after - at) after) bytes f =
          record { bytes = b; text = rw b (room-written form (mid_of at (length after - at) after) f r w' fits).1 } in
          let rest : Load = following settle steps (turned k x) (length out - at - line_bytes form) in
          let left : length out - at - line_bytes form ≡ length out - (at + bytes) = omega arith in
          let kept = events-last k.event x.state g.tabled in
          record {
            forms = g.forms ++ (form ∷ []);
            is = g.is ∙ ap (followed g.forms) (on ∙ doing-on k x (length out - at) (following settle steps) (omega (arith, g.same)) a)
                ∙ ap (λ (fs : List (List ℕ)). record { forms = fs; point = rest.point; full = rest.full }) (sym (append_assoc g.forms (form ∷ []) rest.forms))
                ∙ ap (λ (q : ℕ). followed (g.forms ++ (form ∷ [])) (following settle steps (turned k x) q)) left;
            put = subst (λ (t : List ℕ). Put t out (at + bytes) (put_mid at (length after - at) after f)) (sym (schedule-more g.forms form)) (put-part g.put going-inside p);
            same = same_len_mid at (length after - at) after f n ∙ g.same;
            good = kept.0 ∙ g.good;
            tabled = kept.1;
          }

      pub going_more : accepted h.answer ≡ true → (r : Result ℕ ℕ) (f : List ℕ)
          → Writes (lacks_form k.event) (event_form k.event) (mid_of at (length after - at) after) r f → length f ≡ length (mid_of at (length after - at) after)
          → Going steps settle l out (point_of h.state k.seed (x.step + k.steps)) (at + bytes) (put_mid at (length after - at) after f)
      going_more y r f w n =
          subst (λ (z : After). Going steps settle l out (point_of z.state k.seed (x.step + k.steps)) (at + bytes) (put_mid at (length after - at) after f)) (sym left)
          (done_more (ap (λ (z : After). accepted z.answer) (sym left) ∙ y) r f w n)

-- a turn is at most one step
pub turn-most : (settle : ℕ) (x : Point) → (turn settle x).steps ≤ 1
unfolding turn
turn-most settle x = by_cond (λ (k : Turn). k.steps ≤ 1) (settle_due settle x) (settle_turn x) (step_turn x) (λ t. omega arith) (λ t. omega arith)
