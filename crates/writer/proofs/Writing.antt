-- What is owed to a form is answered: no form, no room, or the form and a newline written. Assumes nothing.
use Rattle.std.proofs.Common.{◌≡◌, ℕ, ◌+◌, ◌<◌, ◌≤◌, Bool, true, false, eqb, ltb, ◌≢◌, List, [], ◌∷◌, ◌++◌, length, drop, sym, refl, ap, ◌∙◌, subst, zero-add, arith, length-append, le-ltb, lt-ltb, eq-eqb, ne_eqb, Err, Ok, Result}
use Rattle.base.specs.Choice.{or-first, or-second, or-neither, cond_yes, cond_no}
use Rattle.types.specs.declared.Setup.{Setup}
use Rattle.types.specs.Quantities.{n_most}
use Rattle.lines.specs.Forms.{newline, plan_form, setup_form, lacks_setup_form}
use Rattle.lines.specs.Clauses.{line, not_written, written_as, written_in, Writes}
use Rattle.types.specs.Runs.{plan_numbers}
use Rattle.writer.specs.Stamps.{stamp, Room, Stamped}
use Rattle.writer.proofs.Stamping.{room-first, room-second, written_both}

refused : (lacks : Bool) (form d : List ℕ) → not_written lacks form d ≡ true → Writes lacks form d (Err 1) d
unfolding written_as written_in
refused lacks form d e = (cond_yes _ _ _ _ e refl, cond_yes _ _ _ _ e refl)

-- "has no form"
pub refused-form : (lacks : Bool) (form d : List ℕ) → lacks ≡ true → Writes lacks form d (Err 1) d
refused-form lacks form d e = refused lacks form d (or-first _ _ e)

-- "too few lent bytes"
pub refused-room : (lacks : Bool) (form d : List ℕ) (k : ℕ) → k ≡ length form → length d < k + 1 → Writes lacks form d (Err 1) d
refused-room lacks form d k e h =
    let l : length d < length (line form) = omega (arith, length-append form (newline ∷ [])) in refused lacks form d (or-second lacks _ (lt-ltb _ _ l))

-- ---- enough bytes are lent

line-room : {d : List ℕ} (form : List ℕ) {k : ℕ} → k ≡ length form → k + 1 ≤ length d → Room d 0 (form ++ (newline ∷ []))
line-room form e h = record { fits = omega (arith, length-append form (newline ∷ [])) }

pub form-room : {d form : List ℕ} {k : ℕ} → k ≡ length form → k + 1 ≤ length d → Room d 0 form
form-room {d} {form} e h = room-first form (newline ∷ []) (line-room form e h)

pub newline-room : {d e form : List ℕ} {a k : ℕ} → Stamped d 0 form a e → k ≡ length form → k + 1 ≤ length d → Room e a (newline ∷ [])
newline-room {d} {e} {form} s q h = room-second (newline ∷ []) s (line-room form q h)

pub stamp-front : (d w : List ℕ) → stamp d 0 w ≡ w ++ drop (length w) d
unfolding stamp
stamp-front d w = rw zero-add

-- the form and then the newline are written
pub written : {d e f form : List ℕ} {a b k : ℕ} (lacks : Bool) → lacks ≡ false → k ≡ length form → k + 1 ≤ length d
    → Stamped d 0 form a e → Stamped e a (newline ∷ []) b f → Writes lacks form d (Ok (k + 1)) f
unfolding written_as written_in
written {d} {e} {f} {form} {a} {b} {k} lacks has q h s t =
    let z : 0 ≤ length d = omega arith in
    let u : Stamped d 0 (line form) b f = written_both z s t in
    let n : k + 1 ≡ length (line form) = omega (arith, length-append form (newline ∷ [])) in
    let l : length (line form) ≤ length d = omega arith in
    let x : not_written lacks form d ≡ false = or-neither lacks _ has (le-ltb _ _ l) in
    (cond_no _ _ _ _ x (ap Ok n), cond_no _ _ _ _ x (u.bytes ∙ stamp-front d (line form)))

-- ---- setups

pub refused_none : (u : Setup) (d : List ℕ) → u.plan.n ≡ 0 → Writes (lacks_setup_form u) (setup_form u) d (Err 1) d
refused_none u d e = refused-form (lacks_setup_form u) (setup_form u) d (or-first _ (ltb n_most u.plan.n) (eq-eqb _ _ e))

pub refused-many : (u : Setup) (d : List ℕ) → n_most < u.plan.n → Writes (lacks_setup_form u) (setup_form u) d (Err 1) d
refused-many u d h = refused-form (lacks_setup_form u) (setup_form u) d (or-second (eqb u.plan.n 0) _ (lt-ltb _ _ h))

pub written-setup : (u : Setup) (d : List ℕ) (r : Result ℕ ℕ) (e : List ℕ) → u.plan.n ≢ 0 → u.plan.n ≤ n_most
    → Writes false (plan_form (plan_numbers u.plan) u) d r e → Writes (lacks_setup_form u) (setup_form u) d r e
unfolding setup_form
written-setup u d r e some few x =
    let l : lacks_setup_form u ≡ false = or-neither (eqb u.plan.n 0) (ltb n_most u.plan.n) (ne_eqb _ _ some) (le-ltb _ _ few) in
    subst (λ (b : Bool). Writes b (setup_form u) d r e) (sym l) x
