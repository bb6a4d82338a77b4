-- Numbers, each behind a blank, one after the other: counted and written. Assumes nothing.
use Rattle.std.proofs.Common.{◌≡◌, ℕ, suc, ◌+◌, ◌*◌, ◌<◌, ◌≤◌, List, [], ◌∷◌, ◌++◌, length, get_or, take, drop, sym, refl, ap, ◌∙◌, subst, append_assoc, append-nil, add-one, arith, length-append, take-append-drop, drop-cons, take-suc}
use Rattle.lines.specs.Decimal.{decimal}
use Rattle.lines.specs.Forms.{open_bracket, close_bracket, one_blank, joined, spaced, numbers_form}
use Rattle.lines.proofs.Decimals.{length_most}
use Rattle.writer.specs.Stamps.{Room, Stamped}
use Rattle.writer.proofs.Stamping.{stamped-none, room-first, room-second, written_both}

-- numbers, and what follows them
pub joined-spaced : (l : List ℕ) (r : List (List ℕ)) → joined (spaced l ++ r) ≡ joined (spaced l) ++ joined r
joined-spaced [] r = refl
joined-spaced (n ∷ l) r =
    ap (λ (z : List ℕ). one_blank ++ (decimal n ++ z)) (joined-spaced l r) ∙ sym (ap (λ (z : List ℕ). one_blank ++ z) (append_assoc (decimal n) (joined (spaced l)) (joined r)))

spaced-both : (k l : List ℕ) → spaced (k ++ l) ≡ spaced k ++ spaced l
spaced-both [] l = refl
spaced-both (n ∷ k) l = ap (λ (z : List (List ℕ)). one_blank ∷ decimal n ∷ z) (spaced-both k l)

spaced-append : (k l : List ℕ) → joined (spaced (k ++ l)) ≡ joined (spaced k) ++ joined (spaced l)
spaced-append k l = ap joined (spaced-both k l) ∙ joined-spaced k (spaced l)

spaced-one : (n : ℕ) → joined (spaced (n ∷ [])) ≡ one_blank ++ decimal n
spaced-one n = ap (λ (z : List ℕ). one_blank ++ z) (append-nil (decimal n))

-- the first i + 1 are the first i and one more
spaced-more : (ns : List ℕ) (i : ℕ) → i < length ns → joined (spaced (take (i + 1) ns)) ≡ joined (spaced (take i ns)) ++ (one_blank ++ decimal (get_or ns i 0))
spaced-more ns i h =
    let t : take (i + 1) ns ≡ take i ns ++ (get_or ns i 0 ∷ []) = rw add-one (take-suc ns i 0 h) in
    ap (λ (z : List ℕ). joined (spaced z)) t ∙ spaced-append (take i ns) (get_or ns i 0 ∷ []) ∙ ap (λ (z : List ℕ). joined (spaced (take i ns)) ++ z) (spaced-one (get_or ns i 0))

-- all are the first i, the next and the rest
spaced-split : (ns : List ℕ) (i : ℕ) → i < length ns → joined (spaced ns) ≡ joined (spaced (take i ns)) ++ (one_blank ++ decimal (get_or ns i 0) ++ joined (spaced (drop (suc i) ns)))
spaced-split ns i h =
    ap (λ (z : List ℕ). joined (spaced z)) (sym (take-append-drop i ns)) ∙ spaced-append (take i ns) (drop i ns)
    ∙ ap (λ (z : List ℕ). joined (spaced (take i ns)) ++ joined (spaced z)) (drop-cons ns i 0 h)

-- ---- counted

-- the bytes of the first i
abbrev pub Measured : List ℕ → ℕ → ℕ → Type 0
Measured ns bytes i = (i ≤ length ns) × (bytes ≡ length (joined (spaced (take i ns)))) × (bytes ≤ 21 * i)

pub measured-more : (ns : List ℕ) (bytes i k : ℕ) → Measured ns bytes i → i < length ns → k ≡ length (decimal (get_or ns i 0)) → Measured ns (bytes + (1 + k)) (i + 1)
measured-more ns bytes i k x h e =
    let f : length (joined (spaced (take (i + 1) ns))) ≡ length (joined (spaced (take i ns))) + suc (length (decimal (get_or ns i 0))) =
    ap length (spaced-more ns i h) ∙ length-append (joined (spaced (take i ns))) (one_blank ++ decimal (get_or ns i 0)) in
    (omega arith, omega (arith, x.1), omega (arith, x.2, length_most (get_or ns i 0)))

-- ---- written

-- the first i are
abbrev pub Listed : List ℕ → ℕ → List ℕ → List ℕ → ℕ → ℕ → Type 0
Listed d at ns e b i = (i ≤ length ns) × Stamped d at (joined (spaced (take i ns))) b e × (length e ≡ length d)

pub listed-none : (d : List ℕ) (at : ℕ) (ns : List ℕ) → Listed d at ns d at 0
listed-none d at ns = (omega arith, stamped-none d at, refl)

-- there is room for the next
pub next-room : (d : List ℕ) (at : ℕ) (ns e : List ℕ) (b i : ℕ) → Room d at (joined (spaced ns)) → Listed d at ns e b i → i < length ns → Room e b (one_blank ++ decimal (get_or ns i 0))
next-room d at ns e b i r x h =
    room-first (one_blank ++ decimal (get_or ns i 0)) (joined (spaced (drop (suc i) ns))) (room-second _ x.1 (subst (Room d at) (spaced-split ns i h) r))

pub listed_more : (d : List ℕ) (at : ℕ) (ns e : List ℕ) (b i : ℕ) (f : List ℕ) (k : ℕ) → Room d at (joined (spaced ns)) → Listed d at ns e b i → i < length ns
    → Stamped e b (one_blank ++ decimal (get_or ns i 0)) k f → length f ≡ length e → Listed d at ns f k (i + 1)
listed_more d at ns e b i f k r x h s m =
    let l : at ≤ length d = omega (arith, r.fits) in
    let u : Stamped d at (joined (spaced (take i ns)) ++ (one_blank ++ decimal (get_or ns i 0))) k f = written_both l x.1 s in
    (omega arith, subst (λ (w : List ℕ). Stamped d at w k f) (sym (spaced-more ns i h)) u, m ∙ x.2)

-- ---- behind a word, in brackets

-- the parts in which that form is written
abbrev pub in_brackets : List ℕ → List ℕ → List ℕ
in_brackets w l = open_bracket ++ (w ++ (joined (spaced l) ++ close_bracket))

in-brackets : (w l : List ℕ) → numbers_form w l ≡ in_brackets w l
in-brackets w l = ap (λ (z : List ℕ). open_bracket ++ (w ++ z)) (joined-spaced l (close_bracket ∷ []))

pub numbers-room : {d : List ℕ} (w l : List ℕ) → Room d 0 (numbers_form w l) → Room d 0 (in_brackets w l)
numbers-room {d} w l = subst (Room d 0) (in-brackets w l)

pub numbers-stamped : {d e : List ℕ} {b : ℕ} (w l : List ℕ) → Stamped d 0 (in_brackets w l) b e → Stamped d 0 (numbers_form w l) b e
numbers-stamped {d} {e} {b} w l = subst (λ (z : List ℕ). Stamped d 0 z b e) (sym (in-brackets w l))

pub numbers-bytes : (w l : List ℕ) (k : ℕ) → k ≡ length (joined (spaced l)) → length w + k + 2 ≡ length (numbers_form w l)
numbers-bytes w l k h =
    omega (arith, ap length (in-brackets w l), length-append w (joined (spaced l) ++ close_bracket), length-append (joined (spaced l)) close_bracket)
