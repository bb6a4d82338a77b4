-- Members of a list, and what holds of every one. Assumes nothing.
use Rattle.std.specs.Prelude.{◌≡◌, refl, ◌⊎◌, List, [], ◌∷◌, ◌++◌}
use Rattle.std.proofs.Common.{inl, inr, ⊎_elim}

abbrev pub Elem : {A : Type 0} → A → List A → Type 0
Elem m [] = ⊥
Elem m (x ∷ xs) = (m ≡ x) ⊎ Elem m xs

module _ {A : Type 0} (m : A) where
  pub elem-left : (a b : List A) → Elem m a → Elem m (a ++ b)
  elem-left [] b i = absurd i
  elem-left (x ∷ a) b (inl e) = inl e
  elem-left (x ∷ a) b (inr i) = inr (elem-left a b i)

  pub elem-right : (a b : List A) → Elem m b → Elem m (a ++ b)
  elem-right [] b i = i
  elem-right (x ∷ a) b i = inr (elem-right a b i)

  pub elem-cases : (a b : List A) → Elem m (a ++ b) → Elem m a ⊎ Elem m b
  elem-cases [] b i = inr i
  elem-cases (x ∷ a) b (inl e) = inl (inl e)
  elem-cases (x ∷ a) b (inr i) = ⊎_elim (λ y. inl (inr y)) (λ y. inr y) (elem-cases a b i)

  -- with and without one in the middle
  pub elem-without : (a b : List A) (x : A) → Elem m (a ++ x ∷ b) → Elem m (a ++ b) ⊎ (m ≡ x)
  elem-without a b x i = ⊎_elim (λ y. inl (elem-left a b y)) (λ y. ⊎_elim (λ e. inr e) (λ z. inl (elem-right a b z)) y) (elem-cases a (x ∷ b) i)

  pub elem-with : (a b : List A) (x : A) → Elem m (a ++ b) → Elem m (a ++ x ∷ b)
  elem-with a b x i = ⊎_elim (λ y. elem-left a (x ∷ b) y) (λ y. elem-right a (x ∷ b) (inr y)) (elem-cases a b i)

abbrev pub Every : {A : Type 0} → (A → Type 0) → List A → Type 0
Every P [] = Unit {0}
Every P (x ∷ xs) = P x × Every P xs

module _ {A : Type 0} (P : A → Type 0) where
  pub every_append : (a b : List A) → Every P a → Every P b → Every P (a ++ b)
  every_append [] b h k = k
  every_append (x ∷ a) b h k = (h.0, every_append a b h.1 k)

  pub every_of : (a : List A) → ((m : A) → Elem m a → P m) → Every P a
  every_of [] h = tt
  every_of (x ∷ a) h = (h x (inl refl), every_of a (λ m i. h m (inr i)))

  pub every_first : (a b : List A) → Every P (a ++ b) → Every P a
  every_first [] b h = tt
  every_first (x ∷ a) b h = (h.0, every_first a b h.1)

  pub every-second : (a b : List A) → Every P (a ++ b) → Every P b
  every-second [] b h = h
  every-second (x ∷ a) b h = every-second a b h.1
