-- Tests that pass or do not, and the order of numbers decided. Assumes nothing.
use Rattle.std.specs.Prelude.{◌≡◌, refl, ◌⊎◌, ◌≢◌, Bool, true, false, not, ◌&&◌, ◌||◌, cond, ℕ, ◌≤◌, ◌<◌, T, eqb}
use Rattle.std.proofs.Common.{subst, inl, inr, arith}
use Rattle.std.proofs.Math.Decide.{dec_le, ℕ_discrete}
use Rattle.std.proofs.Math.Dec.{eqb_refl}

pub passes? : (b : Bool) → T b ⊎ (T b → ⊥)
passes? true = inl tt
passes? false = inr (λ x. x)

pub T_and : (a b : Bool) → T a → T b → T (a && b)
T_and true b x y = y
T_and false b x y = x

pub T-left : (a b : Bool) → T (a && b) → T a
T-left true b x = tt
T-left false b x = x

pub T-right : (a b : Bool) → T (a && b) → T b
T-right true b x = x
T-right false b x = absurd x

pub or_left : (a b : Bool) → T a → T (a || b)
or_left true b t = tt
or_left false b t = absurd t

pub or_right : (a b : Bool) → T b → T (a || b)
or_right true b t = tt
or_right false b t = t

pub or_cases : (a b : Bool) → T (a || b) → T a ⊎ T b
or_cases true b t = inl tt
or_cases false b t = inr t

pub T_true : (b : Bool) → T b → b ≡ true
T_true true t = refl
T_true false t = absurd t

pub T_false : (b : Bool) → (T b → ⊥) → b ≡ false
T_false true f = absurd (f tt)
T_false false f = refl

pub fails : (b : Bool) → b ≡ false → T b → ⊥
fails b e t = subst T e t

pub not-not : (b : Bool) → (T (not b) → ⊥) → T b
not-not true f = tt
not-not false f = absurd (f tt)

-- two tests that pass together are one
pub T-iff : (a b : Bool) → (T a → T b) → (T b → T a) → a ≡ b
T-iff true true f g = refl
T-iff true false f g = absurd (f tt)
T-iff false true f g = absurd (g tt)
T-iff false false f g = refl

pub le? : (a b : ℕ) → (a ≤ b) ⊎ (b < a)
le? a b = go (dec_le a b)
  where
    go : Dec (a ≤ b) → (a ≤ b) ⊎ (b < a)
    go (yes h) = inl h
    go (no h) = inr (omega arith)

pub eq? : (a b : ℕ) → (a ≡ b) ⊎ (a ≢ b)
eq? a b = go (ℕ_discrete a b)
  where
    go : Dec (a ≡ b) → (a ≡ b) ⊎ (a ≢ b)
    go (yes h) = inl h
    go (no h) = inr h

pub eq→eqb : (a b : ℕ) → a ≡ b → T (eqb a b)
eq→eqb a b e = rw e (eqb_refl b)

-- what holds of both of two holds of the one chosen
pub by_cond {ℓ κ} : {A : Type ℓ} (Q : A → Type κ) (b : Bool) (x y : A) → (T b → Q x) → ((T b → ⊥) → Q y) → Q (cond b x y)
by_cond Q true x y f g = f tt
by_cond Q false x y f g = g (λ t. t)
