-- Messages: what is read as one is its form, and its form is read as it. Assumes nothing.
use mathlib.Core.Path.{◌≡◌, refl, sym, ap, ◌∙◌, subst}
use Prim.Native.Nat.{ℕ}
use mathlib.Core.List.{List, [], ◌∷◌, ◌++◌, append_assoc}
use lib.ListN.{drop}
use Rattle.types.specs.declared.Message.{Message}
use Rattle.types.specs.declared.Message.TheVariants.{View, Vote, Vc, Qc}
use Rattle.lines.specs.Decimal.{decimal}
use Rattle.lines.specs.Forms.{open_bracket, close_bracket, one_blank, view_word, vote_word, vc_word, qc_word, message_fields, message_form, Below}
use Rattle.reader.specs.declared.Kind.{Kind}
use Rattle.std.specs.Prelude.{Option, Some, None}
use Rattle.reader.specs.Lines.{kind_found_at, message_of, said_kind, message_at}
use Rattle.reader.proofs.Words.{Left, by_word, word-there, word-away}
use Rattle.reader.proofs.Series.{by_next, next-there, spaced_before}

-- ---- the form by its parts

abbrev word_of : Kind → List ℕ
word_of Kind.View = view_word
word_of Kind.Vote = vote_word
word_of Kind.Vc = vc_word
word_of Kind.Qc = qc_word

-- " w p)", and then r
abbrev pair_before : ℕ → ℕ → List ℕ → List ℕ
pair_before w p r = spaced_before (w ∷ p ∷ []) (close_bracket ++ r)

pair-form : (w p : ℕ) (r : List ℕ) → one_blank ++ (decimal w ++ (one_blank ++ (decimal p ++ close_bracket))) ++ r ≡ pair_before w p r
pair-form w p r =
    ap (λ (l : List ℕ). one_blank ++ l) (append_assoc (decimal w) (one_blank ++ (decimal p ++ close_bracket)) r
    ∙ ap (λ (l : List ℕ). decimal w ++ (one_blank ++ l)) (append_assoc (decimal p) close_bracket r))

message-form : (k : Kind) (w p : ℕ) (r : List ℕ) → message_form (message_of k w p) ++ r ≡ open_bracket ++ (word_of k ++ pair_before w p r)
unfolding message_form
message-form Kind.View w p r = ap (λ (l : List ℕ). open_bracket ++ (view_word ++ l)) (pair-form w p r)
message-form Kind.Vote w p r = ap (λ (l : List ℕ). open_bracket ++ (vote_word ++ l)) (pair-form w p r)
message-form Kind.Vc w p r = ap (λ (l : List ℕ). open_bracket ++ (vc_word ++ l)) (pair-form w p r)
message-form Kind.Qc w p r = ap (λ (l : List ℕ). open_bracket ++ (qc_word ++ l)) (pair-form w p r)

-- both of its numbers are "below 2^64"
abbrev pub PairBelow : Message → Type 0
PairBelow m = Below (message_fields m)

pair_of : (k : Kind) (w p : ℕ) → Below (w ∷ p ∷ []) → PairBelow (message_of k w p)
pair_of Kind.View w p b = b
pair_of Kind.Vote w p b = b
pair_of Kind.Vc w p b = b
pair_of Kind.Qc w p b = b

-- ---- what is read is it

abbrev Kinded : List ℕ → ℕ → Option (Kind × ℕ) → Type 0
Kinded s at (Some (k, a)) = drop at s ≡ word_of k ++ drop a s
Kinded s at None = Unit {0}

kind-only : (s : List ℕ) (at : ℕ) → Kinded s at (kind_found_at s at)
unfolding kind_found_at
kind-only s at =
    by_word (Kinded s at) s at view_word (λ a. Some (Kind.View, a)) _ (λ k e. e)
    (by_word (Kinded s at) s at vote_word (λ a. Some (Kind.Vote, a)) _ (λ k e. e)
    (by_word (Kinded s at) s at vc_word (λ a. Some (Kind.Vc, a)) _ (λ k e. e)
    (by_word (Kinded s at) s at qc_word (λ a. Some (Kind.Qc, a)) None (λ k e. e) tt)))

-- the form of the message stands behind a blank
abbrev pub Spoken : List ℕ → ℕ → Option (Message × ℕ) → Type 0
Spoken s at (Some (m, k)) = (drop at s ≡ one_blank ++ (message_form m ++ drop k s)) × PairBelow m
Spoken s at None = Unit {0}

spoken-kind : (s : List ℕ) (at b : ℕ) → drop at s ≡ one_blank ++ (open_bracket ++ drop b s) → (x : Option (Kind × ℕ)) → Kinded s b x → Spoken s at (said_kind s x)
spoken-kind s at b e (Some (k, a)) h =
    by_next (Spoken s at) s a _ None
    (λ w c i d. by_next (Spoken s at) s c _ None
    (λ p j m f. by_word (Spoken s at) s j close_bracket (λ e. Some (message_of k w p, e)) None
    (λ l g. (
      e ∙ ap (λ (r : List ℕ). one_blank ++ (open_bracket ++ r)) (h ∙ ap (λ (r : List ℕ). word_of k ++ r)
          (d ∙ ap (λ (r : List ℕ). one_blank ++ (decimal w ++ r)) (f ∙ ap (λ (r : List ℕ). one_blank ++ (decimal p ++ r)) g)))
          ∙ ap (λ (r : List ℕ). one_blank ++ r) (sym (message-form k w p (drop l s))),
      pair_of k w p (i, (m, tt)),
    )) tt) tt) tt
spoken-kind s at b e None h = tt

pub message-only : (s : List ℕ) (at : ℕ) → Spoken s at (message_at s at)
unfolding message_at
message-only s at =
    by_word (Spoken s at) s at (one_blank ++ open_bracket) _ None (λ b e. spoken-kind s at b e (kind_found_at s b) (kind-only s b)) tt

-- ---- it is read

kind-there : {A : Type 0} (P : A → Type 0) (s : List ℕ) (at : ℕ) (f : Option (Kind × ℕ) → A) (k : Kind) (r : List ℕ) → Left s at (word_of k ++ r)
    → ((a : ℕ) → Left s a r → P (f (Some (k, a)))) → P (f (kind_found_at s at))
unfolding kind_found_at
kind-there P s at f Kind.View r h g = word-there (λ (x : Option (Kind × ℕ)). P (f x)) s at view_word _ _ r h g
kind-there P s at f Kind.Vote r h g = let Q : Option (Kind × ℕ) → Type 0 = λ (x : Option (Kind × ℕ)). P (f x) in word-away Q s at view_word _ _ _ h refl (word-there Q s at vote_word _ _ r h g)
kind-there P s at f Kind.Vc r h g =
    let Q : Option (Kind × ℕ) → Type 0 = λ (x : Option (Kind × ℕ)). P (f x) in
    word-away Q s at view_word _ _ _ h refl (word-away Q s at vote_word _ _ _ h refl (word-there Q s at vc_word _ _ r h g))
kind-there P s at f Kind.Qc r h g =
    let Q : Option (Kind × ℕ) → Type 0 = λ (x : Option (Kind × ℕ)). P (f x) in
    word-away Q s at view_word _ _ _ h refl (word-away Q s at vote_word _ _ _ h refl (word-away Q s at vc_word _ _ _ h refl (word-there Q s at qc_word _ _ r h g)))

pair-there : {A : Type 0} (P : A → Type 0) (s : List ℕ) (at : ℕ) (f : Option (Message × ℕ) → A) (k : Kind) (w p : ℕ) (r : List ℕ)
    → Left s at (one_blank ++ (message_form (message_of k w p) ++ r)) → Below (w ∷ p ∷ []) → ((j : ℕ) → Left s j r → P (f (Some (message_of k w p, j)))) → P (f (message_at s at))
unfolding message_at
pair-there P s at f k w p r h b g =
    let Q : Option (Message × ℕ) → Type 0 = λ (x : Option (Message × ℕ)). P (f x) in
    word-there Q s at (one_blank ++ open_bracket) _ None _ (subst (λ (l : List ℕ). Left s at (one_blank ++ l)) (message-form k w p r) h)
    (λ c m. kind-there Q s c (said_kind s) k _ m
    (λ d n. next-there Q s d _ None w _ n b.0 refl
    (λ i o. next-there Q s i _ None p (close_bracket ++ r) o b.1.0 refl
    (λ j t. word-there Q s j close_bracket (λ e. Some (message_of k w p, e)) None r t g))))

-- where the form of a message stands behind a blank, the message is read
pub message-there : {A : Type 0} (P : A → Type 0) (s : List ℕ) (at : ℕ) (f : Option (Message × ℕ) → A) (m : Message) (r : List ℕ)
    → Left s at (one_blank ++ (message_form m ++ r)) → PairBelow m → ((k : ℕ) → Left s k r → P (f (Some (m, k)))) → P (f (message_at s at))
message-there P s at f (View w p) r h b g = pair-there P s at f Kind.View w p r h b g
message-there P s at f (Vote w p) r h b g = pair-there P s at f Kind.Vote w p r h b g
message-there P s at f (Vc w p) r h b g = pair-there P s at f Kind.Vc w p r h b g
message-there P s at f (Qc w p) r h b g = pair-there P s at f Kind.Qc w p r h b g
