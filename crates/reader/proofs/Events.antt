-- Events: a line that is read as one is its form, and the form is read as it. Assumes nothing.
use mathlib.Core.Path.{◌≡◌, refl, sym, ap, ◌∙◌}
use mathlib.Core.Bool.{false}
use Prim.Native.Nat.{ℕ}
use native.Mathlib.Nat.{le_of_eq}
use mathlib.Core.List.{List, [], ◌∷◌, ◌++◌}
use lib.ListN.{length, drop, drop_of_length-le}
use lib.Dec.{eqb, eqb→eq}
use borrow.Author.Tests.{eq-eqb}
use Rattle.base.specs.Tests.{T_false, by_cond}
use Rattle.types.specs.declared.Message.{Message}
use Rattle.types.specs.declared.Event.{Event}
use Rattle.types.specs.declared.Event.TheVariants.{Deliver, Sign, Show, Settle, Tick}
use Rattle.types.specs.Messages.{lacks_form}
use Rattle.lines.specs.Decimal.{decimal}
use Rattle.lines.specs.Forms.{open_bracket, close_bracket, one_blank, deliver_word, sign_word, show_word, settle_word, tick_word, open_word, message_form, carrying_form, event_form, event_fields, Below, EventLine}
use Rattle.std.specs.Prelude.{Option, Some, None}
use Rattle.reader.specs.Scan.{starts}
use Rattle.reader.specs.Lines.{message_at, ending_at, ending_said, deliver_at, sign_at, show_at, ticks_at, event_at}
use Rattle.reader.proofs.Words.{Left, left-none, by_word, word-there, word-away}
use Rattle.reader.proofs.Series.{by_next, next-there}
use Rattle.reader.proofs.Messages.{PairBelow, Spoken, message-only, message-there}

-- ---- what is read is it

-- the line is the form of the event that it is read as
abbrev pub EventRead : List ℕ → Option Event → Type 0
EventRead s (Some e) = EventLine s e
EventRead s None = Unit {0}

ending-only : (s : List ℕ) (at : ℕ) (e : Event) → Below (event_fields e) → (drop at s ≡ close_bracket → s ≡ event_form e) → EventRead s (ending_at s at e)
unfolding ending_at
ending-only s at e b f =
    by_word (EventRead s) s at close_bracket _ None
    (λ k c. by_cond (EventRead s) (eqb k (length s)) _ None
    (λ q. by_cond (EventRead s) (lacks_form e) None (Some e) (λ _. tt)
    (λ l. record {
      formed = T_false (lacks_form e) l;
      below = b;
      bytes = f (c ∙ ap (λ (r : List ℕ). close_bracket ++ r) (drop_of_length-le s (le_of_eq (sym (eqb→eq k (length s) q)))));
    }))
    (λ _. tt)) tt

carrying-only : (s : List ℕ) (at : ℕ) (w : List ℕ) (make : Message → Event) → ((m : Message) → event_form (make m) ≡ carrying_form w m)
    → ((m : Message) → PairBelow m → Below (event_fields (make m)))
    → s ≡ open_bracket ++ (w ++ drop at s) → EventRead s (ending_said s make (message_at s at))
carrying-only s at w make forms belows h = go (message_at s at) (message-only s at)
  where
    go : (x : Option (Message × ℕ)) → Spoken s at x → EventRead s (ending_said s make x)
    go (Some (m, k)) t =
        ending-only s k (make m) (belows m t.1)
        (λ (c : drop k s ≡ close_bracket).
        h ∙ ap (λ (r : List ℕ). open_bracket ++ (w ++ r)) (t.0 ∙ ap (λ (r : List ℕ). one_blank ++ (message_form m ++ r)) c) ∙ sym (forms m))
    go None t = tt

ticks-only : (s : List ℕ) (at : ℕ) → s ≡ open_bracket ++ (tick_word ++ drop at s) → EventRead s (ticks_at s at)
unfolding ticks_at event_form
ticks-only s at h =
    by_next (EventRead s) s at (λ m k. ending_at s k (Tick m)) None
    (λ m k b e. ending-only s k (Tick m) (b, tt)
    (λ (c : drop k s ≡ close_bracket). h ∙ ap (λ (r : List ℕ). open_bracket ++ (tick_word ++ r)) (e ∙ ap (λ (r : List ℕ). one_blank ++ (decimal m ++ r)) c))) tt

-- behind the first bracket
pub event-only : (s : List ℕ) (at : ℕ) → s ≡ open_bracket ++ drop at s → EventRead s (event_at s at)
unfolding event_at deliver_at sign_at show_at event_form
event-only s at h =
    by_word (EventRead s) s at deliver_word _ _ (λ k e. carrying-only s k deliver_word Deliver (λ m. refl) (λ m b. b) (behind deliver_word k e))
    (by_word (EventRead s) s at tick_word _ _ (λ k e. ticks-only s k (behind tick_word k e))
    (by_word (EventRead s) s at sign_word _ _ (λ k e. carrying-only s k sign_word Sign (λ m. refl) (λ m b. b) (behind sign_word k e))
    (by_word (EventRead s) s at show_word _ _ (λ k e. carrying-only s k show_word Show (λ m. refl) (λ m b. b) (behind show_word k e))
    (by_word (EventRead s) s at settle_word _ None (λ k e. ending-only s k Settle tt (λ (c : drop k s ≡ close_bracket). behind settle_word k e ∙ ap (λ (r : List ℕ). open_bracket ++ (settle_word ++ r)) c))
    tt))))
  where
    behind : (w : List ℕ) (k : ℕ) → drop at s ≡ w ++ drop k s → s ≡ open_bracket ++ (w ++ drop k s)
    behind w k e = h ∙ ap (λ (r : List ℕ). open_bracket ++ r) e

-- ---- it is read

ending_there : (s : List ℕ) (at : ℕ) (e : Event) → Left s at close_bracket → lacks_form e ≡ false → ending_at s at e ≡ Some e
unfolding ending_at
ending_there s at e h f =
    word-there (λ (x : Option Event). x ≡ Some e) s at close_bracket _ None [] h
    (λ k l. rw (eq-eqb k (length s) (left-none s k l), f))

carrying-there : (s : List ℕ) (at : ℕ) (make : Message → Event) (m : Message) → Left s at (one_blank ++ (message_form m ++ close_bracket)) → PairBelow m
    → lacks_form (make m) ≡ false → ending_said s make (message_at s at) ≡ Some (make m)
carrying-there s at make m h b f = message-there (λ (x : Option Event). x ≡ Some (make m)) s at (ending_said s make) m close_bracket h b (λ k l. ending_there s k (make m) l f)

ticks-there : (s : List ℕ) (at m : ℕ) → Left s at (one_blank ++ (decimal m ++ close_bracket)) → Below (m ∷ []) → lacks_form (Tick m) ≡ false → ticks_at s at ≡ Some (Tick m)
unfolding ticks_at
ticks-there s at m h b f =
    next-there (λ (x : Option Event). x ≡ Some (Tick m)) s at _ None m close_bracket h b.0 refl (λ k l. ending_there s k (Tick m) l f)

-- the bytes of the form behind its first bracket
abbrev pub inside : Event → List ℕ
inside (Deliver m) = deliver_word ++ (one_blank ++ (message_form m ++ close_bracket))
inside (Sign m) = sign_word ++ (one_blank ++ (message_form m ++ close_bracket))
inside (Show m) = show_word ++ (one_blank ++ (message_form m ++ close_bracket))
inside Settle = settle_word ++ close_bracket
inside (Tick m) = tick_word ++ (one_blank ++ (decimal m ++ close_bracket))

pub inside-form : (e : Event) → event_form e ≡ open_bracket ++ inside e
unfolding event_form
inside-form (Deliver m) = refl
inside-form (Sign m) = refl
inside-form (Show m) = refl
inside-form Settle = refl
inside-form (Tick m) = refl

-- none opens a run
pub inside-no-opening : (e : Event) → starts (inside e) open_word ≡ false
inside-no-opening (Deliver m) = refl
inside-no-opening (Sign m) = refl
inside-no-opening (Show m) = refl
inside-no-opening Settle = refl
inside-no-opening (Tick m) = refl

pub event-there : (s : List ℕ) (at : ℕ) (e : Event) → Left s at (inside e) → Below (event_fields e) → lacks_form e ≡ false → event_at s at ≡ Some e
unfolding event_at deliver_at sign_at show_at
event-there s at (Deliver m) h b f = word-there (λ (x : Option Event). x ≡ Some (Deliver m)) s at deliver_word _ _ _ h (λ k l. carrying-there s k Deliver m l b f)
event-there s at (Tick m) h b f =
    let P : Option Event → Type 0 = λ (x : Option Event). x ≡ Some (Tick m) in
    word-away P s at deliver_word _ _ _ h refl (word-there P s at tick_word _ _ _ h (λ k l. ticks-there s k m l b f))
event-there s at (Sign m) h b f =
    let P : Option Event → Type 0 = λ (x : Option Event). x ≡ Some (Sign m) in
    word-away P s at deliver_word _ _ _ h refl (word-away P s at tick_word _ _ _ h refl (word-there P s at sign_word _ _ _ h (λ k l. carrying-there s k Sign m l b f)))
event-there s at (Show m) h b f =
    let P : Option Event → Type 0 = λ (x : Option Event). x ≡ Some (Show m) in
    word-away P s at deliver_word _ _ _ h refl (word-away P s at tick_word _ _ _ h refl (word-away P s at sign_word _ _ _ h refl
    (word-there P s at show_word _ _ _ h (λ k l. carrying-there s k Show m l b f))))
event-there s at Settle h b f =
    let P : Option Event → Type 0 = λ (x : Option Event). x ≡ Some Settle in
    word-away P s at deliver_word _ _ _ h refl (word-away P s at tick_word _ _ _ h refl (word-away P s at sign_word _ _ _ h refl (word-away P s at show_word _ _ _ h refl
    (word-there P s at settle_word _ _ _ h (λ k l. ending_there s k Settle l f)))))
