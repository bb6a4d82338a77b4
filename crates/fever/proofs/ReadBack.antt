-- What was laid out in words is read back from them. Assumes nothing.
use mathlib.Core.Path.{◌≡◌, refl, sym, ap, ap₂, ◌∙◌, subst}
use mathlib.Core.Bool.{false}
use mathlib.Core.List.{List, [], ◌∷◌, ◌++◌, append_assoc}
use Prim.Native.Nat.{ℕ, zero, suc, ◌+◌, ◌≤◌}
use native.Mathlib.Omega.{arith}
use lib.Dec.{T, eqb, ltb}
use lib.ListN.{length, get_or, take, drop, take-append-drop, length-drop}
use lib.Seq.{take_at, drop_at, drop-drop, get_or-drop}
use borrow.Author.Tests.{lt-ltb}
use Rattle.types.specs.declared.Event.TheVariants.{Deliver, Sign, Show, Settle, Tick}
use Rattle.types.specs.declared.Message.TheVariants.{View, Vote, Vc, Qc}
use Rattle.types.specs.declared.Traffic.{Traffic}
use Rattle.types.specs.Quantities.{table_clocks}
use Rattle.types.specs.Traffic.{counts_of, traffic_of}
use Rattle.model.specs.State.{run_of}
use Rattle.types.specs.Runs.{settled_as, settled_back}
use Rattle.words.specs.Events.{event_of}
use Rattle.fever.specs.Layout.{setup_in, counts_at, run_in, sum_words}
use Rattle.fever.specs.Promises.{RunBack, RunWordsBack, SetupBack, EventBack, ReadEventBack, ReadSetupBack}

pub run-back : RunBack
unfolding run_in
run-back r more c v =
    λ i. run_of r.plan r.faulty r.time (settled_back r.settled i) r.gst r.held (clocks i) (views i)
    (traffic_of (counts_of (sum 0 i) (sum 1 i) (sum 2 i) (sum 3 i)) (counts_of (sum 4 i) (sum 5 i) (sum 6 i) (sum 7 i)) (sum 8 i))
  where
    behind : List ℕ
    behind = sum_words r.traffic ++ more

    tables : List ℕ
    tables = (r.clocks ++ (r.views ++ sum_words r.traffic)) ++ more

    whole : tables ≡ r.clocks ++ (r.views ++ behind)
    whole = append_assoc r.clocks (r.views ++ sum_words r.traffic) more
        ∙ ap (λ (l : List ℕ). r.clocks ++ l) (append_assoc r.views (sum_words r.traffic) more)

    clocks : take table_clocks tables ≡ r.clocks
    clocks = ap (take table_clocks) whole ∙ take_at r.clocks (r.views ++ behind) table_clocks c

    rest : drop table_clocks tables ≡ r.views ++ behind
    rest = ap (drop table_clocks) whole ∙ drop_at r.clocks (r.views ++ behind) table_clocks c

    views : take table_clocks (drop table_clocks tables) ≡ r.views
    views = ap (take table_clocks) rest ∙ take_at r.views behind table_clocks v

    last : drop (table_clocks + table_clocks) tables ≡ behind
    last = sym (drop-drop table_clocks table_clocks tables) ∙ ap (drop table_clocks) rest ∙ drop_at r.views behind table_clocks v

    sum : (j : ℕ) → get_or tables (table_clocks + table_clocks + j) 0 ≡ get_or behind j 0
    sum j = sym (get_or-drop (table_clocks + table_clocks) tables j 0) ∙ ap (λ (l : List ℕ). get_or l j 0) last

-- the other way: the settled word is 0 or 1; the two tables, the sums and what is behind them are all that is behind the numbers
settled_same : (g : ℕ) → ltb 1 g ≡ false → settled_as (eqb g 1) ≡ g
settled_same zero e = refl
settled_same (suc zero) e = refl
settled_same (suc (suc g)) e = absurd (subst T (sym (lt-ltb 1 (suc (suc g)) (omega arith)) ∙ e) tt)

-- the sums behind two tables
abbrev sums_from : List ℕ → Traffic
sums_from ws = traffic_of (counts_at (table_clocks + table_clocks) ws) (counts_at (table_clocks + table_clocks + 4) ws) (get_or ws (table_clocks + table_clocks + 8) 0)

nine-same : (l : List ℕ) → 9 ≤ length l
    → (get_or l 0 0 ∷ get_or l 1 0 ∷ get_or l 2 0 ∷ get_or l 3 0 ∷ get_or l 4 0 ∷ get_or l 5 0 ∷ get_or l 6 0 ∷ get_or l 7 0 ∷ get_or l 8 0 ∷ []) ++ drop 9 l ≡ l
nine-same [] h = absurd (omega arith)
nine-same (a ∷ []) h = absurd (omega arith)
nine-same (a ∷ b ∷ []) h = absurd (omega arith)
nine-same (a ∷ b ∷ c ∷ []) h = absurd (omega arith)
nine-same (a ∷ b ∷ c ∷ d ∷ []) h = absurd (omega arith)
nine-same (a ∷ b ∷ c ∷ d ∷ e ∷ []) h = absurd (omega arith)
nine-same (a ∷ b ∷ c ∷ d ∷ e ∷ f ∷ []) h = absurd (omega arith)
nine-same (a ∷ b ∷ c ∷ d ∷ e ∷ f ∷ g ∷ []) h = absurd (omega arith)
nine-same (a ∷ b ∷ c ∷ d ∷ e ∷ f ∷ g ∷ k ∷ []) h = absurd (omega arith)
nine-same (a ∷ b ∷ c ∷ d ∷ e ∷ f ∷ g ∷ k ∷ i ∷ l) h = refl

-- the two tables, the sums and what is behind them
tables-same : (ws : List ℕ) → table_clocks + table_clocks + 9 ≤ length ws
    → (take table_clocks ws ++ (take table_clocks (drop table_clocks ws) ++ sum_words (sums_from ws))) ++ drop (table_clocks + table_clocks + 9) ws ≡ ws
tables-same ws fits =
    append_assoc clocks (views ++ sums) last
    ∙ ap (λ (l : List ℕ). clocks ++ l) (append_assoc views sums last ∙ ap (λ (l : List ℕ). views ++ l) behind ∙ take-append-drop table_clocks (drop table_clocks ws))
    ∙ take-append-drop table_clocks ws
  where
    clocks : List ℕ
    clocks = take table_clocks ws

    views : List ℕ
    views = take table_clocks (drop table_clocks ws)

    sums : List ℕ
    sums = sum_words (sums_from ws)

    last : List ℕ
    last = drop (table_clocks + table_clocks + 9) ws

    rest : List ℕ
    rest = drop (table_clocks + table_clocks) ws

    at : (j : ℕ) → get_or ws (table_clocks + table_clocks + j) 0 ≡ get_or rest j 0
    at j = sym (get_or-drop (table_clocks + table_clocks) ws j 0)

    long : 9 ≤ length rest
    long = omega (arith, fits, length-drop (table_clocks + table_clocks) ws)

    behind : sums ++ last ≡ drop table_clocks (drop table_clocks ws)
    behind = (λ i. (at 0 i ∷ at 1 i ∷ at 2 i ∷ at 3 i ∷ at 4 i ∷ at 5 i ∷ at 6 i ∷ at 7 i ∷ at 8 i ∷ []) ++ sym (drop-drop 9 (table_clocks + table_clocks) ws) i)
        ∙ nine-same rest long ∙ sym (drop-drop table_clocks table_clocks ws)

pub run-words-back : RunWordsBack
unfolding run_in
run-words-back [] l s = absurd (omega arith)
run-words-back (a ∷ []) l s = absurd (omega arith)
run-words-back (a ∷ b ∷ []) l s = absurd (omega arith)
run-words-back (a ∷ b ∷ c ∷ []) l s = absurd (omega arith)
run-words-back (a ∷ b ∷ c ∷ d ∷ []) l s = absurd (omega arith)
run-words-back (a ∷ b ∷ c ∷ d ∷ e ∷ []) l s = absurd (omega arith)
run-words-back (a ∷ b ∷ c ∷ d ∷ e ∷ f ∷ []) l s = absurd (omega arith)
run-words-back (a ∷ b ∷ c ∷ d ∷ e ∷ f ∷ g ∷ []) l s = absurd (omega arith)
run-words-back (a ∷ b ∷ c ∷ d ∷ e ∷ f ∷ g ∷ h ∷ []) l s = absurd (omega arith)
run-words-back (a ∷ b ∷ c ∷ d ∷ e ∷ f ∷ g ∷ h ∷ i ∷ []) l s = absurd (omega arith)
run-words-back (a ∷ b ∷ c ∷ d ∷ e ∷ f ∷ g ∷ h ∷ i ∷ j ∷ ws) l s =
    ap₂ (λ (z : ℕ) (y : List ℕ). a ∷ b ∷ c ∷ d ∷ e ∷ f ∷ g ∷ z ∷ i ∷ j ∷ y) (settled_same h s) (tables-same ws (omega (arith, l)))

pub setup-back : SetupBack
unfolding setup_in
setup-back u more c = rw (take_at u.clocks more table_clocks c)

pub event-back : EventBack
unfolding event_of
event-back (Deliver (View w p)) = refl
event-back (Deliver (Vote w p)) = refl
event-back (Deliver (Vc w p)) = refl
event-back (Deliver (Qc w p)) = refl
event-back (Sign (View w p)) = refl
event-back (Sign (Vote w p)) = refl
event-back (Sign (Vc w p)) = refl
event-back (Sign (Qc w p)) = refl
event-back (Show (View w p)) = refl
event-back (Show (Vote w p)) = refl
event-back (Show (Vc w p)) = refl
event-back (Show (Qc w p)) = refl
event-back Settle = refl
event-back (Tick m) = refl

pub read-event-back : ReadEventBack
read-event-back e more = event-back e

pub read-setup-back : ReadSetupBack
read-setup-back x more c = setup-back x.setup more c
