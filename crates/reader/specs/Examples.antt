-- What lines are read as, computed: forms, and lines that are none. Assumes nothing.
use Rattle.std.specs.Prelude.{◌≡◌, refl, List, [], ◌∷◌, ◌++◌, map, ℕ, ◌^◌, replicate, None, Some}
use Rattle.types.specs.declared.Message.TheVariants.{View, Vote, Vc, Qc}
use Rattle.types.specs.declared.Event.TheVariants.{Deliver, Sign, Show, Settle, Tick}
use Rattle.model.specs.Rows.{plan_with, standard, setup_of}
use Rattle.lines.specs.Decimal.{decimal}
use Rattle.lines.specs.Forms.{open_bracket, close_bracket, one_blank, open_word, tick_word, joined, spaced, carrying_form, sign_word, show_word, clocks_form, opening_form, message_form, event_form}
use Rattle.lines.specs.Clauses.{event_reading, opening_reading, no_form}
use Rattle.reader.specs.Scan.{after_word, number_at, next_number_at, Series, ending, series_at}
use Rattle.reader.specs.Decimals.{decimal_of}
use Rattle.reader.specs.Lines.{kind_found_at, message_at, ending_at, deliver_at, sign_at, show_at, ticks_at, event_at, heading_at, first_clock_at, table_end_at, table_at, opening_at, reading}

abbrev settled : List ℕ
settled = event_form Settle

-- "(tick ..)" with these bytes for its number
abbrev ticking : List ℕ → List ℕ
ticking digits = joined (open_bracket ∷ tick_word ∷ one_blank ∷ digits ∷ close_bracket ∷ [])

-- "(open .. (..))" with these numbers before its table
abbrev opening_with : List ℕ → List ℕ → List ℕ
opening_with ns clocks = opening_form open_word ns [] (clocks_form clocks)

-- "(open n 2 4 6 0 (..))"
abbrev opening_line : ℕ → List ℕ → List ℕ
opening_line n clocks = opening_with (n ∷ 2 ∷ 4 ∷ 6 ∷ 0 ∷ []) clocks

abbrev four : List ℕ
four = 1 ∷ 2 ∷ 3 ∷ 4 ∷ []

-- the openings: without k, with k = 3, with k = 8
pub good : List (List ℕ)
good =
    event_form (Deliver (View 0 0)) ∷ event_form (Sign (Vote 10 2)) ∷ event_form (Show (Qc 100 0)) ∷ settled ∷ ticking (decimal 18446744073709551615)
    ∷ opening_with (4 ∷ 2 ∷ 4 ∷ 6 ∷ 8 ∷ []) four ∷ opening_with (4 ∷ 2 ∷ 4 ∷ 6 ∷ 3 ∷ 8 ∷ []) four ∷ opening_with (4 ∷ 2 ∷ 4 ∷ 6 ∷ 8 ∷ 3 ∷ []) four ∷ []

pub good-read : map reading good ≡ (
    event_reading (Deliver (View 0 0)) ∷ event_reading (Sign (Vote 10 2)) ∷ event_reading (Show (Qc 100 0)) ∷ event_reading Settle ∷ event_reading (Tick 18446744073709551615)
    ∷ opening_reading (setup_of standard 8 four) ∷ opening_reading (setup_of standard 8 four) ∷ opening_reading (setup_of (plan_with 4 2 4 6 8) 3 four) ∷ [])
unfolding good reading event_at opening_at heading_at table_at first_clock_at table_end_at deliver_at sign_at show_at ticks_at ending_at message_at kind_found_at next_number_at number_at after_word decimal event_form message_form
good-read = refl

-- the last openings: four and seven numbers before the table, a k and a mask of 2^64
pub bad : List (List ℕ)
bad =
    [] ∷ (settled ++ one_blank) ∷ (one_blank ++ settled) ∷ (settled ++ (13 ∷ [])) ∷ (settled ++ settled)
    ∷ ticking (decimal 0) ∷ ticking (48 ∷ 51 ∷ []) ∷ ticking (one_blank ++ decimal 3) ∷ ticking (9 ∷ 51 ∷ []) ∷ ticking (43 ∷ 51 ∷ []) ∷ ticking [] ∷ ticking (decimal (2 ^ 64))
    ∷ carrying_form sign_word (Vc 0 0) ∷ carrying_form show_word (Vote 0 0)
    ∷ opening_line 0 [] ∷ opening_line 3 four ∷ opening_line 5 four ∷ opening_line 65 (replicate 65 0)
    ∷ opening_with (4 ∷ 2 ∷ 4 ∷ 6 ∷ []) four ∷ opening_with (4 ∷ 2 ∷ 4 ∷ 6 ∷ 3 ∷ 0 ∷ 0 ∷ []) four
    ∷ opening_with (4 ∷ 2 ∷ 4 ∷ 6 ∷ 2 ^ 64 ∷ 0 ∷ []) four ∷ opening_with (4 ∷ 2 ∷ 4 ∷ 6 ∷ 3 ∷ 2 ^ 64 ∷ []) four ∷ []

-- "a line that fails check 1"
pub bad-read : map reading bad ≡ map (λ s. no_form) bad
unfolding bad reading event_at opening_at heading_at table_at first_clock_at table_end_at deliver_at sign_at show_at ticks_at ending_at message_at kind_found_at next_number_at number_at after_word decimal event_form message_form
bad-read = refl

-- ---- a series of at most three numbers: two, three and a fourth behind them, then none, a leading zero, a second blank, a number too high

abbrev series : List ℕ → ℕ → Series
series ns k = record { numbers = ns; end = k }

abbrev one : List ℕ
one = joined (spaced (1 ∷ []))

pub series-read : map (λ s. series_at 3 s 0) (
    joined (spaced (1 ∷ 20 ∷ []) ++ (close_bracket ∷ [])) ∷ joined (spaced (1 ∷ 20 ∷ 3 ∷ 4 ∷ [])) ∷ [] ∷ close_bracket ∷ (one ++ (32 ∷ 48 ∷ 50 ∷ []))
    ∷ (one ++ one_blank ++ one) ∷ (one ++ joined (spaced (2 ^ 64 ∷ []))) ∷ []) ≡ (
    series (1 ∷ 20 ∷ []) 5 ∷ series (1 ∷ 20 ∷ 3 ∷ []) 7 ∷ ending 0 ∷ ending 0 ∷ series (1 ∷ []) 2 ∷ series (1 ∷ []) 2 ∷ series (1 ∷ []) 2 ∷ [])
unfolding next_number_at number_at after_word decimal
series-read = refl

-- ---- texts that are one number, and texts that are none: nothing, a leading zero, a sign, a blank behind, a newline behind, a number too high

pub numbers-read : map decimal_of (decimal 0 ∷ decimal 10 ∷ decimal 18446744073709551615 ∷ []) ≡ (Some 0 ∷ Some 10 ∷ Some 18446744073709551615 ∷ [])
unfolding decimal_of number_at decimal
numbers-read = refl

pub no-numbers : List (List ℕ)
no-numbers = [] ∷ (48 ∷ 49 ∷ []) ∷ (48 ∷ 48 ∷ []) ∷ (43 ∷ 49 ∷ []) ∷ (45 ∷ 49 ∷ []) ∷ (49 ∷ 32 ∷ []) ∷ (49 ∷ 10 ∷ []) ∷ decimal (2 ^ 64) ∷ []

pub none_read : map decimal_of no-numbers ≡ map (λ s. None) no-numbers
unfolding no-numbers decimal_of number_at decimal
none_read = refl
