-- Computed: the first state of a known seed, its first records and line, and one input for each way to be turned away.
-- The bytes are those of the digits 48 to 57, the space 32 and the line feed 10.
use Prim.Native.Nat.{ℕ, ◌-◌, ◌^◌}
use mathlib.Core.Path.{◌≡◌, refl}
use mathlib.Core.List.{List, [], ◌∷◌}
use Rattle.loc_calls.specs.Calls.{unless_refused}
use Rattle.loc_history.specs.History.{placed}
use Rattle.loc_listing.specs.Text.{digits, decimal, line}
use Rattle.loc_listing.specs.Listing.{entry_line, entry_lines}
use Rattle.loc_number.specs.Decimal.{goes_on, digits_on, starts_at, number_at, number_refusal, value_in, place_in}
use Rattle.loc_load.specs.Xorshift.{xor_left, xor_right, xorshift}
use Rattle.loc_load.specs.Load.{drawn, load, load_entries}
use Rattle.loc_load.specs.Request.{form_refusal, load_refusal, request_refusal, request_of, requested, two_lines}

-- ---- a seed

first_state : xorshift 88172645463325252 ≡ 8748534153485358512
unfolding xorshift xor_left xor_right
first_state = refl

first_records : load 88172645463325252 3 ≡ record { len = 1704; spans = 116 } ∷ record { len = 904; spans = 154 } ∷ record { len = 856; spans = 150 } ∷ []
unfolding load drawn xorshift xor_left xor_right
first_records = refl

-- 1 16 1704 16 928 116
first_line : entry_lines 0 (load_entries 88172645463325252 1) ≡ 49 ∷ 32 ∷ 49 ∷ 54 ∷ 32 ∷ 49 ∷ 55 ∷ 48 ∷ 52 ∷ 32 ∷ 49 ∷ 54 ∷ 32 ∷ 57 ∷ 50 ∷ 56 ∷ 32 ∷ 49 ∷ 49 ∷ 54 ∷ 10 ∷ []
unfolding entry_lines entry_line line decimal digits placed load drawn xorshift xor_left xor_right
first_line = refl

-- ---- inputs

largest_seed : requested (two_lines (2 ^ 64 - 1) 1024) ≡ request_of 0 (2 ^ 64 - 1) 1024
unfolding requested request_refusal form_refusal load_refusal number_refusal value_in place_in unless_refused number_at starts_at digits_on goes_on two_lines decimal digits
largest_seed = refl

abbrev number_for : List ℕ → ℕ
number_for xs = (requested xs).number

-- 7 and no records; 7 and 1,024; 7 and 1,025; 0 and 1; 0 and 1,025: 25 before 26; nothing; one line; no last line feed; 0 and 01: 18 before 25; a line feed more; a carriage return; 2^64
numbers :
    number_for (55 ∷ 10 ∷ 48 ∷ 10 ∷ [])
    ∷ number_for (55 ∷ 10 ∷ 49 ∷ 48 ∷ 50 ∷ 52 ∷ 10 ∷ [])
    ∷ number_for (55 ∷ 10 ∷ 49 ∷ 48 ∷ 50 ∷ 53 ∷ 10 ∷ [])
    ∷ number_for (48 ∷ 10 ∷ 49 ∷ 10 ∷ [])
    ∷ number_for (48 ∷ 10 ∷ 49 ∷ 48 ∷ 50 ∷ 53 ∷ 10 ∷ [])
    ∷ number_for []
    ∷ number_for (55 ∷ 10 ∷ [])
    ∷ number_for (55 ∷ 10 ∷ 49 ∷ [])
    ∷ number_for (48 ∷ 10 ∷ 48 ∷ 49 ∷ 10 ∷ [])
    ∷ number_for (55 ∷ 10 ∷ 49 ∷ 10 ∷ 10 ∷ [])
    ∷ number_for (55 ∷ 13 ∷ 10 ∷ 49 ∷ 10 ∷ [])
    ∷ number_for (49 ∷ 56 ∷ 52 ∷ 52 ∷ 54 ∷ 55 ∷ 52 ∷ 52 ∷ 48 ∷ 55 ∷ 51 ∷ 55 ∷ 48 ∷ 57 ∷ 53 ∷ 53 ∷ 49 ∷ 54 ∷ 49 ∷ 54 ∷ 10 ∷ 49 ∷ 10 ∷ [])
    ∷ []
    ≡ 0 ∷ 0 ∷ 26 ∷ 25 ∷ 25 ∷ 18 ∷ 18 ∷ 18 ∷ 18 ∷ 18 ∷ 18 ∷ 18 ∷ []
unfolding requested request_refusal form_refusal load_refusal number_refusal value_in place_in unless_refused number_at starts_at digits_on goes_on
numbers = refl
