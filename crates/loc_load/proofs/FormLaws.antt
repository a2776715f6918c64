-- Which input is not 18: just the two lines that the listing's spelling gives for two numbers of 64 bits.
-- So it has at most 42 bytes, and any input asks for what its first 43 bytes ask for.
use Prim.Native.Nat.{ℕ, zero, suc, ◌+◌, ◌-◌, ◌^◌, ◌≤◌, ◌<◌}
use mathlib.Core.Path.{◌≡◌, refl, sym, ap, ◌∙◌}
use mathlib.Core.Bool.{not}
use mathlib.Core.List.{List, [], ◌∷◌, ◌++◌, append_assoc}
use native.Mathlib.Decide.{dec_le}
use native.Mathlib.Omega.{arith}
use lib.Dec.{ltb, eqb}
use lib.ListN.{length, take, drop, length-append, drop_of_length-le}
use lib.Seq.{take_all, length-take-le}
use borrow.Author.Tests.{eq-eqb, eqb-true, not-false}
use Rattle.std.specs.Prelude.{Option, Some, None}
use Rattle.loc_leaf.specs.Answers.{refuse, ◌or_else◌}
use Rattle.loc_leaf.proofs.Refusals.{or_else_left, or_else_right, refuse_zero, or_else_holds, refuse_holds}
use Rattle.loc_calls.specs.Calls.{unless_refused}
use Rattle.loc_calls.specs.Guarantees.{largest}
use Rattle.loc_calls.proofs.Refused.{test, first}
use Rattle.loc_listing.specs.Text.{decimal}
use Rattle.loc_number.specs.Decimal.{number_refusal, value_in, place_in}
use Rattle.loc_number.proofs.NumberLaws.{known}
use Rattle.loc_number.proofs.SpellLaws.{read_decimal, decimal_few, number_small, number_text}
use Rattle.loc_load.specs.Request.{line_at, seed_line, records_line, form_refusal, load_refusal, request_refusal, refused_by, request_of, requested, two_lines}

-- ---- the two lines are read

module _ (seed n : ℕ) (hs : seed < 2 ^ 64) (hn : n < 2 ^ 64) where
  -- the line of the number v, after the bytes xs
  line_read : (v : ℕ) (xs ys : List ℕ) → v < 2 ^ 64 → line_at (xs ++ (decimal v ++ (10 ∷ ys))) (length xs) ≡ Some (v, length xs + length (decimal v) + 1)
  line_read v xs ys h = read_decimal (2 ^ 64 - 1) 10 (λ q g e. omega arith) v xs ys h (omega arith)

  abbrev front : List ℕ
  front = decimal seed ++ (10 ∷ [])

  split : two_lines seed n ≡ front ++ (decimal n ++ (10 ∷ []))
  unfolding two_lines
  split = sym (append_assoc (decimal seed) (10 ∷ []) (decimal n ++ (10 ∷ [])))

  line_1 : line_at (two_lines seed n) 0 ≡ Some (seed, length front)
  unfolding two_lines
  line_1 = line_read seed [] (decimal n ++ (10 ∷ [])) hs ∙ ap (λ (p : ℕ). Some (seed, p)) (omega (arith, length-append (decimal seed) (10 ∷ [])))

  line_2 : line_at (two_lines seed n) (length front) ≡ Some (n, length (two_lines seed n))
  line_2 =
      ap (λ (xs : List ℕ). line_at xs (length front)) split
      ∙ line_read n front [] hn
      ∙ ap (λ (p : ℕ). Some (n, p)) (omega (arith, ap length split, length-append front (decimal n ++ (10 ∷ [])), length-append (decimal n) (10 ∷ [])))

  pub two_lines_read : requested (two_lines seed n) ≡ request_of (load_refusal seed n) seed n
  unfolding requested request_refusal form_refusal number_refusal value_in place_in
  two_lines_read = rw (line_1, line_2, eq-eqb (length (two_lines seed n)) (length (two_lines seed n)) refl) refl

-- ---- and nothing else

pub record TwoLines (xs : List ℕ) : Type 0 where
  pub seed : ℕ
  pub records : ℕ
  pub seed_small : seed < 2 ^ 64
  pub records_small : records < 2 ^ 64
  pub text : xs ≡ two_lines seed records

pub only_two_lines : (xs : List ℕ) → form_refusal xs ≡ 0 → TwoLines xs
unfolding form_refusal two_lines
only_two_lines xs e = record {
  seed = seed;
  records = n;
  seed_small = omega (arith, number_small (2 ^ 64 - 1) 10 (omega arith) xs 0 seed at line_1);
  records_small = omega (arith, number_small (2 ^ 64 - 1) 10 (omega arith) xs at n end line_2);
  text =
      number_text (2 ^ 64 - 1) 10 (omega arith) xs 0 seed at line_1
      ∙ ap (λ (r : List ℕ). decimal seed ++ (10 ∷ r)) (number_text (2 ^ 64 - 1) 10 (omega arith) xs at n end line_2)
      ∙ ap (λ (r : List ℕ). decimal seed ++ (10 ∷ (decimal n ++ (10 ∷ r)))) past;
}
  where
    seed : ℕ
    seed = value_in (seed_line xs)

    at : ℕ
    at = place_in (seed_line xs)

    n : ℕ
    n = value_in (records_line xs)

    end : ℕ
    end = place_in (records_line xs)

    line_1 : line_at xs 0 ≡ Some (seed, at)
    line_1 = known (seed_line xs) (or_else_left (number_refusal (seed_line xs)) _ e)

    after : (number_refusal (records_line xs) or_else refuse (not (eqb end (length xs))) 18) ≡ 0
    after = or_else_right (number_refusal (seed_line xs)) _ e

    line_2 : line_at xs at ≡ Some (n, end)
    line_2 = known (records_line xs) (or_else_left (number_refusal (records_line xs)) _ after)

    last : end ≡ length xs
    last = eqb-true end (length xs) (not-false (eqb end (length xs)) (refuse_zero (not (eqb end (length xs))) 17 (or_else_right (number_refusal (records_line xs)) _ after)))

    past : drop end xs ≡ []
    past =
        let h : length xs ≤ end = omega (arith, last) in
        drop_of_length-le xs h

-- ---- long input

-- 0 or 18
abbrev Form : ℕ → Type 0
Form n = (n ≡ 0 → ⊥) → n ≡ 18

number_form : (n : Option (ℕ × ℕ)) → Form (number_refusal n)
unfolding number_refusal
number_form (Some (v, p)) h = absurd (h refl)
number_form None h = refl

form_18 : (xs : List ℕ) → Form (form_refusal xs)
unfolding form_refusal
form_18 xs =
    or_else_holds Form (number_form (seed_line xs))
    (or_else_holds Form (number_form (records_line xs)) (refuse_holds Form 18 (not (eqb (place_in (records_line xs)) (length xs))) (λ h. absurd (h refl)) (λ h. refl)))

two_lines_short : (seed n : ℕ) → length (two_lines seed n) ≤ 42
unfolding two_lines
two_lines_short seed n =
    omega (arith, decimal_few seed, decimal_few n, length-append (decimal seed) (10 ∷ (decimal n ++ (10 ∷ []))), length-append (decimal n) (10 ∷ []))

pub long_refused : (xs : List ℕ) → 42 < length xs → requested xs ≡ refused_by 18
unfolding requested request_refusal unless_refused
long_refused xs h = rw (form_18 xs too_long) refl
  where
    too_long : form_refusal xs ≡ 0 → ⊥
    too_long e =
        let t : TwoLines xs = only_two_lines xs e in
        omega (arith, two_lines_short t.seed t.records, ap length t.text)

-- what the program reads
pub first_bytes_ask : (xs : List ℕ) → requested xs ≡ requested (take 43 xs)
first_bytes_ask xs = go (dec_le (length xs) 43)
  where
    go : Dec (length xs ≤ 43) → requested xs ≡ requested (take 43 xs)
    go (yes h) = ap requested (sym (take_all 43 xs h))
    go (no h) = long_refused xs (omega arith) ∙ sym (long_refused (take 43 xs) (omega (arith, length-take-le 43 xs (omega arith))))

-- ---- a number of the table

number_in : (n : Option (ℕ × ℕ)) → number_refusal n ≤ largest
unfolding number_refusal
number_in (Some (v, p)) = omega arith
number_in None = omega arith

pub request_in : (xs : List ℕ) → (requested xs).number ≤ largest
unfolding requested request_refusal form_refusal load_refusal
request_in xs = go (request_refusal xs) all
  where
    all : request_refusal xs ≤ largest
    all =
        first
        (first (number_in (seed_line xs)) (first (number_in (records_line xs)) (test 18 (not (eqb (place_in (records_line xs)) (length xs))) refl)))
        (first (test 25 (eqb (value_in (seed_line xs)) 0) refl) (test 26 (ltb 1024 (value_in (records_line xs))) refl))

    go : (k : ℕ) → k ≤ largest → (request_of k (value_in (seed_line xs)) (value_in (records_line xs))).number ≤ largest
    go zero h = unfold unless_refused in omega arith
    go (suc k) h = unfold unless_refused in h
