-- What the input asks for, by each way through the code.
-- Every test and every number read is a premise.
use Prim.Native.Nat.{ℕ, zero, suc, ◌≤◌, ◌<◌}
use mathlib.Core.Path.{◌≡◌, refl, ◌∙◌}
use mathlib.Core.List.{List}
use native.Mathlib.Omega.{arith}
use lib.Dec.{ltb, eqb}
use lib.ListN.{length}
use borrow.Author.Tests.{eq-eqb, ne_eqb, lt-ltb, le-ltb, ltb-false}
use Rattle.std.specs.Prelude.{Some, None}
use Rattle.loc_leaf.specs.Answers.{refuse}
use Rattle.loc_leaf.proofs.Refusals.{or_else_right, refuse_zero}
use Rattle.loc_calls.specs.Calls.{unless_refused}
use Rattle.loc_number.specs.Decimal.{number_refusal, value_in, place_in}
use Rattle.loc_load.specs.Request.{Asked, line_at, seed_line, records_line, form_refusal, load_refusal, request_refusal, refused_by, request_of, requested}

-- ---- 18, 25 and 26, or what is asked for

module _ (xs : List ℕ) where
  -- refused by a number
  by : (k : ℕ) → request_refusal xs ≡ suc k → refused_by (suc k) ≡ requested xs
  unfolding requested unless_refused
  by k e = rw e refl

  pub no_seed : line_at xs 0 ≡ None → refused_by 18 ≡ requested xs
  unfolding request_refusal form_refusal number_refusal
  no_seed q = by 17 (rw q refl)

  module _ (seed at : ℕ) (line_1 : line_at xs 0 ≡ Some (seed, at)) where
    pub no_records : line_at xs at ≡ None → refused_by 18 ≡ requested xs
    unfolding request_refusal form_refusal number_refusal place_in
    no_records q = by 17 (rw (line_1, q) refl)

    module _ (n end : ℕ) (line_2 : line_at xs at ≡ Some (n, end)) where
      pub more_bytes : (end ≡ length xs → ⊥) → refused_by 18 ≡ requested xs
      unfolding request_refusal form_refusal number_refusal place_in
      more_bytes h = by 17 (rw (line_1, line_2, ne_eqb end (length xs) h) refl)

      module _ (h : end ≡ length xs) where
        by_values : request_refusal xs ≡ load_refusal seed n
        unfolding request_refusal form_refusal number_refusal place_in value_in
        by_values = rw (line_1, line_2, eq-eqb end (length xs) h) refl

        pub seed_0 : seed ≡ 0 → refused_by 25 ≡ requested xs
        unfolding load_refusal
        seed_0 f = by 24 (by_values ∙ rw (eq-eqb seed 0 f) refl)

        pub too_many : (seed ≡ 0 → ⊥) → 1024 < n → refused_by 26 ≡ requested xs
        unfolding load_refusal
        too_many f g = by 25 (by_values ∙ rw (ne_eqb seed 0 f, lt-ltb 1024 n g) refl)

        pub asked : (seed ≡ 0 → ⊥) → n ≤ 1024 → ◌≡◌ {A = Asked} (record { number = 0; seed = seed; records = n }) (requested xs)
        unfolding requested unless_refused load_refusal place_in value_in
        asked f g = rw (by_values, ne_eqb seed 0 f, le-ltb 1024 n g, line_1, line_2) refl

-- ---- what is asked for has at most 1,024 records

pub asked_few : (xs : List ℕ) (r : Asked) → r ≡ requested xs → r.number ≡ 0 → r.records ≤ 1024
unfolding requested unless_refused request_refusal load_refusal
asked_few xs r q = rw q (go (request_refusal xs) refl)
  where
    seed : ℕ
    seed = value_in (seed_line xs)

    n : ℕ
    n = value_in (records_line xs)

    go : (k : ℕ) → request_refusal xs ≡ k → (request_of k seed n).number ≡ 0 → (request_of k seed n).records ≤ 1024
    go zero e z = ltb-false 1024 n (refuse_zero (ltb 1024 n) 25 (or_else_right (refuse (eqb seed 0) 25) _ (or_else_right (form_refusal xs) _ e)))
    go (suc k) e z = omega arith
