-- A byte that goes on keeps the number within the limit; the digits from a place on, by the byte there.
-- A number that is not refused is known.
use Prim.Native.Nat.{ℕ, ◌+◌, ◌-◌, ◌≤◌, ◌<◌}
use mathlib.Core.Path.{◌≡◌, refl}
use mathlib.Core.Bool.{true, cond, not, ◌&&◌}
use mathlib.Core.List.{List}
use native.Mathlib.Numerals.{add-one}
use native.Mathlib.Omega.{arith}
use lib.Dec.{leb, eqb}
use lib.ListN.{length, get_or, drop, drop_of_length-le}
use lib.Seq.{drop-cons}
use Rattle.std.specs.Prelude.{Option, Some, None}
use borrow.Author.Tests.{leb-true}
use Rattle.loc_leaf.proofs.Booleans.{both_right}
use Rattle.loc_number.specs.Decimal.{with, goes_on, digits_on, starts_at, number_at, number_refusal, value_in, place_in}

pub goes_within : (most v b : ℕ) → goes_on most v b ≡ true → with v b ≤ most
unfolding goes_on
goes_within most v b e = leb-true (with v b) most (both_right (leb 48 b && leb b 57) (leb (with v b) most) e)

module _ (most end v at : ℕ) (xs : List ℕ) where
  pub on_byte : at < length xs
      → digits_on most end v at (drop at xs)
      ≡ cond (eqb (get_or xs at 0) end) (Some (v, at + 1)) (cond (not (eqb v 0) && goes_on most v (get_or xs at 0)) (digits_on most end (with v (get_or xs at 0)) (at + 1) (drop (at + 1) xs)) None)
  unfolding digits_on
  on_byte h = rw (drop-cons xs at 0 h, add-one at) refl

  pub on_past : length xs ≤ at → digits_on most end v at (drop at xs) ≡ None
  unfolding digits_on
  on_past h = rw (drop_of_length-le xs h) refl

module _ (most end at : ℕ) (xs : List ℕ) where
  pub starts_byte : at < length xs
      → number_at most end xs at ≡ cond (goes_on most 0 (get_or xs at 0)) (digits_on most end (get_or xs at 0 - 48) (at + 1) (drop (at + 1) xs)) None
  unfolding number_at starts_at
  starts_byte h = rw (drop-cons xs at 0 h, add-one at) refl

  pub starts_past : length xs ≤ at → number_at most end xs at ≡ None
  unfolding number_at starts_at
  starts_past h = rw (drop_of_length-le xs h) refl

-- a number that is not refused is known
pub known : (n : Option (ℕ × ℕ)) → number_refusal n ≡ 0 → n ≡ Some (value_in n, place_in n)
unfolding number_refusal value_in place_in
known (Some (v, p)) e = refl
known None e = absurd (omega (arith, e))
