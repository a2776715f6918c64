-- What is printed of areas that hold a list whole is their listing: every window can be read.
-- Its windows' lines, one after the other, are the lines of all records.
use Prim.Native.Nat.{ℕ, zero, suc, ◌+◌, ◌-◌, ◌≤◌}
use mathlib.Core.Path.{◌≡◌, refl, ap, ◌∙◌}
use mathlib.Core.List.{List, ◌++◌, append_assoc, append-nil}
use native.Mathlib.Omega.{arith}
use Rattle.loc_leaf.specs.declared.Kind.TheVariants.{Paired}
use Rattle.loc_calls.specs.Areas.{Areas, count}
use Rattle.loc_calls.specs.Table.{Entry}
use Rattle.loc_calls.specs.Calls.{unless_refused}
use Rattle.loc_calls.proofs.Opening.{Full}
use Rattle.loc_calls.proofs.Settled.{not_1_nor_6}
use Rattle.loc_calls.proofs.Reading.{none_missing}
use Rattle.loc_listing.specs.Text.{names}
use Rattle.loc_listing.specs.Listing.{lines_after, listing}
use Rattle.loc_print.specs.Printed.{numbers_after, window_refusal, window_lines, window_size, windows_from, window_count, printed}
use Rattle.loc_print.proofs.WindowLaws.{lines_join}

module _ (a : Areas) (E : List Entry) (s : Full Paired a E) where
  not_refused : (m n : ℕ) → window_refusal a m n ≡ 0
  unfolding window_refusal
  not_refused m n = rw (not_1_nor_6 Paired a E s, none_missing Paired a E s (numbers_after m n)) refl

  all_windows : (w m : ℕ) → m ≤ count a → w ≡ window_count (count a - m) → lines_after a 0 m ++ windows_from a m w ≡ lines_after a 0 (count a)
  unfolding windows_from window_lines unless_refused
  all_windows zero m h e =
      let last : m ≡ count a = omega arith in
      append-nil (lines_after a 0 m) ∙ ap (lines_after a 0) last
  all_windows (suc w) m h e =
      rw (not_refused m (window_size a m), ← append_assoc, ← lines_join a m (window_size a m))
      (all_windows w (m + window_size a m) (omega arith) (omega arith))

  pub printed_whole : printed a ≡ listing a
  unfolding printed listing lines_after
  printed_whole =
      let none : count a - 0 ≡ count a = omega arith in
      ap (λ (x : List ℕ). names ++ x) (all_windows (window_count (count a)) 0 (omega arith) (rw none refl))
