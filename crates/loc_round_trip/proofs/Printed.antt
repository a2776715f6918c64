-- The listing of areas that hold a good list whole: the line of names, and the lines of the list's records.
-- It depends on the list alone.
use Prim.Native.Nat.{ℕ, zero, suc, ◌+◌, ◌-◌, ◌*◌, ◌≤◌, ◌<◌}
use mathlib.Core.Path.{◌≡◌, refl, sym, ap, ◌∙◌}
use mathlib.Core.Bool.{true}
use mathlib.Core.List.{List, [], ◌∷◌, ◌++◌, append_assoc, append-nil}
use native.Mathlib.Nat.{add-zero, zero-add}
use native.Mathlib.Omega.{arith}
use lib.ListN.{length, take, drop, get_or}
use lib.Seq.{take-suc, take-length, length-take-le}
use borrow.Author.Tests.{le-leb, lt-ltb}
use Rattle.loc_leaf.specs.declared.Kind.TheVariants.{Paired}
use Rattle.loc_calls.specs.Areas.{Areas}
use Rattle.loc_calls.specs.Table.{Entry}
use Rattle.loc_calls.specs.Reading.{within, words_for}
use Rattle.loc_calls.proofs.State.{count_is}
use Rattle.loc_calls.proofs.Opening.{Full}
use Rattle.loc_calls.proofs.Chains.{Good}
use Rattle.loc_calls.proofs.Reading.{none, entry_words, words_are}
use Rattle.loc_listing.specs.Text.{line, names}
use Rattle.loc_listing.specs.Listing.{line_for, lines_after, listing, entry_line, entry_lines}

-- ---- lines of joined lists

lines_append : (m : ℕ) (P Q : List Entry) → entry_lines m (P ++ Q) ≡ entry_lines m P ++ entry_lines (m + length P) Q
unfolding entry_lines
lines_append m [] Q = rw (add-zero m) refl
lines_append m (e ∷ P) Q =
    ap (λ (x : List ℕ). entry_line (suc m) e ++ x) (lines_append (suc m) P Q)
    ∙ sym (append_assoc (entry_line (suc m) e) (entry_lines (suc m) P) (entry_lines (suc m + length P) Q))
    ∙ ap (λ (i : ℕ). (entry_line (suc m) e ++ entry_lines (suc m) P) ++ entry_lines i Q) place
  where
    place : suc m + length P ≡ m + suc (length P)
    place = omega arith

-- ---- a line of the areas

module _ (a : Areas) (E : List Entry) (s : Full Paired a E) (g : Good E) where
  line_is : (i : ℕ) → i < length E → line_for a (suc i) ≡ entry_line (suc i) (get_or E i none)
  unfolding line_for entry_line
  line_is i h = ap (λ (ws : List ℕ). line (suc i ∷ drop 1 ws)) words
    where
      inside : within (length E) (suc i) ≡ true
      inside = unfold within in rw (lt-ltb 0 (suc i) (omega arith), le-leb (suc i) (length E) (omega arith)) refl

      one_less : suc i - 1 ≡ i
      one_less = omega arith

      words : words_for Paired a (suc i) ≡ 1 ∷ (get_or E i none).start ∷ (get_or E i none).len ∷ (get_or E i none).span_start ∷ 8 * (get_or E i none).spans ∷ (get_or E i none).spans ∷ []
      words = words_are Paired a E s g (suc i) ∙ rw (inside, one_less) (unfold entry_words in refl)

  lines_are : (n : ℕ) → n ≤ length E → lines_after a 0 n ≡ entry_lines 0 (take n E)
  unfolding lines_after entry_lines
  lines_are zero h = refl
  lines_are (suc n) h =
      rw (
        lines_are n (omega arith),
        zero-add (suc n),
        line_is n h,
        take-suc E n none h,
        lines_append 0 (take n E) (get_or E n none ∷ []),
        length-take-le n E (omega arith),
        zero-add n,
        append-nil,
      ) refl

  pub listing_is : listing a ≡ names ++ entry_lines 0 E
  unfolding listing
  listing_is =
      ap (λ (x : List ℕ). names ++ x)
      (ap (lines_after a 0) (count_is Paired a E _ _ s) ∙ lines_are (length E) (omega arith) ∙ ap (entry_lines 0) (take-length E))
