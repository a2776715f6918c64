-- The lines one by one, in the form in which the code meets them.
-- A line more is a record more in the first places of the four lists.
use Prim.Native.Nat.{ℕ, zero, suc, ◌+◌, ◌<◌, ◌≤◌}
use mathlib.Core.Path.{◌≡◌, refl}
use mathlib.Core.List.{List}
use native.Mathlib.Numerals.{add-one}
use lib.ListN.{length, set}
use lib.Seq.{take-suc-set}
use borrow.Author.Tests.{le-leb, lt-leb}
use Rattle.std.specs.Prelude.{Some, None}
use Rattle.loc_calls.specs.Table.{Batch}
use Rattle.loc_calls.specs.Calls.{unless_refused}
use Rattle.loc_parse.specs.declared.Fields.{Fields}
use Rattle.loc_parse.specs.Lines.{line_at, fields_refusal, parsed_as, added, if_whole, lines_from}
use Rattle.loc_parse.specs.Lists.{firsts}

-- ---- lines

module _ (xs : List ℕ) (id at : ℕ) (b : Batch) where
  pub lines_end : (m : ℕ) → length xs ≤ at → lines_from xs m id at b ≡ parsed_as 0 b
  unfolding lines_from
  lines_end zero h = rw (le-leb (length xs) at h) refl
  lines_end (suc m) h = rw (le-leb (length xs) at h) refl

  module _ (h : at < length xs) where
    -- one line too many
    pub lines_over : lines_from xs 0 id at b ≡ parsed_as 18 b
    unfolding lines_from
    lines_over = rw (lt-leb (length xs) at h) refl

    module _ (m j : ℕ) (e : m ≡ j + 1) where
      pub lines_broken : line_at xs at ≡ None → lines_from xs m id at b ≡ parsed_as 18 b
      unfolding lines_from if_whole
      lines_broken q = rw (e, add-one j, lt-leb (length xs) at h, q) refl

      module _ (f : Fields) (next : ℕ) (q : line_at xs at ≡ Some (f, next)) where
        pub lines_refused : (n : ℕ) → n ≡ fields_refusal id f → (n ≡ 0 → ⊥) → lines_from xs m id at b ≡ parsed_as n b
        unfolding lines_from if_whole
        lines_refused n r z = rw (e, add-one j, lt-leb (length xs) at h, q, ← r) (go n z)
          where
            go : (n : ℕ) → (n ≡ 0 → ⊥) → unless_refused n (lines_from xs j (id + 1) next (added b f)) (parsed_as n b) ≡ parsed_as n b
            go zero z = absurd (z refl)
            go (suc n) z = unfold unless_refused in refl

        pub lines_more : 0 ≡ fields_refusal id f → lines_from xs m id at b ≡ lines_from xs j (id + 1) next (added b f)
        unfolding lines_from if_whole unless_refused
        lines_more r = rw (e, add-one j, lt-leb (length xs) at h, q, ← r) refl

-- ---- in the lists

pub one_more : (i : ℕ) (a b c d : List ℕ) (f : Fields) → i < length a → i < length b → i < length c → i < length d
    → added (firsts i a b c d) f ≡ firsts (i + 1) (set a i f.start) (set b i f.len) (set c i f.span_start) (set d i f.spans)
unfolding added
one_more i a b c d f ha hb hc hd =
    rw (
      add-one i,
      take-suc-set a i f.start ha,
      take-suc-set b i f.len hb,
      take-suc-set c i f.span_start hc,
      take-suc-set d i f.spans hd,
    ) refl
