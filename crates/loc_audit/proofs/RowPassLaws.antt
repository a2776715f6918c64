-- The reader along the records: after record n it stands at the first row that is numbered above n.
-- So the row of the next record is the one that stands there, or there is none, and a row that is left at the end is above the count. Rows ascend throughout.
use Rattle.std.specs.Prelude.{Option, Some, None}
use Rattle.std.specs.Option.{is_none}
use Prim.Native.Nat.{ℕ, suc, ◌+◌, ◌≤◌, ◌<◌}
use mathlib.Core.Path.{◌≡◌, refl, sym, ap, ◌∙◌, subst}
use mathlib.Core.Logic.{◌⊎◌, inl, inr}
use mathlib.Core.Bool.{Bool, true, false, ◌&&◌, and-false}
use mathlib.Core.List.{List, [], ◌∷◌}
use native.Mathlib.Omega.{arith}
use native.Mathlib.Decide.{dec_le}
use lib.Dec.{ltb, eqb}
use lib.ListN.{length, take, drop}
use borrow.Author.Tests.{lt-ltb, lt-leb, le-leb, eq-eqb, ne_eqb, ltb-true, eqb-true, eqb-false}
use Rattle.loc_leaf.specs.declared.Kind.{Kind}
use Rattle.loc_leaf.specs.declared.Kind.TheVariants.{Paired, Single}
use Rattle.loc_leaf.specs.declared.Value.{Value}
use Rattle.loc_leaf.specs.Bytes.{Bytes}
use Rattle.loc_leaf.specs.Kind.{row_width}
use Rattle.loc_leaf.specs.Slot.{slot_at}
use Rattle.loc_leaf.specs.Rows.{row_number, row_value, row_for, has_row, lookup, ascending}
use Rattle.loc_leaf.proofs.Booleans.{is?, both_left, both_right}
use Rattle.loc_calls.specs.Areas.{Areas, count}
use Rattle.loc_calls.specs.Reading.{within}
use Rattle.loc_calls.specs.Audit.{row_wanted, row_sound, rows_sound}
use Rattle.loc_rows.specs.declared.Row.{Row}
use Rattle.loc_rows.specs.Reader.{fields, row_at, rows_from}
use Rattle.loc_rows.proofs.ReaderLaws.{row_none, row_whole, row_value_lem, rows_more, rows_none}
use Rattle.loc_audit.specs.Pass.{own_value, place_after}

-- ---- a list of rows

module _ (k : Kind) (id : ℕ) where
  lookup_nil : lookup k id [] ≡ None
  unfolding lookup has_row
  lookup_nil = refl

  module _ (r : Bytes) (rs : List Bytes) where
    lookup_first : row_number r ≡ id → lookup k id (r ∷ rs) ≡ Some (row_value k r)
    unfolding lookup has_row row_for
    lookup_first h = rw (eq-eqb (row_number r) id h) refl

    lookup_later : (row_number r ≡ id → ⊥) → lookup k id (r ∷ rs) ≡ lookup k id rs
    unfolding lookup has_row row_for
    lookup_later h = rw (ne_eqb (row_number r) id h) refl

module _ (n : ℕ) (r : Bytes) (rs : List Bytes) where
  first_above : ascending n (r ∷ rs) ≡ true → n < row_number r
  unfolding ascending
  first_above a = ltb-true n (row_number r) (both_left (ltb n (row_number r)) (ascending (row_number r) rs) a)

  rest_ascends : ascending n (r ∷ rs) ≡ true → ascending (row_number r) rs ≡ true
  unfolding ascending
  rest_ascends a = both_right (ltb n (row_number r)) (ascending (row_number r) rs) a

  ascends_from : n < row_number r → ascending (row_number r) rs ≡ true → ascending n (r ∷ rs) ≡ true
  unfolding ascending
  ascends_from h a = rw (lt-ltb n (row_number r) h, a) refl

-- above a number that is id or more no row is that of id
none_above : (k : Kind) (id m : ℕ) (rs : List Bytes) → id ≤ m → ascending m rs ≡ true → lookup k id rs ≡ None
none_above k id m [] h a = lookup_nil k id
none_above k id m (r ∷ rs) h a =
    let l : m < row_number r = first_above m r rs a in
    lookup_later k id r rs (λ e. omega arith) ∙ none_above k id (row_number r) rs (omega arith) (rest_ascends m r rs a)

-- ---- the reader

-- the rows from its place on are those that the records after n may have
pub record Left (k : Kind) (rs : List Bytes) (xs : Bytes) (n at : ℕ) : Type 0 where
  pub same : (id : ℕ) → n < id → lookup k id rs ≡ lookup k id (rows_from (row_width k) xs at)
  pub rise : ascending n (rows_from (row_width k) xs at) ≡ true

wide : (k : Kind) → 12 ≤ row_width k
wide Paired = omega arith
wide Single = omega arith

-- whether a record's row, if it has one, is wanted by its slot
unfoldable pub own_wanted : Kind → Bytes → Option Value → Bool
own_wanted k s (Some v) = row_wanted k s v
own_wanted k s None = true

-- whether the rows from a place on are sound
abbrev pub sound_from : Kind → Areas → Bytes → ℕ → Bool
sound_from k a xs at = rows_sound k a (rows_from (row_width k) xs at)

module _ (k : Kind) (a : Areas) (rs : List Bytes) (xs : Bytes) (n at : ℕ) (inside : n < count a) (w : Left k rs xs n at) where
  -- what one record more finds, where the reader then stands, and what is left to test of the rows
  pub record Turn (row : Option Row) (next : ℕ) : Type 0 where
    pub own : own_value row (suc n) ≡ lookup k (suc n) rs
    pub left : Left k rs xs (suc n) next
    pub rest : sound_from k a xs at ≡ (own_wanted k (slot_at a.slots (suc n)) (lookup k (suc n) rs) && sound_from k a xs next)

  -- without a row of its own the same rows are left
  none_own : lookup k (suc n) rs ≡ None → sound_from k a xs at ≡ (own_wanted k (slot_at a.slots (suc n)) (lookup k (suc n) rs) && sound_from k a xs at)
  unfolding own_wanted
  none_own q = rw q refl

  at_end : length xs < at + row_width k → Turn None at
  unfolding own_value ascending
  at_end h =
      record {
        own = sym lacks;
        left = record { same = λ id g. w.same id (omega arith); rise = rw none refl };
        rest = none_own lacks;
      }
    where
      none : rows_from (row_width k) xs at ≡ []
      none = rows_none (row_width k) xs at (wide k) h

      lacks : lookup k (suc n) rs ≡ None
      lacks = w.same (suc n) (omega arith) ∙ ap (lookup k (suc n)) none ∙ lookup_nil k (suc n)

  module _ (h : at + row_width k ≤ length xs) where
    abbrev here : Bytes
    here = take (row_width k) (drop at xs)

    abbrev others : List Bytes
    others = rows_from (row_width k) xs (at + row_width k)

    more : rows_from (row_width k) xs at ≡ here ∷ others
    more = rows_more (row_width k) xs at (wide k) h

    rises : ascending n (here ∷ others) ≡ true
    rises = sym (ap (ascending n) more) ∙ w.rise

    -- the record's own row
    at_own : row_number here ≡ suc n → Turn (Some (fields here)) (at + row_width k)
    unfolding fields own_value own_wanted rows_sound row_sound within
    at_own e =
        record {
          own = rw (eq-eqb (row_number here) (suc n) e) (ap (λ (v : Value). Some v) (row_value_lem k (drop at xs)) ∙ sym has_it);
          left = record {
            same = λ id g. w.same id (omega arith) ∙ ap (lookup k id) more ∙ lookup_later k id here others (λ q. omega arith);
            rise = subst (λ (i : ℕ). ascending i others ≡ true) e (rest_ascends n here others rises);
          };
          rest = rw (more, has_it, e, lt-ltb 0 (suc n) (omega arith), le-leb (suc n) (count a) inside) refl;
        }
      where
        has_it : lookup k (suc n) rs ≡ Some (row_value k here)
        has_it = w.same (suc n) (omega arith) ∙ ap (lookup k (suc n)) more ∙ lookup_first k (suc n) here others e

    -- a later record's, at which the reader stays
    at_other : (row_number here ≡ suc n → ⊥) → Turn (Some (fields here)) at
    unfolding fields own_value
    at_other e =
        record {
          own = rw (ne_eqb (row_number here) (suc n) e) (sym lacks);
          left = record { same = λ id g. w.same id (omega arith); rise = ap (ascending (suc n)) more ∙ rise };
          rest = none_own lacks;
        }
      where
        past : suc n < row_number here
        past = omega (arith, first_above n here others rises)

        rise : ascending (suc n) (here ∷ others) ≡ true
        rise = ascends_from (suc n) here others past (rest_ascends n here others rises)

        lacks : lookup k (suc n) rs ≡ None
        lacks = w.same (suc n) (omega arith) ∙ ap (lookup k (suc n)) more ∙ none_above k (suc n) (suc n) (here ∷ others) (omega arith) rise

  abbrev After : Option Row → Type 0
  After row = Turn row (place_after (row_width k) row (suc n) at)

  pub turn : After (row_at (row_width k) xs at)
  unfolding place_after own_value fields
  turn = go (dec_le (at + row_width k) (length xs))
    where
      go : Dec (at + row_width k ≤ length xs) → After (row_at (row_width k) xs at)
      go (yes h) = rw (row_whole (row_width k) xs at h) (by (is? (eqb (row_number (here h)) (suc n))))
        where
          by : (eqb (row_number (here h)) (suc n) ≡ true) ⊎ (eqb (row_number (here h)) (suc n) ≡ false) → After (Some (fields (here h)))
          by (inl t) = rw t (at_own h (eqb-true (row_number (here h)) (suc n) t))
          by (inr t) = rw t (at_other h (eqb-false (row_number (here h)) (suc n) t))
      go (no h) = rw (row_none (row_width k) xs at (omega arith)) (at_end (omega arith))

-- ---- after the last record

-- a row above the count is not sound
above_count : (k : Kind) (a : Areas) (r : Bytes) (rs : List Bytes) → ascending (count a) (r ∷ rs) ≡ true → rows_sound k a (r ∷ rs) ≡ false
unfolding rows_sound row_sound within
above_count k a r rs e = rw (lt-leb (row_number r) (count a) (first_above (count a) r rs e), and-false) refl

-- so the rows that are left are sound where there are none
pub rows_left : (k : Kind) (a : Areas) (rs : List Bytes) (xs : Bytes) (at : ℕ) → Left k rs xs (count a) at → sound_from k a xs at ≡ is_none (row_at (row_width k) xs at)
unfolding rows_sound
rows_left k a rs xs at w = go (dec_le (at + row_width k) (length xs))
  where
    go : Dec (at + row_width k ≤ length xs) → sound_from k a xs at ≡ is_none (row_at (row_width k) xs at)
    go (yes h) = ap (rows_sound k a) more ∙ above_count k a _ _ (sym (ap (ascending (count a)) more) ∙ w.rise) ∙ sym (ap is_none (row_whole (row_width k) xs at h))
      where
        more : rows_from (row_width k) xs at ≡ take (row_width k) (drop at xs) ∷ rows_from (row_width k) xs (at + row_width k)
        more = rows_more (row_width k) xs at (wide k) h
    go (no h) = ap (rows_sound k a) (rows_none (row_width k) xs at (wide k) (omega arith)) ∙ sym (ap is_none (row_none (row_width k) xs at (omega arith)))
