-- Slots and rows of a valid value read back, and when a slot needs a row.
-- A value is valid as the tests 8, 22, 9 and 10 leave it.
use Prim.Native.Nat.{ℕ, ◌+◌, ◌*◌, ◌/◌, ◌%◌, ◌^◌, ◌<◌}
use mathlib.Core.Path.{◌≡◌, refl, ◌∙◌}
use mathlib.Core.Logic.{◌⊎◌, inl, inr}
use mathlib.Core.Bool.{Bool, true, false, ◌&&◌, ◌||◌, or-true, and_self}
use mathlib.Core.List.{[], ◌++◌, append_assoc, append-nil}
use native.Mathlib.Omega.{arith}
use lib.Dec.{leb, ltb, eqb}
use lib.ListN.{length, length-append}
use borrow.Author.Tests.{lt-ltb, le-leb, lt-leb, eq-eqb, ne_eqb, ltb-true, ltb-false, leb-false, eqb-true}
use Rattle.loc_leaf.specs.declared.Kind.{Kind}
use Rattle.loc_leaf.specs.declared.Kind.TheVariants.{Paired, Single}
use Rattle.loc_leaf.specs.declared.Value.{Value}
use Rattle.loc_leaf.specs.Bytes.{Bytes, byte, bytes, number_at}
use Rattle.loc_leaf.specs.Kind.{row_width}
use Rattle.loc_leaf.specs.Slot.{below, slot, stored_as_zero, needs_row, inline}
use Rattle.loc_leaf.specs.Rows.{row, row_number, row_value}
use Rattle.loc_leaf.specs.Cut.{agrees, overflows, matches}
use Rattle.loc_leaf.proofs.Booleans.{is?, both_left, both_right, neither_left, neither_right}
use Rattle.loc_leaf.proofs.Stored.{length_bytes, at_first, at_past}

-- a span count of 32 bits that is not 0; 0 where single
unfoldable pub SpansFit : Kind → ℕ → Type 0
SpansFit Paired c = (0 < c) × (c < 2 ^ 32)
SpansFit Single c = c ≡ 0

pub record Valid (k : Kind) (v : Value) : Type 0 where
  pub some : 0 < v.strides
  pub fits : v.strides < 2 ^ 32
  pub spans_fit : SpansFit k v.spans

-- ---- widths

pub length_slot : (k : Kind) (v : Value) → length (slot k v) ≡ 2
unfolding slot bytes
length_slot Paired v = refl
length_slot Single v = refl

pub length_row : (k : Kind) (n : ℕ) (v : Value) → length (row k n v) ≡ row_width k
unfolding row
length_row Paired n v = simp (length-append, length_bytes)
length_row Single n v = simp (length-append, length_bytes)

-- ---- rows

pub row_number_lem : (k : Kind) (n : ℕ) (v : Value) → n < 2 ^ 64 → row_number (row k n v) ≡ n
unfolding row row_number
row_number_lem Paired n v h = at_first 8 n (bytes 4 v.strides ++ bytes 4 v.spans) h
row_number_lem Single n v h = at_first 8 n (bytes 4 v.strides) h

-- the number of four bytes that ends a row
last_four : (at : ℕ) (p : Bytes) (v : ℕ) → length p ≡ at → v < 2 ^ 32 → number_at 4 at (p ++ bytes 4 v) ≡ v
last_four at p v h g = at_past 4 at p (bytes 4 v) h ∙ rw (append-nil (bytes 4 v)) at (at_first 4 v [] g)

pub row_value_lem : (k : Kind) (n : ℕ) (v : Value) → Valid k v → row_value k (row k n v) ≡ v
unfolding row row_value SpansFit
row_value_lem Paired n v h = rw (strides_are, spans_are) refl
  where
    strides_are : number_at 4 8 (bytes 8 n ++ (bytes 4 v.strides ++ bytes 4 v.spans)) ≡ v.strides
    strides_are =
        at_past 4 8 (bytes 8 n) (bytes 4 v.strides ++ bytes 4 v.spans) (length_bytes 8 n)
        ∙ at_first 4 v.strides (bytes 4 v.spans) h.fits

    spans_are : number_at 4 12 (bytes 8 n ++ (bytes 4 v.strides ++ bytes 4 v.spans)) ≡ v.spans
    spans_are =
        rw (← append_assoc (bytes 8 n) (bytes 4 v.strides) (bytes 4 v.spans))
        (last_four 12 (bytes 8 n ++ bytes 4 v.strides) v.spans (simp (length-append, length_bytes)) h.spans_fit.1)
row_value_lem Single n v h = rw (last_four 8 (bytes 8 n) v.strides (length_bytes 8 n) h.fits, ← h.spans_fit) refl

-- ---- slots

below_zero : (m v : ℕ) → 0 < v → eqb (below m v) 0 ≡ leb m v
below_zero m v h = go (is? (ltb v m))
  where
    go : (ltb v m ≡ true) ⊎ (ltb v m ≡ false) → eqb (below m v) 0 ≡ leb m v
    go (inl t) = rw (t, lt-leb m v (ltb-true v m t)) (ne_eqb v 0 (λ z. omega arith))
    go (inr t) = rw (t, le-leb m v (ltb-false v m t)) refl

two_zero : (v : ℕ) → v < 65536 → 0 < v → (eqb (v % 256) 0 && eqb (v / 256 % 256) 0) ≡ false
two_zero v h p = go (is? (eqb (v % 256) 0))
  where
    go : (eqb (v % 256) 0 ≡ true) ⊎ (eqb (v % 256) 0 ≡ false) → (eqb (v % 256) 0 && eqb (v / 256 % 256) 0) ≡ false
    go (inl t) = rw t (ne_eqb (v / 256 % 256) 0 (λ z. omega (arith, eqb-true (v % 256) 0 t)))
    go (inr t) = rw t refl

-- a slot needs a row where a value is stored as 0
pub needs_row_lem : (k : Kind) (v : Value) → Valid k v → needs_row k (slot k v) ≡ stored_as_zero k v
unfolding slot needs_row stored_as_zero SpansFit bytes
needs_row_lem Paired v h = rw (below_zero 256 v.strides h.some, below_zero 256 v.spans h.spans_fit.0) refl
needs_row_lem Single v h = go (is? (ltb v.strides 65536))
  where
    go : (ltb v.strides 65536 ≡ true) ⊎ (ltb v.strides 65536 ≡ false)
        → (eqb (below 65536 v.strides % 256) 0 && eqb (below 65536 v.strides / 256 % 256) 0) ≡ leb 65536 v.strides
    go (inl t) = rw (t, lt-leb 65536 v.strides (ltb-true _ _ t)) (two_zero v.strides (ltb-true _ _ t) h.some)
    go (inr t) = rw (t, le-leb 65536 v.strides (ltb-false _ _ t)) refl

-- a slot that needs no row says its value
pub inline_own : (k : Kind) (v : Value) → Valid k v → stored_as_zero k v ≡ false → inline k (slot k v) ≡ v
unfolding inline slot stored_as_zero SpansFit bytes
inline_own Paired v h t =
    rw (
      lt-ltb v.strides 256 (leb-false 256 _ (neither_left (leb 256 v.strides) (leb 256 v.spans) t)),
      lt-ltb v.spans 256 (leb-false 256 _ (neither_right (leb 256 v.strides) (leb 256 v.spans) t)),
    ) refl
inline_own Single v h t = rw (lt-ltb v.strides 65536 small, two_bytes v.strides small, ← h.spans_fit) refl
  where
    small : v.strides < 65536
    small = leb-false 65536 v.strides t

    two_bytes : (x : ℕ) → x < 65536 → x % 256 + 256 * (x / 256 % 256) ≡ x
    two_bytes x g = omega arith

-- ---- the cut rule's test

agrees_own : (x : ℕ) → agrees (below 256 x) x ≡ true
agrees_own x = go (is? (ltb x 256))
  where
    go : (ltb x 256 ≡ true) ⊎ (ltb x 256 ≡ false) → agrees (below 256 x) x ≡ true
    go (inl t) = rw (t, eq-eqb x x refl) (or-true (eqb x 0))
    go (inr t) = rw t refl

overflows_own : (x : ℕ) → 0 < x → overflows (below 256 x) x ≡ leb 256 x
overflows_own x h = rw (below_zero 256 x h) (and_self (leb 256 x))

-- a slot that needs a row matches its own value, and only a slot that needs one matches any
pub matches_own : (k : Kind) (v : Value) → Valid k v → stored_as_zero k v ≡ true → matches k (slot k v) v ≡ true
unfolding matches slot stored_as_zero SpansFit
matches_own Paired v h t =
    rw (agrees_own v.strides, agrees_own v.spans, overflows_own v.strides h.some, overflows_own v.spans h.spans_fit.0) t
matches_own Single v h t = rw (needs_row_lem Single v h ∙ t) t

either_zero : (a b c d : Bool) → (a && b || c && d) ≡ true → (a || c) ≡ true
either_zero true b c d t = refl
either_zero false b true d t = refl
either_zero false b false d t = t

pub matches_needs : (k : Kind) (s : Bytes) (v : Value) → matches k s v ≡ true → needs_row k s ≡ true
unfolding matches needs_row
matches_needs Paired s v t =
    either_zero (eqb (byte 0 s) 0) (leb 256 v.strides) (eqb (byte 1 s) 0) (leb 256 v.spans)
    (both_right (agrees (byte 0 s) v.strides && agrees (byte 1 s) v.spans) (overflows (byte 0 s) v.strides || overflows (byte 1 s) v.spans) t)
matches_needs Single s v t = both_left (needs_row Single s) (leb 65536 v.strides) t
