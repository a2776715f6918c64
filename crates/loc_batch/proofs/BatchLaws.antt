-- A batch record by record: its entries by place, its first refusal, and how many rows it stages.
-- Laws in the form in which the code meets them.
use Prim.Native.Nat.{ℕ, zero, suc, ◌+◌, ◌-◌, ◌/◌, ◌^◌, ◌≤◌, ◌<◌}
use mathlib.Core.Path.{◌≡◌, refl, sym, ap, ◌∙◌}
use mathlib.Core.Bool.{Bool, true, false, cond}
use Rattle.std.specs.Prelude.{Ok, Err}
use mathlib.Core.List.{List, [], ◌∷◌, ◌++◌}
use native.Mathlib.Nat.{add-zero, zero-add, add_assoc, sub-zero}
use native.Mathlib.Omega.{arith}
use mir.Val.{bool_byte}
use lib.ListN.{length, length-append}
use borrow.Author.Tests.{eqb-false}
use Rattle.loc_leaf.specs.declared.Kind.{Kind}
use Rattle.loc_leaf.specs.declared.Kind.TheVariants.{Paired, Single}
use Rattle.loc_leaf.specs.declared.Value.{Value}
use Rattle.loc_leaf.specs.declared.refusal.Refusal.{Refusal}
use Rattle.loc_leaf.specs.Answers.{◌or_else◌, number_of}
use Rattle.loc_leaf.specs.Slot.{slot, stored_as_zero, needs_row}
use Rattle.loc_leaf.specs.Rows.{row}
use Rattle.loc_calls.specs.Table.{Entry, value_of, spanless, breaks, entry_refusal, entries_refusal}
use Rattle.loc_calls.specs.Stores.{gather, row_of}
use Rattle.loc_leaf.proofs.SlotLaws.{WholeStrides}
use Rattle.loc_leaf.proofs.ValueLaws.{SpansFit, needs_row_lem}
use Rattle.loc_leaf.proofs.Refusals.{or_else_first, or_else_zero, number_some}
use Rattle.loc_calls.proofs.Batches.{some_spans, whole_strides}
use Rattle.loc_batch.specs.Lists.{listed, Sound, rows_of, row_total, Tested}

-- ---- rows

-- a record that 8, 22, 9 and 10 leave needs a row where a value is stored as 0
needs_zero : (k : Kind) (e : Entry) → Sound k e → e.spans < 2 ^ 32 → needs_row k (slot k (value_of e)) ≡ stored_as_zero k (value_of e)
unfolding value_of slot stored_as_zero spanless SpansFit
needs_zero Paired e s h = let z : e.spans ≡ 0 → ⊥ = eqb-false e.spans 0 s.spanned in needs_row_lem Paired (value_of e) (record { some = s.some; fits = s.fits; spans_fit = (omega arith, h) })
needs_zero Single e s h = needs_row_lem Single (record { strides = e.len / 8; spans = 0 }) (record { some = s.some; fits = s.fits; spans_fit = refl })

module _ (k : Kind) (e : Entry) (s : Sound k e) (h : e.spans < 2 ^ 32) (v : Value) (ev : v ≡ value_of e) (b : Bool) (eb : b ≡ stored_as_zero k v) where
  pub needed : b ≡ needs_row k (slot k (value_of e))
  needed = eb ∙ rw ev (sym (needs_zero k e s h))

  pub rows_is : (n : ℕ) → n ≡ bool_byte b → (n ≡ rows_of k e) × (n ≤ 1)
  unfolding rows_of
  rows_is n q = rw (q, ← needed) (go b)
    where
      go : (c : Bool) → (bool_byte c ≡ cond c 1 0) × (bool_byte c ≤ 1)
      go true = (refl, omega arith)
      go false = (refl, omega arith)

-- ---- one record after the other

pub length_listed : (f : ℕ → Entry) (i n : ℕ) → length (listed f i n) ≡ n
unfolding listed
length_listed f i zero = refl
length_listed f i (suc n) = ap suc (length_listed f (i + 1) n)

pub listed_next : (f : ℕ → Entry) (i n : ℕ) → i < n → listed f i (n - i) ≡ f i ∷ listed f (i + 1) (n - (i + 1))
unfolding listed
listed_next f i n h = let e : n - i ≡ suc (n - (i + 1)) = omega arith in rw e refl

pub listed_end : (f : ℕ → Entry) (i n : ℕ) → n ≤ i → listed f i (n - i) ≡ []
unfolding listed
listed_end f i n h = let z : n - i ≡ 0 = omega arith in rw z refl

-- a record breaks with the next one alone
one_next : (k : Kind) (e d : Entry) (ds : List Entry) → entry_refusal k e (d ∷ ds) ≡ entry_refusal k e (d ∷ [])
unfolding entry_refusal breaks
one_next k e d ds = refl

pub left_sound : (k : Kind) (e : Entry) (ds : List Entry) → 0 ≡ entry_refusal k e ds → Sound k e
left_sound k e ds z =
    let t : WholeStrides e.len = whole_strides k e ds (sym z) in
    record { some = t.1; fits = t.2; spanned = some_spans k e ds (sym z) }

-- the records before the one at hand are passed, with so many rows; i is the next record's place
pub record Passed (k : Kind) (f : ℕ → Entry) (n : ℕ) (e : Entry) (rows i : ℕ) : Type 0 where
  pub few : rows < i
  pub refusal : entries_refusal k (listed f 0 n) ≡ entries_refusal k (e ∷ listed f i (n - i))
  pub total : row_total k (listed f 0 n) ≡ rows + row_total k (e ∷ listed f i (n - i))

rows_le : (k : Kind) (e : Entry) → rows_of k e ≤ 1
unfolding rows_of
rows_le k e = go (needs_row k (slot k (value_of e)))
  where
    go : (b : Bool) → cond b 1 0 ≤ 1
    go true = omega arith
    go false = omega arith

module _ (k : Kind) (f : ℕ → Entry) (n : ℕ) where
  pub passed_begin : (e : Entry) → 0 < n → e ≡ f 0 → Passed k f n e 0 1
  passed_begin e h q = record {
    few = omega arith;
    refusal = ap (entries_refusal k) first;
    total = ap (row_total k) first ∙ sym (zero-add (row_total k (e ∷ listed f 1 (n - 1))));
  }
    where
      first : listed f 0 n ≡ e ∷ listed f 1 (n - 1)
      first = ap (listed f 0) (sym (sub-zero n)) ∙ listed_next f 0 n h ∙ ap (λ (d : Entry). d ∷ listed f 1 (n - 1)) (sym q)

  module _ (e : Entry) (rows i : ℕ) (p : Passed k f n e rows i) where
    module _ (h : i < n) (d : Entry) (ed : d ≡ f i) where
      next : listed f i (n - i) ≡ d ∷ listed f (i + 1) (n - (i + 1))
      next = listed_next f i n h ∙ ap (λ (c : Entry). c ∷ listed f (i + 1) (n - (i + 1))) (sym ed)

      both : (number : ℕ) → number ≡ entry_refusal k e (d ∷ []) → entries_refusal k (listed f 0 n) ≡ number or_else entries_refusal k (d ∷ listed f (i + 1) (n - (i + 1)))
      unfolding entries_refusal
      both number q = p.refusal ∙ rw next (rw (one_next k e d (listed f (i + 1) (n - (i + 1))), ← q) refl)

      pub passed_turn : 0 ≡ entry_refusal k e (d ∷ []) → (r : ℕ) → r ≡ rows_of k e → Passed k f n d (rows + r) (i + 1)
      unfolding row_total
      passed_turn z r er = record {
        few = omega (arith, p.few, rows_le k e);
        refusal = both 0 z;
        total = p.total ∙ rw (next, ← er) (sym (add_assoc rows r (row_total k (d ∷ listed f (i + 1) (n - (i + 1))))));
      }

      pub passed_refused : (r : Refusal) → number_of r ≡ entry_refusal k e (d ∷ []) → Tested k (listed f 0 n) (Err r)
      passed_refused r q = record { refused = sym (both (number_of r) q ∙ or_else_first (number_of r) _ (number_some r)); total = tt }

    module _ (h : n ≤ i) where
      last : (number : ℕ) → number ≡ entry_refusal k e [] → entries_refusal k (listed f 0 n) ≡ number
      unfolding entries_refusal
      last number q = p.refusal ∙ rw (listed_end f i n h) (rw (← q) (or_else_zero number))

      pub last_refused : (r : Refusal) → number_of r ≡ entry_refusal k e [] → Tested k (listed f 0 n) (Err r)
      last_refused r q = record { refused = sym (last (number_of r) q); total = tt }

      pub last_passed : 0 ≡ entry_refusal k e [] → (r : ℕ) → r ≡ rows_of k e → Tested k (listed f 0 n) (Ok (rows + r))
      unfolding row_total
      last_passed z r er = record {
        refused = sym (last 0 z);
        total = sym (p.total ∙ rw (listed_end f i n h, ← er, add-zero r) refl);
      }

-- the rows that are staged are so many
pub rows_staged : (k : Kind) (m : ℕ) (es : List Entry) → length (gather (row_of k) m es) ≡ row_total k es
unfolding gather row_of row_total rows_of
rows_staged k m [] = refl
rows_staged k m (e ∷ es) = go (needs_row k (slot k (value_of e))) (rows_staged k (suc m) es)
  where
    go : (b : Bool) → length (gather (row_of k) (suc m) es) ≡ row_total k es
        → length (cond b (row k (suc m) (value_of e) ∷ []) [] ++ gather (row_of k) (suc m) es) ≡ cond b 1 0 + row_total k es
    go true q = rw (length-append (row k (suc m) (value_of e) ∷ []) (gather (row_of k) (suc m) es), q) refl
    go false q = q ∙ sym (zero-add (row_total k es))
