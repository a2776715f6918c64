-- What append stages for a list of records: lengths, widths, first parts, and where a row stands.
-- All three lists are `gather f 0 E` for one f each.
use Prim.Native.Nat.{ℕ, zero, suc, ◌+◌, ◌-◌, ◌/◌, ◌%◌, ◌^◌, ◌≤◌, ◌<◌, min}
use mathlib.Core.Path.{◌≡◌, refl, sym, ap, ◌∙◌, subst}
use mathlib.Core.Logic.{◌⊎◌, inl, inr}
use mathlib.Core.Bool.{Bool, true, false, cond}
use mathlib.Core.List.{List, [], ◌∷◌, ◌++◌, append_assoc}
use native.Mathlib.Nat.{add-zero, add-suc, suc-add, zero-add, suc-min-suc, zero-min, min-zero, le_of_suc-le-suc, not-suc-le-zero, sub-eq-zero_of_le}
use native.Mathlib.Omega.{arith}
use native.Mathlib.Decide.{dec_le}
use lib.Dec.{leb, ltb, eqb}
use lib.ListN.{length, take, drop, length-append, length-take, take-append-drop}
use lib.Seq.{take-append_seam, take-nil, take-take, take-length, length-take-le}
use borrow.Author.Tests.{le-leb, lt-leb, lt-ltb, eqb-true, eqb-false}
use Rattle.loc_leaf.specs.declared.Kind.{Kind}
use Rattle.loc_leaf.specs.declared.Kind.TheVariants.{Paired, Single}
use Rattle.loc_leaf.specs.Bytes.{Bytes}
use Rattle.loc_leaf.specs.Kind.{row_width, checkpoint_width}
use Rattle.loc_leaf.specs.Slot.{slot, needs_row}
use Rattle.loc_leaf.specs.Rows.{row, row_number, ascending, last_number, rows_up_to}
use Rattle.loc_leaf.proofs.Booleans.{is?, both_left, both_right}
use Rattle.loc_leaf.proofs.Stored.{length_bytes}
use Rattle.loc_leaf.proofs.AreaLaws.{Widths}
use Rattle.loc_leaf.proofs.ValueLaws.{Valid, length_slot, length_row, row_number_lem}
use Rattle.loc_calls.specs.Table.{Entry, value_of, body_after}
use Rattle.loc_calls.specs.Stores.{checkpoint, gather, slot_of, row_of, checkpoint_of}

-- the slots, rows and checkpoints of a list
abbrev pub slots_of : Kind → List Entry → List Bytes
slots_of k E = gather (slot_of k) 0 E

abbrev pub rows_of : Kind → List Entry → List Bytes
rows_of k E = gather (row_of k) 0 E

abbrev pub checkpoints_of : Kind → List Entry → List Bytes
checkpoints_of k E = gather (checkpoint_of k) 0 E

-- ---- valid records

pub record ValidEntry (k : Kind) (e : Entry) : Type 0 where
  pub whole : e.len % 8 ≡ 0
  pub value : Valid k (value_of e)

unfoldable pub AllValid : Kind → List Entry → Type 0
AllValid k [] = Unit
AllValid k (e ∷ es) = ValidEntry k e × AllValid k es

pub valid_append : (k : Kind) (es ds : List Entry) → AllValid k es → AllValid k ds → AllValid k (es ++ ds)
unfolding AllValid
valid_append k [] ds v w = w
valid_append k (e ∷ es) ds v w = (v.0, valid_append k es ds v.1 w)

pub valid_take : (k : Kind) (n : ℕ) (es : List Entry) → AllValid k es → AllValid k (take n es)
unfolding AllValid
valid_take k zero es v = tt
valid_take k (suc n) [] v = tt
valid_take k (suc n) (e ∷ es) v = (v.0, valid_take k n es v.1)

pub valid_at : (k : Kind) (P : List Entry) (e : Entry) (S : List Entry) → AllValid k (P ++ (e ∷ S)) → ValidEntry k e
unfolding AllValid
valid_at k [] e S v = v.0
valid_at k (p ∷ P) e S v = valid_at k P e S v.1

-- ---- joined and first parts

pub gather_append : (f : ℕ → Entry → List Bytes) (n : ℕ) (es ds : List Entry) → gather f n (es ++ ds) ≡ gather f n es ++ gather f (n + length es) ds
unfolding gather
gather_append f n [] ds = rw (add-zero n) refl
gather_append f n (e ∷ es) ds =
    rw (gather_append f (suc n) es ds, add-suc n (length es), ← suc-add n (length es))
    (sym (append_assoc (f (suc n) e) (gather f (suc n) es) (gather f (suc n + length es) ds)))

-- a list from its start, with another behind it
pub gather_after : (f : ℕ → Entry → List Bytes) (es ds : List Entry) → gather f 0 (es ++ ds) ≡ gather f 0 es ++ gather f (length es) ds
gather_after f es ds = gather_append f 0 es ds ∙ ap (λ (i : ℕ). gather f 0 es ++ gather f i ds) (zero-add (length es))

pub gather_take : (f : ℕ → Entry → List Bytes) (m : ℕ) (es : List Entry) → gather f 0 (take m es) ≡ take (length (gather f 0 (take m es))) (gather f 0 es)
gather_take f m es =
    sym (take-append_seam (gather f 0 (take m es)) (gather f (length (take m es)) (drop m es)))
    ∙ ap (take (length (gather f 0 (take m es)))) (sym (gather_after f (take m es) (drop m es)) ∙ ap (gather f 0) (take-append-drop m es))

-- ---- widths

pub widths_slots : (k : Kind) (n : ℕ) (es : List Entry) → Widths 2 (gather (slot_of k) n es)
unfolding gather Widths
widths_slots k n [] = tt
widths_slots k n (e ∷ es) = (length_slot k (value_of e), widths_slots k (suc n) es)

pub widths_rows : (k : Kind) (n : ℕ) (es : List Entry) → Widths (row_width k) (gather (row_of k) n es)
unfolding gather Widths row_of
widths_rows k n [] = tt
widths_rows k n (e ∷ es) = go (widths_rows k (suc n) es) (needs_row k (slot k (value_of e)))
  where
    go : Widths (row_width k) (gather (row_of k) (suc n) es) → (b : Bool) → Widths (row_width k) (cond b (row k (suc n) (value_of e) ∷ []) [] ++ gather (row_of k) (suc n) es)
    go ih true = (length_row k (suc n) (value_of e), ih)
    go ih false = ih

pub length_checkpoint : (k : Kind) (e : Entry) → length (checkpoint k e) ≡ checkpoint_width k
unfolding checkpoint
length_checkpoint Paired e = simp (length-append, length_bytes)
length_checkpoint Single e = length_bytes 8 (body_after e)

pub widths_checkpoints : (k : Kind) (n : ℕ) (es : List Entry) → Widths (checkpoint_width k) (gather (checkpoint_of k) n es)
unfolding gather Widths checkpoint_of
widths_checkpoints k n [] = tt
widths_checkpoints k n (e ∷ es) = go (widths_checkpoints k (suc n) es) (eqb (suc n % 1024) 0)
  where
    go : Widths (checkpoint_width k) (gather (checkpoint_of k) (suc n) es) → (b : Bool) → Widths (checkpoint_width k) (cond b (checkpoint k e ∷ []) [] ++ gather (checkpoint_of k) (suc n) es)
    go ih true = (length_checkpoint k e, ih)
    go ih false = ih

-- ---- slots: one for each record

pub length_slots : (k : Kind) (n : ℕ) (es : List Entry) → length (gather (slot_of k) n es) ≡ length es
unfolding gather
length_slots k n [] = refl
length_slots k n (e ∷ es) = ap suc (length_slots k (suc n) es)

pub slots_take : (k : Kind) (es : List Entry) (n : ℕ) → n ≤ length es → slots_of k (take n es) ≡ take n (slots_of k es)
slots_take k es n h = gather_take (slot_of k) n es ∙ ap (λ (i : ℕ). take i (slots_of k es)) (length_slots k 0 (take n es) ∙ length-take-le n es h)

-- ---- checkpoints: one for 1,024 records

pub length_checkpoints_from : (k : Kind) (n : ℕ) (es : List Entry) → length (gather (checkpoint_of k) n es) + n / 1024 ≡ (n + length es) / 1024
unfolding gather checkpoint_of
length_checkpoints_from k n [] = rw (add-zero n) (zero-add (n / 1024))
length_checkpoints_from k n (e ∷ es) = rw (add-suc n (length es), ← suc-add n (length es)) (go (length_checkpoints_from k (suc n) es) (is? (eqb (suc n % 1024) 0)))
  where
    go : length (gather (checkpoint_of k) (suc n) es) + suc n / 1024 ≡ (suc n + length es) / 1024
        → (eqb (suc n % 1024) 0 ≡ true) ⊎ (eqb (suc n % 1024) 0 ≡ false)
        → length (cond (eqb (suc n % 1024) 0) (checkpoint k e ∷ []) [] ++ gather (checkpoint_of k) (suc n) es) + n / 1024 ≡ (suc n + length es) / 1024
    go ih (inl t) = rw t (omega (arith, eqb-true (suc n % 1024) 0 t))
    go ih (inr t) = rw t (let z : suc n % 1024 ≡ 0 → ⊥ = eqb-false (suc n % 1024) 0 t in omega arith)

pub length_checkpoints : (k : Kind) (es : List Entry) → length (checkpoints_of k es) ≡ length es / 1024
length_checkpoints k es = omega (arith, length_checkpoints_from k 0 es)

pub checkpoints_take : (k : Kind) (es : List Entry) (n : ℕ) → n ≤ length es → checkpoints_of k (take n es) ≡ take (n / 1024) (checkpoints_of k es)
checkpoints_take k es n h =
    gather_take (checkpoint_of k) n es
    ∙ ap (λ (i : ℕ). take i (checkpoints_of k es)) (length_checkpoints k (take n es) ∙ ap (λ (i : ℕ). i / 1024) (length-take-le n es h))

-- ---- rows: how many the first n records have

unfoldable pub rows_in : Kind → List Entry → ℕ → ℕ
rows_in k es n = length (rows_of k (take n es))

pub rows_take : (k : Kind) (es : List Entry) (n : ℕ) → rows_of k (take n es) ≡ take (rows_in k es n) (rows_of k es)
unfolding rows_in
rows_take k es n = gather_take (row_of k) n es

pub rows_in_zero : (k : Kind) (es : List Entry) → rows_in k es 0 ≡ 0
unfolding rows_in gather
rows_in_zero k es = refl

pub rows_in_all : (k : Kind) (es : List Entry) → rows_in k es (length es) ≡ length (rows_of k es)
unfolding rows_in
rows_in_all k es = rw (take-length es) refl

pub rows_in_take : (k : Kind) (es : List Entry) (m i : ℕ) → i ≤ m → rows_in k (take m es) i ≡ rows_in k es i
unfolding rows_in
rows_in_take k es m i h = rw (take-take i m es h) refl

pub rows_in_mono : (k : Kind) (es : List Entry) (i j : ℕ) → i ≤ j → rows_in k es i ≤ rows_in k es j
unfolding rows_in
rows_in_mono k es i j h = subst (λ (l : List Entry). length (rows_of k l) ≤ rows_in k es j) (take-take i j es h) shorter
  where
    shorter : length (rows_of k (take i (take j es))) ≤ length (rows_of k (take j es))
    shorter = rw (ap length (gather_take (row_of k) i (take j es)), length-take) (omega arith)

-- ---- the numbers of rows

-- of the first r rows, those numbered up to n are the rows of the first n records
pub rows_up_to_lem : (k : Kind) (n r m : ℕ) (es : List Entry) → m + length es < 2 ^ 64
    → rows_up_to n (take r (gather (row_of k) m es)) ≡ min r (length (gather (row_of k) m (take (n - m) es)))
unfolding gather row_of rows_up_to
rows_up_to_lem k n r m [] h = rw (take-nil {A = Bytes} r, take-nil {A = Entry} (n - m)) (sym (min-zero r))
rows_up_to_lem k n r m (e ∷ es) h = go (λ j. rows_up_to_lem k n j (suc m) es (omega arith)) (dec_le (suc m) n)
  where
    own : Bytes
    own = row k (suc m) (value_of e)

    others : List Bytes
    others = gather (row_of k) (suc m) es

    Rest : ℕ → Type 0
    Rest j = rows_up_to n (take j others) ≡ min j (length (gather (row_of k) (suc m) (take (n - suc m) es)))

    number_test : (b : Bool) → leb (suc m) n ≡ b → (j : ℕ) → rows_up_to n (own ∷ take j others) ≡ cond b (suc (rows_up_to n (take j others))) (rows_up_to n (take j others))
    number_test b t j =
        ap (λ (x : Bool). cond x (suc (rows_up_to n (take j others))) (rows_up_to n (take j others)))
        (ap (λ (i : ℕ). leb i n) (row_number_lem k (suc m) (value_of e) (omega arith)) ∙ t)

    within : suc m ≤ n → ((j : ℕ) → Rest j) → (b : Bool) (j : ℕ)
        → rows_up_to n (take j (cond b (own ∷ []) [] ++ others)) ≡ min j (length (cond b (own ∷ []) [] ++ gather (row_of k) (suc m) (take (n - suc m) es)))
    within q ih false j = ih j
    within q ih true zero = sym (zero-min (suc (length (gather (row_of k) (suc m) (take (n - suc m) es)))))
    within q ih true (suc j) =
        number_test true (le-leb (suc m) n q) j ∙ ap suc (ih j) ∙ sym (suc-min-suc j (length (gather (row_of k) (suc m) (take (n - suc m) es))))

    none : n ≤ m → ((j : ℕ) → Rest j) → (j : ℕ) → rows_up_to n (take j others) ≡ 0
    none q ih j = ih j ∙ rw (sub-eq-zero_of_le {n = n} {m = suc m} (omega arith)) (min-zero j)

    past : n ≤ m → ((j : ℕ) → Rest j) → (b : Bool) (j : ℕ) → rows_up_to n (take j (cond b (own ∷ []) [] ++ others)) ≡ 0
    past q ih false j = none q ih j
    past q ih true zero = refl
    past q ih true (suc j) = number_test false (lt-leb (suc m) n (omega arith)) j ∙ none q ih j

    go : ((j : ℕ) → Rest j) → Dec (suc m ≤ n)
        → rows_up_to n (take r (row_of k (suc m) e ++ others)) ≡ min r (length (gather (row_of k) m (take (n - m) (e ∷ es))))
    go ih (yes q) = rw (one_less) (within q ih (needs_row k (slot k (value_of e))) r)
      where
        one_less : n - m ≡ suc (n - suc m)
        one_less = omega arith
    go ih (no q) = rw (sub-eq-zero_of_le {n = n} {m = m} (omega arith), min-zero r) (past (omega arith) ih (needs_row k (slot k (value_of e))) r)

-- a walk over the rows from the number n, which the row of record m + 1 replaces: what holds of the rest holds of all
rows_walk : (k : Kind) (P : ℕ → List Bytes → Type 0) (n m : ℕ) (e : Entry) (es : List Entry) → suc m < 2 ^ 64
    → (P (suc m) (gather (row_of k) (suc m) es) → P n (row k (suc m) (value_of e) ∷ gather (row_of k) (suc m) es))
    → P (suc m) (gather (row_of k) (suc m) es) → P n (gather (row_of k) (suc m) es) → P n (gather (row_of k) m (e ∷ es))
unfolding gather row_of
rows_walk k P n m e es h f p q = go (needs_row k (slot k (value_of e)))
  where
    go : (b : Bool) → P n (cond b (row k (suc m) (value_of e) ∷ []) [] ++ gather (row_of k) (suc m) es)
    go true = f p
    go false = q

-- the last row's number lies between
pub last_le : (k : Kind) (n m : ℕ) (es : List Entry) → m + length es < 2 ^ 64 → n ≤ m → last_number n (gather (row_of k) m es) ≤ m + length es
unfolding gather last_number
last_le k n m [] h g = omega arith
last_le k n m (e ∷ es) h g =
    rows_walk k (λ n rs. last_number n rs ≤ m + suc (length es)) n m e es (omega arith)
    (λ p. subst (λ (x : ℕ). last_number x (gather (row_of k) (suc m) es) ≤ m + suc (length es)) (sym (row_number_lem k (suc m) (value_of e) (omega arith))) p)
    (omega (arith, last_le k (suc m) (suc m) es (omega arith) (omega arith)))
    (omega (arith, last_le k n (suc m) es (omega arith) (omega arith)))

pub last_ge : (k : Kind) (n m : ℕ) (es : List Entry) → m + length es < 2 ^ 64 → n ≤ m → n ≤ last_number n (gather (row_of k) m es)
unfolding gather last_number
last_ge k n m [] h g = omega arith
last_ge k n m (e ∷ es) h g =
    rows_walk k (λ i rs. n ≤ last_number i rs) n m e es (omega arith)
    (λ p. subst (λ (x : ℕ). n ≤ last_number x (gather (row_of k) (suc m) es)) (sym (row_number_lem k (suc m) (value_of e) (omega arith))) p)
    (omega (arith, last_ge k (suc m) (suc m) es (omega arith) (omega arith)))
    (last_ge k n (suc m) es (omega arith) (omega arith))

last_append : (n : ℕ) (rs ts : List Bytes) → last_number n (rs ++ ts) ≡ last_number (last_number n rs) ts
unfolding last_number
last_append n [] ts = refl
last_append n (r ∷ rs) ts = last_append (row_number r) rs ts

pub rows_ascend : (k : Kind) (n m : ℕ) (es : List Entry) → m + length es < 2 ^ 64 → n ≤ m → ascending n (gather (row_of k) m es) ≡ true
unfolding gather ascending
rows_ascend k n m [] h g = refl
rows_ascend k n m (e ∷ es) h g =
    rows_walk k (λ n rs. ascending n rs ≡ true) n m e es (omega arith)
    (λ p. rw (row_number_lem k (suc m) (value_of e) (omega arith), lt-ltb n (suc m) (omega arith)) p)
    (rows_ascend k (suc m) (suc m) es (omega arith) (omega arith))
    (rows_ascend k n (suc m) es (omega arith) (omega arith))

pub ascend_take : (n r : ℕ) (rs : List Bytes) → ascending n rs ≡ true → ascending n (take r rs) ≡ true
unfolding ascending
ascend_take n zero rs t = refl
ascend_take n (suc r) [] t = refl
ascend_take n (suc r) (x ∷ rs) t =
    rw (both_left (ltb n (row_number x)) (ascending (row_number x) rs) t)
    (ascend_take (row_number x) r rs (both_right (ltb n (row_number x)) (ascending (row_number x) rs) t))

-- ---- where the next row stands

-- the records up to the one whose row has r rows before it
pub record NextRow (k : Kind) (m r : ℕ) (es : List Entry) : Type 0 where
  pub first : List Entry
  pub it : Entry
  pub rest : List Entry
  pub split : es ≡ first ++ (it ∷ rest)
  pub needs : needs_row k (slot k (value_of it)) ≡ true
  pub rows : length (gather (row_of k) m first) ≡ r

pub next_row_lem : (k : Kind) (m r : ℕ) (es : List Entry) → r < length (gather (row_of k) m es) → NextRow k m r es
unfolding gather row_of
next_row_lem k m r [] h = absurd (not-suc-le-zero h)
next_row_lem k m r (e ∷ es) h = go (λ j q. next_row_lem k (suc m) j es q) (is? (needs_row k (slot k (value_of e)))) r h
  where
    further : (i j : ℕ) → length (row_of k (suc m) e) + j ≡ i → NextRow k (suc m) j es → NextRow k m i (e ∷ es)
    further i j s t = record {
      first = e ∷ t.first;
      it = t.it;
      rest = t.rest;
      split = ap {B = List Entry} (λ l. e ∷ l) t.split;
      needs = t.needs;
      rows = length-append (row_of k (suc m) e) (gather (row_of k) (suc m) t.first) ∙ ap (λ (x : ℕ). length (row_of k (suc m) e) + x) t.rows ∙ s;
    }

    go : ((j : ℕ) → j < length (gather (row_of k) (suc m) es) → NextRow k (suc m) j es) → (needs_row k (slot k (value_of e)) ≡ true) ⊎ (needs_row k (slot k (value_of e)) ≡ false)
        → (i : ℕ) → i < length (row_of k (suc m) e ++ gather (row_of k) (suc m) es) → NextRow k m i (e ∷ es)
    go ih (inl t) zero q = record { first = []; it = e; rest = es; split = refl; needs = t; rows = refl }
    go ih (inl t) (suc i) q = further (suc i) i (rw t (omega arith)) (ih i (le_of_suc-le-suc (rw t at q)))
    go ih (inr t) i q = further i i (rw t (zero-add i)) (ih i (rw t at q))

module _ (k : Kind) (r : ℕ) (es : List Entry) (t : NextRow k 0 r es) where
  abbrev pub number : ℕ
  number = suc (length t.first)

  pub next_split : rows_of k es ≡ rows_of k t.first ++ (row k number (value_of t.it) ∷ gather (row_of k) number t.rest)
  unfolding gather row_of
  next_split = ap (gather (row_of k) 0) t.split ∙ gather_after (row_of k) t.first (t.it ∷ t.rest) ∙ rw t.needs refl

  pub next_total : length es ≡ length t.first + suc (length t.rest)
  next_total = ap length t.split ∙ length-append t.first (t.it ∷ t.rest)

  -- a record's row is not above the last row
  pub last_covers : length es < 2 ^ 64 → number ≤ last_number 0 (rows_of k es)
  unfolding last_number
  last_covers h =
      rw (next_split, last_append 0 (rows_of k t.first) (row k number (value_of t.it) ∷ gather (row_of k) number t.rest))
      (subst (λ (x : ℕ). number ≤ last_number x (gather (row_of k) number t.rest)) (sym (row_number_lem k number (value_of t.it) (omega (arith, next_total))))
      (last_ge k number number t.rest (omega (arith, next_total)) (omega arith)))

  pub next_before : rows_in k es (length t.first) ≡ r
  unfolding rows_in
  next_before =
      ap (λ (l : List Entry). length (rows_of k l)) (ap (take (length t.first)) t.split ∙ take-append_seam t.first (t.it ∷ t.rest)) ∙ t.rows

  pub next_with : rows_in k es number ≡ suc r
  unfolding rows_in gather row_of
  next_with =
      ap (λ (l : List Entry). length (rows_of k l)) (ap (take number) t.split ∙ one_more t.first)
      ∙ ap length (gather_after (row_of k) t.first (t.it ∷ []) ∙ ap (λ (l : List Bytes). rows_of k t.first ++ l) own)
      ∙ length-append (rows_of k t.first) (row k number (value_of t.it) ∷ [])
      ∙ omega (arith, t.rows)
    where
      own : gather (row_of k) (length t.first) (t.it ∷ []) ≡ row k number (value_of t.it) ∷ []
      own = rw t.needs refl

      one_more : (l : List Entry) → take (suc (length l)) (l ++ (t.it ∷ t.rest)) ≡ l ++ (t.it ∷ [])
      one_more [] = refl
      one_more (x ∷ l) = ap {B = List Entry} (λ r. x ∷ r) (one_more l)
