-- The sums of whole blocks: blocks of which no record needs a row, and one in which rows are put in place of bytes.
-- A block's bytes are added up by its words, whatever the kind.
use Prim.Native.Nat.{ℕ, zero, suc, ◌+◌, ◌-◌, ◌*◌, ◌/◌, ◌^◌, ◌≤◌, ◌<◌}
use mathlib.Core.Path.{◌≡◌, refl, sym, ap, ◌∙◌, subst}
use mathlib.Core.Logic.{⊎_elim}
use mathlib.Core.Bool.{true, false}
use mathlib.Core.List.{List, [], ◌++◌}
use native.Mathlib.Nat.{add-zero, zero-add, eq-or-lt_of_le}
use native.Mathlib.Decide.{dec_le}
use native.Mathlib.Omega.{arith}
use lib.Dec.{eqb}
use lib.ListN.{get_or, take, drop}
use borrow.Author.Tests.{eqb-true}
use Rattle.loc_leaf.specs.declared.Kind.{Kind}
use Rattle.loc_leaf.specs.declared.Kind.TheVariants.{Single}
use Rattle.loc_leaf.specs.declared.Value.{Value}
use Rattle.loc_leaf.specs.Bytes.{Bytes, byte, bytes}
use Rattle.loc_leaf.specs.Block.{lowest, row_mask, sum_from, inline_strides, inline_spans}
use Rattle.loc_leaf.specs.Slot.{needs_row, inline}
use Rattle.loc_leaf.specs.Rows.{row_list, row_value}
use Rattle.loc_leaf.proofs.Booleans.{both_left, both_right}
use Rattle.loc_leaf.proofs.MaskLaws.{mask_none, mask_first, mask_low, First}
use Rattle.loc_calls.specs.Reading.{lookup_at, has}
use Rattle.loc_window.specs.declared.Sums.{Sums}
use Rattle.std.specs.Prelude.{Option, Some, None}
use Rattle.loc_window.specs.Window.{window_areas, complete, Below, RowsBefore, After, sums_of, plus_value, FoundRow, slot_bytes, BlockStepped, Swapping, Unmarked, BlocksAfter, PlainBlocks}
use Rattle.loc_window.proofs.BlockLaws.{block_strides, block_spans, block_mask}
use Rattle.loc_window.proofs.RowsLaws.{before_less}
use Rattle.loc_window.proofs.SumLaws.{all_more, after_at, step_inline, step_row, lacks_row}

-- a sum in two parts
pub sum_split : (g : ℕ → ℕ) (j n m : ℕ) → sum_from g j (n + m) ≡ sum_from g j n + sum_from g (j + n) m
unfolding sum_from
sum_split g j zero m =
    let p : sum_from g (j + 0) m ≡ sum_from g j m = ap (λ (t : ℕ). sum_from g t m) (add-zero j) in
    let q : sum_from g j (0 + m) ≡ sum_from g j m = ap (sum_from g j) (zero-add m) in
    omega (arith, p, q)
sum_split g j (suc n) m =
    let e : suc n + m ≡ suc (n + m) = omega arith in
    let h : j + 1 + n ≡ j + suc n = omega arith in
    let p : sum_from g j (suc n + m) ≡ g j + sum_from g (j + 1) (n + m) = ap (sum_from g j) e in
    let q : sum_from g (j + 1 + n) m ≡ sum_from g (j + suc n) m = ap (λ (t : ℕ). sum_from g t m) h in
    omega (arith, p, q, sum_split g (j + 1) n m)

sum_none : (g : ℕ → ℕ) (j n : ℕ) → n ≡ 0 → sum_from g j n ≡ 0
unfolding sum_from
sum_none g j n e = ap (sum_from g j) e

sum_first : (g : ℕ → ℕ) (j n : ℕ) → 0 < n → sum_from g j n ≡ g j + sum_from g (j + 1) (n - 1)
unfolding sum_from
sum_first g j n h = let e : n ≡ suc (n - 1) = omega arith in ap (sum_from g j) e

-- its term z, and those before and after it
pub sum_at : (g : ℕ → ℕ) (j n z : ℕ) → z < n → sum_from g j n ≡ sum_from g j z + (g (j + z) + sum_from g (j + z + 1) (n - z - 1))
sum_at g j n z h =
    let e : n ≡ z + (n - z) = omega arith in
    ap (sum_from g j) e ∙ sum_split g j z (n - z) ∙ ap (λ (t : ℕ). sum_from g j z + t) (sum_first g (j + z) (n - z) (omega arith))

-- ---- records that need no row

module _ (k : Kind) (f : ℕ) (bytes rows : Bytes) where
  -- none of n records from record j on needs a row
  abbrev Plain : ℕ → ℕ → Type 0
  Plain j n = (i : ℕ) → j ≤ i → i < j + n → needs_row k (slot_bytes bytes i) ≡ false

  after_plain : (n j block : ℕ) (s : Sums) → After k f bytes rows j s → Plain j n → inline_strides k bytes j n < 2 ^ 32 → inline_spans k bytes j n < 2 ^ 32
      → After k f bytes rows (j + n) (sums_of (s.strides + inline_strides k bytes j n) (s.spans + inline_spans k bytes j n) s.row block)
  unfolding sum_from
  after_plain zero j block s w p hs hp = rw (add-zero j, add-zero s.strides, add-zero s.spans) (after_at k f bytes rows j block s w)
  after_plain (suc n) j block s w p hs hp =
      let v : Value = inline k (slot_bytes bytes j) in
      let t : Sums = plus_value s v s.row in
      let e : j + 1 + n ≡ j + suc n = omega arith in
      let a : After k f bytes rows (j + 1) t = step_inline k f bytes rows j s t v (p j (omega arith) (omega arith)) w refl refl (omega arith) (omega arith) in
      let x : s.strides + v.strides + inline_strides k bytes (j + 1) n ≡ s.strides + inline_strides k bytes j (suc n) = omega arith in
      let y : s.spans + v.spans + inline_spans k bytes (j + 1) n ≡ s.spans + inline_spans k bytes j (suc n) = omega arith in
      subst (λ (m : ℕ). After k f bytes rows m (sums_of (s.strides + inline_strides k bytes j (suc n)) (s.spans + inline_spans k bytes j (suc n)) s.row block)) e
      (subst (λ (u : Sums). After k f bytes rows (j + 1 + n) u) (λ i. sums_of (x i) (y i) s.row block)
      (after_plain n (j + 1) block t a (λ i h l. p i (omega arith) (omega arith)) (omega arith) (omega arith)))

-- ---- the words of block b

module _ (k : Kind) (s : Bytes) (b lo hi : ℕ) (el : bytes 8 lo ≡ take 8 (drop (16 * b) s)) (eh : bytes 8 hi ≡ take 8 (drop (16 * b + 8) s)) where
  at_low : bytes 8 lo ≡ take 8 (drop (2 * (8 * b)) s)
  at_low = let e : 16 * b ≡ 2 * (8 * b) = omega arith in el ∙ ap (λ (n : ℕ). take 8 (drop n s)) e

  at_high : bytes 8 hi ≡ take 8 (drop (2 * (8 * b) + 8) s)
  at_high = let e : 16 * b + 8 ≡ 2 * (8 * b) + 8 = omega arith in eh ∙ ap (λ (n : ℕ). take 8 (drop n s)) e

  words_strides : inline_strides k (bytes 8 lo ++ bytes 8 hi) 0 8 ≡ inline_strides k s (8 * b) 8
  words_strides = block_strides s (8 * b) lo hi at_low at_high k

  words_spans : inline_spans k (bytes 8 lo ++ bytes 8 hi) 0 8 ≡ inline_spans k s (8 * b) 8
  words_spans = block_spans s (8 * b) lo hi at_low at_high k

  words_mask : row_mask k (bytes 8 lo ++ bytes 8 hi) 0 8 ≡ row_mask k s (8 * b) 8
  words_mask = block_mask s (8 * b) lo hi at_low at_high k

-- ---- blocks of which no record needs a row

module _ (k : Kind) (s : Bytes) (mark : List ℕ) (stamp full : ℕ) (a : Sums) where
  pub plain_begin : a.block ≤ full → PlainBlocks k s mark stamp full a (sums_of a.strides a.spans a.row a.block)
  plain_begin h =
      let e : 8 * (a.block - a.block) ≡ 0 = omega arith in
      let p : inline_strides k s (8 * a.block) (8 * (a.block - a.block)) ≡ 0 = sum_none _ _ _ e in
      let q : inline_spans k s (8 * a.block) (8 * (a.block - a.block)) ≡ 0 = sum_none _ _ _ e in
      record {
        more = omega arith;
        inside = h;
        is_strides = omega (arith, p);
        is_spans = omega (arith, q);
        same_row = refl;
        strides_few = omega arith;
        spans_few = omega arith;
        plain = λ i g l. absurd (omega arith);
        unmarked = λ i g l e. omega arith;
      }

  -- one block more
  pub plain_next : (x y r b lo hi dx dy : ℕ) → bytes 8 lo ≡ take 8 (drop (16 * b) s) → bytes 8 hi ≡ take 8 (drop (16 * b + 8) s)
      → PlainBlocks k s mark stamp full a (sums_of x y r b) → b < full → (get_or mark b 0 ≡ stamp → ⊥) → row_mask k (bytes 8 lo ++ bytes 8 hi) 0 8 ≡ 0
      → dx ≡ inline_strides k (bytes 8 lo ++ bytes 8 hi) 0 8 → dy ≡ inline_spans k (bytes 8 lo ++ bytes 8 hi) 0 8 → dx < 2 ^ 19 → dy < 2 ^ 19
      → PlainBlocks k s mark stamp full a (sums_of (x + dx) (y + dy) r (b + 1))
  plain_next x y r b lo hi dx dy el eh w h m z ex ey hx hy =
      record {
        more = omega (arith, w.more);
        inside = omega arith;
        is_strides = omega (arith, w.is_strides, ex, words_strides k s b lo hi el eh, longer (λ i. (inline k (slot_bytes s i)).strides));
        is_spans = omega (arith, w.is_spans, ey, words_spans k s b lo hi el eh, longer (λ i. (inline k (slot_bytes s i)).spans));
        same_row = w.same_row;
        strides_few = omega (arith, w.strides_few, w.more);
        spans_few = omega (arith, w.spans_few, w.more);
        plain = plain;
        unmarked = unmarked;
      }
    where
      longer : (g : ℕ → ℕ) → sum_from g (8 * a.block) (8 * (b + 1 - a.block)) ≡ sum_from g (8 * a.block) (8 * (b - a.block)) + sum_from g (8 * b) 8
      longer g =
          let p : 8 * (b + 1 - a.block) ≡ 8 * (b - a.block) + 8 = omega (arith, w.more) in
          let q : 8 * a.block + 8 * (b - a.block) ≡ 8 * b = omega (arith, w.more) in
          ap (sum_from g (8 * a.block)) p ∙ sum_split g (8 * a.block) (8 * (b - a.block)) 8
          ∙ ap (λ (n : ℕ). sum_from g (8 * a.block) (8 * (b - a.block)) + sum_from g n 8) q

      plain : (i : ℕ) → 8 * a.block ≤ i → i < 8 * (b + 1) → needs_row k (slot_bytes s i) ≡ false
      plain i g l = go (dec_le (8 * b) i)
        where
          go : Dec (8 * b ≤ i) → needs_row k (slot_bytes s i) ≡ false
          go (yes d) = mask_none k s (8 * b) 8 (sym (words_mask k s b lo hi el eh) ∙ z) i d (omega arith)
          go (no d) = w.plain i g (omega arith)

      unmarked : Unmarked mark stamp a.block (b + 1)
      unmarked i g l e = ⊎_elim (λ (q : i ≡ b). m (ap (λ (n : ℕ). get_or mark n 0) (sym q) ∙ e)) (λ (q : i < b). w.unmarked i g q e) (eq-or-lt_of_le (omega arith))

-- ---- blocks that are not marked

module _ (k : Kind) (f : ℕ) (bytes rows : Bytes) (block : ℕ) (step : Option Sums) (v : BlockStepped k f bytes rows block step) where
  pub stepped_next : (u : Sums) → step ≡ Some u → (u.block ≡ block + 1) × After k f bytes rows (8 * u.block) u
  stepped_next u e = go (subst (BlockStepped k f bytes rows block) e v)
    where
      go : (u.block ≡ block + 1) × After k f bytes rows (8 * (block + 1)) u → (u.block ≡ block + 1) × After k f bytes rows (8 * u.block) u
      go (q, a) = (q, subst (λ (n : ℕ). After k f bytes rows (8 * n) u) (sym q) a)

  pub stepped_lack : (full : ℕ) → step ≡ None → block < full → complete k (window_areas f bytes rows) f (8 * full) ≡ false
  stepped_lack full e h =
      all_more (λ i. has (lookup_at k (window_areas f bytes rows) i)) f (8 * (block + 1)) (8 * full) (subst (BlockStepped k f bytes rows block) e v) (omega arith)

module _ (k : Kind) (f : ℕ) (bytes rows : Bytes) (mark : List ℕ) (stamp full : ℕ) where
  -- the sums after them
  plain_after : (s r : Sums) → full ≤ 128 → After k f bytes rows (8 * s.block) s → PlainBlocks k bytes mark stamp full s r → After k f bytes rows (8 * r.block) r
  plain_after s r h w p =
      let n : ℕ = 8 * (r.block - s.block) in
      let e : 8 * s.block + n ≡ 8 * r.block = omega (arith, p.more) in
      let q : (i : ℕ) → 8 * s.block ≤ i → i < 8 * s.block + n → needs_row k (slot_bytes bytes i) ≡ false = λ i g l. p.plain i g (omega arith) in
      let hx : inline_strides k bytes (8 * s.block) n < 2 ^ 32 = omega (arith, p.is_strides, p.strides_few, p.inside) in
      let hy : inline_spans k bytes (8 * s.block) n < 2 ^ 32 = omega (arith, p.is_spans, p.spans_few, p.inside) in
      subst (λ (m : ℕ). After k f bytes rows m r) e
      (subst (λ (u : Sums). After k f bytes rows (8 * s.block + n) u) (sym (λ i. sums_of (p.is_strides i) (p.is_spans i) (p.same_row i) r.block))
      (after_plain k f bytes rows n (8 * s.block) r.block s w q hx hy))

  pub blocks_begin : (s r : Sums) → full ≤ 128 → After k f bytes rows (8 * s.block) s → PlainBlocks k bytes mark stamp full s r → BlocksAfter k f bytes rows mark stamp r.block full r
  blocks_begin s r h w p =
      record {
        more = omega arith;
        inside = p.inside;
        after = plain_after s r h w p;
        unmarked = λ i g l e. omega arith;
      }

  -- one block by its rows, then some that need none
  pub blocks_next : (block : ℕ) (t u r : Sums) → full ≤ 128 → BlocksAfter k f bytes rows mark stamp block full t → (get_or mark t.block 0 ≡ stamp → ⊥)
      → (u.block ≡ t.block + 1) × After k f bytes rows (8 * u.block) u → PlainBlocks k bytes mark stamp full u r → BlocksAfter k f bytes rows mark stamp block full r
  blocks_next block t u r h w m v p =
      record {
        more = omega (arith, w.more, p.more, v.0);
        inside = p.inside;
        after = plain_after u r h v.1 p;
        unmarked = unmarked;
      }
    where
      unmarked : Unmarked mark stamp block r.block
      unmarked i g l d = go (dec_le u.block i)
        where
          go : Dec (u.block ≤ i) → ⊥
          go (yes j) = p.unmarked i j l d
          go (no j) =
              ⊎_elim (λ (z : i ≡ t.block). m (ap (λ (n : ℕ). get_or mark n 0) (sym z) ∙ d)) (λ (z : i < t.block). w.unmarked i g z d)
              (eq-or-lt_of_le (omega (arith, v.0)))

-- ---- rows put in place of bytes

-- a single record that needs a row has no byte but 0
pub single_empty : (s : Bytes) (j : ℕ) → needs_row Single (slot_bytes s j) ≡ true → record { strides = 0; spans = 0 } ≡ inline Single (slot_bytes s j)
unfolding inline needs_row
single_empty s j e =
    let x : byte (2 * j) s ≡ 0 = eqb-true (byte (2 * j) s) 0 (both_left (eqb (byte (2 * j) s) 0) (eqb (byte (2 * j + 1) s) 0) e) in
    let y : byte (2 * j + 1) s ≡ 0 = eqb-true (byte (2 * j + 1) s) 0 (both_right (eqb (byte (2 * j) s) 0) (eqb (byte (2 * j + 1) s) 0) e) in
    rw (x, y) refl

module _ (k : Kind) (f : ℕ) (s rows : Bytes) where
  pub swap_begin : (a : Sums) (b n lo hi dx dy left : ℕ) → bytes 8 lo ≡ take 8 (drop (16 * b) s) → bytes 8 hi ≡ take 8 (drop (16 * b + 8) s) → After k f s rows (8 * b) a
      → dx ≡ inline_strides k (bytes 8 lo ++ bytes 8 hi) 0 8 → dy ≡ inline_spans k (bytes 8 lo ++ bytes 8 hi) 0 8 → dx < 2 ^ 19 → dy < 2 ^ 19
      → left ≡ row_mask k (bytes 8 lo ++ bytes 8 hi) 0 8 → n ≡ 8 → Swapping k f s rows (8 * b) n (a.strides + dx) (a.spans + dy) a.row left
  swap_begin a b n lo hi dx dy left el eh w ex ey hx hy m en =
      let p : dx ≡ inline_strides k s (8 * b) n = ex ∙ words_strides k s b lo hi el eh ∙ ap (λ (t : ℕ). inline_strides k s (8 * b) t) (sym en) in
      let q : dy ≡ inline_spans k s (8 * b) n = ey ∙ words_spans k s b lo hi el eh ∙ ap (λ (t : ℕ). inline_spans k s (8 * b) t) (sym en) in
      record {
        strides = a.strides;
        spans = a.spans;
        after = after_at k f s rows (8 * b) 0 a w;
        is_strides = ap (λ (t : ℕ). a.strides + t) p;
        is_spans = ap (λ (t : ℕ). a.spans + t) q;
        strides_few = omega arith;
        spans_few = omega arith;
        is_left = m ∙ words_mask k s b lo hi el eh ∙ ap (λ (t : ℕ). row_mask k s (8 * b) t) (sym en);
      }

  -- no record is left that needs a row
  pub swap_end : (j n x y row left m block : ℕ) → Swapping k f s rows j n x y row left → left ≡ 0 → j + n ≡ m → After k f s rows m (sums_of x y row block)
  swap_end j n x y row left m block w z e =
      subst (λ (t : ℕ). After k f s rows t (sums_of x y row block)) e
      (subst (λ (u : Sums). After k f s rows (j + n) u) (sym (λ i. sums_of (w.is_strides i) (w.is_spans i) row block))
      (after_plain k f s rows n j block (sums_of w.strides w.spans row 0) w.after (mask_none k s j n (sym w.is_left ∙ z)) w.strides_few w.spans_few))

  -- the mask is a byte
  pub swap_byte : (j n x y row left : ℕ) → Swapping k f s rows j n x y row left → n ≤ 8 → left < 256
  swap_byte j n x y row left w h = omega (arith, w.is_left, mask_low k s j n h)

  -- record j + z is the next one that needs a row
  module _ (j n x y row left z : ℕ) (w : Swapping k f s rows j n x y row left) (h : n ≤ 8) (ne : left ≡ 0 → ⊥) (ez : z ≡ lowest 8 left) where
    first : First k s j n z
    first = mask_first k s j n z h (λ e. ne (w.is_left ∙ e)) (ez ∙ ap (lowest 8) w.is_left)

    parts : (g : ℕ → ℕ) → sum_from g j n ≡ sum_from g j z + (g (j + z) + sum_from g (j + z + 1) (n - z - 1))
    parts g = sum_at g j n z first.0

    strides_parts : inline_strides k s j n ≡ inline_strides k s j z + ((inline k (slot_bytes s (j + z))).strides + inline_strides k s (j + z + 1) (n - z - 1))
    strides_parts = parts (λ i. (inline k (slot_bytes s i)).strides)

    spans_parts : inline_spans k s j n ≡ inline_spans k s j z + ((inline k (slot_bytes s (j + z))).spans + inline_spans k s (j + z + 1) (n - z - 1))
    spans_parts = parts (λ i. (inline k (slot_bytes s i)).spans)

    at : After k f s rows (j + z) (sums_of (w.strides + inline_strides k s j z) (w.spans + inline_spans k s j z) row 0)
    at =
        after_plain k f s rows z j 0 (sums_of w.strides w.spans row 0) w.after first.1
        (omega (arith, w.strides_few, strides_parts)) (omega (arith, w.spans_few, spans_parts))

    pub swap_in : z < n
    swap_in = first.0

    pub swap_needs : needs_row k (slot_bytes s (j + z)) ≡ true
    swap_needs = first.2

    -- what the search for its row asks
    pub swap_asks : (past id : ℕ) → id ≡ f + (j + z) + 1 → j + n ≤ 1024 → RowsBefore k rows (f + 1024) past → RowsBefore k rows id past × Below (row_list k rows) row id
    swap_asks past id e h rise = (before_less k rows (f + 1024) id past (omega (arith, first.0)) rise, λ i l. omega (arith, at.passed i l))

    -- the sums hold its bytes, and are small
    pub swap_holds : (old : Value) → old ≡ inline k (slot_bytes s (j + z)) → (old.strides ≤ x) × (old.spans ≤ y)
    swap_holds old e =
        let p : old.strides ≡ (inline k (slot_bytes s (j + z))).strides = ap (λ (u : Value). u.strides) e in
        let q : old.spans ≡ (inline k (slot_bytes s (j + z))).spans = ap (λ (u : Value). u.spans) e in
        (omega (arith, w.is_strides, strides_parts), omega (arith, w.is_spans, spans_parts))

    module _ (past id : ℕ) (ei : id ≡ f + suc (j + z)) where
      pub swap_lack : (m : ℕ) → FoundRow k rows past id None → j + n ≤ m → complete k (window_areas f s rows) f m ≡ false
      swap_lack m missing l =
          all_more (λ i. has (lookup_at k (window_areas f s rows) i)) f (j + z + 1) m (lacks_row k f s rows (j + z) id first.2 ei missing)
          (omega (arith, first.0))

      -- its row's values in place of its bytes
      pub swap_next : (r : ℕ) (old v : Value) (x' y' left' j' n' : ℕ) → FoundRow k rows past id (Some r) → old ≡ inline k (slot_bytes s (j + z)) → v ≡ row_value k (get_or (row_list k rows) r []) → v.strides < 2 ^ 32 → v.spans < 2 ^ 32
          → x' ≡ x - old.strides + v.strides → y' ≡ y - old.spans + v.spans
          → left' ≡ left / 2 ^ (z + 1) → j' ≡ j + z + 1 → n' ≡ n - z - 1 → Swapping k f s rows j' n' x' y' (r + 1) left'
      swap_next r old v x' y' left' j' n' found eo ev hs hp ex ey el ej en =
          let p : old.strides ≡ (inline k (slot_bytes s (j + z))).strides = ap (λ (u : Value). u.strides) eo in
          let q : old.spans ≡ (inline k (slot_bytes s (j + z))).spans = ap (λ (u : Value). u.spans) eo in
          rw (ej, en)
          (record {
            strides = w.strides + inline_strides k s j z + v.strides;
            spans = w.spans + inline_spans k s j z + v.spans;
            after = step_row k f s rows (j + z) id first.2 ei r _ v at found.1 ev hs hp;
            is_strides = omega (arith, w.is_strides, strides_parts);
            is_spans = omega (arith, w.is_spans, spans_parts);
            strides_few = omega (arith, w.strides_few, strides_parts);
            spans_few = omega (arith, w.spans_few, spans_parts);
            is_left = el ∙ ap (λ (t : ℕ). t / 2 ^ (z + 1)) w.is_left ∙ first.3;
          })
