-- The sums of one window: of the records that follow record f, whose slots stand in a copy.
-- They are those of the reading (loc_calls), on areas that have the copied slots in their place.
use Rattle.std.specs.Prelude.{ℕ, ◌+◌, ◌-◌, ◌*◌, ◌/◌, ◌^◌, ◌≤◌, ◌<◌, min, ◌≡◌, true, false, List, [], ◌++◌, length, get_or, replicate, Bool, Option, Some, None}
use Rattle.loc_leaf.specs.declared.Kind.{Kind}
use Rattle.loc_leaf.specs.declared.Kind.TheVariants.{Paired, Single}
use Rattle.loc_leaf.specs.Bytes.{Bytes, byte}
use Rattle.loc_leaf.specs.Area.{fill}
use Rattle.loc_leaf.specs.Kind.{row_width}
use Rattle.loc_leaf.specs.declared.Value.{Value}
use Rattle.loc_leaf.specs.Rows.{row_list, row_value, ascending, number_in, lookup}
use Rattle.loc_calls.specs.Areas.{Areas}
pub use Rattle.loc_calls.specs.Reading.{complete}
use Rattle.loc_calls.specs.Reading.{strides_after, spans_after}
use Rattle.loc_leaf.specs.Slot.{needs_row}
pub use Rattle.loc_leaf.specs.Block.{slot_bytes}
use Rattle.loc_leaf.specs.Block.{row_mask, inline_strides, inline_spans}
use Rattle.loc_window.specs.declared.Sums.{Sums}

-- the kind that an instance of the code is made for
abbrev pub kind_of : Bool → Kind
kind_of true = Paired
kind_of false = Single

-- areas whose slots of the records that follow record f are these bytes
unfoldable pub window_areas : ℕ → Bytes → Bytes → Areas
window_areas f bytes rows = record { slots = replicate (16 + 2 * f) 0 ++ bytes; rows = rows; checkpoints = [] }

-- the rows before a place are numbered up to id
abbrev pub Passed : List Bytes → ℕ → ℕ → Type 0
Passed rs place id = (i : ℕ) → i < place → number_in rs i ≤ id

-- the same, and none of them is numbered id
abbrev pub Below : List Bytes → ℕ → ℕ → Type 0
Below rs place id = (i : ℕ) → i < place → number_in rs i < id

-- the rows ascend, and there are so many
pub record Rising (k : Kind) (rows : Bytes) (count : ℕ) : Type 0 where
  pub ascend : ascending 0 (row_list k rows) ≡ true
  pub counted : count ≡ fill (row_width k) rows

-- the rows ascend, and those numbered up to `top` stand before a place
pub record RowsBefore (k : Kind) (rows : Bytes) (top past : ℕ) : Type 0 where
  pub ascend : ascending 0 (row_list k rows) ≡ true
  pub inside : past ≤ fill (row_width k) rows
  pub above : (i : ℕ) → past ≤ i → i < length (row_list k rows) → top < number_in (row_list k rows) i

-- s is what n records of the window add up to
pub record After (k : Kind) (f : ℕ) (bytes rows : Bytes) (n : ℕ) (s : Sums) : Type 0 where
  pub known : complete k (window_areas f bytes rows) f n ≡ true
  pub is_strides : s.strides ≡ strides_after k (window_areas f bytes rows) f n
  pub is_spans : s.spans ≡ spans_after k (window_areas f bytes rows) f n
  pub strides_low : s.strides ≤ n * 2 ^ 32
  pub spans_low : s.spans ≤ n * 2 ^ 32
  pub passed : Passed (row_list k rows) s.row (f + n)

abbrev pub sums_of : ℕ → ℕ → ℕ → ℕ → Sums
sums_of x y row block = record { strides = x; spans = y; row = row; block = block }

-- the sums with one value more, and a number of rows passed
abbrev pub plus_value : Sums → Value → ℕ → Sums
plus_value s v row = record { strides = s.strides + v.strides; spans = s.spans + v.spans; row = row; block = s.block }

-- row r is the one that is numbered id, and the rows up to it are passed
pub record IsRow (k : Kind) (rows : Bytes) (id r : ℕ) : Type 0 where
  pub is_found : lookup k id (row_list k rows) ≡ Some (row_value k (get_or (row_list k rows) r []))
  pub passed : Passed (row_list k rows) (r + 1) id

-- the place of the row that is numbered id, which stands before `past`; none where there is none
abbrev pub FoundRow : Kind → Bytes → ℕ → ℕ → Option ℕ → Type 0
FoundRow k rows past id (Some r) = (r < past) × IsRow k rows id r
FoundRow k rows past id None = lookup k id (row_list k rows) ≡ None

-- the sums of j records stand in the arrays
pub record Right (k : Kind) (f : ℕ) (bytes rows : Bytes) (j : ℕ) (body span : List ℕ) : Type 0 where
  pub body_is : get_or body j 0 ≡ strides_after k (window_areas f bytes rows) f j
  pub span_is : get_or span j 0 ≡ spans_after k (window_areas f bytes rows) f j
  pub body_low : get_or body j 0 ≤ j * 2 ^ 32
  pub span_low : get_or span j 0 ≤ j * 2 ^ 32

-- from the sums of `from` records to those of n all stand in the arrays, and what stood before them is kept
pub record Written (k : Kind) (f : ℕ) (bytes rows : Bytes) (from n : ℕ) (body₀ span₀ body span : List ℕ) : Type 0 where
  pub body_long : length body ≡ length body₀
  pub span_long : length span ≡ length span₀
  pub body_kept : (j : ℕ) → j < from → get_or body j 0 ≡ get_or body₀ j 0
  pub span_kept : (j : ℕ) → j < from → get_or span j 0 ≡ get_or span₀ j 0
  pub right : (j : ℕ) → from ≤ j → j ≤ n → Right k f bytes rows j body span

-- the records `from` to n one by one, counted as so many blocks, or one of them lacks its row
abbrev pub Recorded : Kind → ℕ → Bytes → Bytes → ℕ → ℕ → ℕ → List ℕ → List ℕ → List ℕ → List ℕ → Option Sums → Type 0
Recorded k f bytes rows block from n body₀ span₀ body span (Some s) =
    (s.block ≡ block) × After k f bytes rows n s × Written k f bytes rows from n body₀ span₀ body span
Recorded k f bytes rows block from n body₀ span₀ body span None = complete k (window_areas f bytes rows) f n ≡ false

-- what one record more asks
pub record RecordReady (k : Kind) (f : ℕ) (bytes rows : Bytes) (past n : ℕ) (s : Sums) : Type 0 where
  pub few : n < 1024
  pub copied : 2 * n + 1 < length bytes
  pub numbers : f + 1024 < 2 ^ 64
  pub rise : RowsBefore k rows (f + 1024) past
  pub after : After k f bytes rows n s

-- one record more, or it lacks its row
abbrev pub OneMore : Kind → ℕ → Bytes → Bytes → ℕ → Sums → Option Sums → Type 0
OneMore k f bytes rows n s (Some t) = (t.block ≡ s.block) × After k f bytes rows (n + 1) t
OneMore k f bytes rows n s None = complete k (window_areas f bytes rows) f (n + 1) ≡ false

-- what a walk over the records `from` to n asks
pub record Ready (k : Kind) (f : ℕ) (bytes rows : Bytes) (past from n : ℕ) (s : Sums) (body span : List ℕ) : Type 0 where
  pub order : from ≤ n
  pub few : n ≤ 1024
  pub copied : 2 * n ≤ length bytes
  pub body_room : n < length body
  pub span_room : n < length span
  pub numbers : f + 1024 < 2 ^ 64
  pub rise : RowsBefore k rows (f + 1024) past
  pub after : After k f bytes rows from s

-- ---- blocks of eight records

-- what a walk over blocks up to `full` asks
pub record BlockReady (k : Kind) (f : ℕ) (bytes rows : Bytes) (past full : ℕ) (s : Sums) : Type 0 where
  pub order : s.block ≤ full
  pub few : full ≤ 128
  pub copied : 16 * full ≤ length bytes
  pub numbers : f + 1024 < 2 ^ 64
  pub rise : RowsBefore k rows (f + 1024) past
  pub after : After k f bytes rows (8 * s.block) s

-- ---- one block

-- one block more, or one of its records lacks its row
abbrev pub BlockStepped : Kind → ℕ → Bytes → Bytes → ℕ → Option Sums → Type 0
BlockStepped k f bytes rows block (Some t) = (t.block ≡ block + 1) × After k f bytes rows (8 * (block + 1)) t
BlockStepped k f bytes rows block None = complete k (window_areas f bytes rows) f (8 * (block + 1)) ≡ false

-- x and y are what j records add up to, with the bytes of n records more, of which `left` says those that need a row
pub record Swapping (k : Kind) (f : ℕ) (bytes rows : Bytes) (j n x y row left : ℕ) : Type 0 where
  pub strides : ℕ
  pub spans : ℕ
  pub after : After k f bytes rows j (sums_of strides spans row 0)
  pub is_strides : x ≡ strides + inline_strides k bytes j n
  pub is_spans : y ≡ spans + inline_spans k bytes j n
  pub strides_few : inline_strides k bytes j n < 2 ^ 32
  pub spans_few : inline_spans k bytes j n < 2 ^ 32
  pub is_left : left ≡ row_mask k bytes j n

-- ---- blocks that are not marked

-- the blocks from one on to another are not marked
abbrev pub Unmarked : List ℕ → ℕ → ℕ → ℕ → Type 0
Unmarked mark stamp from to = (b : ℕ) → from ≤ b → b < to → get_or mark b 0 ≡ stamp → ⊥

-- t is what the blocks before its own add up to, of which those from `block` on are not marked
pub record BlocksAfter (k : Kind) (f : ℕ) (bytes rows : Bytes) (mark : List ℕ) (stamp block full : ℕ) (t : Sums) : Type 0 where
  pub more : block ≤ t.block
  pub inside : t.block ≤ full
  pub after : After k f bytes rows (8 * t.block) t
  pub unmarked : Unmarked mark stamp block t.block

-- r is s with the bytes of some blocks more, none of which is marked or has a record that needs a row
pub record PlainBlocks (k : Kind) (bytes : Bytes) (mark : List ℕ) (stamp full : ℕ) (s r : Sums) : Type 0 where
  pub more : s.block ≤ r.block
  pub inside : r.block ≤ full
  pub is_strides : r.strides ≡ s.strides + inline_strides k bytes (8 * s.block) (8 * (r.block - s.block))
  pub is_spans : r.spans ≡ s.spans + inline_spans k bytes (8 * s.block) (8 * (r.block - s.block))
  pub same_row : r.row ≡ s.row
  pub strides_few : r.strides ≤ s.strides + 2 ^ 19 * (r.block - s.block)
  pub spans_few : r.spans ≤ s.spans + 2 ^ 19 * (r.block - s.block)
  pub plain : (i : ℕ) → 8 * s.block ≤ i → i < 8 * r.block → needs_row k (slot_bytes bytes i) ≡ false
  pub unmarked : Unmarked mark stamp s.block r.block

-- a walk over blocks that are not marked, or one of the records before `full` lacks its row
abbrev pub BlocksPassed : Kind → ℕ → Bytes → Bytes → List ℕ → ℕ → ℕ → ℕ → Option Sums → Type 0
BlocksPassed k f bytes rows mark stamp block full (Some t) = BlocksAfter k f bytes rows mark stamp block full t
BlocksPassed k f bytes rows mark stamp block full None = complete k (window_areas f bytes rows) f (8 * full) ≡ false

-- of the first n records, the sums before and after each one of a marked block stand in the arrays
pub record SumsStored (k : Kind) (f : ℕ) (bytes rows : Bytes) (mark : List ℕ) (stamp n : ℕ) (body span : List ℕ) : Type 0 where
  pub here : (j : ℕ) → j < n → get_or mark (j / 8) 0 ≡ stamp → Right k f bytes rows j body span
  pub next : (j : ℕ) → j < n → get_or mark (j / 8) 0 ≡ stamp → Right k f bytes rows (j + 1) body span

-- a step past some blocks, all that m records fill at most, or one of the m records lacks its row
abbrev pub SlotStepped : Kind → ℕ → Bytes → Bytes → List ℕ → ℕ → ℕ → ℕ → List ℕ → List ℕ → Option Sums → Type 0
SlotStepped k f bytes rows mark stamp block m body span (Some s) =
    (block < s.block) × (8 * s.block < m + 8)
    × After k f bytes rows (min (8 * s.block) m) s × SumsStored k f bytes rows mark stamp (min (8 * s.block) m) body span
SlotStepped k f bytes rows mark stamp block m body span None = complete k (window_areas f bytes rows) f m ≡ false

-- the blocks before a block of the window's first m records are summed, in arrays of some length
pub record Summing (k : Kind) (long f m : ℕ) (bytes rows : Bytes) (past : ℕ) (mark : List ℕ) (stamp block : ℕ) (s : Sums) (body span : List ℕ) : Type 0 where
  pub bound : 8 * block < m + 8
  pub body_long : length body ≡ long
  pub span_long : length span ≡ long
  pub ready : Ready k f bytes rows past (min (8 * block) m) m s body span
  pub stored : SumsStored k f bytes rows mark stamp (min (8 * block) m) body span

-- the sums of the window's first m records, those of marked blocks in the arrays, or one of them lacks its row
unfoldable pub WindowSummed : Kind → ℕ → Bytes → Bytes → List ℕ → ℕ → ℕ → List ℕ → List ℕ → Option Sums → Type 0
WindowSummed k f bytes rows mark stamp m body span (Some s) = After k f bytes rows m s × SumsStored k f bytes rows mark stamp m body span
WindowSummed k f bytes rows mark stamp m body span None = complete k (window_areas f bytes rows) f m ≡ false

-- ---- the copy

-- n bytes from a place on are copied over the front
pub record Copied (slots : Bytes) (at n : ℕ) (old new : Bytes) : Type 0 where
  pub front : (u : ℕ) → u < n → byte u new ≡ byte (at + u) slots
  pub rest : (u : ℕ) → n ≤ u → byte u new ≡ byte u old
