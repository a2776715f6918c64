-- Single calls computed whole from the definitions: every number of the table, and each call's bytes at each of its places.
-- One proposition conjoins them.
use Prim.Native.Nat.{ℕ, ◌+◌, ◌*◌, ◌^◌, ◌-◌}
use mathlib.Core.Path.{◌≡◌, refl}
use mathlib.Core.Bool.{true}
use mathlib.Core.List.{List, [], ◌∷◌, ◌++◌, map, flatten}
use lib.ListN.{length, replicate}
use Rattle.loc_leaf.specs.declared.Kind.{Kind}
use Rattle.loc_leaf.specs.declared.Kind.TheVariants.{Paired, Single}
use Rattle.loc_leaf.specs.Bytes.{Bytes, number, bytes, number_at, store}
use Rattle.loc_leaf.specs.Answers.{answer, Answer}
use Rattle.loc_leaf.specs.Area.{counted, store_length, store_past, pieces, fill, published}
use Rattle.loc_leaf.specs.Kind.{row_width}
use Rattle.loc_leaf.specs.Slot.{strides_refusal, slot, needs_row, inline, slot_at, checkpoint_rule}
use Rattle.loc_leaf.specs.Rows.{row, row_number, row_value, row_list, ascending, last_number, rows_up_to, row_for, has_row, lookup, slot_value, value_in}
use Rattle.loc_leaf.specs.Cut.{matches, cuts, cut_for}
use Rattle.loc_calls.specs.Areas.{Three, each, Areas, sizes, count}
use Rattle.loc_calls.specs.Table.{value_of, body_after, span_after, Call, opening, append, truncate, read, zipped, entries, uneven, spanless, breaks, entry_refusal, entries_refusal, start_refusal, end_past, batch_refusal, table}
use Rattle.loc_calls.specs.Stores.{step, run, differing, truncate_places, next_row, holds_next, cut_rule, ruled_count, ruled, open_places, ragged, open_refusal, stores, any_stores, settled, checkpoint, gather, row_of, checkpoint_of, staged, new_end, new_ends, append_places}
use Rattle.loc_calls.specs.Reading.{sum_after, all_after, first_after, lookup_at, has, value_at, strides_after, spans_after, checkpoint_at, window_end, looked_at, within, row_missing, any_missing, words, words_for, answered, found, body_read, span_read, end_read}
use Rattle.loc_calls.specs.Audit.{body_end_after, span_end_after, checkpoint_sound, row_fits, row_wanted, row_sound, rows_sound, sound}
use Rattle.loc_calls.specs.Calls.{unless_refused, too_small, whole_refusal, unread, is_opening, refusal, places, place_count, value, lent, buffer, areas_after, call, create_places, create, audit}
use Rattle.loc_calls.specs.SpanAt.{Crossing, holds, refused_by, crossing, span_among, span_at}
use Rattle.loc_calls.specs.Parts.{some_below, those_below, reaches, needed, strange, comes_before, misplaced, first_fault, pairs_refusal, parts_table, written, parts_refusal, parts}
use Rattle.loc_calls.specs.Withheld.{on_edge, limited, rows_before, cut_at, withheld_limit, withheld}
use Rattle.loc_calls.specs.Compare.{Rec, list_order, record_at, records_after, records_in, compare_refusal, compare}

-- ---- areas

-- an area whose stored length is n, with these bytes from 16 on
abbrev area : ℕ → Bytes → Bytes
area n bs = replicate 8 9 ++ (bytes 8 n ++ bs)

abbrev three : Bytes → Bytes → Bytes → Areas
three s r c = record { slots = s; rows = r; checkpoints = c }

-- all that an append of two records needs, nothing published
abbrev empty : Areas
empty = three (area 16 (replicate 4 7)) (area 16 (replicate 16 7)) (area 16 [])

-- what it leaves
abbrev slots2 : Bytes
slots2 = 5 ∷ 3 ∷ 0 ∷ 1 ∷ []

abbrev row2 : Bytes
row2 = 2 ∷ 0 ∷ 0 ∷ 0 ∷ 0 ∷ 0 ∷ 0 ∷ 0 ∷ 0 ∷ 1 ∷ 0 ∷ 0 ∷ 1 ∷ 0 ∷ 0 ∷ 0 ∷ []

abbrev full : Areas
full = three (area 20 slots2) (area 32 row2) (area 16 [])

-- the same without its row
abbrev rowless : Areas
rowless = three (area 20 slots2) (area 16 []) (area 16 [])

-- ---- calls

abbrev batch : List ℕ → List ℕ → List ℕ → List ℕ → Call
batch s l p c = append (record { starts = s; lens = l; span_starts = p; span_counts = c })

-- document 01's listing: body lengths 40 and 2,048 with 3 and 1 spans
abbrev two : Call
two = batch (16 ∷ 56 ∷ []) (40 ∷ 2048 ∷ []) (16 ∷ 40 ∷ []) (3 ∷ 1 ∷ [])

abbrev number_of : Kind → Call → Areas → ℕ
number_of k c a = (call k (place_count c) c a).answer.number

abbrev after : Kind → ℕ → Call → Areas → Areas
after k s c a = (call k s c a).areas

-- the same of a call that is not refused, its refusal not computed: that of an append adds up a window
abbrev stored : Kind → ℕ → Call → Areas → Areas
stored k s c a = run s (places k c a) a

abbrev lengths : Areas → Three ℕ
lengths a = each counted a

-- the row (n, 300, 5)
abbrev row300 : ℕ → Bytes
row300 n = n ∷ 0 ∷ 0 ∷ 0 ∷ 0 ∷ 0 ∷ 0 ∷ 0 ∷ 44 ∷ 1 ∷ 0 ∷ 0 ∷ 5 ∷ 0 ∷ 0 ∷ 0 ∷ []

-- one record and the row (1, 300, 5) behind the published rows
abbrev behind : ℕ → ℕ → Areas
behind x y = three (area 18 (x ∷ y ∷ [])) (area 16 (row300 1)) (area 16 [])

-- one record of slot (x, y) with a published row of these values
abbrev with_row : Kind → ℕ → ℕ → ℕ → ℕ → Areas
with_row k x y s c = three (area 18 (x ∷ y ∷ [])) (area (16 + row_width k) (row k 1 (record { strides = s; spans = c }))) (area 16 [])

abbrev audit_of : Kind → ℕ → ℕ → ℕ → ℕ → Answer
audit_of k x y s c = (audit k (with_row k x y s c)).answer

-- a published row 7 above the count, and behind it the row of record 1
abbrev surplus : ℕ → Areas
surplus n = three (area 18 (0 ∷ 5 ∷ [])) (area n (row300 7 ++ row300 1)) (area 16 [])

-- 1,023 records of length 40 with 5 spans, and the next, which has a row and a checkpoint
abbrev edge : Areas
edge = three (area 2062 (replicate 2046 5 ++ (7 ∷ 7 ∷ []))) (area 16 (replicate 16 7)) (area 16 (replicate 16 7))

abbrev last : Call
last = batch ((16 + 1023 * 40) ∷ []) (2048 ∷ []) ((16 + 1023 * 40) ∷ []) (5 ∷ [])

-- more than a window: 1,026 records of length 40 with 5 spans, and checkpoint 1 after 1,024
abbrev wide : Areas
wide = three (area 2068 (replicate 2052 5)) (area 16 []) (area 32 (bytes 8 (16 + 1024 * 40) ++ bytes 8 (16 + 8 * (1024 * 5))))

-- 1,025 records, the last with 2 spans, whose spans start at the checkpoint's 2^64 − 9
abbrev high : Areas
high = three (area 2066 (replicate 2048 5 ++ (2 ∷ 2 ∷ []))) (area 16 []) (area 32 (bytes 8 (16 + 1024 * 40) ++ bytes 8 (2 ^ 64 - 9)))

abbrev located : ℕ → ℕ → ℕ → Crossing
located id i m = record { number = 0; «record» = id; index = i; remainder = m }

-- 1,025 records of length 40 with 5 spans; checkpoint 1 says where the last one starts
abbrev beyond : ℕ → ℕ → Areas
beyond body span = three (area 2066 (replicate 2050 5)) (area 16 []) (area 32 (bytes 8 body ++ bytes 8 span))

-- a record of a stride with one span
abbrev starts_at : ℕ → ℕ → Call
starts_at body span = batch (body ∷ []) (8 ∷ []) (span ∷ []) (1 ∷ [])

-- nine records, of which 5 is made of 1 and 2, 7 of 3 and 5, 8 of 5 and 7, 9 of 4
abbrev nine : Areas
nine = three (area 34 (replicate 18 1)) (area 16 []) (area 16 [])

abbrev composites : List ℕ
composites = 5 ∷ 5 ∷ 7 ∷ 7 ∷ 8 ∷ 8 ∷ 9 ∷ []

abbrev components : List ℕ
components = 1 ∷ 2 ∷ 3 ∷ 5 ∷ 5 ∷ 7 ∷ 4 ∷ []

-- five records, the second and the fourth with a row, as both kinds have them
abbrev paired5 : Bytes
paired5 = row Paired 2 (record { strides = 256; spans = 1 }) ++ row Paired 4 (record { strides = 256; spans = 1 })

abbrev five : Kind → Areas
five Paired = three (area 26 (1 ∷ 1 ∷ 0 ∷ 1 ∷ 1 ∷ 1 ∷ 0 ∷ 1 ∷ 1 ∷ 1 ∷ [])) (area 48 paired5) (area 16 [])
five Single = three (area 26 (1 ∷ 0 ∷ 0 ∷ 0 ∷ 1 ∷ 0 ∷ 0 ∷ 0 ∷ 1 ∷ 0 ∷ [])) (area 40 (row Single 2 (record { strides = 65536; spans = 0 }) ++ row Single 4 (record { strides = 65536; spans = 0 }))) (area 16 [])

-- the same paired ones with a slot at record 4 that needs no row
abbrev unneeded : Areas
unneeded = three (area 26 (1 ∷ 1 ∷ 0 ∷ 1 ∷ 1 ∷ 1 ∷ 1 ∷ 1 ∷ 1 ∷ 1 ∷ [])) (area 48 paired5) (area 16 [])

-- what the call gives at each of these lengths
abbrev limits : Kind → Areas → List ℕ → List ℕ
limits k a ds = map (λ (d : ℕ). withheld_limit k d a) ds

-- a record of this length and span count
abbrev rec : ℕ → ℕ → Rec
rec len spans = record { len = len; spans = spans }

-- records of these slots without rows
abbrev inlined : Bytes → Areas
inlined bs = three (area (16 + length bs) bs) (area 16 []) (area 16 [])

-- ---- every number that opening, append, truncation and reading give: 1 to 17 and 22 to 24

abbrev numbers : List ℕ
numbers =
    number_of Paired opening (three (replicate 15 0) (area 16 []) (area 16 []))
    ∷ number_of Paired opening (three (area 17 (0 ∷ 0 ∷ [])) (area 16 []) (area 16 []))
    ∷ number_of Single opening (three (area 16 []) (area 16 []) (area 20 (replicate 8 1)))
    ∷ number_of Single opening (three (area 16 []) (area 17 (replicate 12 1)) (area 16 []))
    ∷ number_of Paired opening (three (area 16 []) (area 32 (replicate 16 0)) (area 16 []))
    ∷ number_of Paired (truncate 0) (behind 0 5)
    ∷ number_of Paired (batch (16 ∷ []) [] [] []) empty
    ∷ number_of Paired (batch (16 ∷ []) (12 ∷ []) (16 ∷ []) (0 ∷ [])) empty
    ∷ number_of Paired (batch (16 ∷ []) (12 ∷ []) (16 ∷ []) (1 ∷ [])) empty
    ∷ number_of Single (batch (16 ∷ []) ((2 ^ 64 - 8) ∷ []) [] []) empty
    ∷ number_of Single (batch (16 ∷ 32 ∷ []) (8 ∷ 8 ∷ []) [] []) empty
    ∷ number_of Paired (batch (16 ∷ 24 ∷ []) (8 ∷ 8 ∷ []) (16 ∷ 16 ∷ []) (1 ∷ 0 ∷ [])) empty
    ∷ number_of Paired (batch (16 ∷ 24 ∷ 32 ∷ []) (8 ∷ 8 ∷ 8 ∷ []) (16 ∷ 24 ∷ 32 ∷ []) (1 ∷ 1 ∷ 1 ∷ [])) empty
    ∷ number_of Paired (truncate 3) full
    ∷ number_of Paired (read (replicate 1025 1) []) full
    ∷ number_of Paired (read (0 ∷ []) (9 ∷ [])) full
    ∷ number_of Paired (read (2 ∷ []) (replicate 6 9)) rowless
    ∷ number_of Paired (batch (16 ∷ []) (0 ∷ []) (16 ∷ []) (1 ∷ [])) empty
    ∷ number_of Single (starts_at 24 16) empty
    ∷ number_of Paired (starts_at 16 24) empty
    ∷ []

-- ---- the numbers of parts in their order: each comes before those after it, wherever their pairs stand

abbrev parts_numbers : List ℕ
parts_numbers =
    (parts (1 ∷ []) [] 0 [] (three (replicate 15 0) (area 16 []) (area 16 []))).answer.number
    ∷ (parts (1 ∷ []) [] 0 [] (behind 0 5)).answer.number
    ∷ (parts (replicate 1025 0) [] 0 [] nine).answer.number
    ∷ (parts (replicate 1025 0) (replicate 1025 0) 0 [] nine).answer.number
    ∷ (parts (2 ∷ []) (2 ∷ []) 10 [] nine).answer.number
    ∷ (parts (3 ∷ 2 ∷ []) (3 ∷ 0 ∷ []) 8 [] nine).answer.number
    ∷ (parts (8 ∷ 4 ∷ 3 ∷ []) (7 ∷ 2 ∷ 3 ∷ []) 8 [] nine).answer.number
    ∷ (parts (8 ∷ 8 ∷ []) (3 ∷ 2 ∷ []) 8 [] nine).answer.number
    ∷ (parts (8 ∷ 8 ∷ []) (2 ∷ 2 ∷ []) 8 [] nine).answer.number
    ∷ (parts composites components 8 (replicate 4 6) nine).answer.number
    ∷ []

-- ---- the numbers of compare: all of the first index before any of the second, also where record 1 decides

abbrev tiny : Areas
tiny = three (replicate 15 0) (area 16 []) (area 16 [])

abbrev compare_numbers : List ℕ
compare_numbers =
    (compare tiny rowless).number
    ∷ (compare (behind 0 5) tiny).number
    ∷ (compare rowless tiny).number
    ∷ (compare rowless (behind 0 5)).number
    ∷ (compare full tiny).number
    ∷ (compare full (behind 0 5)).number
    ∷ (compare (inlined (6 ∷ 3 ∷ [])) rowless).number
    ∷ []

-- ---- where the list ends, after the numbers before and before the records: 13 where a batch carries on, as there is no room for it

abbrev starts : List ℕ
starts =
    number_of Paired (batch (16 ∷ []) [] [] []) rowless
    ∷ number_of Paired (batch [] [] [] []) rowless
    ∷ number_of Paired (starts_at 2104 48) rowless
    ∷ number_of Paired (batch (2105 ∷ []) (0 ∷ []) (49 ∷ []) (0 ∷ [])) full
    ∷ number_of Paired (batch (2104 ∷ []) (0 ∷ []) (49 ∷ []) (0 ∷ [])) full
    ∷ number_of Paired (starts_at 2104 48) full
    ∷ number_of Single (starts_at 16 24) (three (area 16 []) (area 16 []) (area 16 []))
    ∷ []

-- from the checkpoint before the last window on, saturated
abbrev starts_beyond : List ℕ
starts_beyond =
    number_of Paired (starts_at 117 139) (beyond 77 99)
    ∷ number_of Paired (starts_at (2 ^ 64 - 1) (2 ^ 64 - 1)) (beyond (2 ^ 64 - 8) (2 ^ 64 - 1))
    ∷ []

-- ---- the order in a record: each has faults that later tests would find, and an empty body follows

abbrev broken : ℕ → ℕ → Call
broken len spans = batch (16 ∷ 0 ∷ []) (len ∷ 0 ∷ []) (16 ∷ 0 ∷ []) (spans ∷ 1 ∷ [])

abbrev in_order : List ℕ
in_order =
    number_of Paired (broken 0 0) empty
    ∷ number_of Paired (broken 0 1) empty
    ∷ number_of Paired (broken (2 ^ 35 + 4) 1) empty
    ∷ number_of Paired (broken (2 ^ 35) 1) empty
    ∷ number_of Paired (broken 8 1) empty
    ∷ number_of Paired (batch (16 ∷ 24 ∷ []) (8 ∷ 0 ∷ []) (16 ∷ 0 ∷ []) (1 ∷ 1 ∷ [])) empty
    ∷ []

-- ---- what is computed

pub record Computed : Type 0 where
  -- each number in turn, and in the order of a record
  refusals : numbers ≡ 1 ∷ 2 ∷ 3 ∷ 4 ∷ 5 ∷ 6 ∷ 7 ∷ 8 ∷ 9 ∷ 10 ∷ 11 ∷ 12 ∷ 13 ∷ 14 ∷ 15 ∷ 16 ∷ 17 ∷ 22 ∷ 23 ∷ 24 ∷ []
  ordered : in_order ≡ 8 ∷ 22 ∷ 9 ∷ 10 ∷ 11 ∷ 12 ∷ []
  -- a batch that carries on, or does not
  carried : starts ≡ 7 ∷ 0 ∷ 17 ∷ 23 ∷ 24 ∷ 13 ∷ 13 ∷ []
  carried_beyond : starts_beyond ≡ 13 ∷ 13 ∷ []
  -- an empty body, ragged ones shorter and longer than a stride, the longest, and one past it
  told_apart : map strides_refusal (0 ∷ 1 ∷ 7 ∷ 8 ∷ 12 ∷ (2 ^ 35 - 8) ∷ 2 ^ 35 ∷ []) ≡ 22 ∷ 9 ∷ 9 ∷ 0 ∷ 9 ∷ 0 ∷ 10 ∷ []
  -- create stores three lengths; a refusal leaves all as it was
  creates : create (three (replicate 16 3) (replicate 17 3) (replicate 18 3))
      ≡ record { answer = record { number = 0; value = 0 }; buffer = []; areas = three (replicate 8 3 ++ bytes 8 16) (replicate 8 3 ++ (bytes 8 16 ++ (3 ∷ []))) (replicate 8 3 ++ (bytes 8 16 ++ (3 ∷ 3 ∷ []))) }
  refuses : call Paired 4 (batch (16 ∷ []) (12 ∷ []) (16 ∷ []) (1 ∷ [])) empty ≡ record { answer = record { number = 9; value = 0 }; buffer = []; areas = empty }
  -- an append: bytes, then the lengths of slots and rows; no checkpoint
  append_0 : after Paired 0 two empty ≡ empty
  append_1 : after Paired 1 two empty ≡ three (area 16 slots2) (area 16 row2) (area 16 [])
  append_2 : after Paired 2 two empty ≡ three (area 20 slots2) (area 16 row2) (area 16 [])
  append_4 : call Paired 4 two empty ≡ record { answer = record { number = 0; value = 2 }; buffer = []; areas = full }
  -- the record 1,024 of an append gets its slot, its row, its checkpoint
  edge_2 : lengths (stored Paired 2 last edge) ≡ record { slots = 2064; rows = 16; checkpoints = 16 }
  edge_3 : lengths (stored Paired 3 last edge) ≡ record { slots = 2064; rows = 32; checkpoints = 16 }
  edge_4 : (stored Paired 4 last edge).checkpoints ≡ area 32 (bytes 8 (16 + 1023 * 40 + 2048) ++ bytes 8 (16 + 1024 * 40))
  -- a truncation drops the row before the slot
  truncate_1 : after Paired 1 (truncate 1) full ≡ full
  truncate_2 : after Paired 2 (truncate 1) full ≡ three (area 20 slots2) (area 16 row2) (area 16 [])
  truncate_3 : call Paired 3 (truncate 1) full ≡ record { answer = record { number = 0; value = 1 }; buffer = []; areas = three (area 18 slots2) (area 16 row2) (area 16 []) }
  -- an opening cuts at a row that matches, and at no other; a row above the count is dropped first
  cuts_it : call Paired 6 opening (behind 0 5) ≡ record { answer = record { number = 0; value = 0 }; buffer = []; areas = three (area 16 (0 ∷ 5 ∷ [])) (behind 0 5).rows (area 16 []) }
  keeps_it : call Paired 6 opening (behind 44 0) ≡ record { answer = record { number = 0; value = 1 }; buffer = []; areas = behind 44 0 }
  drops_it : call Paired 6 opening (surplus 32) ≡ record { answer = record { number = 0; value = 1 }; buffer = []; areas = surplus 16 }
  -- a lacking checkpoint keeps 1,023
  lacks_it : (call Paired 6 opening (three wide.slots wide.rows (area 16 []))).answer ≡ record { number = 0; value = 1023 }
  -- a stored 5 that counts as 16 stays
  stays : call Single 6 opening (three (area 5 []) (area 16 []) (area 16 [])) ≡ record { answer = record { number = 0; value = 0 }; buffer = []; areas = three (area 5 []) (area 16 []) (area 16 []) }
  -- a reading: a row, nothing for 0 and past the count, and words past the answers untouched
  reads : call Paired 0 (read (2 ∷ 0 ∷ 1 ∷ 3 ∷ []) (replicate 26 9)) full
      ≡ record { answer = record { number = 0; value = 2 }; buffer = 1 ∷ 56 ∷ 2048 ∷ 40 ∷ 8 ∷ 1 ∷ 0 ∷ 0 ∷ 0 ∷ 0 ∷ 0 ∷ 0 ∷ 1 ∷ 16 ∷ 40 ∷ 16 ∷ 24 ∷ 3 ∷ 0 ∷ 0 ∷ 0 ∷ 0 ∷ 0 ∷ 0 ∷ 9 ∷ 9 ∷ []; areas = full }
  -- both values of a mixed slot come from its row
  believes : (call Paired 0 (read (1 ∷ []) (replicate 6 9)) (with_row Paired 44 0 300 5)).buffer ≡ 1 ∷ 16 ∷ 2400 ∷ 16 ∷ 40 ∷ 5 ∷ []
  -- a paired reading does not look at slots after the last wanted number, a single one at the whole window
  looks_before : (call Paired 0 (read (1 ∷ []) (replicate 6 9)) rowless).answer ≡ record { number = 0; value = 1 }
  looks_around : (call Single 0 (read (1 ∷ []) (replicate 3 9)) (three (area 20 (5 ∷ 3 ∷ 0 ∷ 0 ∷ [])) (area 16 []) (area 16 []))).answer ≡ record { number = 17; value = 0 }
  -- over a window's edge, from the checkpoint on
  reads_on : (call Paired 0 (read (1026 ∷ 1025 ∷ []) (replicate 12 9)) wide).buffer ≡ 1 ∷ 41016 ∷ 40 ∷ 41016 ∷ 40 ∷ 5 ∷ 1 ∷ 40976 ∷ 40 ∷ 40976 ∷ 40 ∷ 5 ∷ []
  -- sound, and not: a row is lacking
  audits : (audit Paired full).answer ≡ answer 0 1
  audits_not : (audit Paired rowless).answer ≡ answer 0 0
  -- a row of an inline slot, be it of the slot's own values
  inline_row : audit_of Paired 40 1 300 1 ≡ answer 0 0
  inline_own : audit_of Paired 40 1 40 1 ≡ answer 0 0
  -- one zero byte: the other byte is the row's value, and the zero byte's value is 256 or more
  mixed_other : audit_of Paired 44 0 300 5 ≡ answer 0 0
  mixed_own : audit_of Paired 44 0 44 300 ≡ answer 0 1
  mixed_low : audit_of Paired 44 0 44 255 ≡ answer 0 0
  mixed_first : audit_of Paired 0 5 300 5 ≡ answer 0 1
  mixed_first_low : audit_of Paired 0 5 200 5 ≡ answer 0 0
  -- two zero bytes: both values are 256 or more
  zeros : audit_of Paired 0 0 0 0 ≡ answer 0 0
  zeros_one : audit_of Paired 0 0 256 255 ≡ answer 0 0
  zeros_both : audit_of Paired 0 0 256 256 ≡ answer 0 1
  -- the cut rule asks it of one of them
  zeros_cut : matches Paired (0 ∷ 0 ∷ []) (record { strides = 256; spans = 255 }) ≡ true
  -- single, on either side of 65,536; a slot with one zero byte needs no row
  single_low : audit_of Single 0 0 65535 0 ≡ answer 0 0
  single_own : audit_of Single 0 0 65536 0 ≡ answer 0 1
  single_inline : audit_of Single 0 1 65536 0 ≡ answer 0 0
  -- a row above the count cannot be published in a settled index
  above_count : (audit Paired (surplus 32)).answer ≡ answer 6 0
  -- an address: the first of all, the last of record 1, the first of record 2; 21 before and behind all ranges
  locates_first : span_at full 16 ≡ located 1 0 0
  locates_last : span_at full 39 ≡ located 1 2 7
  locates_next : span_at full 40 ≡ located 2 0 0
  locates_before : span_at full 15 ≡ refused_by 21
  locates_behind : span_at full 48 ≡ refused_by 21
  -- 17 for a row after the record that holds it, and before 21
  locates_lacking : span_at rowless 16 ≡ refused_by 17
  locates_neither : span_at rowless 48 ≡ refused_by 17
  -- in a second window, from the checkpoint on
  locates_over : holds (words_for Paired wide) 40985 1025 ≡ true
  locates_on : crossing (words_for Paired wide) 40985 1025 ≡ located 1025 1 1
  -- an end that is not saturated
  locates_high : holds (words_for Paired high) (2 ^ 64 - 1) 1025 ≡ true
  locates_plain : crossing (words_for Paired high) (2 ^ 64 - 1) 1025 ≡ located 1025 1 0
  -- through others, each one time; directly; nothing
  composes : parts composites components 8 (replicate 6 6) nine ≡ record { answer = answer 0 5; buffer = 1 ∷ 2 ∷ 3 ∷ 5 ∷ 7 ∷ 6 ∷ []; areas = nine }
  composes_directly : needed composites components 9 ≡ 4 ∷ []
  composes_nothing : needed composites components 4 ≡ []
  composes_in_order : parts_numbers ≡ 1 ∷ 6 ∷ 7 ∷ 15 ∷ 27 ∷ 27 ∷ 28 ∷ 29 ∷ 29 ∷ 16 ∷ []
  -- after a truncation the same lists are turned away
  composes_no_more : (parts composites components 8 (replicate 6 6) (call Paired 3 (truncate 8) nine).areas).answer ≡ answer 27 0
  -- below 16 and between edges nothing; at an edge the records before the row there; at the end and past it all
  limits_paired : limits Paired (five Paired) (0 ∷ 15 ∷ 16 ∷ 17 ∷ 24 ∷ 31 ∷ 32 ∷ 33 ∷ 47 ∷ 48 ∷ 49 ∷ (2 ^ 64 - 1) ∷ []) ≡ 0 ∷ 0 ∷ 1 ∷ 0 ∷ 0 ∷ 0 ∷ 3 ∷ 0 ∷ 0 ∷ 5 ∷ 5 ∷ 5 ∷ []
  limits_single : limits Single (five Single) (15 ∷ 16 ∷ 27 ∷ 28 ∷ 29 ∷ 32 ∷ 39 ∷ 40 ∷ 41 ∷ []) ≡ 0 ∷ 1 ∷ 0 ∷ 3 ∷ 0 ∷ 0 ∷ 0 ∷ 5 ∷ 5 ∷ []
  -- a row that does not match its slot cuts nothing
  limits_unneeded : limits Paired unneeded (16 ∷ 32 ∷ 40 ∷ 48 ∷ []) ≡ 1 ∷ 5 ∷ 0 ∷ 5 ∷ []
  limits_whole : withheld Paired 32 (five Paired) ≡ record { answer = answer 0 3; buffer = []; areas = five Paired }
  limits_not_small : (withheld Paired 32 (three (replicate 15 0) (area 16 []) (area 16 []))).answer ≡ answer 1 0
  limits_not_behind : (withheld Paired 32 (behind 0 5)).answer ≡ answer 6 0
  -- what is compared: lengths in bytes and span counts, from slot or row
  compares_these : records_in Paired full ≡ rec 40 3 ∷ rec 2048 1 ∷ []
  -- body length first, then span count; the first difference decides
  compares_length : list_order (rec 40 9 ∷ []) (rec 48 3 ∷ []) ≡ 0
  compares_spans : list_order (rec 40 3 ∷ rec 8 1 ∷ []) (rec 40 2 ∷ rec 16 1 ∷ []) ≡ 2
  compares_next : list_order (rec 40 3 ∷ rec 8 1 ∷ []) (rec 40 3 ∷ rec 8 2 ∷ []) ≡ 0
  -- the beginning of the other comes first; two empty lists are equal
  compares_prefix : list_order (rec 40 3 ∷ []) (rec 40 3 ∷ rec 8 1 ∷ []) ≡ 0
  compares_longer : list_order (rec 40 3 ∷ rec 8 1 ∷ []) (rec 40 3 ∷ []) ≡ 2
  compares_longer_first : list_order (rec 40 2 ∷ rec 8 1 ∷ []) (rec 40 3 ∷ []) ≡ 0
  compares_none : list_order [] [] ≡ 1
  -- the call: equal, a beginning, nothing; a row against a slot, and against another row
  compares_equal : compare full full ≡ answer 0 1
  compares_part : compare (inlined (5 ∷ 3 ∷ [])) full ≡ answer 0 0
  compares_more : compare full (inlined (5 ∷ 3 ∷ [])) ≡ answer 0 2
  compares_empty : compare empty empty ≡ answer 0 1
  compares_row : compare (with_row Paired 0 1 256 1) (inlined (255 ∷ 9 ∷ [])) ≡ answer 0 2
  compares_rows : compare (with_row Paired 44 0 44 256) (with_row Paired 44 0 44 257) ≡ answer 0 0
  -- other bytes with the same values
  compares_values : compare (with_row Paired 0 5 200 5) (inlined (200 ∷ 5 ∷ [])) ≡ answer 0 1
  compares_in_order : compare_numbers ≡ 1 ∷ 6 ∷ 17 ∷ 17 ∷ 1 ∷ 6 ∷ 17 ∷ []

pub computed : Computed
unfolding number bytes number_at store answer counted store_length store_past pieces fill published strides_refusal slot needs_row inline slot_at checkpoint_rule row row_number row_value row_list ascending last_number rows_up_to row_for has_row lookup slot_value matches cuts cut_for sizes count value_of body_after span_after zipped entries uneven spanless breaks entry_refusal entries_refusal start_refusal end_past batch_refusal table step run differing truncate_places next_row holds_next cut_rule ruled_count ruled open_places ragged open_refusal stores any_stores settled checkpoint gather row_of checkpoint_of staged new_end new_ends append_places sum_after all_after lookup_at has value_in value_at strides_after spans_after checkpoint_at window_end looked_at within row_missing any_missing words words_for answered found body_read span_read end_read body_end_after span_end_after checkpoint_sound row_fits row_wanted row_sound rows_sound sound unless_refused too_small unread is_opening refusal places value lent buffer areas_after call create_places create audit flatten first_after whole_refusal holds crossing span_among span_at some_below those_below reaches needed strange comes_before misplaced first_fault pairs_refusal parts_table written parts_refusal parts on_edge limited rows_before cut_at withheld_limit withheld list_order record_at records_after records_in compare_refusal compare
computed = record {
  refusals = refl;
  ordered = refl;
  carried = refl;
  carried_beyond = refl;
  told_apart = refl;
  creates = refl;
  refuses = refl;
  append_0 = refl;
  append_1 = refl;
  append_2 = refl;
  append_4 = refl;
  edge_2 = refl;
  edge_3 = refl;
  edge_4 = refl;
  truncate_1 = refl;
  truncate_2 = refl;
  truncate_3 = refl;
  cuts_it = refl;
  keeps_it = refl;
  drops_it = refl;
  lacks_it = refl;
  stays = refl;
  reads = refl;
  believes = refl;
  looks_before = refl;
  looks_around = refl;
  reads_on = refl;
  audits = refl;
  audits_not = refl;
  inline_row = refl;
  inline_own = refl;
  mixed_other = refl;
  mixed_own = refl;
  mixed_low = refl;
  mixed_first = refl;
  mixed_first_low = refl;
  zeros = refl;
  zeros_one = refl;
  zeros_both = refl;
  zeros_cut = refl;
  single_low = refl;
  single_own = refl;
  single_inline = refl;
  above_count = refl;
  locates_first = refl;
  locates_last = refl;
  locates_next = refl;
  locates_before = refl;
  locates_behind = refl;
  locates_lacking = refl;
  locates_neither = refl;
  locates_over = refl;
  locates_on = refl;
  locates_high = refl;
  locates_plain = refl;
  composes = refl;
  composes_directly = refl;
  composes_nothing = refl;
  composes_in_order = refl;
  composes_no_more = refl;
  limits_paired = refl;
  limits_single = refl;
  limits_unneeded = refl;
  limits_whole = refl;
  limits_not_small = refl;
  limits_not_behind = refl;
  compares_these = refl;
  compares_length = refl;
  compares_spans = refl;
  compares_next = refl;
  compares_prefix = refl;
  compares_longer = refl;
  compares_longer_first = refl;
  compares_none = refl;
  compares_equal = refl;
  compares_part = refl;
  compares_more = refl;
  compares_empty = refl;
  compares_row = refl;
  compares_rows = refl;
  compares_values = refl;
  compares_in_order = refl;
}
