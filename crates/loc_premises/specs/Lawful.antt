-- Lawful histories: of every kind of event, paired and single, with batches that do not carry on; with a forged row behind the rows; and over a window's edge.
-- Each with the replies that index and book give.
use Rattle.std.specs.Prelude.{List, [], ◌∷◌, replicate}
use Rattle.loc_leaf.specs.declared.Kind.TheVariants.{Paired}
use Rattle.loc_leaf.specs.Rows.{row}
use Rattle.loc_calls.specs.Table.{Batch, batch, opening, append, truncate, read}
use Rattle.loc_history.specs.Book.{Reply}
use Rattle.loc_history.specs.History.{Event, finished, torn, torn_bytes}
use Rattle.loc_premises.specs.Replies.{gives, refuses, reads, from}

-- ---- paired: every kind of event

abbrev pub batch1 : Batch
batch1 = batch (16 ∷ 56 ∷ []) (40 ∷ 2048 ∷ []) (16 ∷ 40 ∷ []) (3 ∷ 1 ∷ [])

abbrev pub batch2 : Batch
batch2 = batch (2104 ∷ 2112 ∷ []) (8 ∷ 4096 ∷ []) (48 ∷ 56 ∷ []) (1 ∷ 300 ∷ [])

abbrev pub batch3 : Batch
batch3 = batch (2112 ∷ 2120 ∷ []) (8 ∷ 4096 ∷ []) (56 ∷ 64 ∷ []) (1 ∷ 300 ∷ [])

-- in an empty index it does not start at 16; after batch1 its spans do not start at 48, and its body is empty
abbrev pub elsewhere : Batch
elsewhere = batch (24 ∷ []) (8 ∷ []) (24 ∷ []) (1 ∷ [])

abbrev pub spans_elsewhere : Batch
spans_elsewhere = batch (2104 ∷ []) (0 ∷ []) (56 ∷ []) (1 ∷ [])

-- batch3 carries on after batch2's first record, not after batch1
abbrev pub story : List Event
story =
    finished (append elsewhere)
    ∷ finished (append batch1)
    ∷ finished (read (2 ∷ 0 ∷ 1 ∷ 3 ∷ []) (replicate 26 9))
    ∷ finished (append spans_elsewhere)
    ∷ torn 3 (append batch3)
    ∷ finished opening
    ∷ torn 2 (append batch2)
    ∷ torn 4 opening
    ∷ finished opening
    ∷ finished (read (3 ∷ 4 ∷ []) (replicate 12 9))
    ∷ finished (truncate 4)
    ∷ torn_bytes batch3 (record { slots = 1 ∷ 2 ∷ 3 ∷ []; rows = replicate 99 1; checkpoints = 5 ∷ [] })
    ∷ torn 0 opening
    ∷ finished opening
    ∷ finished (append batch3)
    ∷ finished (truncate 1)
    ∷ torn 1 (truncate 0)
    ∷ finished opening
    ∷ []

abbrev pub story_replies : List Reply
story_replies =
    gives 23 0
    ∷ gives 0 2
    ∷ reads 2 (1 ∷ 56 ∷ 2048 ∷ 40 ∷ 8 ∷ 1 ∷ 0 ∷ 0 ∷ 0 ∷ 0 ∷ 0 ∷ 0 ∷ 1 ∷ 16 ∷ 40 ∷ 16 ∷ 24 ∷ 3 ∷ 0 ∷ 0 ∷ 0 ∷ 0 ∷ 0 ∷ 0 ∷ 9 ∷ 9 ∷ [])
    ∷ gives 24 0
    ∷ gives 0 2
    ∷ gives 0 3
    ∷ reads 1 (1 ∷ 2104 ∷ 8 ∷ 48 ∷ 8 ∷ 1 ∷ 0 ∷ 0 ∷ 0 ∷ 0 ∷ 0 ∷ 0 ∷ [])
    ∷ gives 14 0
    ∷ gives 0 3
    ∷ gives 0 5
    ∷ gives 0 1
    ∷ gives 0 1
    ∷ []

-- ---- single: every kind of event

abbrev pub single1 : Batch
single1 = batch (16 ∷ 24 ∷ 524312 ∷ []) (8 ∷ 524288 ∷ 2048 ∷ []) [] []

abbrev pub single2 : Batch
single2 = batch (526360 ∷ 526368 ∷ []) (8 ∷ 524288 ∷ []) [] []

abbrev pub single_story : List Event
single_story =
    finished (append (batch (24 ∷ []) (8 ∷ []) [] []))
    ∷ finished (append single1)
    ∷ finished (read (3 ∷ 2 ∷ []) (replicate 6 9))
    ∷ torn 2 (append single2)
    ∷ torn 4 opening
    ∷ finished opening
    ∷ finished (truncate 5)
    ∷ torn 2 (truncate 1)
    ∷ finished opening
    ∷ finished (read (1 ∷ 2 ∷ []) (replicate 5 9))
    ∷ torn_bytes (batch (24 ∷ []) (8 ∷ []) [] []) (record { slots = 1 ∷ 2 ∷ 3 ∷ []; rows = replicate 100 0; checkpoints = [] })
    ∷ torn 0 opening
    ∷ finished opening
    ∷ finished (append (batch (24 ∷ []) (12 ∷ []) [] []))
    ∷ finished (append (batch (24 ∷ []) (0 ∷ []) [] []))
    ∷ finished (truncate 0)
    ∷ []

abbrev pub single_replies : List Reply
single_replies =
    gives 23 0
    ∷ gives 0 3
    ∷ reads 2 (1 ∷ 524312 ∷ 2048 ∷ 1 ∷ 24 ∷ 524288 ∷ [])
    ∷ gives 0 4
    ∷ gives 14 0
    ∷ gives 0 1
    ∷ refuses 16 (replicate 5 9)
    ∷ gives 0 1
    ∷ gives 9 0
    ∷ gives 22 0
    ∷ gives 0 0
    ∷ []

-- ---- a forged row past the end of the rows: it says 300 strides of record 1, which has 5

abbrev pub forged_story : List Event
forged_story =
    finished (append (batch (16 ∷ []) (40 ∷ []) (16 ∷ []) (3 ∷ [])))
    ∷ torn_bytes (batch (56 ∷ []) (8 ∷ []) (40 ∷ []) (1 ∷ [])) (record { slots = []; rows = row Paired 1 (record { strides = 300; spans = 3 }); checkpoints = [] })
    ∷ finished opening
    ∷ finished (read (1 ∷ []) (replicate 6 9))
    ∷ []

abbrev pub forged_replies : List Reply
forged_replies = gives 0 1 ∷ gives 0 1 ∷ reads 1 (1 ∷ 16 ∷ 40 ∷ 16 ∷ 24 ∷ 3 ∷ []) ∷ []

-- ---- over a window's edge

abbrev pub long : Batch
long = batch (from 40 16 1026) (replicate 1026 40) (from 16 16 1026) (replicate 1026 2)

abbrev pub long_story : List Event
long_story =
    torn 3 (append long)
    ∷ finished opening
    ∷ finished (append long)
    ∷ finished (truncate 0)
    ∷ finished (append long)
    ∷ finished (read (1026 ∷ 3 ∷ []) (replicate 12 9))
    ∷ torn 1 (truncate 5)
    ∷ finished opening
    ∷ []

abbrev pub long_replies : List Reply
long_replies = gives 0 1023 ∷ gives 23 0 ∷ gives 0 0 ∷ gives 0 1026 ∷ reads 2 (1 ∷ 41016 ∷ 40 ∷ 16416 ∷ 16 ∷ 2 ∷ 1 ∷ 96 ∷ 40 ∷ 48 ∷ 16 ∷ 2 ∷ []) ∷ gives 0 1023 ∷ []
