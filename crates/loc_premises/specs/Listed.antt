-- A lawful history with listings: appended whole, refused, and torn between stores and inside them.
-- With the replies that index and book give.
use Rattle.std.specs.Prelude.{ℕ, ◌≡◌, List, [], ◌∷◌, ◌++◌, replicate}
use Rattle.loc_calls.specs.Areas.{sizes}
use Rattle.loc_calls.specs.Table.{opening, read}
use Rattle.loc_calls.specs.Calls.{create}
use Rattle.loc_history.specs.Book.{Reply}
use Rattle.loc_history.specs.History.{finished}
use Rattle.loc_listing.specs.Text.{line, names}
use Rattle.loc_round_trip.specs.Listings.{AnyEvent, event, listing, torn_listing, torn_listing_bytes, any_index_replies, any_book_replies}
use Rattle.loc_premises.specs.Replies.{gives, reads, small}

-- records 1 and 2; a record 3 that does not carry on; 3 and 4, of which the second has a row; another record 4; one with an empty body
abbrev pub first : List ℕ
first = names ++ (line (1 ∷ 16 ∷ 40 ∷ 16 ∷ 24 ∷ 3 ∷ []) ++ line (2 ∷ 56 ∷ 2048 ∷ 40 ∷ 8 ∷ 1 ∷ []))

abbrev pub elsewhere : List ℕ
elsewhere = names ++ line (3 ∷ 2112 ∷ 8 ∷ 48 ∷ 8 ∷ 1 ∷ [])

abbrev pub second : List ℕ
second = names ++ (line (3 ∷ 2104 ∷ 8 ∷ 48 ∷ 8 ∷ 1 ∷ []) ++ line (4 ∷ 2112 ∷ 4096 ∷ 56 ∷ 2400 ∷ 300 ∷ []))

abbrev pub third : List ℕ
third = names ++ line (4 ∷ 2112 ∷ 8 ∷ 56 ∷ 8 ∷ 1 ∷ [])

abbrev pub blank : List ℕ
blank = names ++ line (4 ∷ 2112 ∷ 0 ∷ 56 ∷ 8 ∷ 1 ∷ [])

abbrev pub listed_story : List AnyEvent
listed_story =
    listing first
    ∷ listing first
    ∷ listing elsewhere
    ∷ torn_listing 2 second
    ∷ event (finished opening)
    ∷ torn_listing_bytes third (record { slots = 1 ∷ 2 ∷ 3 ∷ []; rows = replicate 99 1; checkpoints = 5 ∷ [] })
    ∷ event (finished opening)
    ∷ listing blank
    ∷ listing third
    ∷ event (finished (read (4 ∷ []) (replicate 6 9)))
    ∷ []

-- the first comes again: 19. A gap before record 3: 23. Of the second's two records the tear keeps the one without a row. The empty body: 22
abbrev pub listed_replies : List Reply
listed_replies = gives 0 2 ∷ gives 19 0 ∷ gives 23 0 ∷ gives 0 3 ∷ gives 0 3 ∷ gives 22 0 ∷ gives 0 4 ∷ reads 1 (1 ∷ 2112 ∷ 8 ∷ 56 ∷ 8 ∷ 1 ∷ []) ∷ []

unfoldable pub Listed : Type 0
Listed = (any_index_replies (create small).areas listed_story ≡ listed_replies) × (any_book_replies (sizes small) [] listed_story ≡ listed_replies)
