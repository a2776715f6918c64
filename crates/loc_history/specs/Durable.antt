-- How many records are durable (document 02, Item 10), over whole histories of both kinds: withheld_ovf_limit answers as the book does.
-- At any length the records that it counts use durable rows only; on a row's edge no more of them do.
use Rattle.std.specs.Prelude.{ℕ, ◌≡◌, false, List, []}
use Rattle.loc_leaf.specs.declared.Kind.{Kind}
use Rattle.loc_leaf.specs.Answers.{answer}
use Rattle.loc_calls.specs.Areas.{Areas, sizes}
use Rattle.loc_calls.specs.Calls.{create}
use Rattle.loc_calls.specs.Withheld.{withheld, Durable}
use Rattle.loc_history.specs.Book.{Rec, book_withheld}
use Rattle.loc_history.specs.History.{Event, index_at_end, book_at_end, awaits, Lawful, AllSized}

-- of areas that hold the list L: the call's answer at length d, and what it means
pub record Limit (k : Kind) (a : Areas) (L : List Rec) (d : ℕ) : Type 0 where
  pub book : (withheld k d a).answer ≡ answer 0 (book_withheld k d L)
  pub durable : Durable k d a (book_withheld k d L)

-- for every lawful history at whose end no opening is awaited
unfoldable pub WithheldOfHistories : Type 0
WithheldOfHistories =
    (k : Kind) (a : Areas) → AllSized a → (es : List Event) → Lawful k (sizes a) false [] es → awaits false es ≡ false
    → (d : ℕ) → Limit k (index_at_end k (create a).areas es) (book_at_end k (sizes a) [] es) d
