-- withheld_ovf_limit on areas that hold the book's list answers by the longest first part that its durable rows carry.
-- So it does at the end of every lawful history.
use Prim.Native.Nat.{ℕ, ◌-◌, ◌/◌}
use mathlib.Core.Path.{◌≡◌, refl, ap, ◌∙◌}
use mathlib.Core.List.{List, []}
use lib.ListN.{length, take, length-map}
use lib.Seq.{length-take-le}
use Rattle.loc_leaf.specs.declared.Kind.{Kind}
use Rattle.loc_leaf.specs.Area.{counted}
use Rattle.loc_leaf.specs.Kind.{row_width}
use Rattle.loc_calls.specs.Areas.{Three, Areas, sizes}
use Rattle.loc_calls.specs.Calls.{create}
use Rattle.loc_calls.specs.Withheld.{limited, withheld_limit, withheld}
use Rattle.loc_calls.proofs.Settled.{not_1_nor_6}
use Rattle.loc_calls.proofs.Durable.{limit_kept, durable_limit}
use Rattle.loc_history.specs.Book.{Rec, rec_of, checkpoint_count, book_ends, longest_part, book_withheld}
use Rattle.loc_history.specs.History.{index_at_end, book_at_end}
use Rattle.loc_history.specs.Durable.{Limit, WithheldOfHistories}
use Rattle.loc_history.proofs.BookLaws.{LongestPart, longest_part_lem}
use Rattle.loc_history.proofs.Steady.{Steady, same_length, checkpoints_held}
use Rattle.loc_history.proofs.History.{steady_stores, steady_at_end}

module _ (k : Kind) (a : Areas) (L : List Rec) (t : Steady k a L) (d : ℕ) where
  abbrev part : LongestPart k t.E ((d - 16) / row_width k) (length t.E / 1024)
  part = longest_part_lem k t.E ((d - 16) / row_width k) (length t.E / 1024) t.full.valid

  part_length : length (longest_part k (checkpoint_count L) ((d - 16) / row_width k) L) ≡ part.n
  part_length =
      ap (λ (c : ℕ). length (longest_part k c ((d - 16) / row_width k) L)) (checkpoints_held k a L t)
      ∙ ap (λ (l : List Rec). length (longest_part k (length t.E / 1024) ((d - 16) / row_width k) l)) t.is
      ∙ ap length part.is ∙ length-map (take part.n t.E) rec_of ∙ length-take-le part.n t.E part.kept.inside

  -- the same by the book's own ends and counts
  by_book : limited k d (counted a.rows) (length t.E) part.n ≡ limited k d (book_ends k L).rows (length L) (length (longest_part k (checkpoint_count L) ((d - 16) / row_width k) L))
  by_book = rw (part_length, same_length k a L t, ← ap (λ (e : Three ℕ). e.rows) (steady_stores k a L t).ends) refl

  limit_book : withheld_limit k d a ≡ book_withheld k d L
  unfolding book_withheld
  limit_book = limit_kept k a t.E t.full d part.n part.kept ∙ by_book

  pub limit : Limit k a L d
  limit = record {
    book = unfold withheld in rw (not_1_nor_6 k a t.E t.full, limit_book) refl;
    durable = rw limit_book at (durable_limit k a t.E t.full d);
  }

pub withheld_of_histories : WithheldOfHistories
unfolding WithheldOfHistories
withheld_of_histories k a z es lawful q = limit k (index_at_end k (create a).areas es) (book_at_end k (sizes a) [] es) (steady_at_end k a z es lawful q)
