-- parts on areas that hold the book's list answers by the length of that list.
-- 1 and 6 never come.
use Prim.Native.Nat.{ℕ}
use mathlib.Core.Path.{◌≡◌, refl}
use mathlib.Core.List.{List}
use Rattle.loc_leaf.specs.declared.Kind.TheVariants.{Paired}
use Rattle.loc_calls.specs.Areas.{Areas}
use Rattle.loc_calls.specs.Parts.{parts_refusal, parts}
use Rattle.loc_calls.proofs.Settled.{not_1_nor_6}
use Rattle.loc_history.specs.Book.{Rec, Reply, book_parts}
use Rattle.loc_history.proofs.Steady.{Steady, count_book}

pub composed_book : (a : Areas) (L : List Rec) → Steady Paired a L → (cs ps : List ℕ) (x : ℕ) (out : List ℕ)
    → ◌≡◌ {A = Reply} (record { answer = (parts cs ps x out a).answer; buffer = (parts cs ps x out a).buffer }) (book_parts L cs ps x out)
unfolding parts parts_refusal book_parts
composed_book a L t cs ps x out = rw (not_1_nor_6 Paired a t.E t.full, count_book Paired a L t) refl
