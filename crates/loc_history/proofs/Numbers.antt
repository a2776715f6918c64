-- Which numbers a lawful history can give: the book refuses by the table alone.
-- The index replies as the book does, so 1 to 6 and 17 never come.
use Prim.Native.Nat.{ℕ}
use mathlib.Core.Path.{sym, subst}
use mathlib.Core.Bool.{true≢false}
use mathlib.Core.List.{List, [], ◌∷◌}
use native.Mathlib.Omega.{arith}
use Rattle.loc_leaf.specs.declared.Kind.{Kind}
use Rattle.loc_calls.specs.Areas.{Three, sizes}
use Rattle.loc_calls.specs.Table.{Call}
use Rattle.loc_calls.proofs.Refused.{table_holds, number_is}
use Rattle.loc_history.specs.Book.{Rec, list_end, book_refusal, book_reply}
use Rattle.loc_history.specs.History.{Event, finished, torn, torn_bytes, book_after, book_gives, book_replies, Demand3, Possible, AllPossible, NeverCome}
use Rattle.loc_history.proofs.History.{demand3}

module _ (k : Kind) (size : Three ℕ) where
  reply_possible : (L : List Rec) (c : Call) → Possible (book_reply k size L c).answer.number
  unfolding book_reply book_refusal list_end Possible
  reply_possible L c =
      rw (number_is (book_refusal k size L c) _)
      (table_holds Possible (λ p q. omega arith, λ e. omega arith) (λ n g l. (λ p q. omega arith, λ e. omega arith)) (λ n g l. (λ p q. omega arith, λ e. omega arith)) (list_end L) (λ e. absurd (true≢false (sym e))) k _ _ size c)

  replies_possible : (es : List Event) (L : List Rec) → AllPossible (book_replies k size L es)
  unfolding book_replies book_gives AllPossible
  replies_possible [] L = tt
  replies_possible (finished c ∷ es) L = (reply_possible L c, replies_possible es (book_after k size L (finished c)))
  replies_possible (torn s c ∷ es) L = replies_possible es (book_after k size L (torn s c))
  replies_possible (torn_bytes b junk ∷ es) L = replies_possible es (book_after k size L (torn_bytes b junk))

pub never_come : NeverCome
unfolding NeverCome Demand3
never_come k a z es lawful = subst AllPossible (sym (demand3 k a z es lawful)) (replies_possible k (sizes a) es [])
