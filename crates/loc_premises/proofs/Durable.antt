-- The durable records by the theorems, and the book's side computed: its list at the end, and its answer there.
-- One theorem is over histories with listings, one over those of both kinds.
use Prim.Native.Nat.{ℕ}
use mathlib.Core.Path.{◌≡◌, refl}
use mathlib.Core.Bool.{false}
use mathlib.Core.List.{[]}
use native.Mathlib.Omega.{arith}
use Rattle.loc_leaf.specs.declared.Kind.TheVariants.{Paired, Single}
use Rattle.loc_leaf.specs.Answers.{answer}
use Rattle.loc_calls.specs.Areas.{sizes}
use Rattle.loc_calls.specs.Withheld.{on_edge, limited}
use Rattle.loc_history.specs.Book.{book_withheld}
use Rattle.loc_history.specs.History.{book_at_end, is_tear, awaits, Lawful}
use Rattle.loc_history.specs.Durable.{WithheldOfHistories}
use Rattle.loc_history.proofs.Durable.{withheld_of_histories}
use Rattle.loc_round_trip.specs.Listings.{any_book_at_end, is_any_tear, any_awaits}
use Rattle.loc_round_trip.specs.Durable.{WithheldOfListings}
use Rattle.loc_round_trip.proofs.Durable.{withheld_of_listings}
use Rattle.loc_premises.specs.Replies.{small}
use Rattle.loc_premises.specs.Composed.{four_appended}
use Rattle.loc_premises.specs.Durable.{paired_at, PairedDurable, five_appended, single_at, SingleDurable}
use Rattle.loc_premises.proofs.Examples.{everything, computed}
use Rattle.loc_premises.proofs.Listed.{listings}
use Rattle.loc_premises.proofs.Composed.{four_lawful}

paired_book : (d : ℕ) → paired_at d ≡ answer 0 (book_withheld Paired d (any_book_at_end (sizes small) [] four_appended))
unfolding WithheldOfListings any_awaits is_any_tear is_tear
paired_book d = (withheld_of_listings small computed.sized four_appended four_lawful refl d).book

pub paired_durable : PairedDurable
unfolding PairedDurable everything listings any_book_at_end book_withheld on_edge limited
paired_durable = (paired_book 16, paired_book 32, paired_book 40, paired_book 48)

five_lawful : Lawful Single (sizes small) false [] five_appended
unfolding everything
five_lawful = (((λ p. p), (tt, λ _. omega arith)), (((λ p. p), (tt, λ _. omega arith)), tt))

single_book : (d : ℕ) → single_at d ≡ answer 0 (book_withheld Single d (book_at_end Single (sizes small) [] five_appended))
unfolding WithheldOfHistories awaits is_tear
single_book d = (withheld_of_histories Single small computed.sized five_appended five_lawful refl d).book

pub single_durable : SingleDurable
unfolding SingleDurable everything book_at_end book_withheld on_edge limited
single_durable = (single_book 15, single_book 16, single_book 28, single_book 32, single_book 40)
